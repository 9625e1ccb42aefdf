use Rattle.std.proofs.Common.{ℕ, ◌≤◌, List, length, sym, ap, ◌∙◌, arith}
use Rattle.pantry.specs.File.{records_of}
use Rattle.pantry.specs.Items.{item_pantry}
use Rattle.checker.specs.Passes.{sheet_in}
use Rattle.grammar.specs.Plan.{plan_of}
use Rattle.language.specs.Job.{Answer}
use Rattle.typing.specs.Told.{type_told}
use Rattle.line.specs.Answers.{outcome_of}
use Rattle.line.specs.Lines.{line_of}
use Rattle.results.specs.Panel.{counted, ran_line, lent}
use Rattle.results.proofs.Steps.{refused-told, on-file, sheet-line, refused-line, passed-line}
use Rattle.results.proofs.telling.run_text.Goals as goal

pub returns-in_err-number : goal.returns-in_err-number
returns-in_err-number c buffer =
    let p = item_pantry (records_of c.item_pantry-pantry.result.file.now) in
    let s = c.sheet-sheet.result in
    let e = c.sheet-sheet.ensures in
    let t = c.args.tables in
    let u = c.args.store in
    let h : counted (length t.tree.now) ≤ 65535 = omega arith in
    refused-told _ _ c.from_residual-in_err-number.ensures.1
    ∙ sym (refused-line s.text.now _ _ _ _ _ p (plan_of s.text.now s.tree.now s.close) (length u.cells.now) (length u.frames.now) u.allowance _ _
    c.in_err-number.ensures.answered)
    ∙ sheet-line p c.args.text.now (length t.types.now) (length t.slots.now) (length u.cells.now) (length u.frames.now) u.allowance t.tree.now
    c.read.new.tree _ c.in_ok-close.close s.text.now s.tree.now s.close h c.in_ok-close.ensures.reads c.in_ok-close.ensures.promises e.text e.tree e.close
    ∙ on-file c.args.file.now c.item_pantry-pantry.result.file.now c.args.text.now (lent t u buffer) c.item_pantry-pantry.ensures.over c.in_ok-load.ensures.is

pub returns : goal.returns
returns c buffer =
    let p = item_pantry (records_of c.item_pantry-pantry.result.file.now) in
    let s = c.sheet-sheet.result in
    let e = c.sheet-sheet.ensures in
    let t = c.args.tables in
    let u = c.args.store in
    let n = length u.cells.now in
    let m = length u.frames.now in
    let k = c.in_ok-number.number in
    let types = c.check.new.types in
    let plan = plan_of s.text.now s.tree.now s.close in
    let h : counted (length t.tree.now) ≤ 65535 = omega arith in
    ap (λ (z : Answer). line_of p (type_told c.args.text.now types k) (outcome_of z)) c.run_sheet-answer.ensures
    ∙ ap (λ (x : List ℕ). ran_line p plan n m u.allowance (type_told x types k)) (sym e.text)
    ∙ sym (passed-line s.text.now _ _ _ types c.check.new.slots p plan n m u.allowance (sheet_in s.text.now) (counted (length t.types.now))
    (counted (length t.slots.now)) k (type_told s.text.now types k) c.in_ok-number.ensures.answered c.in_ok-number.ensures.judged.0)
    ∙ sheet-line p c.args.text.now (length t.types.now) (length t.slots.now) n m u.allowance t.tree.now
    c.read.new.tree _ c.in_ok-close.close s.text.now s.tree.now s.close h c.in_ok-close.ensures.reads c.in_ok-close.ensures.promises e.text e.tree e.close
    ∙ on-file c.args.file.now c.item_pantry-pantry.result.file.now c.args.text.now (lent t u buffer) c.item_pantry-pantry.ensures.over c.in_ok-load.ensures.is
