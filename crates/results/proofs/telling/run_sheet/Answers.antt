use Rattle.std.proofs.Common.{◌≡◌, ◌≤◌, true, length, take, sym, ap, ◌∙◌, subst, arith}
use Rattle.language.specs.Pantry.{Stock, stock_of}
use Rattle.language.specs.Tree.{Plan}
use Rattle.checker.specs.Stocks.{stock_in}
use Rattle.checker.specs.Passes.{passes_with}
use Rattle.checker.proofs.Copies.{all-copied}
use Rattle.job.specs.Jobs.{moment_of}
use Rattle.results.specs.Panel.{answer_on}
use Rattle.results.proofs.Steps.{pass-plan, run-answer}
use Rattle.results.proofs.telling.run_sheet.Goals as goal

pub pass-pass-requires : goal.pass-pass-requires
pass-pass-requires g c =
    let p = g.P.Pantry.meaning c.args.pantry.now in
    let few : length p ≤ 64 = (g.P.Pantry.lawful c.args.pantry.now).few in
    let n = c.copy_entries-count.result in
    let all : length p ≤ n = omega (arith, few, c.copy_entries-count.ensures.count) in
    let stock : stock_in (take n c.copy_entries-count.new.table) ≡ stock_of p = all-copied p n _ all c.copy_entries-count.ensures.copied in
    subst (λ (s : Stock). passes_with s c.args.sheet.text.now c.args.types.now c.args.number ≡ true) (sym stock) c.requires

pub returns : goal.returns
returns g c =
    let p = g.P.Pantry.meaning c.args.pantry.now in
    let q = c.pass-pass.result in
    let e = c.pass-pass.ensures in
    let n = length c.args.store.cells.now in
    let m = length c.args.store.frames.now in
    c.finish.ensures
    ∙ run-answer c.open-job.result.pass q c.open-job.ensures.pass p c.args.store.allowance c.args.store.cells.now c.args.store.frames.now
    (moment_of c.open-job.result c.open-job.new.cells c.open-job.new.frames) (moment_of c.advance.new.self c.advance.new.cells c.advance.new.frames)
    c.open-job.ensures.is c.advance.ensures.is
    ∙ ap (λ (z : Plan). answer_on z p n m c.args.store.allowance) (pass-plan q _ _ _ e.text e.tree e.close)
