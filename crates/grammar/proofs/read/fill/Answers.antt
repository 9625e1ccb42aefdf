use Rattle.std.proofs.Common.{refl, subst, rules}
use Rattle.std.proofs.lemmas.Result.{err_from_is_err_and}
use Rattle.grammar.specs.Reading.{reading}
use Rattle.grammar.specs.Laying.{sheet_m}
use Rattle.grammar.specs.Readers.{Gave}
use Rattle.grammar.specs.Read.{limit_of, Filled}
use Rattle.grammar.proofs.Answered.{too_long, sheet-filled}
use Rattle.grammar.proofs.read.fill.Goals as goal

pub returns-in_err-measured : goal.returns-in_err-measured
returns-in_err-measured c =
    let r = err_from_is_err_and c.from_residual.result c.from_residual.ensures.1 in
    rw (r.1, r.2) (too_long (limit_of c.args.tree.now) c.args.text.now c.in_err-measured.field-0.0 c.args.tree.now
    c.args.tree.now c.in_err-measured.ensures refl)

pub returns : goal.returns
returns c =
    let text = c.args.text.now in
    let ns = c.args.tree.now in
    let r = c.whole_sheet.result in
    let t = c.whole_sheet.new.self in
    let d = c.whole_sheet.ensures in
    let g = subst (λ x. Gave (sheet_m 32 (record { text = x; limit = limit_of ns; at = c.over.result.at; used = 0; table = ns })) r t)
    c.over.ensures.text d.gives in
    let k = subst (λ p. Gave (sheet_m 32 (record { text = text; limit = limit_of ns; at = p; used = 0; table = ns })) r t)
    c.over.ensures.at g in
    let h : Filled (reading (limit_of ns) text) r ns t.tree.now = sheet-filled text (limit_of ns) ns r t
    c.in_ok-measured.ensures k d.kept.behind in
    search rules
