use Rattle.std.proofs.Common.{sym, ap, ◌∙◌}
use mathlib.Core.Option.{some}
use Rattle.language.specs.Rules.{numbered}
use Rattle.language.specs.Step.{from_entry}
use Rattle.pantry.specs.Meaning.{kind_of}
use Rattle.job.specs.Maps.{decided}
use Rattle.job.proofs.Stocked.{no-entry, named_here, named-on, converted}
use Rattle.job.proofs.entries.from_entry.Goals as goal

pub returns-in_err-entry : goal.returns-in_err-entry
returns-in_err-entry g c text d =
    let m = g.P.Pantry.meaning c.args.pantry.now in
    ap (decided text d) c.from_residual.ensures ∙
    ap from_entry (sym (c.loop-i.invariant ∙ no-entry m c.args.name.now c.loop-i.i c.in_err-entry.ensures))

pub returns-then-same_name : goal.returns-then-same_name
returns-then-same_name g c text d =
    let m = g.P.Pantry.meaning c.args.pantry.now in
    let k = kind_of c.in_ok-entry.entry.kind in
    let n = converted c.try_from.result _ c.loop-i.i c.in_ok-ok.field-0 c.try_from.ensures c.in_ok-ok.ensures.value in
    ap some (c.taken.ensures text d) ∙
    (ap (λ i. from_entry (some (numbered i k))) n ∙
    ap from_entry (sym (c.loop-i.invariant ∙ named_here m c.args.name.now c.loop-i.i _ _ c.in_ok-entry.ensures
    (sym c.if-same_name.ensures))))

pub loop-i-preserved : goal.loop-i-preserved
loop-i-preserved g c =
    let m = g.P.Pantry.meaning c.args.pantry.now in
    c.loop-i.invariant ∙ named-on m c.args.name.now c.loop-i.i _ _ c.in_ok-entry.ensures (sym c.if-same_name.ensures)
