use Rattle.std.proofs.Common.{ap, ◌∙◌, w32, SFits, rules}
use lib.ListN.{get_elem?}
use Rattle.std.proofs.lemmas.Int.{to_z-of_z}
use Rattle.language.specs.Pantry.{stock_of}
use Rattle.job.specs.Maps.{decided, value_of}
use Rattle.job.proofs.Stocked.{asking-none, asking-some}
use Rattle.job.proofs.entries.asked.Goals as goal

pub returns-in_err-entry-in-Integer : goal.returns-in_err-entry-in-Integer
returns-in_err-entry-in-Integer g c text d w =
    let m = g.P.Pantry.meaning c.args.pantry.now in
    ap (decided text d) c.from_residual.ensures ∙
    asking-none m w d c.args.entry c.in-Integer.argument (value_of c.args.value) (ap value_of c.in-Integer.is)
    (c.in_err-entry-in-Integer.ensures ∙ ap (get_elem? (stock_of m)) c.from.ensures)

pub returns-in_ok-entry-in-Integer : goal.returns-in_ok-entry-in-Integer
returns-in_ok-entry-in-Integer g c text d w =
    let m = g.P.Pantry.meaning c.args.pantry.now in
    let f : SFits w32 c.in-Integer.argument = search rules in
    asking-some m w d c.args.entry c.in-Integer.argument _ (value_of c.args.value) _ _ (ap value_of c.in-Integer.is)
    (to_z-of_z w32 c.in-Integer.argument f) (c.in_ok-entry-in-Integer.ensures ∙ ap (get_elem? (stock_of m)) c.from.ensures)
