use Rattle.std.proofs.Common.{sym, ◌∙◌}
use Rattle.pantry.proofs.Rows.{unlawful-here, unlawful-next, unlawful-end}
use Rattle.pantry.proofs.loading.first_unlawful.Goals as goal

pub returns-then-not-is_lawful-clause-is : goal.returns-then-not-is_lawful-clause-is
returns-then-not-is_lawful-clause-is c =
    sym (c.loop-k.invariant ∙ unlawful-here _ _ c.loop-k-test.true (rw c.from.ensures at (sym c.if-not-is_lawful.ensures)))

pub loop-k-preserved : goal.loop-k-preserved
loop-k-preserved c = c.loop-k.invariant ∙ unlawful-next _ _ c.loop-k-test.true (rw c.from.ensures at (sym c.if-not-is_lawful.ensures))

pub returns : goal.returns
returns c = record { is = sym (c.loop-k.invariant ∙ unlawful-end _ _ c.loop-k-test.false); within = tt }
