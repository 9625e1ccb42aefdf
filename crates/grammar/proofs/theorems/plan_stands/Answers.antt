use Rattle.grammar.proofs.Plans.{plan-stands}
use Rattle.grammar.proofs.theorems.plan_stands.Goals as goal

pub returns : goal.returns
returns c = plan-stands
