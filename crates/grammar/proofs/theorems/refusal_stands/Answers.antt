use Rattle.grammar.proofs.theorems.refusal_stands.Goals as goal
use Rattle.grammar.proofs.Refusals.{refuses-first}

pub returns : goal.returns
returns c = refuses-first
