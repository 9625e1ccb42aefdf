use Rattle.grammar.proofs.theorems.ends_stand.Goals as goal
use Rattle.grammar.proofs.Ends.{ends_last}

pub returns : goal.returns
returns c = ends_last
