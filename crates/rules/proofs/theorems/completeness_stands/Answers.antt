use Rattle.rules.proofs.theorems.completeness_stands.Goals as goal
use Rattle.rules.proofs.Passing.{passing-complete}

pub returns : goal.returns
returns c = passing-complete
