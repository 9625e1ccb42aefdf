use Rattle.rules.proofs.theorems.passing_stands.Goals as goal
use Rattle.rules.proofs.Passing.{passing-exact}

pub returns : goal.returns
returns c = passing-exact
