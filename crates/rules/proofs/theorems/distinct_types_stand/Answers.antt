use Rattle.rules.proofs.theorems.distinct_types_stand.Goals as goal
use Rattle.rules.proofs.Once.{distinct-types}

pub returns : goal.returns
returns c = distinct-types
