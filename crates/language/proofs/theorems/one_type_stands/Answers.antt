use Rattle.language.proofs.theorems.one_type_stands.Goals as goal
use Rattle.language.proofs.Checks.{one_type}

pub returns : goal.returns
returns c = one_type
