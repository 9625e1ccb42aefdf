use Rattle.language.proofs.theorems.check_stands.Goals as goal
use Rattle.language.proofs.Checks.{check-agrees}

pub returns : goal.returns
returns c = check-agrees
