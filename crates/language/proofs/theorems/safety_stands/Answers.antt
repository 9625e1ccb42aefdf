use Rattle.language.proofs.theorems.safety_stands.Goals as goal
use Rattle.language.proofs.Safe.{safety}

pub returns : goal.returns
returns c = safety
