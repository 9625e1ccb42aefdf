use Rattle.language.proofs.theorems.whole_stands.Goals as goal
use Rattle.language.proofs.Safe.{whole-safety}

pub returns : goal.returns
returns c = whole-safety
