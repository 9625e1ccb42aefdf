use Rattle.language.proofs.theorems.typing_stands.Goals as goal
use Rattle.language.proofs.Agrees.{type_of-agrees}

pub returns : goal.returns
returns c = type_of-agrees
