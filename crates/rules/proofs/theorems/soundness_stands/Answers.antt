use Rattle.rules.proofs.theorems.soundness_stands.Goals as goal
use Rattle.rules.proofs.Passing.{passing-sound}

pub returns : goal.returns
returns c = passing-sound
