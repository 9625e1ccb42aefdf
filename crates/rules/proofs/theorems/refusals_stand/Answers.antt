use Rattle.rules.proofs.theorems.refusals_stand.Goals as goal
use Rattle.rules.proofs.Passing.{refusing-sound}

pub returns : goal.returns
returns c = refusing-sound
