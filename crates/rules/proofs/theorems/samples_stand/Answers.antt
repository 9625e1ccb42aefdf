use Rattle.rules.proofs.theorems.samples_stand.Goals as goal
use Rattle.rules.proofs.Shown.{samples}

pub returns : goal.returns
returns c = samples
