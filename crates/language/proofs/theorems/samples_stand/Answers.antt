use Rattle.language.proofs.theorems.samples_stand.Goals as goal
use Rattle.language.proofs.Samples.{samples}

pub returns : goal.returns
returns c = samples
