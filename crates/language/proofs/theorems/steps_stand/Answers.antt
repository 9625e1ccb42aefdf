use Rattle.language.proofs.theorems.steps_stand.Goals as goal
use Rattle.language.proofs.Stepped.{step-agrees}

pub returns : goal.returns
returns c = step-agrees
