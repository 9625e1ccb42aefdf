use Rattle.language.proofs.theorems.calls_stand.Goals as goal
use Rattle.language.proofs.Safe.{call-safety}

pub returns : goal.returns
returns c = call-safety
