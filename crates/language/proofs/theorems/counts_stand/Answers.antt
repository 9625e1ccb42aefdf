use Rattle.language.proofs.theorems.counts_stand.Goals as goal
use Rattle.language.proofs.Advances.{steps-counted}

pub returns : goal.returns
returns c = steps-counted
