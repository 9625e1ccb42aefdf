use Rattle.language.proofs.theorems.ended_stands.Goals as goal
use Rattle.language.proofs.Advances.{ended-stays}

pub returns : goal.returns
returns c = ended-stays
