use Rattle.language.proofs.theorems.spent_stands.Goals as goal
use Rattle.language.proofs.Advances.{spent-stays}

pub returns : goal.returns
returns c = spent-stays
