use Rattle.language.proofs.theorems.parts_stand.Goals as goal
use Rattle.language.proofs.Order.{all-parts-see}

pub returns : goal.returns
returns c = all-parts-see
