use Rattle.pantry.proofs.Energy.{gives-energy}
use Rattle.pantry.proofs.factors.factor_pantry.Goals as goal

pub returns : goal.returns
returns c = gives-energy
