use Rattle.language.proofs.theorems.lawful_stands.Goals as goal
use Rattle.language.proofs.Advances.{lawful-suits}

pub returns : goal.returns
returns c = lawful-suits
