use Rattle.language.proofs.theorems.division_stands.Goals as goal
use Rattle.language.proofs.Quotients.{division-law}

pub returns : goal.returns
returns c = division-law
