use Rattle.language.proofs.theorems.passing_stands.Goals as goal
use Rattle.language.proofs.Checks.{passes-computed}

pub returns : goal.returns
returns c = passes-computed
