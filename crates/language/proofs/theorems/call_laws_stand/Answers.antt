use Rattle.language.proofs.theorems.call_laws_stand.Goals as goal
use Rattle.language.proofs.Advances.{calls-law}

pub returns : goal.returns
returns c = calls-law
