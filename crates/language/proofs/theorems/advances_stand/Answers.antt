use Rattle.language.proofs.theorems.advances_stand.Goals as goal
use Rattle.language.proofs.Advances.{advances-add}

pub returns : goal.returns
returns c = advances-add
