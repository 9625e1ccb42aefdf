use Rattle.grammar.proofs.theorems.samples_stand.Goals as goal
use Rattle.grammar.proofs.Shown.{samples}

pub returns : goal.returns
returns c = samples
