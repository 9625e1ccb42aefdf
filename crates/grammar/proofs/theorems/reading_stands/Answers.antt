use Rattle.grammar.proofs.theorems.reading_stands.Goals as goal
use Rattle.grammar.proofs.Exactly.{exactly}

pub returns : goal.returns
returns c = exactly
