use Rattle.grammar.proofs.theorems.one_reading_stands.Goals as goal
use Rattle.grammar.proofs.Refusals.{one-reading}

pub returns : goal.returns
returns c = one-reading
