use Rattle.grammar.proofs.theorems.spelling_stands.Goals as goal
use Rattle.grammar.proofs.Spelling.{reads-spelled}

pub returns : goal.returns
returns c = reads-spelled
