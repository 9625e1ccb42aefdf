use Rattle.grammar.proofs.theorems.tree_stands.Goals as goal
use Rattle.grammar.proofs.Spelling.{tree-stands}

pub returns : goal.returns
returns c = tree-stands
