use Rattle.grammar.proofs.theorems.nodes_stand.Goals as goal
use Rattle.grammar.proofs.Lays.{lays-nodes}

pub returns : goal.returns
returns c = lays-nodes
