use Rattle.std.proofs.Common.{◌≡◌, drop}
use Rattle.typing.specs.Tables.{state_of, Kept}
use Rattle.checker.specs.Items.{all_items}
use Rattle.checker.proofs.items.all_items.Given as goal

abbrev pub invariant-loop-node : goal.invariant-loop-node
invariant-loop-node g l = Kept l.initial.tables l.tables × (all_items (g.W.Way.act l.way l.initial.tables.given) l.nodes l.initial.found (state_of l.initial.tables) ≡ all_items (g.W.Way.act l.way l.initial.tables.given) (drop l.node-index l.nodes) l.found (state_of l.tables))
