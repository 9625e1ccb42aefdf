use Rattle.std.proofs.Common.{◌≡◌, drop, take}
use Rattle.checker.specs.Items.{is_type, definition}
use Rattle.checker.proofs.items.definition.Given as goal

abbrev pub invariant-loop-k : goal.invariant-loop-k
invariant-loop-k l = let ss = take l.used l.tables.slots.now in
    definition l.text (is_type l.sort) l.wanted l.from (drop l.from ss) ≡ definition l.text (is_type l.sort) l.wanted l.k (drop l.k ss)
