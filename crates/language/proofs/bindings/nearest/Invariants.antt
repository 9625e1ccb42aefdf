use Rattle.std.proofs.Common.{◌≡◌, ◌-◌}
use Rattle.language.proofs.Searches.{answer}
use Rattle.language.specs.declared.bindings.TheConstants.{LINKS}
use Rattle.language.proofs.bindings.nearest.Given as goal

abbrev pub invariant-loop : goal.invariant-loop
invariant-loop g l = answer g.T.Holds.held l.text l.table LINKS l.start l.name ≡
    answer g.T.Holds.held l.text l.table (LINKS - l.counter) l.link l.name
