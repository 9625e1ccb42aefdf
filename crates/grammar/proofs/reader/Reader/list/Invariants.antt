use Rattle.std.proofs.Common.{◌-◌}
use Rattle.grammar.specs.Readers.{state_of}
use Rattle.grammar.proofs.Lists.{Going}
use Rattle.grammar.proofs.reader.Reader.list.Given as goal

abbrev pub invariant-loop-first : goal.invariant-loop-first
invariant-loop-first g l = Going g.L.Listed.sort l.initial.self l.self

abbrev pub decreases-loop-first : goal.decreases-loop-first
decreases-loop-first g l = (state_of l.initial.self).limit - l.self.used
