use Rattle.grammar.proofs.Closing.{Going}
use Rattle.grammar.proofs.reader.Reader.whole_sheet.Given as goal

abbrev pub invariant-loop : goal.invariant-loop
invariant-loop l = Going l.initial.self l.self l.counter
