use Rattle.std.proofs.Common.{◌≡◌, ◌+◌, drop}
use Rattle.words.specs.Words.{name_run}
use Rattle.words.proofs.scanner.name_len.Given as goal

abbrev pub invariant-loop-n : goal.invariant-loop-n
invariant-loop-n l = l.n + name_run (drop l.n l.rest) ≡ name_run l.rest
