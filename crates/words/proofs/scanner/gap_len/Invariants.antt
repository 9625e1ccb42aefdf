use Rattle.std.proofs.Common.{◌≡◌, ◌+◌, false, drop}
use Rattle.words.specs.Words.{gap}
use Rattle.words.proofs.scanner.gap_len.Given as goal

abbrev pub invariant-loop-n : goal.invariant-loop-n
invariant-loop-n l = l.n + gap l.comment (drop l.n l.rest) ≡ gap false l.rest
