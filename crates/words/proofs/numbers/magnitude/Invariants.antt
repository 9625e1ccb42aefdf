use Rattle.std.proofs.Common.{◌≡◌, ◌+◌, ◌-◌, ◌*◌, ◌≤◌, drop, fold}
use Rattle.words.specs.Words.{value, largest}
use Rattle.words.proofs.numbers.magnitude.Given as goal

abbrev pub invariant-loop-digit : goal.invariant-loop-digit
invariant-loop-digit l = (l.size ≤ largest)
    × (fold (λ v b. v * 10 + (b - 48)) l.size (drop l.digit-index l.digits) ≡ value l.digits)
