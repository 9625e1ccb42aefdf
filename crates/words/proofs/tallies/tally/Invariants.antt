use Rattle.std.proofs.Common.{◌≡◌, ◌-◌, ◌≤◌, length, drop}
use Rattle.words.specs.Lexing.{lexed, tallied}
use Rattle.words.proofs.tallies.tally.Given as goal

abbrev pub invariant-loop-count : goal.invariant-loop-count
invariant-loop-count l =
    (l.cursor.text.now ≡ l.text) × (l.count ≤ l.cursor.at)
    × (tallied l.count (lexed l.cursor.at (drop l.cursor.at l.text)) ≡ tallied 0 (lexed 0 l.text))

abbrev pub decreases-loop-count : goal.decreases-loop-count
decreases-loop-count l = length l.text - l.cursor.at
