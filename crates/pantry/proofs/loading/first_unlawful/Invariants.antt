use Rattle.std.proofs.Common.{◌≡◌, [], map, take, drop}
use Rattle.pantry.specs.File.{record_of, unlawful_in}
use Rattle.pantry.proofs.loading.first_unlawful.Given as goal

abbrev pub invariant-loop-k : goal.invariant-loop-k
invariant-loop-k l =
    unlawful_in [] (map record_of l.rows) ≡ unlawful_in (map record_of (take l.k l.rows)) (map record_of (drop l.k l.rows))
