-- The place of an entry's type in the type table.
use Rattle.std.proofs.Common.{◌≡◌, ℕ, ◌<◌, Bool, List, take, Some, arith}
use Rattle.std.proofs.lemmas.List.{length-take}
use Rattle.std.specs.List.{position}
use Rattle.std.proofs.lemmas.List.Quantifiers.{position-Some}

pub place_within : {X : Type 0} (p : X → Bool) (xs : List X) (n k : ℕ) (d : X) → position p (take n xs) ≡ Some k → k < n
place_within p xs n k d e = let h = (position-Some p (take n xs) k d e).0 in omega (arith, h, length-take n xs)
