-- One taking after another is the taking of both texts.
use Rattle.std.proofs.Common.{ℕ, List, ◌++◌, Ok, Err, Result, sym, arith, length-append}
use Rattle.std.proofs.lemmas.Bool.{true≢false}
use Rattle.std.specs.Result.{IsErr}
use Rattle.line.specs.declared.faults.TooShort.{TooShort}
use Rattle.line.specs.Sinks.{Put}

module _ {S : Type 0} {room : S → ℕ} {took : List ℕ → S → S → Type 0} where
  pub then : {a b : List ℕ} {r : Result Unit TooShort} {s t u : S} → Put room took a (Ok tt) s t → Put room took b r t u →
      ((a b : List ℕ) (s t u : S) → took a s t → took b t u → took (a ++ b) s u) → Put room took (a ++ b) r s u
  then {a = a} {b = b} {r = Ok v} p q joins =
      let l = length-append a b in
      record { taken = joins a b _ _ _ p.taken q.taken; left = omega (arith, p.left, q.left); full = tt }
  then {a = a} {b = b} {r = Err e} p q joins =
      let l = length-append a b in record { taken = tt; left = tt; full = omega (arith, p.left, q.full) }

  -- no room for some bytes is none for more
  pub stopped : {a : List ℕ} {e : TooShort} {s t : S} (b : List ℕ) (r : Result Unit TooShort) (u : S) →
      Put room took a (Err e) s t → IsErr r → Put room took (a ++ b) r s u
  stopped {a = a} b (Ok v) u p h = absurd (true≢false (sym h))
  stopped {a = a} b (Err e) u p h = let l = length-append a b in record { taken = tt; left = tt; full = omega (arith, p.full) }
