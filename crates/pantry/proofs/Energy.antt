-- What the factor pantry gives.
use Rattle.std.proofs.Common.{◌≡◌, ℕ, zero, suc, ◌*◌, ◌<◌, ◌≤◌, Bool, true, false, cond, ℤ, pos, negsuc, sym, refl, mul-le-mul_right, arith, lit<, le-leb}
use mathlib.Core.Option.{Option, none, some}
use borrow.Author.Tests.{lt-leb}
use lib.ListN.{get_elem?}
use Rattle.language.specs.Pantry.{Reply, figure_reply, max_magnitude, in_range, reply_of, fetch}
use Rattle.pantry.specs.Factors.{energy, factors, annex, GivesEnergy}

-- a test that has no reply either way has none
pub none_either : (b : Bool) → ◌≡◌ {A = Option Reply} (cond b none none) none
none_either true = refl
none_either false = refl

-- an entry replies by its factor, and no factor is 0
pub record ByFactor (i k : ℕ) (z : ℤ) : Type 0 where
  pub reply : reply_of (get_elem? factors i) z ≡ energy k z
  pub above : 0 < k

by-factor : (i k : ℕ) (z : ℤ) → get_elem? annex i ≡ some k → ByFactor i k z
by-factor zero k z e = let s : 9 ≡ k = cc in rw (sym s) record { reply = refl; above = lit< tt }
by-factor (suc zero) k z e = let s : 4 ≡ k = cc in rw (sym s) record { reply = refl; above = lit< tt }
by-factor (suc (suc zero)) k z e = let s : 4 ≡ k = cc in rw (sym s) record { reply = refl; above = lit< tt }
by-factor (suc (suc (suc zero))) k z e = let s : 7 ≡ k = cc in rw (sym s) record { reply = refl; above = lit< tt }
by-factor (suc (suc (suc (suc zero)))) k z e = let s : 2 ≡ k = cc in rw (sym s) record { reply = refl; above = lit< tt }
by-factor (suc (suc (suc (suc (suc i))))) k z e = absurd (cc)

product : (i k n : ℕ) → get_elem? annex i ≡ some k → k * n ≤ max_magnitude → fetch factors i (pos n) ≡ some (figure_reply (pos (k * n)))
product i k n e h =
    let b = by-factor i k (pos n) e in
    let m : n ≤ k * n = omega (arith, mul-le-mul_right {m = 1} {n = k} n b.above) in
    rw (le-leb n max_magnitude (omega arith), b.reply, le-leb (k * n) max_magnitude h)

too_large : (i k n : ℕ) → get_elem? annex i ≡ some k → max_magnitude < k * n → fetch factors i (pos n) ≡ none
too_large i k n e h = rw ((by-factor i k (pos n) e).reply, lt-leb (k * n) max_magnitude h) (none_either (in_range (pos n)))

negative : (i n : ℕ) → fetch factors i (negsuc n) ≡ none
negative i n = rw (none-at i) (none_either (in_range (negsuc n))) where
  none-at : (i : ℕ) → reply_of (get_elem? factors i) (negsuc n) ≡ none
  none-at zero = refl
  none-at (suc zero) = refl
  none-at (suc (suc zero)) = refl
  none-at (suc (suc (suc zero))) = refl
  none-at (suc (suc (suc (suc zero)))) = refl
  none-at (suc (suc (suc (suc (suc i))))) = refl

pub gives-energy : GivesEnergy factors
gives-energy = record { product = product; too_large = too_large; negative = negative }
