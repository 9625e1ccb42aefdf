-- The pantry's entries by their numbers and by their names.
use Rattle.std.proofs.Common.{◌≡◌, ℕ, zero, suc, ◌+◌, Bool, true, false, cond, [], ◌∷◌, drop, ℤ, sym, refl, ap, ◌∙◌, add-one, arith}
use mathlib.Core.Option.{Option, none, some}
use Rattle.std.specs.Prelude.{Some, Ok, Err, Result}
use Rattle.std.specs.Result.{OkIff, result_ok}
use lib.ListN.{get_elem?}
use Rattle.words.specs.Names.{Name, same_name}
use Rattle.language.specs.Names.{bind, lookup}
use Rattle.language.specs.Pantry.{Pantry, Kind, stock_of}
use Rattle.language.specs.Machine.{Program, Value, integer, hands, removed, fetched}
use Rattle.language.specs.Rules.{Numbered, numbered, numbered_from}
use Rattle.language.specs.Step.{fetching, asking}
use Rattle.job.specs.Rules.{stocked}

-- an entry that is listed is the next of the numbered ones
next-entry : (p : Pantry) (k i : ℕ) (x y : Name) (q : Kind) → get_elem? (stock_of p) i ≡ some (bind y q) →
    lookup (numbered_from k (drop i p)) x ≡ cond (same_name y x) (some (numbered k q)) (lookup (numbered_from (suc k) (drop (suc i) p)) x)
next-entry [] k i x y q h = let z : ◌≡◌ {A = ℕ} 0 1 = cc in absurd (omega arith)
next-entry (e ∷ p) k zero x y q h = cc
next-entry (e ∷ p) k (suc i) x y q h = next-entry p k i x y q h

no-entry-from : (p : Pantry) (k i : ℕ) (x : Name) → get_elem? (stock_of p) i ≡ none → lookup (numbered_from k (drop i p)) x ≡ none
no-entry-from [] k zero x h = refl
no-entry-from [] k (suc i) x h = refl
no-entry-from (e ∷ p) k zero x h = let z : ◌≡◌ {A = ℕ} 0 1 = cc in absurd (omega arith)
no-entry-from (e ∷ p) k (suc i) x h = no-entry-from p k i x h

module _ (p : Pantry) (x : Name) (i : ℕ) where
  abbrev from : ℕ → Option Numbered
  from k = lookup (numbered_from k (drop k p)) x

  pub no-entry : none ≡ get_elem? (stock_of p) i → from i ≡ none
  no-entry h = no-entry-from p i i x (sym h)

  pub named_here : (y : Name) (q : Kind) → some (bind y q) ≡ get_elem? (stock_of p) i → same_name y x ≡ true → from i ≡ some (numbered i q)
  named_here y q h t =
      next-entry p i i x y q (sym h) ∙
      ap (λ (b : Bool). cond b (some (numbered i q)) (lookup (numbered_from (suc i) (drop (suc i) p)) x)) t

  pub named-on : (y : Name) (q : Kind) → some (bind y q) ≡ get_elem? (stock_of p) i → same_name y x ≡ false → from i ≡ from (i + 1)
  named-on y q h t =
      next-entry p i i x y q (sym h) ∙
      (ap (λ (b : Bool). cond b (some (numbered i q)) (lookup (numbered_from (suc i) (drop (suc i) p)) x)) t ∙
      ap from (sym (add-one i)))

none-listed : (p : Pantry) (i j d : ℕ) (z : ℤ) → none ≡ get_elem? (stock_of p) i → none ≡ fetching d j z (get_elem? p i)
none-listed [] i j d z h = refl
none-listed (e ∷ p) zero j d z h = let z : ◌≡◌ {A = ℕ} 0 1 = cc in absurd (omega arith)
none-listed (e ∷ p) (suc i) j d z h = none-listed p i j d z h

some-listed : (p : Pantry) (i j d : ℕ) (z : ℤ) (y : Name) (q : Kind) → some (bind y q) ≡ get_elem? (stock_of p) i →
    some (hands (removed d) (fetched j z)) ≡ fetching d j z (get_elem? p i)
some-listed [] i j d z y q h = let z : ◌≡◌ {A = ℕ} 0 1 = cc in absurd (omega arith)
some-listed (e ∷ p) zero j d z y q h = refl
some-listed (e ∷ p) (suc i) j d z y q h = some-listed p i j d z y q h

-- an entry that is not listed is not asked
pub asking-none : (m : Pantry) (w : Program) (d i : ℕ) (z : ℤ) (v : Value) → v ≡ integer z → none ≡ get_elem? (stock_of m) i →
    none ≡ asking (stocked m w) d i v
asking-none m w d i z v q h = none-listed m i i d z h ∙ ap (asking (stocked m w) d i) (sym q)

pub asking-some : (m : Pantry) (w : Program) (d i : ℕ) (z y : ℤ) (v : Value) (x : Name) (k : Kind) → v ≡ integer z → y ≡ z →
    some (bind x k) ≡ get_elem? (stock_of m) i → some (hands (removed d) (fetched i y)) ≡ asking (stocked m w) d i v
asking-some m w d i z y v x k q e h =
    ap (λ (n : ℤ). some (hands (removed d) (fetched i n))) e ∙ (some-listed m i i d z x k h ∙ ap (asking (stocked m w) d i) (sym q))

-- a number that was converted
pub converted : {E : Type 0} → (r : Result ℕ E) (P : Type 0) (i n : ℕ) → OkIff r P i → Some n ≡ result_ok r → n ≡ i
converted (Ok x) P i n h e = let v : x ≡ i = h.1 in cc
converted (Err k) P i n h e = absurd (cc)
