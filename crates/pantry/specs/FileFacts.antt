-- What is known of a file that is accepted.
use Rattle.std.specs.Prelude.{◌≡◌, ℕ, zero, suc, ◌+◌, ◌<◌, ◌≤◌, Bool, true, false, cond, not, ◌&&◌, List, length, is_some, Some, None, Option, refl}
use Rattle.std.proofs.Common.{sym, ap, ⊎_elim, eq-or-lt_of_le, arith, leb-true}
use Rattle.pantry.specs.declared.faults.LoadFault.TheVariants.{NoItemFile}
use Rattle.pantry.specs.File.{records_from, records_of, count_of, header_ok, record_ok, unlawful_from, unlawful, at_record, accepted}

pub left : (a b : Bool) → a && b ≡ true → a ≡ true
left true b e = refl
left false b e = e

pub right : (a b : Bool) → a && b ≡ true → b ≡ true
right true b e = e
right false b e = cc

parts : (h : Bool) (o : Option ℕ) → not (is_some (cond h (at_record o) (Some NoItemFile))) ≡ true → (h ≡ true) × (o ≡ None)
parts true None e = (refl, refl)
parts true (Some k) e = (refl, cc)
parts false None e = (cc, refl)
parts false (Some k) e = (cc, cc)

pub header : (f : List ℕ) → accepted f ≡ true → header_ok f ≡ true
header f e = (parts (header_ok f) (unlawful f) e).0

pub none_unlawful : (f : List ℕ) → accepted f ≡ true → unlawful_from f 0 (count_of f) ≡ None
unfolding unlawful
none_unlawful f e = (parts (header_ok f) (unlawful f) e).1

pub few : (f : List ℕ) → header_ok f ≡ true → count_of f ≤ 1000
unfolding header_ok
few f h = leb-true _ _ (right _ _ (left _ _ h))

no_fault : (b : Bool) (o : Option ℕ) (k : ℕ) → cond b o (Some k) ≡ None → (b ≡ true) × (o ≡ None)
no_fault true o k e = (refl, e)
no_fault false o k e = (cc, cc)

-- where none of as many records is unlawful, each is lawful
pub lawful_from : (f : List ℕ) (k n j : ℕ) → unlawful_from f k n ≡ None → k ≤ j → j < k + n → record_ok f j ≡ true
lawful_from f k zero j e l h = absurd (omega arith)
lawful_from f k (suc n) j e l h =
    let p = no_fault (record_ok f k) (unlawful_from f (k + 1) n) k e in
    ⊎_elim (λ (q : k ≡ j). rw (sym q) p.0) (λ (q : k < j). lawful_from f (k + 1) n j p.1 (omega arith) (omega arith))
    (eq-or-lt_of_le l)

pub from_length : (f : List ℕ) (k n : ℕ) → length (records_from f k n) ≡ n
from_length f k zero = refl
from_length f k (suc n) = ap suc (from_length f (k + 1) n)

pub records_length : (f : List ℕ) → length (records_of f) ≡ count_of f
unfolding records_of
records_length f = from_length f 0 (count_of f)
