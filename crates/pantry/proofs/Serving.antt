-- What the item pantry gives, in the words of the format.
use Rattle.std.proofs.Common.{◌≡◌, ℕ, zero, suc, ◌+◌, ◌<◌, ◌≤◌, true, List, length, ℤ, pos, negsuc, Some, None, sym, refl, ap, subst, ⊎_elim, eq-or-lt_of_le, arith, eq-eqb, ne_eqb, le-leb}
use Rattle.language.specs.Pantry.{in_range}
use Rattle.pantry.specs.declared.records.Record.{Record}
use Rattle.pantry.specs.File.{record_at, records_from, records_of, first_with, count_of, accepted}
use Rattle.pantry.specs.FileFacts.{none_unlawful, lawful_from, records_length}
use Rattle.pantry.specs.Format.{InWidth, nth, Serves, ServesFile}
use Rattle.pantry.specs.Items.{item_pantry, record_for}
use Rattle.pantry.proofs.Energy.{none_either}
use Rattle.pantry.proofs.Formats.{nth-is, decodes}
use Rattle.pantry.proofs.Judging.{lawful-at, has-none}

-- the search comes to record k where no record before it has its item
first-is : (f : List ℕ) (i n k : ℕ) → i ≤ k → k < i + n → ((j : ℕ) → i ≤ j → j < k → (record_at f j).item ≡ (record_at f k).item → ⊥) →
    first_with (record_at f k).item (records_from f i n) ≡ Some (record_at f k)
first-is f i zero k l h new = absurd (omega arith)
first-is f i (suc n) k l h new =
    ⊎_elim
    (λ (s : i ≡ k). rw (eq-eqb (record_at f i).item (record_at f k).item (ap (λ (m : ℕ). (record_at f m).item) s))
    (ap (λ (m : ℕ). Some (record_at f m)) s))
    (λ (s : i < k). rw (ne_eqb (record_at f i).item (record_at f k).item (new i (omega arith) s))
    (first-is f (i + 1) n k (omega arith) (omega arith) (λ j a b. new j (omega arith) b)))
    (eq-or-lt_of_le l)

module _ (f : List ℕ) (ok : accepted f ≡ true) where
  there : (k : ℕ) → k < count_of f → first_with (record_at f k).item (records_of f) ≡ Some (record_at f k)
  unfolding records_of
  there k h =
      let a = lawful-at f k h (lawful_from f 0 (count_of f) k (none_unlawful f ok) (omega arith) (omega arith)) in
      first-is f 0 (count_of f) k (omega arith) (omega arith)
      (λ j i l q. let s : j < count_of f = omega arith in a.fresh j l (rw (nth-is f k h, nth-is f j s) q))

  ranged : (k : ℕ) → InWidth (record_at f k) → in_range (pos (record_at f k).item) ≡ true
  ranged k w = le-leb _ _ (omega (arith, w.item))

  nowhere : (z : ℤ) → ((k : ℕ) → k < count_of f → pos (record_at f k).item ≡ z → ⊥) → record_for (records_of f) z ≡ None
  unfolding records_of
  nowhere (pos n) h = has-none f n 0 (count_of f) (λ j l i q. h j (omega arith) (ap pos q))
  nowhere (negsuc n) h = refl

  absent : (z : ℤ) → ((k : ℕ) → k < length (records_of f) → pos (nth (records_of f) k).item ≡ z → ⊥) → record_for (records_of f) z ≡ None
  absent z h = nowhere z (λ k l q. h k (rw (records_length f) l) (rw (nth-is f k l) q))

  serves-own : ((k : ℕ) → k < length (records_of f) → InWidth (nth (records_of f) k)) → Serves (records_of f) (item_pantry (records_of f))
  serves-own w = record {
    kcal = λ k h.
        let l : k < count_of f = rw (records_length f) at h in
        rw (nth-is f k l, ranged k (rw (nth-is f k l) at (w k h)), there k l);
    allergen = λ k h.
        let l : k < count_of f = rw (records_length f) at h in
        rw (nth-is f k l, ranged k (rw (nth-is f k l) at (w k h)), there k l);
    no_kcal = λ z h. rw (absent z h) (none_either (in_range z));
    no_allergen = λ z h. rw (absent z h) (none_either (in_range z));
    items = λ z r. rw r;
  }

  pub serves : ServesFile f (item_pantry (records_of f))
  serves rs c =
      let e = (decodes f rs c).1 in
      subst (λ (qs : List Record). Serves qs (item_pantry (records_of f))) e
      (serves-own (subst (λ (qs : List Record). (k : ℕ) → k < length qs → InWidth (nth qs k)) (sym e) c.in_width))
