-- What loading answers, in the words of the format.
use Rattle.std.proofs.Common.{◌≡◌, ℕ, zero, suc, ◌+◌, ◌<◌, ◌≤◌, Bool, true, false, cond, not, eqb, List, get_or, is_some, Some, None, Ok, Err, Option, Result, sym, refl, ◌∙◌, ⊎_elim, eq-or-lt_of_le, arith, eq-eqb, ne_eqb, le-leb, leb-true}
use Rattle.language.specs.Pantry.{max_magnitude}
use Rattle.pantry.specs.declared.records.Record.{Record}
use Rattle.pantry.specs.declared.faults.LoadFault.{LoadFault}
use Rattle.pantry.specs.declared.faults.LoadFault.TheVariants.{NoItemFile, BadRecord}
use Rattle.pantry.specs.File.{place, record_at, records_from, records_of, first_with, count_of, header_ok, record_ok}
use Rattle.pantry.specs.File.{unlawful_from, unlawful, at_record, fault, refused}
use Rattle.pantry.specs.FileFacts.{left, right, lawful_from, records_length}
use Rattle.pantry.specs.Format.{LawfulAt, FirstUnlawful, Judged, OneList}
use Rattle.pantry.proofs.Formats.{nth-is, encodes, decodes}

-- ── an item is new where no earlier record has it ──

step : (b : Bool) (r : Record) (o : Option Record) → cond b (Some r) o ≡ None → (b ≡ false) × (o ≡ None)
step true r o e = (cc, cc)
step false r o e = (refl, e)

none_has : (f : List ℕ) (n k m j : ℕ) → first_with n (records_from f k m) ≡ None → k ≤ j → j < k + m → (record_at f j).item ≡ n → ⊥
none_has f n k zero j e l h q = omega arith
none_has f n k (suc m) j e l h q =
    let p = step (eqb (record_at f k).item n) (record_at f k) (first_with n (records_from f (k + 1) m)) e in
    ⊎_elim
    (λ (s : k ≡ j). let t : (record_at f k).item ≡ n = rw s q in
    let z : ◌≡◌ {A = Bool} true false = sym (eq-eqb (record_at f k).item n t) ∙ p.0 in
    cc)
    (λ (s : k < j). none_has f n (k + 1) m j p.1 (omega arith) (omega arith) q)
    (eq-or-lt_of_le l)

pub has-none : (f : List ℕ) (n k m : ℕ) → ((j : ℕ) → k ≤ j → j < k + m → (record_at f j).item ≡ n → ⊥) →
    first_with n (records_from f k m) ≡ None
has-none f n k zero h = refl
has-none f n k (suc m) h =
    rw (ne_eqb (record_at f k).item n (h k (omega arith) (omega arith)))
    (has-none f n (k + 1) m (λ j l i. h j (omega arith) (omega arith)))

unsome : (o : Option Record) → not (is_some o) ≡ true → o ≡ None
unsome None e = refl
unsome (Some r) e = cc

-- ── the test of a record is the law of records ──

pub lawful-at : (f : List ℕ) (k : ℕ) → k < count_of f → record_ok f k ≡ true → LawfulAt (records_of f) k
lawful-at f k h e =
    let new : first_with (record_at f k).item (records_from f 0 k) ≡ None = unsome _ (left _ _ (left _ _ e)) in
    record {
      fresh = λ j l q. let s : j < count_of f = omega arith in
          none_has f (record_at f k).item 0 k j new (omega arith) (omega arith) (rw (nth-is f k h, nth-is f j s) at q);
      figure = rw (nth-is f k h) (leb-true _ _ (right _ _ (left _ _ e)));
      flag = rw (nth-is f k h) (leb-true _ _ (right _ _ e));
    }

at-lawful : (f : List ℕ) (k : ℕ) → k < count_of f → LawfulAt (records_of f) k → record_ok f k ≡ true
at-lawful f k h l =
    let new : first_with (record_at f k).item (records_from f 0 k) ≡ None =
    has-none f (record_at f k).item 0 k (λ j i m q.
    let s : j < count_of f = omega arith in l.fresh j (omega arith) (rw (nth-is f k h, nth-is f j s) q)) in
    let figure : (record_at f k).kcal ≤ max_magnitude = rw (nth-is f k h) at l.figure in
    let flag : (record_at f k).flag ≤ 1 = rw (nth-is f k h) at l.flag in
    rw (new, le-leb _ _ figure, le-leb _ _ flag)

-- ── the first unlawful record ──

found : (b : Bool) (k j : ℕ) (o : Option ℕ) → cond b o (Some k) ≡ Some j → cond b (o ≡ Some j) (k ≡ j)
found true k j o e = e
found false k j o e = cc

-- what is known where record k is the first unlawful one of as many from record i on
pub record From (f : List ℕ) (i n k : ℕ) : Type 0 where
  pub low : i ≤ k
  pub high : k < i + n
  pub here : record_ok f k ≡ false
  pub before : (j : ℕ) → i ≤ j → j < k → record_ok f j ≡ true

first-from : (f : List ℕ) (i n k : ℕ) → unlawful_from f i n ≡ Some k → From f i n k
first-from f i zero k e = absurd (cc)
first-from f i (suc n) k e =
    go (record_ok f i) refl (λ t. first-from f (i + 1) n k t) (found (record_ok f i) i k (unlawful_from f (i + 1) n) e) where
      go : (b : Bool) → record_ok f i ≡ b → (unlawful_from f (i + 1) n ≡ Some k → From f (i + 1) n k) →
          cond b (unlawful_from f (i + 1) n ≡ Some k) (i ≡ k) → From f i (suc n) k
      go true q later t =
          let p = later t in
          record {
            low = omega (arith, p.low);
            high = omega (arith, p.high);
            here = p.here;
            before = λ j l h. ⊎_elim (λ (s : i ≡ j). rw (sym s) q) (λ (s : i < j). p.before j (omega arith) h) (eq-or-lt_of_le l);
          }
      go false q later t = record { low = omega arith; high = omega arith; here = rw (sym t) q; before = λ j l h. absurd (omega arith) }

first : (f : List ℕ) (k : ℕ) → unlawful f ≡ Some k → From f 0 (count_of f) k
unfolding unlawful
first f k e = first-from f 0 (count_of f) k e

none_first : (f : List ℕ) → unlawful f ≡ None → (k : ℕ) → k < count_of f → record_ok f k ≡ true
unfolding unlawful
none_first f e k h = lawful_from f 0 (count_of f) k e (omega arith) (omega arith)

-- ── what is answered ──

ok-parts : (h : Bool) (o : Option ℕ) → None ≡ cond h (at_record o) (Some NoItemFile) → (h ≡ true) × (o ≡ None)
ok-parts true None e = (refl, refl)
ok-parts true (Some k) e = (refl, cc)
ok-parts false o e = absurd (cc)

file-parts : (h : Bool) (o : Option ℕ) → Some NoItemFile ≡ cond h (at_record o) (Some NoItemFile) → h ≡ false
file-parts true None e = cc
file-parts true (Some k) e = cc
file-parts false o e = refl

record-parts : (h : Bool) (o : Option ℕ) (p : ℕ) → Some (BadRecord p) ≡ cond h (at_record o) (Some NoItemFile) →
    (h ≡ true) × ((k : ℕ) × (o ≡ Some k) × (p ≡ place k))
record-parts true None p e = absurd (cc)
record-parts true (Some k) p e = (refl, (k, refl, cc))
record-parts false o p e = absurd (cc)

module _ (f : List ℕ) (bytes : (i : ℕ) → get_or f i 0 < 256) where
  judged-record : (k p : ℕ) → header_ok f ≡ true → unlawful f ≡ Some k → p ≡ place k → FirstUnlawful (records_of f) k p
  judged-record k p h e q =
      let t = first f k e in
      let l : k < count_of f = omega (arith, t.high) in
      record {
        within = rw (records_length f) l;
        before = λ j i. lawful-at f j (omega arith) (t.before j (omega arith) i);
        here = λ a. let z : ◌≡◌ {A = Bool} true false = sym (at-lawful f k l a) ∙ t.here in cc;
        place_is = q;
      }

  pub judged : {A : Type 0} (r : Result A LoadFault) → refused r ≡ fault f → Judged f r
  judged (Ok a) e =
      let p = ok-parts (header_ok f) (unlawful f) e in (
        records_of f,
        encodes f bytes p.0,
        λ k h. let l : k < count_of f = rw (records_length f) at h in lawful-at f k l (none_first f p.1 k l),
      )
  judged (Err NoItemFile) e = λ rs c.
      let z : ◌≡◌ {A = Bool} true false = sym (decodes f rs c).0 ∙ file-parts (header_ok f) (unlawful f) e in
      cc
  judged (Err (BadRecord p)) e =
      let q = record-parts (header_ok f) (unlawful f) p e in
      (records_of f, q.1.0, encodes f bytes q.0, judged-record q.1.0 p q.0 q.1.1 q.1.2)

pub one_list : (f : List ℕ) → OneList f
one_list f rs qs c d = sym (decodes f rs c).1 ∙ (decodes f qs d).1
