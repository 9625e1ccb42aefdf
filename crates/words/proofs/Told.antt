-- What the bytes tell is what is read. Assumes nothing.
use Rattle.std.proofs.Common.{◌≡◌, ℕ, ◌+◌, ◌<◌, ◌≤◌, true, false, cond, ◌||◌, eqb, leb, List, [], ◌∷◌, ◌++◌, length, get_or, take, drop, sym, refl, ap, ◌∙◌, subst, ⊎_elim, add-zero, zero-add, one-add, arith}
use Rattle.std.proofs.lemmas.List.{take_at, get_or-append-add}
use Rattle.std.proofs.lemmas.Bool.{cond-true, cond-false, le-leb, lt-leb, or_parts, both_ways}
use Rattle.std.proofs.lemmas.Bool.Decides.{nat_tests}
use Rattle.words.specs.declared.classes.Class.TheVariants.{Dash, Mark as Sign}
use Rattle.words.specs.declared.marks.Mark.{Mark}
use Rattle.words.specs.declared.marks.Mark.TheVariants.{Open, Shut, Begin, End, Comma, Colon, Equal, Arrow, Plus, Minus, Times, Over}
use Rattle.words.specs.Classes.{letter, digit, blank, mark as single, class_of, is_class}
use Rattle.words.specs.Spelling.{keyword_of, drawn}
use Rattle.words.specs.Words.{Reading, Kind, gap, name_run, is_digit, is_letter, value, largest, size_of, name_kind, named, figured}
use Rattle.words.specs.Words.{numbered, dashed, first}
use Rattle.words.specs.Words.Kind.{name, number, keyword, mark}
use Rattle.words.specs.Words.Reading.{word, fault}
use Rattle.words.specs.Laws.{digit_byte, letter_byte, arrow_byte, known, Passes, Stops, NameRun, Numeral, Spells, Faulty}
use Rattle.words.specs.Laws.Faulty.{stray, letter_behind, long_name, large_number}
use Rattle.words.proofs.ClassTests.{is-letter, is-digit, is-dash, is-mark}
use Rattle.words.proofs.LongestRuns.{run_is, name-counts, digit-counts}
use Rattle.words.proofs.Gaps.{at-word}

-- what is read where the text goes on with bs; no gap begins there
abbrev pub Reads : ℕ → List ℕ → Reading → Type 0
Reads p bs r = (first p bs ≡ r) × (gap false bs ≡ 0)

no-letter : (t : List ℕ) → Stops letter_byte t → letter (get_or t 0 0) ≡ false
no-letter [] h = refl
no-letter (b ∷ t) h = h

letter-apart : (b : ℕ) → letter b ≡ true → (blank b ≡ false) × (eqb b 37 ≡ false)
letter-apart b h = (grind (arith, nat_tests), grind (arith, nat_tests))

at-letter : (p b : ℕ) (bs : List ℕ) → letter b ≡ true → first p (b ∷ bs) ≡ named p (take (name_run (b ∷ bs)) (b ∷ bs))
at-letter p b bs h = cond-true (is_letter (class_of b)) _ _ (is-letter b ∙ h)

reads-name : (p : ℕ) (w rest : List ℕ) → NameRun w rest → Reads p (w ++ rest) (named p w)
reads-name p [] rest r = absurd (both_ways false refl r.begins)
reads-name p (b ∷ w) rest r =
    let (not-blank, not-percent) = letter-apart b r.begins in (
      at-letter p b (w ++ rest) r.begins
          ∙ ap (λ n. named p (take n (b ∷ (w ++ rest)))) (run_is name-counts (b ∷ w) rest r.passes r.longest)
          ∙ ap (named p) (take_at (b ∷ w) rest (length (b ∷ w)) refl),
      at-word b (w ++ rest) not-blank not-percent,
    )

-- what is read at a numeral w before rest
abbrev outcome : ℕ → List ℕ → List ℕ → Reading
outcome p w rest = cond (letter (get_or rest 0 0)) (fault 2 (p + length w)) (cond (leb (size_of w) largest) (word number p w) (fault 4 p))

figured-is : (p s n : ℕ) (w rest : List ℕ) → s + n ≡ length w → size_of w ≡ value (take n (drop s (w ++ rest)))
    → figured p s n (w ++ rest) ≡ outcome p w rest
figured-is p s n w rest long size =
    let xs = w ++ rest in
    let next : get_or xs (s + n) 0 ≡ get_or rest 0 0 = ap (λ i. get_or xs i 0) (long ∙ sym (add-zero (length w))) ∙ get_or-append-add w rest 0 0 in
    let front : is_letter (class_of (get_or xs (s + n) 0)) ≡ letter (get_or rest 0 0) = is-letter (get_or xs (s + n) 0) ∙ ap letter next in
    let bytes : take (s + n) xs ≡ w = take_at w rest (s + n) (sym long) in
    ap (λ x. cond x (fault 2 (p + (s + n)))
    (cond (leb (value (take n (drop s xs))) largest) (word number p (take (s + n) xs)) (fault 4 p))) front
    ∙ ap (λ m. cond (letter (get_or rest 0 0)) (fault 2 (p + m))
    (cond (leb (value (take n (drop s xs))) largest) (word number p (take (s + n) xs)) (fault 4 p))) long
    ∙ ap (λ v. cond (letter (get_or rest 0 0)) (fault 2 (p + length w))
    (cond (leb v largest) (word number p (take (s + n) xs)) (fault 4 p))) (sym size)
    ∙ ap (λ l. cond (letter (get_or rest 0 0)) (fault 2 (p + length w)) (cond (leb (size_of w) largest) (word number p l) (fault 4 p))) bytes

digit-apart : (b : ℕ) → digit b ≡ true → (blank b ≡ false) × (eqb b 37 ≡ false) × (letter b ≡ false) × (eqb b 45 ≡ false)
digit-apart b h = (grind (arith, nat_tests), grind (arith, nat_tests), grind (arith, nat_tests), grind (arith, nat_tests))

at-digit : (p b : ℕ) (bs : List ℕ) → digit b ≡ true → first p (b ∷ bs) ≡ numbered p 0 (b ∷ bs)
at-digit p b bs h =
    cond-false (is_letter (class_of b)) _ _ (is-letter b ∙ (digit-apart b h).2) ∙ cond-true (is_digit (class_of b)) _ _ (is-digit b ∙ h)

reads-digits : (p : ℕ) (ds rest : List ℕ) → 0 < length ds → Passes digit_byte ds rest → Stops digit_byte rest
    → Reads p (ds ++ rest) (outcome p ds rest)
reads-digits p [] rest some ps st = absurd (omega arith)
reads-digits p (d ∷ ds) rest some ps st =
    let apart = digit-apart d ps.0 in
    let xs : List ℕ = d ∷ (ds ++ rest) in
    let size : size_of (d ∷ ds) ≡ value (take (length (d ∷ ds)) xs) =
    cond-false (eqb d 45) (value ds) (value (d ∷ ds)) apart.3 ∙ ap value (sym (take_at (d ∷ ds) rest (length (d ∷ ds)) refl)) in (
      at-digit p d (ds ++ rest) ps.0 ∙ ap (λ n. figured p 0 n xs) (run_is digit-counts (d ∷ ds) rest ps st)
          ∙ figured-is p 0 (length (d ∷ ds)) (d ∷ ds) rest (zero-add (length (d ∷ ds))) size,
      at-word d (ds ++ rest) apart.0 apart.1,
    )

reads-negative : (p : ℕ) (ds rest : List ℕ) → 0 < length ds → Passes digit_byte ds rest → Stops digit_byte rest
    → Reads p (45 ∷ (ds ++ rest)) (outcome p (45 ∷ ds) rest)
reads-negative p [] rest some ps st = absurd (omega arith)
reads-negative p (d ∷ ds) rest some ps st =
    let xs : List ℕ = 45 ∷ d ∷ (ds ++ rest) in
    let size : size_of (45 ∷ d ∷ ds) ≡ value (take (length (d ∷ ds)) (d ∷ (ds ++ rest))) =
    ap value (sym (take_at (d ∷ ds) rest (length (d ∷ ds)) refl)) in (
      cond-true (is_digit (class_of d)) (numbered p 1 xs) _ (is-digit d ∙ ps.0)
          ∙ ap (λ n. figured p 1 n xs) (run_is digit-counts (d ∷ ds) rest ps st)
          ∙ figured-is p 1 (length (d ∷ ds)) (45 ∷ d ∷ ds) rest (one-add (length (d ∷ ds))) size,
      refl,
    )

reads-numeral : (p : ℕ) (w rest : List ℕ) → Numeral w rest → Reads p (w ++ rest) (outcome p w rest)
reads-numeral p w rest n =
    let as-spelled : (s : List ℕ) → n.sign ≡ s → Reads p ((s ++ n.digits) ++ rest) (outcome p (s ++ n.digits) rest)
    → Reads p (w ++ rest) (outcome p w rest) =
    λ s e r. subst (λ (v : List ℕ). Reads p (v ++ rest) (outcome p v rest)) (sym (n.whole ∙ ap (λ (x : List ℕ). x ++ n.digits) e)) r in
    ⊎_elim
    (λ e. as-spelled [] e (reads-digits p n.digits rest n.some n.passes n.longest))
    (λ e. as-spelled (45 ∷ []) e (reads-negative p n.digits rest n.some n.passes n.longest))
    n.signs

reads-mark : (p : ℕ) (m : Mark) (rest : List ℕ) → (m ≡ Minus → Stops digit_byte rest × Stops arrow_byte rest)
    → Reads p (drawn m ++ rest) (word (mark m) p (drawn m))
reads-mark p Open rest h = (refl, refl)
reads-mark p Shut rest h = (refl, refl)
reads-mark p Begin rest h = (refl, refl)
reads-mark p End rest h = (refl, refl)
reads-mark p Comma rest h = (refl, refl)
reads-mark p Colon rest h = (refl, refl)
reads-mark p Equal rest h = (refl, refl)
reads-mark p Arrow rest h = (refl, refl)
reads-mark p Plus rest h = (refl, refl)
reads-mark p Minus rest h = (minus rest (h refl).0 (h refl).1, refl)
  where
    minus : (rest : List ℕ) → Stops digit_byte rest → Stops arrow_byte rest → dashed p (45 ∷ rest) ≡ word (mark Minus) p (drawn Minus)
    minus [] d a = refl
    minus (b ∷ bs) d a = cond-false (is_digit (class_of b)) _ _ (is-digit b ∙ d) ∙ cond-false (eqb b 62) _ _ a
reads-mark p Times rest h = (refl, refl)
reads-mark p Over rest h = (refl, refl)

named-is : (p : ℕ) (w : List ℕ) → length w ≤ 16 → named p w ≡ word (name_kind (keyword_of w)) p w
named-is p w h = cond-true (leb (length w) 16) _ _ (le-leb (length w) 16 h)

pub told : (p : ℕ) (k : Kind) (w rest : List ℕ) → Spells k w rest → Reads p (w ++ rest) (word k p w)
told p name w rest h =
    let r = reads-name p w rest h.0 in
    (r.0 ∙ named-is p w h.1 ∙ ap (λ o. word (name_kind o) p w) h.2, r.1)
told p (keyword k) w rest h =
    let r = reads-name p w rest h.0 in
    (r.0 ∙ named-is p w h.1 ∙ ap (λ o. word (name_kind o) p w) h.2, r.1)
told p number w rest h =
    let r = reads-numeral p w rest h.0 in (
      r.0 ∙ cond-false (letter (get_or rest 0 0)) _ _ (no-letter rest h.1)
          ∙ cond-true (leb (size_of w) largest) _ _ (le-leb (size_of w) largest h.2),
      r.1,
    )
told p (mark m) w rest h = rw h.0 (reads-mark p m rest h.1)

reads-stray : (p : ℕ) (bs : List ℕ) → 0 < length bs → known (get_or bs 0 0) ≡ false → Reads p bs (fault 2 p)
reads-stray p [] some h = absurd (omega arith)
reads-stray p (b ∷ bs) some h =
    let (h4, not-mark) = or_parts (blank b || eqb b 37 || letter b || digit b || eqb b 45) (single b) h in
    let (h3, not-dash) = or_parts (blank b || eqb b 37 || letter b || digit b) (eqb b 45) h4 in
    let (h2, not_digit) = or_parts (blank b || eqb b 37 || letter b) (digit b) h3 in
    let (h1, not-letter) = or_parts (blank b || eqb b 37) (letter b) h2 in
    let (not-blank, not-percent) = or_parts (blank b) (eqb b 37) h1 in (
      cond-false (is_letter (class_of b)) _ _ (is-letter b ∙ not-letter) ∙ cond-false (is_digit (class_of b)) _ _ (is-digit b ∙ not_digit)
          ∙ cond-false (is_class Dash (class_of b)) _ _ (is-dash b ∙ not-dash)
          ∙ cond-false (is_class Sign (class_of b)) _ _ (is-mark b ∙ not-mark),
      at-word b bs not-blank not-percent,
    )

pub told-fault : (p : ℕ) (bs : List ℕ) (k q : ℕ) → Faulty p bs k q → Reads p bs (fault k q)
told-fault p bs k q (stray e f some h) = rw (e, f) (reads-stray p bs some h)
told-fault p bs k q (letter_behind w rest e f cut n l) =
    let r = reads-numeral p w rest n in
    rw (e, f, cut) (r.0 ∙ cond-true (letter (get_or rest 0 0)) _ _ l, r.1)
told-fault p bs k q (long_name w rest e f cut n l) =
    let r = reads-name p w rest n in
    rw (e, f, cut) (r.0 ∙ cond-false (leb (length w) 16) _ _ (lt-leb (length w) 16 l), r.1)
told-fault p bs k q (large_number w rest e f cut n s l) =
    let r = reads-numeral p w rest n in
    rw (e, f, cut) (
      r.0 ∙ cond-false (letter (get_or rest 0 0)) _ _ (no-letter rest s)
          ∙ cond-false (leb (size_of w) largest) _ _ (lt-leb (size_of w) largest l),
      r.1,
    )
