-- What is read behind a gap is told by the bytes. Assumes nothing.
use Rattle.std.proofs.Common.{◌≡◌, ℕ, ◌+◌, ◌<◌, ◌≤◌, Bool, true, false, cond, not, ◌&&◌, ◌||◌, eqb, leb, List, [], ◌∷◌, length, get_or, take, drop, is_some, Some, None, Option, sym, refl, ap, ◌∙◌, subst, inl, inr, zero-add, one-add, arith}
use Rattle.std.proofs.lemmas.List.{take-append-drop, length-take-le}
use Rattle.std.proofs.lemmas.Bool.{cond_both, leb-true, leb-false, eqb-true, or_from, both_ways}
use Rattle.std.proofs.lemmas.Bool.Decides.{nat_tests}
use Rattle.words.specs.declared.classes.Class.TheVariants.{Dash, Mark as Sign}
use Rattle.words.specs.declared.keywords.Keyword.{Keyword}
use Rattle.words.specs.declared.marks.Mark.{Mark}
use Rattle.words.specs.declared.marks.Mark.TheVariants.{Arrow, Minus}
use Rattle.words.specs.Classes.{letter, digit, mark as single, class_of, is_class}
use Rattle.words.specs.Spelling.{keyword_of, mark_of, drawn, marks}
use Rattle.words.specs.Words.{Reading, gap, name_run, digit_run, is_digit, is_letter, value, largest, size_of, name_kind, named, figured}
use Rattle.words.specs.Words.{numbered, dashed, marked, first}
use Rattle.words.specs.Words.Kind.{number, mark}
use Rattle.words.specs.Words.Reading.{end, word, fault}
use Rattle.words.specs.Laws.{name_byte, Stops, NameRun, Numeral, Spells, Faulty}
use Rattle.words.specs.Laws.Faulty.{stray, letter_behind, long_name, large_number}
use Rattle.words.proofs.ClassTests.{is-letter, is-digit, is-dash, is-mark}
use Rattle.words.proofs.LongestRuns.{passed, run-le, run-passes, run-stops, name-counts, digit-counts}
use Rattle.words.proofs.Gaps.{gap-begins}
use Rattle.words.proofs.Runs.{head-drop}
use Rattle.words.proofs.Sizes.{plain, negative}
use Rattle.words.proofs.Spells.{spells}
use Rattle.words.proofs.Table.{passes_at}

-- the end is where nothing follows, a word spells its kind before what follows, and a fault is one
abbrev pub Stands : ℕ → List ℕ → Reading → Type 0
Stands p bs end = bs ≡ []
Stands p bs (word k q w) = Spells k w (drop (length w) bs)
Stands p bs (fault k q) = Faulty p bs k q

-- a test of one byte at the front
heads : (t : ℕ → Bool) (bs : List ℕ) → t (get_or bs 0 0) ≡ false → Stops (λ b _. t b) bs
heads t [] h = tt
heads t (b ∷ bs) h = h

cut : (n : ℕ) (xs : List ℕ) → n ≤ length xs → drop n xs ≡ drop (length (take n xs)) xs
cut n xs h = ap (λ m. drop m xs) (sym (length-take-le n xs h))

pub letter-name : (b : ℕ) (bs : List ℕ) → letter b ≡ true → name_byte b bs ≡ true
letter-name b bs h = ap (λ x. x || digit b || eqb b 63 || eqb b 45 && not (eqb (get_or bs 0 0) 62)) h

name-run : (b : ℕ) (bs : List ℕ) → letter b ≡ true → NameRun (take (name_run (b ∷ bs)) (b ∷ bs)) (drop (name_run (b ∷ bs)) (b ∷ bs))
name-run b bs h = record {
  begins = rw (passed name-counts b bs (letter-name b bs h)) h;
  passes = run-passes name-counts (b ∷ bs);
  longest = run-stops name-counts (b ∷ bs);
}

stands-kind : (p : ℕ) (w rest : List ℕ) (o : Option Keyword) → keyword_of w ≡ o → NameRun w rest → length w ≤ 16
    → Spells (name_kind o) w rest
stands-kind p w rest None e r h = (r, h, e)
stands-kind p w rest (Some k) e r h = (r, h, e)

stands-named : (p b : ℕ) (bs : List ℕ) → letter b ≡ true → Stands p (b ∷ bs) (named p (take (name_run (b ∷ bs)) (b ∷ bs)))
stands-named p b bs h =
    let xs : List ℕ = b ∷ bs in
    let n = name_run xs in
    let w = take n xs in
    let run = name-run b bs h in
    cond_both (leb (length w) 16) (word (name_kind (keyword_of w)) p w) (fault 3 p) (Stands p xs)
    (λ t. stands-kind p w (drop (length w) xs) (keyword_of w) refl (subst (NameRun w) (cut n xs (run-le name-counts xs)) run)
    (leb-true (length w) 16 t))
    (λ t. long_name w (drop n xs) refl refl (sym (take-append-drop n xs)) run (leb-false (length w) 16 t))

-- a numeral of n bytes at the front, with what is told of it
stands-figured : (p s n : ℕ) (xs : List ℕ) → Numeral (take (s + n) xs) (drop (s + n) xs) → s + n ≤ length xs
    → size_of (take (s + n) xs) ≡ value (take n (drop s xs)) → Stands p xs (figured p s n xs)
stands-figured p s n xs num within size =
    let w = take (s + n) xs in
    let rest = drop (s + n) xs in
    let front : letter (get_or rest 0 0) ≡ is_letter (class_of (get_or xs (s + n) 0)) =
    ap letter (head-drop xs (s + n)) ∙ sym (is-letter (get_or xs (s + n) 0)) in
    let small = leb (value (take n (drop s xs))) largest in
    cond_both (is_letter (class_of (get_or xs (s + n) 0))) (fault 2 (p + (s + n))) (cond small (word number p w) (fault 4 p)) (Stands p xs)
    (λ t. letter_behind w rest refl (ap (λ m. p + m) (sym (length-take-le (s + n) xs within))) (sym (take-append-drop (s + n) xs)) num
    (front ∙ t))
    (λ t. cond_both small (word number p w) (fault 4 p) (Stands p xs)
    (λ u. subst (λ l. Spells number w l) (cut (s + n) xs within)
    (num, heads letter rest (front ∙ t), omega (arith, size, leb-true (value (take n (drop s xs))) largest u)))
    (λ u. large_number w rest refl refl (sym (take-append-drop (s + n) xs)) num (heads letter rest (front ∙ t))
    (omega (arith, size, leb-false (value (take n (drop s xs))) largest u))))

some-digits : (b : ℕ) (bs : List ℕ) → digit b ≡ true → 0 < length (take (digit_run (b ∷ bs)) (b ∷ bs))
some-digits b bs h = rw (passed digit-counts b bs h) (omega arith)

stands-digits : (p b : ℕ) (bs : List ℕ) → digit b ≡ true → eqb b 45 ≡ false → Stands p (b ∷ bs) (numbered p 0 (b ∷ bs))
stands-digits p b bs h e =
    let xs : List ℕ = b ∷ bs in
    let n = digit_run xs in
    let num : Numeral (take n xs) (drop n xs) = record {
      sign = [];
      digits = take n xs;
      whole = refl;
      signs = inl refl;
      some = some-digits b bs h;
      passes = run-passes digit-counts xs;
      longest = run-stops digit-counts xs;
    } in
    stands-figured p 0 n xs (rw (zero-add n) num) (rw (zero-add n) (run-le digit-counts xs)) (rw (zero-add n) (plain n b bs e))

first-digit : (bs : List ℕ) → digit (get_or bs 0 0) ≡ true → 0 < length (take (digit_run bs) bs)
first-digit [] h = let z : ◌≡◌ {A = ℕ} 0 1 = cc in absurd (omega arith)
first-digit (b ∷ bs) h = some-digits b bs h

stands-negative : (p : ℕ) (bs : List ℕ) → digit (get_or bs 0 0) ≡ true → Stands p (45 ∷ bs) (numbered p 1 (45 ∷ bs))
stands-negative p bs h =
    let n = digit_run bs in
    let num : Numeral (45 ∷ take n bs) (drop n bs) = record {
      sign = 45 ∷ [];
      digits = take n bs;
      whole = refl;
      signs = inr refl;
      some = first-digit bs h;
      passes = run-passes digit-counts bs;
      longest = run-stops digit-counts bs;
    } in
    stands-figured p 1 n (45 ∷ bs) (rw (one-add n) num) (omega (arith, run-le digit-counts bs)) (negative n 45 bs refl)

stands-dashed : (p : ℕ) (bs : List ℕ) → Stands p (45 ∷ bs) (dashed p (45 ∷ bs))
stands-dashed p bs =
    let next = get_or bs 0 0 in
    let arrow = word (mark Arrow) p (drawn Arrow) in
    let minus = word (mark Minus) p (drawn Minus) in
    cond_both (is_digit (class_of next)) (numbered p 1 (45 ∷ bs)) (cond (eqb next 62) arrow minus) (Stands p (45 ∷ bs))
    (λ t. stands-negative p bs (sym (is-digit next) ∙ t))
    (λ t. cond_both (eqb next 62) arrow minus (Stands p (45 ∷ bs))
    (λ u. (refl, λ e. let z : ◌≡◌ {A = ℕ} 0 1 = cc in absurd (omega arith)))
    (λ u. (refl, λ e. (heads digit bs (sym (is-digit next) ∙ t), heads (λ b. eqb b 62) bs u))))

-- each byte of the class of marks is one
is-marked : (b : ℕ) → single b ≡ true → is_some (mark_of b) ≡ true
is-marked b h =
    let small : b < 94 = grind (arith, nat_tests) in
    ap (λ x. not x || is_some (mark_of b)) (sym h) ∙ passes_at (λ n. not (single n) || is_some (mark_of n)) 94 b refl small

stands-marked : (p b : ℕ) (bs : List ℕ) (o : Option Mark) → mark_of b ≡ o → single b ≡ true → Stands p (b ∷ bs) (marked p o)
stands-marked p b bs None e h = let m = is-marked b h in let z : ◌≡◌ {A = ℕ} 0 1 = cc in absurd (omega arith)
stands-marked p b bs (Some m) e h = (
  refl,
  λ f.
      let s = spells drawn marks (b ∷ []) m e in
      let d : drawn m ≡ 45 ∷ [] = ap drawn f in
      let q : b ≡ 45 = cc in
      absurd (both_ways (single b) (ap single q) h),
)

no-dash : (b : ℕ) → digit b ≡ true → eqb b 45 ≡ false
no-dash b h = grind (arith, nat_tests)

pub stands : (p : ℕ) (bs : List ℕ) → gap false bs ≡ 0 → Stands p bs (first p bs)
stands p [] z = refl
stands p (b ∷ bs) z =
    let xs : List ℕ = b ∷ bs in
    let c = class_of b in
    let (not-blank, not-percent) = gap-begins b bs z in
    let signed = cond (is_class Sign c) (marked p (mark_of b)) (fault 2 p) in
    let dashes = cond (is_class Dash c) (dashed p xs) signed in
    let digits = cond (is_digit c) (numbered p 0 xs) dashes in
    cond_both (is_letter c) (named p (take (name_run xs) xs)) digits (Stands p xs) (λ l. stands-named p b bs (sym (is-letter b) ∙ l))
    (λ l. cond_both (is_digit c) (numbered p 0 xs) dashes (Stands p xs)
    (λ d. stands-digits p b bs (sym (is-digit b) ∙ d) (no-dash b (sym (is-digit b) ∙ d)))
    (λ d. cond_both (is_class Dash c) (dashed p xs) signed (Stands p xs)
    (λ h. subst (λ x. Stands p (x ∷ bs) (dashed p (x ∷ bs))) (sym (eqb-true b 45 (sym (is-dash b) ∙ h))) (stands-dashed p bs))
    (λ h. cond_both (is_class Sign c) (marked p (mark_of b)) (fault 2 p) (Stands p xs)
    (λ m. stands-marked p b bs (mark_of b) refl (sym (is-mark b) ∙ m))
    (λ m. stray refl refl (omega arith)
    (or_from _ _ (or_from _ _ (or_from _ _ (or_from _ _ (or_from _ _ not-blank not-percent) (sym (is-letter b) ∙ l))
    (sym (is-digit b) ∙ d)) (sym (is-dash b) ∙ h)) (sym (is-mark b) ∙ m))))))
