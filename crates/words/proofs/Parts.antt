-- A word that is read is a part of the text. Assumes nothing.
use Rattle.std.proofs.Common.{◌≡◌, ℕ, zero, suc, ◌+◌, ◌<◌, ◌≤◌, cond, eqb, leb, List, [], ◌∷◌, length, get_or, take, drop, Some, None, Option, sym, refl, ap, ◌∙◌, subst, arith, length-take}
use Rattle.std.proofs.lemmas.Bool.{cond_both, cond-true, eqb-true}
use Rattle.std.proofs.lemmas.Bool.Decides.{nat_tests}
use Rattle.words.specs.declared.classes.Class.{Class}
use Rattle.words.specs.declared.classes.Class.TheVariants.{None as Neither, Blank, Percent, Letter, Digit, Dash, Query, Mark as Sign}
use Rattle.words.specs.declared.marks.Mark.{Mark}
use Rattle.words.specs.Classes.{class_of}
use Rattle.words.specs.declared.marks.Mark.TheVariants.{Arrow, Minus}
use Rattle.words.specs.declared.tokens.Token.{Token}
use Rattle.words.specs.declared.tokens.Token.TheVariants.{Name, Number, Key, Sign as Signed}
use Rattle.words.specs.Spelling.{mark_of, drawn, marks, keyword_of}
use Rattle.words.specs.Words.{goes, name_run, digit_run, is_digit, is_letter, value, largest, name_kind, named, figured, numbered}
use Rattle.words.specs.Words.{dashed, marked, begins, first, behind, There}
use Rattle.words.specs.Words.Kind.{number, mark}
use Rattle.words.specs.Words.Reading.{word, fault}
use Rattle.words.specs.Shown.{shown_token, width_of}
use Rattle.words.proofs.Spells.{spells}

take-length-take : (n : ℕ) (xs : List ℕ) → take (length (take n xs)) xs ≡ take n xs
take-length-take zero xs = refl
take-length-take (suc n) [] = refl
take-length-take (suc n) (x ∷ xs) = ap (λ l. x ∷ l) (take-length-take n xs)

pub dash-is : (b : ℕ) → class_of b ≡ Dash → b ≡ 45
dash-is b e = grind (arith, nat_tests)

some : (n b : ℕ) (bs : List ℕ) → 0 < n → 0 < length (take n (b ∷ bs))
some n b bs h = omega (arith, length-take n (b ∷ bs))

named-there : (p n b : ℕ) (bs : List ℕ) → 0 < n → There p (b ∷ bs) (named p (take n (b ∷ bs)))
named-there p n b bs h =
    let w = take n (b ∷ bs) in
    cond_both (leb (length w) 16) (word (name_kind (keyword_of w)) p w) (fault 3 p) (There p (b ∷ bs))
    (λ t. (refl, take-length-take n (b ∷ bs), some n b bs h)) (λ t. tt)

figured-there : (p s n b : ℕ) (bs : List ℕ) → 0 < s + n → There p (b ∷ bs) (figured p s n (b ∷ bs))
figured-there p s n b bs h =
    let small = leb (value (take n (drop s (b ∷ bs)))) largest in
    let read = word number p (take (s + n) (b ∷ bs)) in
    cond_both (is_letter (class_of (get_or (b ∷ bs) (s + n) 0))) (fault 2 (p + (s + n))) (cond small read (fault 4 p)) (There p (b ∷ bs))
    (λ t. tt)
    (λ t. cond_both small read (fault 4 p) (There p (b ∷ bs)) (λ u. (refl, take-length-take (s + n) (b ∷ bs), some (s + n) b bs h))
    (λ u. tt))

arrow-there : (b : ℕ) (bs : List ℕ) → b ≡ 45 → get_or bs 0 0 ≡ 62 → take 2 (b ∷ bs) ≡ 45 ∷ 62 ∷ []
arrow-there b [] e f = absurd (omega arith)
arrow-there b (c ∷ bs) e f = cc

dashed-there : (p b : ℕ) (bs : List ℕ) → b ≡ 45 → There p (b ∷ bs) (dashed p (b ∷ bs))
dashed-there p b bs e =
    let arrow = word (mark Arrow) p (drawn Arrow) in
    let minus = word (mark Minus) p (drawn Minus) in
    let next = get_or bs 0 0 in
    cond_both (is_digit (class_of next)) (numbered p 1 (b ∷ bs)) (cond (eqb next 62) arrow minus) (There p (b ∷ bs))
    (λ t. figured-there p 1 (digit_run bs) b bs (omega arith))
    (λ t. cond_both (eqb next 62) arrow minus (There p (b ∷ bs)) (λ u. (refl, arrow-there b bs e (eqb-true _ _ u), omega arith))
    (λ u. (refl, ap (λ x. x ∷ []) e, omega arith)))

marked-there : (p b : ℕ) (bs : List ℕ) (o : Option Mark) → mark_of b ≡ o → There p (b ∷ bs) (marked p o)
marked-there p b bs None e = tt
marked-there p b bs (Some m) e =
    let s = spells drawn marks (b ∷ []) m e in
    (refl, ap (λ l. take (length l) (b ∷ bs)) (sym s) ∙ s, omega (arith, ap length s))

begins-there : (k : Class) (p b : ℕ) (bs : List ℕ) → class_of b ≡ k → There p (b ∷ bs) (begins k p (b ∷ bs))
begins-there Letter p b bs e = named-there p (name_run (b ∷ bs)) b bs
    (omega (arith, cond-true _ (1 + name_run bs) 0 (ap (λ k. goes k bs) e)))
begins-there Digit p b bs e = figured-there p 0 (digit_run (b ∷ bs)) b bs (omega (arith, cond-true _ (1 + digit_run bs) 0 (ap is_digit e)))
begins-there Dash p b bs e = dashed-there p b bs (dash-is b e)
begins-there Sign p b bs e = marked-there p b bs (mark_of b) refl
begins-there Query p b bs e = tt
begins-there Blank p b bs e = tt
begins-there Percent p b bs e = tt
begins-there Neither p b bs e = tt

pub there : (p : ℕ) (bs : List ℕ) → There p bs (first p bs)
there p [] = tt
there p (b ∷ bs) = begins-there (class_of b) p b bs refl

pub fits : (w bs : List ℕ) → take (length w) bs ≡ w → length w ≤ length bs
fits w bs e = omega (arith, length-take (length w) bs, ap length e)

-- a token that stands at p ends behind its width
ends : (p : ℕ) (bs : List ℕ) (t : Token) → There p bs (shown_token t) → (p + width_of t ≡ behind p (shown_token t))
    × (width_of t ≤ length bs) × (0 < width_of t)
ends p bs (Name w) h = (ap (λ q. q + length w.text.now) (sym h.0), fits _ bs h.1, h.2)
ends p bs (Number w) h = (ap (λ q. q + length w.text.now) (sym h.0), fits _ bs h.1, h.2)
ends p bs (Key k w) h = (ap (λ q. q + length w.text.now) (sym h.0), fits _ bs h.1, h.2)
ends p bs (Signed m q) h = (ap (λ q. q + length (drawn m)) (sym h.0), fits _ bs h.1, h.2)

pub ended : (p : ℕ) (bs : List ℕ) (t : Token) → shown_token t ≡ first p bs → (p + width_of t ≡ behind p (first p bs))
    × (width_of t ≤ length bs) × (0 < width_of t)
ended p bs t e =
    let h = ends p bs t (subst (There p bs) (sym e) (there p bs)) in
    (h.0 ∙ ap (behind p) e, h.1, h.2)
