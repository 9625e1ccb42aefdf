-- A number that is read is not too large. Assumes nothing.
use Rattle.std.proofs.Common.{◌≡◌, ℕ, zero, suc, ◌+◌, false, cond, eqb, leb, List, [], ◌∷◌, length, get_or, take, drop, Some, None, Option, refl, ap, ◌∙◌, zero-add, one-add, arith}
use Rattle.std.proofs.lemmas.Bool.{cond_both, cond-true, cond-false, leb-true, eq-eqb}
use Rattle.std.proofs.lemmas.Bool.Decides.{nat_tests}
use Rattle.words.specs.declared.classes.Class.{Class}
use Rattle.words.specs.declared.classes.Class.TheVariants.{None as Neither, Blank, Percent, Letter, Digit, Dash, Query, Mark as Sign}
use Rattle.words.specs.declared.keywords.Keyword.{Keyword}
use Rattle.words.specs.declared.marks.Mark.{Mark}
use Rattle.words.specs.declared.marks.Mark.TheVariants.{Arrow, Minus}
use Rattle.words.specs.Classes.{class_of}
use Rattle.words.specs.Spelling.{mark_of, drawn, keyword_of}
use Rattle.words.specs.Words.{name_run, digit_run, is_digit, is_letter, value, largest, name_kind, named, figured, numbered, marked, begins}
use Rattle.words.specs.Words.{first, size_of, Small}
use Rattle.words.specs.Words.Kind.{number, mark}
use Rattle.words.specs.Words.Reading.{word, fault}
use Rattle.words.proofs.Parts.{dash-is}

digit-is : (b : ℕ) → class_of b ≡ Digit → eqb b 45 ≡ false
digit-is b e = grind (arith, nat_tests)

pub plain : (n b : ℕ) (bs : List ℕ) → eqb b 45 ≡ false → size_of (take n (b ∷ bs)) ≡ value (take n (b ∷ bs))
plain zero b bs e = refl
plain (suc n) b bs e = cond-false _ _ _ e

pub negative : (n b : ℕ) (bs : List ℕ) → b ≡ 45 → size_of (take (1 + n) (b ∷ bs)) ≡ value (take n bs)
negative n b bs e = rw one-add (cond-true _ _ _ (eq-eqb b 45 e))

figured-small : (p s n : ℕ) (xs : List ℕ) → size_of (take (s + n) xs) ≡ value (take n (drop s xs)) → Small (figured p s n xs)
figured-small p s n xs e =
    let few = leb (value (take n (drop s xs))) largest in
    let read = word number p (take (s + n) xs) in
    cond_both (is_letter (class_of (get_or xs (s + n) 0))) (fault 2 (p + (s + n))) (cond few read (fault 4 p)) Small (λ t. tt)
    (λ t. cond_both few read (fault 4 p) Small (λ u. omega (arith, e, leb-true (value (take n (drop s xs))) largest u)) (λ u. tt))

kind-small : (p : ℕ) (w : List ℕ) (o : Option Keyword) → Small (word (name_kind o) p w)
kind-small p w None = tt
kind-small p w (Some k) = tt

named_small : (p : ℕ) (w : List ℕ) → Small (named p w)
named_small p w = cond_both (leb (length w) 16) (word (name_kind (keyword_of w)) p w) (fault 3 p) Small
    (λ t. kind-small p w (keyword_of w)) (λ t. tt)

marked-small : (p : ℕ) (o : Option Mark) → Small (marked p o)
marked-small p None = tt
marked-small p (Some m) = tt

begins-small : (k : Class) (p b : ℕ) (bs : List ℕ) → class_of b ≡ k → Small (begins k p (b ∷ bs))
begins-small Letter p b bs e = named_small p (take (name_run (b ∷ bs)) (b ∷ bs))
begins-small Digit p b bs e =
    let n = digit_run (b ∷ bs) in
    figured-small p 0 n (b ∷ bs) (ap (λ m. size_of (take m (b ∷ bs))) (zero-add n) ∙ plain n b bs (digit-is b e))
begins-small Dash p b bs e =
    let arrow = word (mark Arrow) p (drawn Arrow) in
    let minus = word (mark Minus) p (drawn Minus) in
    let next = get_or bs 0 0 in
    cond_both (is_digit (class_of next)) (numbered p 1 (b ∷ bs)) (cond (eqb next 62) arrow minus) Small
    (λ t. figured-small p 1 (digit_run bs) (b ∷ bs) (negative (digit_run bs) b bs (dash-is b e)))
    (λ t. cond_both (eqb next 62) arrow minus Small (λ u. tt) (λ u. tt))
begins-small Sign p b bs e = marked-small p (mark_of b)
begins-small Query p b bs e = tt
begins-small Blank p b bs e = tt
begins-small Percent p b bs e = tt
begins-small Neither p b bs e = tt

pub small : (p : ℕ) (bs : List ℕ) → Small (first p bs)
small p [] = tt
small p (b ∷ bs) = begins-small (class_of b) p b bs refl
