-- What the class of a byte says of the byte. Assumes nothing.
use Rattle.std.proofs.Common.{◌≡◌, ℕ, Bool, true, false, eqb, sym, refl, ap, ◌∙◌, arith}
use Rattle.std.proofs.lemmas.Bool.Decides.{nat_tests}
use Rattle.words.specs.declared.classes.Class.{Class}
use Rattle.words.specs.declared.classes.Class.TheVariants.{None, Blank, Percent, Letter, Digit, Dash, Query, Mark}
use Rattle.words.specs.Classes.{blank, letter, digit, mark, class_of, is_class}
use Rattle.words.proofs.Table.{is-class}

-- two tests that pass together are the same
pub same_test : (x y : Bool) → (x ≡ true → y ≡ true) → (y ≡ true → x ≡ true) → x ≡ y
same_test true y f g = sym (f refl)
same_test false true f g = g refl
same_test false false f g = refl

-- a class is told by a test where each gives the other
told : (k c : Class) (y : Bool) → (c ≡ k → y ≡ true) → (y ≡ true → c ≡ k) → is_class k c ≡ y
told k c y f g = same_test (is_class k c) y (λ h. f (sym (is-class k c h))) (λ h. ap (is_class k) (g h) ∙ itself k)
  where
    itself : (k : Class) → is_class k k ≡ true
    itself None = refl
    itself Blank = refl
    itself Percent = refl
    itself Letter = refl
    itself Digit = refl
    itself Dash = refl
    itself Query = refl
    itself Mark = refl

module _ (b : ℕ) where
  pub is-blank : is_class Blank (class_of b) ≡ blank b
  is-blank = told Blank (class_of b) (blank b) (λ e. grind (arith, nat_tests)) (λ e. grind (arith, nat_tests))

  pub is-percent : is_class Percent (class_of b) ≡ eqb b 37
  is-percent = told Percent (class_of b) (eqb b 37) (λ e. grind (arith, nat_tests)) (λ e. grind (arith, nat_tests))

  pub is-letter : is_class Letter (class_of b) ≡ letter b
  is-letter = told Letter (class_of b) (letter b) (λ e. grind (arith, nat_tests)) (λ e. grind (arith, nat_tests))

  pub is-digit : is_class Digit (class_of b) ≡ digit b
  is-digit = told Digit (class_of b) (digit b) (λ e. grind (arith, nat_tests)) (λ e. grind (arith, nat_tests))

  pub is-dash : is_class Dash (class_of b) ≡ eqb b 45
  is-dash = told Dash (class_of b) (eqb b 45) (λ e. grind (arith, nat_tests)) (λ e. grind (arith, nat_tests))

  pub is-query : is_class Query (class_of b) ≡ eqb b 63
  is-query = told Query (class_of b) (eqb b 63) (λ e. grind (arith, nat_tests)) (λ e. grind (arith, nat_tests))

  pub is-mark : is_class Mark (class_of b) ≡ mark b
  is-mark = told Mark (class_of b) (mark b) (λ e. grind (arith, nat_tests)) (λ e. grind (arith, nat_tests))
