-- Two ways in which a number is read. Assumes nothing.
use Rattle.std.proofs.Common.{◌≡◌, ℕ, ◌+◌, Bool, true, false, cond, eqb, leb, List, get_or, take, drop, pos, neg_ℤ, Some, None, Option, sym, refl, ap, ◌∙◌, arith}
use Rattle.std.proofs.lemmas.Bool.{cond-true, cond-false}
use Rattle.words.specs.Classes.{class_of}
use Rattle.words.specs.Words.{digit_run, is_letter, value, largest, figured, numbered, size_within, figure_within}
use Rattle.words.specs.Words.Kind.{number}
use Rattle.words.specs.Words.Reading.{word, fault}

module _ (p s n : ℕ) (bs : List ℕ) (run : n ≡ digit_run (drop s bs)) where
  pub large : is_letter (class_of (get_or bs (s + n) 0)) ≡ false → leb (value (take n (drop s bs))) largest ≡ false
      → fault 4 p ≡ numbered p s bs
  large l v = sym (cond-false _ _ _ l ∙ cond-false _ _ _ v) ∙ ap (λ k. figured p s k bs) run

  pub small : is_letter (class_of (get_or bs (s + n) 0)) ≡ false → leb (value (take n (drop s bs))) largest ≡ true
      → word number p (take (s + n) bs) ≡ numbered p s bs
  small l v = sym (cond-false _ _ _ l ∙ cond-true _ _ _ v) ∙ ap (λ k. figured p s k bs) run

-- what is told of digits that are within the limit, and of others
module _ (w : List ℕ) where
  within : (b : Bool) (n : ℕ) → leb (value w) largest ≡ b → Some n ≡ cond b (Some (value w)) None → (leb (value w) largest ≡ true)
      × (n ≡ value w)
  within true n q e = (q, cc)
  within false n q e = let z : ◌≡◌ {A = ℕ} 0 1 = cc in absurd (omega arith)

  beyond : (b : Bool) → leb (value w) largest ≡ b → ◌≡◌ {A = Option ℕ} None (cond b (Some (value w)) None) → leb (value w) largest ≡ false
  beyond true q e = let z : ◌≡◌ {A = ℕ} 0 1 = cc in absurd (omega arith)
  beyond false q e = q

  pub some-within : (n : ℕ) → Some n ≡ size_within w → (leb (value w) largest ≡ true) × (n ≡ value w)
  some-within n e = within (leb (value w) largest) n refl e

  pub none_within : None ≡ size_within w → leb (value w) largest ≡ false
  none_within e = beyond (leb (value w) largest) refl e

-- the number of some bytes, by whether a dash stands in front
by_sign : (w : List ℕ) (t : Bool) → eqb (get_or w 0 0) 45 ≡ t
    → figure_within w ≡ cond (leb (cond t (value (drop 1 w)) (value w)) largest)
    (Some (cond t (neg_ℤ (pos (value (drop 1 w)))) (pos (value w)))) None
by_sign w t e =
    ap (λ s. cond (leb (cond s (value (drop 1 w)) (value w)) largest)
    (Some (cond s (neg_ℤ (pos (value (drop 1 w)))) (pos (value w)))) None) e

pub unsigned : (w : List ℕ) → eqb (get_or w 0 0) 45 ≡ false → figure_within w ≡ cond (leb (value w) largest) (Some (pos (value w))) None
unsigned w h = by_sign w false h
