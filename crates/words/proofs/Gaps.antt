-- The bytes before a word are a gap, and a gap is all of the bytes before a word. Assumes nothing.
use Rattle.std.proofs.Common.{◌≡◌, ℕ, suc, ◌+◌, ◌≤◌, Bool, true, false, not, eqb, List, [], ◌∷◌, ◌++◌, length, take, drop, sym, refl, ap, ◌∙◌, subst, ⊎_elim, append_assoc, one-add, arith}
use Rattle.std.proofs.lemmas.List.{length-append}
use Rattle.std.proofs.lemmas.Bool.{cond-true, cond-false, cases_Bool, eqb-true, not-false}
use Rattle.words.specs.Classes.{blank}
use Rattle.words.specs.Words.{gap}
use Rattle.words.specs.Laws.{line_byte, Passes, Gap}
use Rattle.words.specs.Laws.Gap.{none, space, comment, last}
use Rattle.words.proofs.ClassTests.{is-blank, is-percent}

module _ (b : ℕ) (bs : List ℕ) where
  at-blank : blank b ≡ true → gap false (b ∷ bs) ≡ suc (gap false bs)
  at-blank h = cond-true _ (1 + gap false bs) _ (is-blank b ∙ h) ∙ one-add (gap false bs)

  at-percent : blank b ≡ false → eqb b 37 ≡ true → gap false (b ∷ bs) ≡ suc (gap true bs)
  at-percent h e = cond-false _ (1 + gap false bs) _ (is-blank b ∙ h) ∙ cond-true _ (1 + gap true bs) 0 (is-percent b ∙ e)
      ∙ one-add (gap true bs)

  pub at-word : blank b ≡ false → eqb b 37 ≡ false → gap false (b ∷ bs) ≡ 0
  at-word h e = cond-false _ (1 + gap false bs) _ (is-blank b ∙ h) ∙ cond-false _ (1 + gap true bs) 0 (is-percent b ∙ e)

  in-comment : (x : Bool) → not (eqb b 10) ≡ x → gap true (b ∷ bs) ≡ suc (gap x bs)
  in-comment x h = ap (λ y. 1 + gap y bs) h ∙ one-add (gap x bs)

-- a comment with one byte more
longer : (rest : List ℕ) (b : ℕ) (g : List ℕ) → not (eqb b 10) ≡ true → Gap rest (37 ∷ g) → Gap rest (37 ∷ b ∷ g)
longer rest b g h (space c k s r) = let z : ◌≡◌ {A = ℕ} 0 1 = cc in absurd (omega arith)
longer rest b g h (comment c k ps r) = comment (b ∷ c) k (h, ps) r
longer rest b g h (last c ps e) = last (b ∷ c) (h, ps) e

abbrev Before : Bool → List ℕ → List ℕ
Before x bs = take (gap x bs) bs

abbrev After : Bool → List ℕ → List ℕ
After x bs = drop (gap x bs) bs

both : (bs : List ℕ) → Gap (After false bs) (Before false bs) × Gap (After true bs) (37 ∷ Before true bs)
both [] = (none, last [] tt refl)
both (b ∷ bs) =
    let (shut, begun) = both bs in (
      ⊎_elim
          (λ h. rw (at-blank b bs h) (space b (Before false bs) h shut))
          (λ h. ⊎_elim
          (λ e. rw (at-percent b bs h e) (subst (λ c. Gap (After true bs) (c ∷ Before true bs)) (sym (eqb-true b 37 e)) begun))
          (λ e. rw (at-word b bs h e) none)
          (cases_Bool (eqb b 37)))
          (cases_Bool (blank b)),
      ⊎_elim
          (λ h. rw (in-comment b bs true h) (longer (After true bs) b (Before true bs) h begun))
          (λ h. rw (in-comment b bs false h)
          (subst (λ c. Gap (After false bs) (37 ∷ c ∷ Before false bs)) (sym (eqb-true b 10 (not-false (eqb b 10) h)))
          (comment [] (Before false bs) tt shut)))
          (cases_Bool (not (eqb b 10))),
    )

pub gap-sound : (bs : List ℕ) → Gap (drop (gap false bs) bs) (take (gap false bs) bs)
gap-sound bs = (both bs).0

in-line : (c bs : List ℕ) → Passes line_byte c [] → gap true (c ++ bs) ≡ length c + gap true bs
in-line [] bs ps = omega arith
in-line (b ∷ c) bs ps = in-comment b (c ++ bs) true ps.0 ∙ omega (arith, in-line c bs ps.1)

-- a gap before what begins no gap
pub gap_is : (rest g : List ℕ) → Gap rest g → gap false rest ≡ 0 → gap false (g ++ rest) ≡ length g
gap_is rest g none z = z
gap_is rest g (space b k h r) z = at-blank b (k ++ rest) h ∙ ap suc (gap_is rest k r z)
gap_is rest g (comment c k ps r) z =
    let line : gap true ((c ++ (10 ∷ k)) ++ rest) ≡ length c + (1 + gap false (k ++ rest)) =
    ap (gap true) (append_assoc c (10 ∷ k) rest) ∙ in-line c (10 ∷ (k ++ rest)) ps in
    omega (arith, line, gap_is rest k r z, length-append c (10 ∷ k))
gap_is rest g (last c ps e) z = omega (arith, in-line c rest ps, ap (gap true) e)

-- behind a gap no gap begins
pub gap-over : (bs : List ℕ) → gap false (drop (gap false bs) bs) ≡ 0
gap-over bs = (over bs).0
  where
    over : (bs : List ℕ) → (gap false (After false bs) ≡ 0) × (gap false (After true bs) ≡ 0)
    over [] = (refl, refl)
    over (b ∷ bs) =
        let (shut, begun) = over bs in (
          ⊎_elim
              (λ h. rw (at-blank b bs h) shut)
              (λ h. ⊎_elim (λ e. rw (at-percent b bs h e) begun) (λ e. rw (at-word b bs h e) (at-word b bs h e)) (cases_Bool (eqb b 37)))
              (cases_Bool (blank b)),
          ⊎_elim (λ h. rw (in-comment b bs true h) begun) (λ h. rw (in-comment b bs false h) shut) (cases_Bool (not (eqb b 10))),
        )

pub gap-le : (x : Bool) (bs : List ℕ) → gap x bs ≤ length bs
gap-le true [] = omega arith
gap-le false [] = omega arith
gap-le true (b ∷ bs) = omega (arith, gap-le (not (eqb b 10)) bs)
gap-le false (b ∷ bs) =
    ⊎_elim
    (λ h. omega (arith, at-blank b bs h, gap-le false bs))
    (λ h. ⊎_elim (λ e. omega (arith, at-percent b bs h e, gap-le true bs)) (λ e. omega (arith, at-word b bs h e)) (cases_Bool (eqb b 37)))
    (cases_Bool (blank b))

-- a gap begins with a blank or a percent sign
pub gap-begins : (b : ℕ) (bs : List ℕ) → gap false (b ∷ bs) ≡ 0 → (blank b ≡ false) × (eqb b 37 ≡ false)
gap-begins b bs z =
    ⊎_elim
    (λ h. absurd (omega (arith, at-blank b bs h)))
    (λ h. ⊎_elim (λ e. absurd (omega (arith, at-percent b bs h e))) (λ e. (h, e)) (cases_Bool (eqb b 37)))
    (cases_Bool (blank b))
