-- How far a run goes, and that it is the longest. Assumes nothing.
use Rattle.std.proofs.Common.{◌≡◌, ℕ, suc, ◌+◌, ◌≤◌, true, false, cond, List, [], ◌∷◌, ◌++◌, length, take, drop, sym, refl, ap, ◌∙◌, subst, ⊎_elim, one-add, arith}
use Rattle.std.proofs.lemmas.List.{take-append-drop}
use Rattle.std.proofs.lemmas.Bool.{cond-true, cond-false, cases_Bool}
use Rattle.words.specs.Classes.{class_of}
use Rattle.words.specs.Words.{goes, name_run, digit_run}
use Rattle.words.specs.Laws.{Test, name_byte, digit_byte, Passes, Stops}
use Rattle.words.proofs.ClassTests.{is-letter, is-digit, is-query, is-dash}

-- f tells how many bytes at the front pass the test t
pub record Counts (t : Test) (f : List ℕ → ℕ) : Type 0 where
  pub none : f [] ≡ 0
  pub more : (b : ℕ) (bs : List ℕ) → f (b ∷ bs) ≡ cond (t b bs) (1 + f bs) 0

module _ {t : Test} {f : List ℕ → ℕ} (counts : Counts t f) where
  pub passed : (b : ℕ) (bs : List ℕ) → t b bs ≡ true → f (b ∷ bs) ≡ suc (f bs)
  passed b bs h = counts.more b bs ∙ cond-true (t b bs) (1 + f bs) 0 h ∙ one-add (f bs)

  stopped : (b : ℕ) (bs : List ℕ) → t b bs ≡ false → f (b ∷ bs) ≡ 0
  stopped b bs h = counts.more b bs ∙ cond-false (t b bs) (1 + f bs) 0 h

  pub run-le : (bs : List ℕ) → f bs ≤ length bs
  run-le [] = omega (arith, counts.none)
  run-le (b ∷ bs) = ⊎_elim (λ h. omega (arith, passed b bs h, run-le bs)) (λ h. omega (arith, stopped b bs h)) (cases_Bool (t b bs))

  pub run-passes : (bs : List ℕ) → Passes t (take (f bs) bs) (drop (f bs) bs)
  run-passes [] = rw counts.none tt
  run-passes (b ∷ bs) =
      ⊎_elim
      (λ h. rw (passed b bs h) (subst (λ l. t b l ≡ true) (sym (take-append-drop (f bs) bs)) h, run-passes bs))
      (λ h. rw (stopped b bs h) tt)
      (cases_Bool (t b bs))

  pub run-stops : (bs : List ℕ) → Stops t (drop (f bs) bs)
  run-stops [] = rw counts.none tt
  run-stops (b ∷ bs) = ⊎_elim (λ h. rw (passed b bs h) (run-stops bs)) (λ h. rw (stopped b bs h) h) (cases_Bool (t b bs))

  pub run_is : (w rest : List ℕ) → Passes t w rest → Stops t rest → f (w ++ rest) ≡ length w
  run_is [] [] h s = counts.none
  run_is [] (b ∷ bs) h s = stopped b bs s
  run_is (b ∷ w) rest h s = passed b (w ++ rest) h.0 ∙ ap suc (run_is w rest h.1 s)

pub name-byte : (b : ℕ) (bs : List ℕ) → goes (class_of b) bs ≡ name_byte b bs
name-byte b bs = rw (is-letter b, is-digit b, is-query b, is-dash b)

pub name-counts : Counts name_byte name_run
name-counts = record { none = refl; more = λ b bs. ap (λ x. cond x (1 + name_run bs) 0) (name-byte b bs) }

pub digit-counts : Counts digit_byte digit_run
digit-counts = record { none = refl; more = λ b bs. ap (λ x. cond x (1 + digit_run bs) 0) (is-digit b) }
