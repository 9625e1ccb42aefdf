-- A table that passes the test of all 256 byte values keeps the rule at each. Assumes nothing.
use Rattle.std.proofs.Common.{◌≡◌, ℕ, zero, suc, ◌<◌, Bool, true, cond, eqb, List, sym, refl, ap, ◌∙◌, ⊎_elim, arith}
use Rattle.std.proofs.lemmas.Bool.{and_parts, cases_eq, eqb-true}
use Rattle.words.specs.Classes.{class_of, rank, is_class, passes, entry, keeps_rule}
use Rattle.words.specs.declared.classes.Class.{Class}
use Rattle.words.specs.declared.classes.Class.TheVariants.{None as N, Blank as B, Percent as P, Letter as L, Digit as D, Dash as H}
use Rattle.words.specs.declared.classes.Class.TheVariants.{Query as Q, Mark as M}

pub passes_at : (f : ℕ → Bool) (n k : ℕ) → passes f n ≡ true → k < n → f k ≡ true
passes_at f zero k h below = absurd (omega arith)
passes_at f (suc n) k h below =
    let (here, before) = and_parts (f n) (passes f n) h in
    ⊎_elim (λ (same : k ≡ n). rw same here) (λ (apart : k ≡ n → ⊥). passes_at f n k before (omega (arith, apart))) (cases_eq k n)

of_rank : ℕ → Class
of_rank n =
    cond (eqb n 0) N (cond (eqb n 1) B (cond (eqb n 2) P (cond (eqb n 3) L (cond (eqb n 4) D (cond (eqb n 5) H (cond (eqb n 6) Q M))))))

ranked : (k : Class) → of_rank (rank k) ≡ k
unfolding of_rank
ranked N = refl
ranked B = refl
ranked P = refl
ranked L = refl
ranked D = refl
ranked H = refl
ranked Q = refl
ranked M = refl

pub is-class : (k c : Class) → is_class k c ≡ true → k ≡ c
is-class k c h = sym (ranked k) ∙ ap of_rank (eqb-true (rank k) (rank c) h) ∙ ranked c

pub rule : (rows : List (List Class)) → keeps_rule rows ≡ true → (b : ℕ) → b < 256 → entry rows b ≡ class_of b
rule rows h b small = is-class (entry rows b) (class_of b) (passes_at (λ n. is_class (entry rows n) (class_of n)) 256 b h small)
