-- Bytes that are read one by one, and what is found by its spelling. Assumes nothing.
use Rattle.std.proofs.Common.{◌≡◌, ℕ, ◌+◌, List, [], ◌∷◌, length, get_or, drop, Some, sym, ap, ◌∙◌, ⊎_elim, arith}
use Rattle.std.specs.Str.{bytes_eq}
use Rattle.std.proofs.lemmas.List.{drop_more, drop_all}
use Rattle.std.proofs.lemmas.Slice.Eq.{bytes_eq-Decides}
use Rattle.std.proofs.lemmas.Bool.{cond-true, cond-false, cases_Bool}
use Rattle.words.specs.Spelling.{first_spelled}

-- from the place i on, the bytes of w are those of ks
abbrev pub Reads : ℕ → List ℕ → List ℕ → Type 0
Reads i w [] = Unit {0}
Reads i w (k ∷ ks) = (get_or w i 0 ≡ k) × Reads (i + 1) w ks

-- bytes are as they read, where they are as many
pub as-read : (w ks : List ℕ) → length w ≡ length ks → Reads 0 w ks → w ≡ ks
as-read w ks e r = from 0 ks (omega arith) r
  where
    from : (i : ℕ) (ks : List ℕ) → length w ≡ i + length ks → Reads i w ks → drop i w ≡ ks
    from i [] e r = drop_all i w (omega arith)
    from i (k ∷ ks) e r =
        let first : drop i w ≡ get_or w i 0 ∷ drop (i + 1) w = drop_more w i 0 (omega arith) in
        let rest : drop (i + 1) w ≡ ks = from (i + 1) ks (omega arith) r.1 in
        cc

-- what is found is spelled so
pub spells : {A : Type 0} (f : A → List ℕ) (ks : List A) (w : List ℕ) (k : A) → first_spelled f ks w ≡ Some k → w ≡ f k
spells f [] w k e = let z : ◌≡◌ {A = ℕ} 0 1 = cc in absurd (omega arith)
spells f (x ∷ ks) w k e =
    ⊎_elim
    (λ t. let found : x ≡ k = cc (cond-true (bytes_eq w (f x)) (Some x) (first_spelled f ks w) t) in (bytes_eq-Decides w (f x)).0 t
    ∙ ap f found)
    (λ t. spells f ks w k (sym (cond-false (bytes_eq w (f x)) (Some x) (first_spelled f ks w) t) ∙ e))
    (cases_Bool (bytes_eq w (f x)))
