-- The search for a definition, one place on.
use Rattle.std.proofs.Common.{◌≡◌, ℕ, suc, ◌+◌, ◌<◌, ◌≤◌, min, Bool, true, false, List, ◌∷◌, length, get_or, take, drop, Some, None, Option, cond, refl, sym, ap, ◌∙◌, add-one, length-take, drop-cons, get_or-take, arith}
use Rattle.std.proofs.lemmas.List.{drop_all}
use Rattle.typing.specs.declared.types.Slot.{Slot}
use Rattle.checker.specs.Items.{defines, or_else, number_at, definition}

-- what is found at a place that defines the name, and at one that does not
named : (b : Bool) (m n k : ℕ) (o : Option (ℕ × ℕ)) → cond b (Some m) None ≡ Some n → or_else b (m, k) o ≡ Some (n, k)
named true m n k o e = cc
named false m n k o e = let z : ◌≡◌ {A = ℕ} 0 1 = cc in absurd (omega arith)

unnamed : (b : Bool) (m k : ℕ) (o : Option (ℕ × ℕ)) → cond b (Some m) None ≡ None → or_else b (m, k) o ≡ o
unnamed true m k o e = let z : ◌≡◌ {A = ℕ} 0 1 = cc in absurd (omega arith)
unnamed false m k o e = refl

module _ (text : List ℕ) (of_type : Bool) (x : List ℕ) (ss : List Slot) (used k : ℕ) where
  -- the slot d, which was read at the place i
  module _ (d : Slot) (i : ℕ) (at : i ≡ k) (u : k < used) (h : i < length ss) (e : d ≡ get_or ss i d) where
    cons : drop k (take used ss) ≡ d ∷ drop (k + 1) (take used ss)
    cons =
        let l : k < length (take used ss) = simp length-take (omega arith) in
        let here : get_or ss k d ≡ d = ap (λ (j : ℕ). get_or ss j d) (sym at) ∙ sym e in
        rw (add-one k) (drop-cons (take used ss) k d l ∙ ap (λ (s : Slot). s ∷ drop (suc k) (take used ss)) (get_or-take used ss k d u ∙ here))

    pub def-here : (n : ℕ) → cond (defines text of_type x d) (Some (number_at d)) None ≡ Some n → definition text of_type x k (drop k (take used ss)) ≡ Some (n, k + 1)
    def-here n t = ap (λ (l : List Slot). definition text of_type x k l) cons ∙ named (defines text of_type x d) (number_at d) n (k + 1) (definition text of_type x (suc k) (drop (k + 1) (take used ss))) t

    pub def-on : cond (defines text of_type x d) (Some (number_at d)) None ≡ None → definition text of_type x k (drop k (take used ss)) ≡ definition text of_type x (k + 1) (drop (k + 1) (take used ss))
    def-on t = ap (λ (l : List Slot). definition text of_type x k l) cons ∙ (unnamed (defines text of_type x d) (number_at d) (k + 1) (definition text of_type x (suc k) (drop (k + 1) (take used ss))) t ∙ ap (λ (n : ℕ). definition text of_type x n (drop (k + 1) (take used ss))) (sym (add-one k)))

  pub def_none : min used (length ss) ≤ k → definition text of_type x k (drop k (take used ss)) ≡ None
  def_none h = rw (drop_all k (take used ss) (simp length-take h))
