-- A part of the tree: it stands within the table, at a node of its kind, and what it means goes by that node.
use Rattle.std.proofs.Common.{◌≡◌, ℕ, zero, suc, ◌-◌, ◌<◌, true, List, length, get_or, is_some, Some, Option, refl, subst, ⊎_elim, arith}
use Rattle.std.proofs.lemmas.Option.{slice_get_past, slice_get-get_or}
use Rattle.std.proofs.lemmas.Bool.{cases_lt, false≢true}
use Rattle.grammar.specs.declared.tree.TypeNode.{TypeNode}
use Rattle.grammar.specs.declared.tree.ExpNode.{ExpNode}
use Rattle.grammar.specs.declared.tree.Node.{Node}
use Rattle.grammar.specs.declared.tree.Node.TheVariants as node
use Rattle.grammar.specs.Syntax.{WrittenType, Exp}
use Rattle.grammar.specs.Table.{type_in, type_at, exp_in, exp_at}
use Rattle.typing.specs.declared.types.Given.{Given}
use Rattle.typing.specs.Tables.{form_t, on_type, expand_n, form_e, on_exp, type_n}

module _ (text : List ℕ) (ns : List Node) where
  pub type-deep : (l i : ℕ) → is_some (type_at l text ns i) ≡ true → 0 < l
  unfolding type_at
  type-deep zero i h = absurd (false≢true h)
  type-deep (suc l) i h = omega arith

  pub type-inside : (l i : ℕ) → is_some (type_at l text ns i) ≡ true → i < length ns
  unfolding type_at
  type-inside zero i h = absurd (false≢true h)
  type-inside (suc l) i h = ⊎_elim (λ k. k) (λ k. absurd (false≢true (rw (slice_get_past ns i k) at h))) (cases_lt i (length ns))

  pub type-step : (l i : ℕ) (d : Node) → 0 < l → i < length ns → type_at l text ns i ≡ type_in text (type_at (l - 1) text ns) (get_or ns i d)
  unfolding type_at
  type-step zero i d p h = absurd (omega arith)
  type-step (suc l) i d p h =
      let m : suc l - 1 ≡ l = omega arith in
      rw (slice_get-get_or ns i d h, m)

  pub exp-deep : (l i : ℕ) → is_some (exp_at l text ns i) ≡ true → 0 < l
  unfolding exp_at
  exp-deep zero i h = absurd (false≢true h)
  exp-deep (suc l) i h = omega arith

  pub exp-inside : (l i : ℕ) → is_some (exp_at l text ns i) ≡ true → i < length ns
  unfolding exp_at
  exp-inside zero i h = absurd (false≢true h)
  exp-inside (suc l) i h = ⊎_elim (λ k. k) (λ k. absurd (false≢true (rw (slice_get_past ns i k) at h))) (cases_lt i (length ns))

  pub exp-step : (l i : ℕ) (d : Node) → 0 < l → i < length ns →
      exp_at l text ns i ≡ exp_in text (type_at (l - 1) text ns) (exp_at (l - 1) text ns) (get_or ns i d)
  unfolding exp_at
  exp-step zero i d p h = absurd (omega arith)
  exp-step (suc l) i d p h =
      let m : suc l - 1 ≡ l = omega arith in
      rw (slice_get-get_or ns i d h, m)

  -- the node there is a type's, or an expression's
  type-in : (part : ℕ → Option WrittenType) (x : Node) → is_some (type_in text part x) ≡ true → ((n : TypeNode) → x ≡ node.«Type» n → ⊥) → ⊥
  type-in part node.Blank h no' = absurd (false≢true h)
  type-in part (node.«Type» n) h no' = no' n refl
  type-in part (node.Expression n) h no' = absurd (false≢true h)
  type-in part (node.Item n) h no' = absurd (false≢true h)

  pub is-type : (l i : ℕ) (d : Node) → is_some (type_at l text ns i) ≡ true → ((n : TypeNode) → get_or ns i d ≡ node.«Type» n → ⊥) → ⊥
  is-type l i d h no' =
      type-in (type_at (l - 1) text ns) (get_or ns i d)
      (subst (λ (o : Option WrittenType). is_some o ≡ true) (type-step l i d (type-deep l i h) (type-inside l i h)) h) no'

  exp-in : (type : ℕ → Option WrittenType) (part : ℕ → Option Exp) (x : Node) → is_some (exp_in text type part x) ≡ true →
      ((n : ExpNode) → x ≡ node.Expression n → ⊥) → ⊥
  exp-in type part node.Blank h no' = absurd (false≢true h)
  exp-in type part (node.«Type» n) h no' = absurd (false≢true h)
  exp-in type part (node.Expression n) h no' = no' n refl
  exp-in type part (node.Item n) h no' = absurd (false≢true h)

  pub is-expression : (l i : ℕ) (d : Node) → is_some (exp_at l text ns i) ≡ true → ((n : ExpNode) → get_or ns i d ≡ node.Expression n → ⊥) → ⊥
  is-expression l i d h no' =
      exp-in (type_at (l - 1) text ns) (exp_at (l - 1) text ns) (get_or ns i d)
      (subst (λ (o : Option Exp). is_some o ≡ true) (exp-step l i d (exp-deep l i h) (exp-inside l i h)) h) no'

pub expand-step : (w : Given) (l i : ℕ) (d : Node) → 0 < l → i < length w.tree.now →
    expand_n w l i ≡ on_type (form_t w (expand_n w (l - 1))) (Some (get_or w.tree.now i d))
unfolding expand_n
expand-step w zero i d p h = absurd (omega arith)
expand-step w (suc l) i d p h =
    let m : suc l - 1 ≡ l = omega arith in
    rw (slice_get-get_or w.tree.now i d h, m)

pub typing-step : (w : Given) (l i : ℕ) (d : Node) → 0 < l → i < length w.tree.now →
    type_n w l i ≡ on_exp (form_e w (expand_n w (l - 1)) (type_n w (l - 1))) (Some (get_or w.tree.now i d))
unfolding type_n
typing-step w zero i d p h = absurd (omega arith)
typing-step w (suc l) i d p h =
    let m : suc l - 1 ≡ l = omega arith in
    rw (slice_get-get_or w.tree.now i d h, m)
