-- The check, form by form: first the types of all parts, then what is wanted of them, each in the order of the text. How types are told and how names are kept is left
-- open (`Keeping`): the rules tell a type by itself and a name by its bytes, the tables tell a type by its number and a name by its span.
use Rattle.std.specs.Prelude.{ℕ, Bool, true, false, Some, None, Option}
use Rattle.rules.specs.declared.faults.CheckFault.{CheckFault}
use Rattle.rules.specs.declared.faults.CheckFault.TheVariants.{UnknownValue, UnknownType, Unwanted, NoArrow}

-- the outcome of a check in a state S: a refusal, or an answer and the state after it
pub data Out (S A : Type 0) : Type 0 where
  bad : CheckFault → Out S A
  good : A → S → Out S A

-- what follows an outcome; a refusal stays
abbrev pub after : {S A B : Type 0} → Out S A → (A → S → Out S B) → Out S B
after (bad f) k = bad f
after (good a s) k = k a s

-- one check, then the next on its answer
infixl 10 ◌>>=◌
abbrev pub ◌>>=◌ : {S A B : Type 0} → (S → Out S A) → (A → S → Out S B) → S → Out S B
◌>>=◌ m k s = after (m s) k

-- one check, then the next
infixl 10 ◌>>◌
abbrev pub ◌>>◌ : {S A B : Type 0} → (S → Out S A) → (S → Out S B) → S → Out S B
◌>>◌ m k s = after (m s) (λ _. k)

-- an answer that needs no check
abbrev pub give : {S A : Type 0} → A → S → Out S A
give a s = good a s

-- the test holds, or the check refuses
abbrev pub want : {S : Type 0} → Bool → CheckFault → S → Out S Unit
want true f s = good tt s
want false f s = bad f

-- what was found, or the check refuses
abbrev pub known : {S A : Type 0} → Option A → CheckFault → S → Out S A
known None f s = bad f
known (Some a) f s = good a s

-- How types and names are kept: a type is told by a `Ty`, a name by a `Name` that stands at a place; a `Scope` is what is in scope, a
-- `State` has the types so far.
pub record Keeping : Type 1 where
  pub Name : Type 0
  pub at : Name → ℕ
  pub Ty : Type 0
  pub Scope : Type 0
  pub State : Type 0
  pub int : Ty
  pub bool : Ty
  pub same : Ty → Ty → Bool
  pub sides : Ty → State → Option (Ty × Ty)
  pub arrow : (at : ℕ) → Ty → Ty → State → Out State Ty
  pub type_named : Scope → Name → State → Option Ty
  pub value_named : Scope → Name → State → Option Ty
  pub type_taken : Scope → Name → Name → State → Option Ty
  pub value_taken : Scope → Name → Name → State → Option Ty
  pub enter : (at : ℕ) → Scope → Name → Ty → State → Out State Scope

module _ (K : Keeping) where
  -- a check that gives an A
  abbrev pub M : Type 0 → Type 0
  M A = K.State → Out K.State A

  -- a type name
  abbrev pub named_t : K.Name → K.Scope → M K.Ty
  named_t x g s = known (K.type_named g x s) (UnknownType (K.at x)) s

  -- `from m take t`, a type
  abbrev pub qualified_t : (at : ℕ) → K.Name → K.Name → K.Scope → M K.Ty
  qualified_t at m t g s = known (K.type_taken g m t s) (UnknownType at) s

  -- a written arrow
  abbrev pub arrow_t : (at : ℕ) → M K.Ty → M K.Ty → M K.Ty
  arrow_t at from to = do
    a ← from
    b ← to
    K.arrow at a b

  -- a name
  abbrev pub variable_f : K.Name → K.Scope → M K.Ty
  variable_f x g s = known (K.value_named g x s) (UnknownValue (K.at x)) s

  -- `from m take x`
  abbrev pub qualified_f : (at : ℕ) → K.Name → K.Name → K.Scope → M K.Ty
  qualified_f at m x g s = known (K.value_taken g m x s) (UnknownValue at) s

  -- `zero?(p)`; p stands at `pat`
  abbrev pub is_zero_f : M K.Ty → (pat : ℕ) → M K.Ty
  is_zero_f p pat = do
    a ← p
    want (K.same a K.int) (Unwanted pat)
    give K.bool

  -- an operation on a pair, which gives the type c
  abbrev pub binary_f : (c : K.Ty) → M K.Ty → (pat : ℕ) → M K.Ty → (qat : ℕ) → M K.Ty
  binary_f c p pat q qat = do
    a ← p
    b ← q
    want (K.same a K.int) (Unwanted pat)
    want (K.same b K.int) (Unwanted qat)
    give c

  -- `(p q)`
  abbrev pub apply_f : M K.Ty → (pat : ℕ) → M K.Ty → (qat : ℕ) → M K.Ty
  apply_f p pat q qat = do
    f ← p
    a ← q
    ft ← λ s. known (K.sides f s) (NoArrow pat) s
    want (K.same a ft.0) (Unwanted qat)
    give ft.1

  -- `proc (x : t) p`
  abbrev pub proc_f : (at : ℕ) → K.Name → (K.Scope → M K.Ty) → (K.Scope → M K.Ty) → K.Scope → M K.Ty
  proc_f at x t p g = do
    a ← t g
    inner ← K.enter at g x a
    b ← p inner
    K.arrow at a b

  -- `let x = p in q`
  abbrev pub let_f : (at : ℕ) → K.Name → (K.Scope → M K.Ty) → (K.Scope → M K.Ty) → K.Scope → M K.Ty
  let_f at x p q g = do
    a ← p g
    inner ← K.enter at g x a
    q inner

  -- `if p then q else r`
  abbrev pub conditional_f : M K.Ty → (pat : ℕ) → M K.Ty → M K.Ty → (rat : ℕ) → M K.Ty
  conditional_f p pat q r rat = do
    a ← p
    b ← q
    c ← r
    want (K.same a K.bool) (Unwanted pat)
    want (K.same c b) (Unwanted rat)
    give b

  -- the body p of a `letrec`, with its parameter x at the type a: it has to have the type b
  abbrev pub body_f : (at : ℕ) → K.Name → K.Ty → K.Ty → (K.Scope → M K.Ty) → (pat : ℕ) → K.Scope → M Unit
  body_f at x a b p pat g = do
    inner ← K.enter at g x a
    c ← p inner
    want (K.same c b) (Unwanted pat)

  -- `letrec u f (x : t) = p in q`
  abbrev pub letrec_f : (at : ℕ) → K.Name → K.Name → (K.Scope → M K.Ty) → (K.Scope → M K.Ty) → (K.Scope → M K.Ty) →
      (pat : ℕ) → (K.Scope → M K.Ty) → K.Scope → M K.Ty
  letrec_f at f x u t p pat q g = do
    b ← u g
    a ← t g
    ab ← K.arrow at a b
    outer ← K.enter at g f ab
    body_f at x a b p pat outer
    q outer
