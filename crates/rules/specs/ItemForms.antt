-- The check of declarations and definitions, and of a declaration against its definition, form by form.
use Rattle.std.specs.Prelude.{ℕ, Bool, true, false, Some, None, Option}
use Rattle.rules.specs.declared.faults.CheckFault.TheVariants.{Repeated, Missing, Mismatch}
use Rattle.rules.specs.Forms.{Out, want, known, give, ◌>>=◌, ◌>>◌, Keeping, M}

-- How type names are entered, hidden types made, and a body's definitions found: `supplied` gives the type of the first definition that is
-- left with that name and kind (true for a type), and what is left behind it.
pub record ItemKeeping (K : Keeping) : Type 1 where
  pub Left : Type 0
  pub enter_type : (at : ℕ) → K.Scope → K.Name → K.Ty → K.State → Out K.State K.Scope
  pub hide : (at : ℕ) → K.Name → K.Name → K.State → Out K.State K.Ty
  pub supplied : Bool → K.Name → K.Scope → Left → K.State → Option (K.Ty × Left)

-- neither is there
abbrev pub neither : {A B : Type 0} → Option A → Option B → Bool
neither None None = true
neither None (Some b) = false
neither (Some a) o = false

module _ (K : Keeping) (I : ItemKeeping K) where
  -- the name x is no name of this interface or body yet, type or value alike
  abbrev pub fresh_f : K.Name → K.Scope → M K Unit
  fresh_f x g s = want (neither (K.type_named g x s) (K.value_named g x s)) (Repeated (K.at x)) s

  -- `opaque x` in the module m
  abbrev pub opaque_f : (at : ℕ) → K.Name → K.Name → K.Scope → M K K.Scope
  opaque_f at m x g = do
    fresh_f x g
    a ← I.hide at m x
    I.enter_type at g x a

  -- `transparent x = t`, and the definition `type x = t`
  abbrev pub type_is_f : (at : ℕ) → K.Name → (K.Scope → M K K.Ty) → K.Scope → M K K.Scope
  type_is_f at x t g = do
    fresh_f x g
    a ← t g
    I.enter_type at g x a

  -- `x : t`, and the definition `x = t`
  abbrev pub value_is_f : (at : ℕ) → K.Name → (K.Scope → M K K.Ty) → K.Scope → M K K.Scope
  value_is_f at x t g = do
    fresh_f x g
    a ← t g
    K.enter at g x a

  -- the definition of a declared name, behind the one matched before
  abbrev pub supplied_f : Bool → K.Name → K.Scope → I.Left → M K (K.Ty × I.Left)
  supplied_f of_type x body left s = known (I.supplied of_type x body left s) (Missing (K.at x)) s

  -- for an opaque name any definition of a type will do
  abbrev pub match_opaque_f : K.Name → K.Scope → I.Left → M K I.Left
  match_opaque_f x body left = do
    d ← supplied_f true x body left
    give d.1

  -- any other name has to agree with its definition; its type t is read inward
  abbrev pub match_f : Bool → K.Name → (K.Scope → M K K.Ty) → K.Scope → I.Left → M K I.Left
  match_f of_type x t body left = do
    d ← supplied_f of_type x body left
    a ← t body
    want (K.same a d.0) (Mismatch (K.at x))
    give d.1
