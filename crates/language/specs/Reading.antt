-- Reading hidden types as their own modules define them.
use Rattle.std.specs.Prelude.{◌≡◌, cond, List, [], ◌∷◌, map}
use Rattle.std.proofs.Math.Option.{Option, none, some}
use Rattle.words.specs.Names.{Name, same_name}
use Rattle.language.specs.Names.{Binding, bind, map_binding, lookup}
use Rattle.language.specs.Typing.{ExpandedType, int, bool, hidden, ◌⇒◌, Context, Interface, Environment, Interfaces}

-- what each hidden type is read as
abbrev pub Reading : Type 0
Reading = Name → Name → ExpandedType

-- a type with its hidden types read
abbrev pub reveal : Reading → ExpandedType → ExpandedType
reveal ρ int = int
reveal ρ bool = bool
reveal ρ (hidden m t) = ρ m t
reveal ρ (a ⇒ b) = reveal ρ a ⇒ reveal ρ b

-- the types of a context read
abbrev pub reveal_context : Reading → Context → Context
reveal_context ρ g = map (map_binding (reveal ρ)) g

-- the types of an interface read
abbrev pub reveal_interface : Reading → Interface → Interface
reveal_interface ρ i = record { types = reveal_context ρ i.types; values = reveal_context ρ i.values }

-- the types of all these interfaces read
abbrev pub reveal_modules : Reading → Interfaces → Interfaces
reveal_modules ρ n = map (map_binding (reveal_interface ρ)) n

-- the types of an environment read
abbrev pub reveal_environment : Reading → Environment → Environment
reveal_environment ρ e = record {
  types = reveal_context ρ e.types;
  modules = reveal_modules ρ e.modules;
  stock =
      reveal_context ρ e.stock;
}

-- ρ reads each of these opaque types of m as what the body made of it, with the hidden types in that read as well
abbrev pub RevealsModule : Reading → Name → Context → Type 0
RevealsModule ρ m [] = Unit {0}
RevealsModule ρ m (bind t a ∷ os) = (ρ m t ≡ reveal ρ a) × RevealsModule ρ m os

-- so for the opaque types of all these modules
abbrev pub Reveals : Reading → List (Binding Context) → Type 0
Reveals ρ [] = Unit {0}
Reveals ρ (bind m os ∷ hs) = RevealsModule ρ m os × Reveals ρ hs

-- ── the reading of a sheet ──

-- a type read, where there is one
abbrev pub reveal_or : Reading → Option ExpandedType → ExpandedType → ExpandedType
reveal_or ρ none d = d
reveal_or ρ (some a) d = reveal ρ a

-- ρ, and the opaque types os of module m read too
abbrev pub extend : Reading → Name → Context → Reading
extend ρ m os k t = cond (same_name m k) (reveal_or ρ (lookup os t) (hidden k t)) (ρ k t)

-- so for one module after another
abbrev pub reading_from : Reading → List (Binding Context) → Reading
reading_from ρ [] = ρ
reading_from ρ (bind m os ∷ hs) = reading_from (extend ρ m os) hs

-- the reading of a sheet whose modules have these opaque types; a body can only use those of the modules before it
abbrev pub reading_of : List (Binding Context) → Reading
reading_of hs = reading_from (λ m t. hidden m t) hs
