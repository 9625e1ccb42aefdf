-- Names that are bound to something, and the one search among them: the same for types, values, interfaces and pantry entries.
-- When two names are the same is for the words to say.
use Rattle.std.specs.Prelude.{Bool, true, cond, not, ◌&&◌, List, [], ◌∷◌, codes}
use Rattle.std.proofs.Math.Option.{Option, none, some}
use Rattle.words.specs.Names.{Name, same_name}

-- the name by which sheets take from the pantry, so that no module may have it
unfoldable pub pantry_name : Name
pantry_name = codes "pantry"

-- a name, and what it is bound to
pub data Binding (A : Type 0) : Type 0 where
  bind : Name → A → Binding A

-- the same name, bound to something made of what it was bound to
abbrev pub map_binding : {A B : Type 0} → (A → B) → Binding A → Binding B
map_binding f (bind x a) = bind x (f a)

-- what the name is bound to, by the first of its bindings
abbrev pub lookup : {A : Type 0} → List (Binding A) → Name → Option A
lookup [] x = none
lookup (bind y a ∷ bs) x = cond (same_name y x) (some a) (lookup bs x)

-- no name of the list is the same as x
abbrev pub apart_from : Name → List Name → Bool
apart_from x [] = true
apart_from x (y ∷ ys) = not (same_name y x) && apart_from x ys

-- no two names of the list are the same
abbrev pub distinct : List Name → Bool
distinct [] = true
distinct (x ∷ xs) = apart_from x xs && distinct xs
