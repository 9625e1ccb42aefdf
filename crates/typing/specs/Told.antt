-- The expanded type that a number of the type table tells.
use Rattle.std.specs.Prelude.{◌≡◌, ℕ, zero, suc, ◌≤◌, List, [], length, take, Some, slice_index_or}
use Rattle.std.specs.List.{slice_get}
use Rattle.language.specs.Bindings.{spelled_in}
use Rattle.language.specs.Scopes.{table_limit}
use Rattle.language.specs.Typing.{ExpandedType, int, bool, hidden, ◌⇒◌}
use Rattle.rules.specs.Rules.{depth, depth_limit}
use Rattle.typing.specs.declared.types.TypeEntry.{TypeEntry}
use Rattle.typing.specs.declared.types.TypeEntry.TheVariants as entry
use Rattle.typing.specs.Stands.{Rows}

-- what stands for no type is read as a hidden type without names
abbrev pub nameless : ExpandedType
nameless = hidden [] []

-- the entry at a place; a place that is not there, or is never touched, is blank
unfoldable pub entry_told : List TypeEntry → ℕ → TypeEntry
entry_told types i = slice_index_or (take table_limit types) i entry.Blank

-- the type that an entry stands for; `part` gives that of a place
abbrev pub type_of_entry : List ℕ → (ℕ → ExpandedType) → TypeEntry → ExpandedType
type_of_entry text part entry.Blank = nameless
type_of_entry text part entry.Int = int
type_of_entry text part entry.Bool = bool
type_of_entry text part (entry.Hidden m t) = hidden (spelled_in text m) (spelled_in text t)
type_of_entry text part (entry.Arrow j k d) = part j ⇒ part k

-- the type at a place of the table, read to so many levels
unfoldable pub type_within : (levels : ℕ) → List ℕ → List TypeEntry → ℕ → ExpandedType
type_within zero text types i = nameless
type_within (suc levels) text types i = type_of_entry text (type_within levels text types) (entry_told types i)

-- the type that a number tells: no checked type has more levels
abbrev pub type_told : List ℕ → List TypeEntry → ℕ → ExpandedType
type_told = type_within depth_limit

-- Where the first places of the table stand for the types ts, a number tells its type.
abbrev pub TableTold : Type 0
TableTold = (text : List ℕ) (types : List TypeEntry) (ts : List ExpandedType) (k : ℕ) (a : ExpandedType) → length ts ≤ table_limit →
    Rows text ts (take (length ts) types) ts → slice_get ts k ≡ Some a → depth a ≤ depth_limit → type_told text types k ≡ a
