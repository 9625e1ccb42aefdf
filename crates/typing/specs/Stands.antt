-- What the tables stand for.
use Rattle.std.specs.Prelude.{◌≡◌, ℕ, suc, ◌≤◌, min, List, [], ◌∷◌, length, take, drop, Some}
use Rattle.std.proofs.Math.Option.{some}
use Rattle.std.proofs.Math.ListN.{get_elem?}
use Rattle.std.specs.List.{slice_get}
use Rattle.words.specs.Names.{Name}
use Rattle.language.specs.declared.spans.Span.{Span}
use Rattle.language.specs.declared.bindings.Binding.{Binding}
use Rattle.language.specs.Bindings.{spelled_in}
use Rattle.language.specs.Names as names
use Rattle.language.specs.Names.{bind}
use Rattle.language.specs.Typing as typing
use Rattle.language.specs.Typing.{ExpandedType, int, bool, hidden, ◌⇒◌, Context, Interfaces}
use Rattle.language.specs.Modules.{Made, made_type, made_value}
use Rattle.rules.specs.Rules as rules
use Rattle.rules.specs.Rules.{depth}
use Rattle.rules.specs.Checking.{interface_of}
use Rattle.typing.specs.declared.types.TypeEntry.{TypeEntry}
use Rattle.typing.specs.declared.types.TypeEntry.TheVariants as entry
use Rattle.typing.specs.declared.types.Slot.{Slot}
use Rattle.typing.specs.declared.types.Slot.TheVariants as slot
use Rattle.typing.specs.declared.types.Scope.{Scope}
use Rattle.typing.specs.declared.types.Interface.{Interface}
use Rattle.typing.specs.declared.types.Known.{Known}
use Rattle.typing.specs.declared.types.Given.{Given}
use Rattle.typing.specs.Tables.{State}

-- an entry of the type table stands for a type; an arrow's sides are told by their places in the list ts of all types
pub data Row (text : List ℕ) (ts : List ExpandedType) : TypeEntry → ExpandedType → Type 0 where
  row_int : Row text ts entry.Int int
  row_bool : Row text ts entry.Bool bool
  row_hidden : {m t : Span} {x y : Name} → spelled_in text m ≡ x → spelled_in text t ≡ y → Row text ts (entry.Hidden m t) (hidden x y)
  row_arrow : {i j d : ℕ} {a b : ExpandedType} → slice_get ts i ≡ Some a → slice_get ts j ≡ Some b → d ≡ depth (a ⇒ b) →
      Row text ts (entry.Arrow i j d) (a ⇒ b)

-- the entries stand for the types, one by one
pub data Rows (text : List ℕ) (ts : List ExpandedType) : List TypeEntry → List ExpandedType → Type 0 where
  rows_none : Rows text ts [] []
  rows_more : {e : TypeEntry} {a : ExpandedType} {es : List TypeEntry} {us : List ExpandedType} → Row text ts e a → Rows text ts es us →
      Rows text ts (e ∷ es) (a ∷ us)

-- no type is there twice
abbrev pub Distinct : List ExpandedType → Type 0
Distinct ts = (i j : ℕ) (a : ExpandedType) → slice_get ts i ≡ Some a → slice_get ts j ≡ Some a → i ≡ j

-- the tables, of so many places that may be touched, stand for the types ts in their order; behind them the type table is as `base`
pub record Stands (text : List ℕ) (type_places scope_places : ℕ) (base : List TypeEntry) (s : State) (ts : List ExpandedType) : Type 0 where
  pub count : s.count ≡ length ts
  pub fits : length ts ≤ length s.types
  pub types_long : min (length s.types) 65535 ≡ type_places
  pub slots_long : min (length s.slots) 65535 ≡ scope_places
  pub rows : Rows text ts (take (length ts) s.types) ts
  pub rest : drop (length ts) s.types ≡ drop (length ts) base
  pub distinct : Distinct ts

-- The places of the scope table from `first` on, up to the one where the next name goes, hold these names, the latest first; the links
-- lead to the latest type name and to the latest value name.
pub data Holding (text : List ℕ) (ts : List ExpandedType) (slots : List Slot) (first : ℕ) : (used types values : ℕ) → List Made → Type 0 where
  no_name : Holding text ts slots first first 0 0 []
  type_name : {u t v : ℕ} {b : Binding ℕ} {x : Name} {a : ExpandedType} {ms : List Made} → get_elem? slots u ≡ some (slot.OfType b) →
      spelled_in text b.name ≡ x → slice_get ts b.value ≡ Some a → b.outer ≡ t → Holding text ts slots first u t v ms →
      Holding text ts slots first (suc u) (suc u) v (made_type x a ∷ ms)
  value_name : {u t v : ℕ} {b : Binding ℕ} {x : Name} {a : ExpandedType} {ms : List Made} → get_elem? slots u ≡ some (slot.OfValue b) →
      spelled_in text b.name ≡ x → slice_get ts b.value ≡ Some a → b.outer ≡ v → Holding text ts slots first u t v ms →
      Holding text ts slots first (suc u) t (suc u) (made_value x a ∷ ms)

-- an interface, within the first n places of the scope table
pub data Declares (text : List ℕ) (ts : List ExpandedType) (slots : List Slot) (n : ℕ) : Interface → names.Binding typing.Interface → Type 0 where
  declares : {i : Interface} {x : Name} {ms : List Made} {first used : ℕ} → spelled_in text i.name ≡ x → used ≤ n →
      Holding text ts slots first used i.types i.values ms → Declares text ts slots n i (bind x (interface_of ms))

-- the interfaces of the earlier modules, one by one
pub data AllDeclare (text : List ℕ) (ts : List ExpandedType) (slots : List Slot) (n : ℕ) : List Interface → Interfaces → Type 0 where
  none_declares : AllDeclare text ts slots n [] []
  one_declares : {i : Interface} {j : names.Binding typing.Interface} {is : List Interface} {js : Interfaces} → Declares text ts slots n i j →
      AllDeclare text ts slots n is js → AllDeclare text ts slots n (i ∷ is) (j ∷ js)

-- the pantry's entries, one by one
pub data Stocks (ts : List ExpandedType) : List Known → Context → Type 0 where
  stocks_none : Stocks ts [] []
  stocks_one : {e : Known} {x : Name} {a : ExpandedType} {es : List Known} {c : Context} → e.name.now ≡ x → slice_get ts e.of ≡ Some a →
      Stocks ts es c → Stocks ts (e ∷ es) (bind x a ∷ c)

-- a scope of the tables, whose first name has the place `first`, stands for what is in scope by the rules
pub record Scoped (w : Given) (first : ℕ) (ts : List ExpandedType) (slots : List Slot) (g : Scope) (h : rules.Scope) : Type 0 where
  pub int_is : slice_get ts 0 ≡ Some int
  pub bool_is : slice_get ts 1 ≡ Some bool
  pub modules : AllDeclare w.text.now ts slots g.used w.interfaces.now h.modules
  pub stock : Stocks ts w.entries.now h.stock
  pub used : g.used ≡ h.used
  pub low : g.used ≤ 65535
  pub names : Holding w.text.now ts slots first g.used g.types g.values h.names
