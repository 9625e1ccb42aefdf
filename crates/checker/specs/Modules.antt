-- What the scope table holds of a body and of the modules before.
use Rattle.std.specs.Prelude.{◌≡◌, ℕ, suc, ◌≤◌, List, [], ◌∷◌, ◌++◌, Some}
use Rattle.std.proofs.Math.Option.{some}
use Rattle.std.proofs.Math.ListN.{get_elem?}
use Rattle.std.specs.List.{slice_get}
use Rattle.words.specs.Names.{Name}
use Rattle.language.specs.declared.spans.Span.{Span}
use Rattle.language.specs.declared.bindings.Binding.{Binding}
use Rattle.language.specs.Bindings.{spelled_in}
use Rattle.language.specs.Names.{bind}
use Rattle.language.specs.Typing.{ExpandedType, int, bool, Interfaces}
use Rattle.language.specs.Modules.{Made, made_type, made_value}
use Rattle.grammar.specs.declared.tree.Node.{Node}
use Rattle.grammar.specs.Syntax.{Declaration, Definition}
use Rattle.grammar.specs.Table.{Addition, nothing, declares, defines, ends, addition}
use Rattle.rules.specs.Rules as rules
use Rattle.rules.specs.Checking.{interface_of}
use Rattle.typing.specs.declared.types.Slot.{Slot}
use Rattle.typing.specs.declared.types.Slot.TheVariants as slot
use Rattle.typing.specs.declared.types.Scope.{Scope}
use Rattle.typing.specs.declared.types.Interface.{Interface}
use Rattle.typing.specs.declared.types.Given.{Given}
use Rattle.typing.specs.Tables.{State}
use Rattle.typing.specs.Stands.{Holding, AllDeclare, Stocks}

-- the declarations among some nodes of the table ns
abbrev pub with_declaration : Addition → List Declaration → List Declaration
with_declaration nothing ds = ds
with_declaration (declares d) ds = d ∷ ds
with_declaration (defines d) ds = ds
with_declaration (ends at m) ds = ds

abbrev pub declarations_of : List ℕ → List Node → List Node → List Declaration
declarations_of text ns [] = []
declarations_of text ns (x ∷ xs) = with_declaration (addition text ns x) (declarations_of text ns xs)

-- the definitions among them
abbrev pub with_definition : Addition → List Definition → List Definition
with_definition nothing ds = ds
with_definition (declares d) ds = ds
with_definition (defines d) ds = d ∷ ds
with_definition (ends at m) ds = ds

abbrev pub definitions_of : List ℕ → List Node → List Node → List Definition
definitions_of text ns [] = []
definitions_of text ns (x ∷ xs) = with_definition (addition text ns x) (definitions_of text ns xs)

-- the places of the scope table from one on, up to `used`, hold what was made, in order
pub data Ahead (text : List ℕ) (ts : List ExpandedType) (slots : List Slot) (used : ℕ) : ℕ → List Made → Type 0 where
  no_more : Ahead text ts slots used used []
  type_ahead : {k : ℕ} {b : Binding ℕ} {x : Name} {a : ExpandedType} {ms : List Made} → get_elem? slots k ≡ some (slot.OfType b) →
      spelled_in text b.name ≡ x → slice_get ts b.value ≡ Some a → Ahead text ts slots used (suc k) ms →
      Ahead text ts slots used k (made_type x a ∷ ms)
  value_ahead : {k : ℕ} {b : Binding ℕ} {x : Name} {a : ExpandedType} {ms : List Made} → get_elem? slots k ≡ some (slot.OfValue b) →
      spelled_in text b.name ≡ x → slice_get ts b.value ≡ Some a → Ahead text ts slots used (suc k) ms →
      Ahead text ts slots used k (made_value x a ∷ ms)

-- the places of the scope table up to `used` hold the declarations of these interfaces, one interface behind the other
pub data Declared (text : List ℕ) (ts : List ExpandedType) (slots : List Slot) : (used : ℕ) → Interfaces → Type 0 where
  none_declared : Declared text ts slots 0 []
  more_declared : {u v t w : ℕ} {ms : List Made} {js : Interfaces} (x : Name) → Declared text ts slots u js →
      Holding text ts slots u v t w ms → Declared text ts slots v (js ++ (bind x (interface_of ms) ∷ []))

-- the interface that a module left
abbrev pub interface_at : Span → Scope → Interface
interface_at m g = record { name = m; types = g.types; values = g.values }

-- after a module m, behind the modules of the earlier interfaces, whose own interface ended with the scope g: what is seen by the rules
pub record Left (w : Given) (m : Span) (u : ℕ) (earlier : Interfaces) (s : State) (ts : List ExpandedType) (g : Scope) (h : rules.Scope) : Type 0 where
  pub int_is : slice_get ts 0 ≡ Some int
  pub bool_is : slice_get ts 1 ≡ Some bool
  pub modules : AllDeclare w.text.now ts s.slots g.used (w.interfaces.now ++ (interface_at m g ∷ [])) h.modules
  pub stock : Stocks ts w.entries.now h.stock
  pub used : g.used ≡ h.used
  pub low : g.used ≤ 65535
  pub none : h.names ≡ []
  pub outside : u ≤ g.used
  pub own : List Made
  pub own_declared : Holding w.text.now ts s.slots u g.used g.types g.values own
  pub modules_are : h.modules ≡ earlier ++ (bind (spelled_in w.text.now m) (interface_of own) ∷ [])
