-- Declarations, definitions and matching on the tables.
use Rattle.std.specs.Prelude.{◌≡◌, ℕ, suc, ◌+◌, ◌<◌, Bool, true, false, not, ◌&&◌, List, [], ◌∷◌, length, take, drop, is_some, Some, None, Option, slice_index_or}
use Rattle.words.specs.Names.{Name, same_name}
use Rattle.language.specs.declared.spans.Span.{Span}
use Rattle.language.specs.Names.{pantry_name}
use Rattle.language.specs.Bindings.{spelled_in}
use Rattle.grammar.specs.declared.tree.Item.{Item}
use Rattle.grammar.specs.declared.tree.Item.TheVariants as item
use Rattle.grammar.specs.declared.tree.Node.{Node}
use Rattle.grammar.specs.declared.tree.Node.TheVariants as node
use Rattle.grammar.specs.Table.{type_at, exp_at}
use Rattle.rules.specs.declared.faults.CheckFault.TheVariants.{Repeated}
use Rattle.rules.specs.Forms.{Out, good, after, want, give, ◌>>=◌, ◌>>◌}
use Rattle.rules.specs.ItemForms.{ItemKeeping, neither, opaque_f, type_is_f, value_is_f, match_opaque_f, match_f}
use Rattle.typing.specs.declared.types.Slot.{Slot}
use Rattle.typing.specs.declared.types.Slot.TheVariants as slot
use Rattle.typing.specs.declared.types.Scope.{Scope}
use Rattle.typing.specs.declared.types.Interface.{Interface}
use Rattle.typing.specs.declared.types.Given.{Given}
use Rattle.checker.specs.declared.items.Sort.{Sort}
use Rattle.checker.specs.declared.items.Sort.TheVariants as sort
use Rattle.typing.specs.Tables.{State, tables, hide_n, enter_type_n, nearest_n, interface_n, expand_n, type_n}

-- a type is told by true
abbrev pub is_type : Sort → Bool
is_type sort.«Type» = true
is_type sort.Value = false

-- whether a place of the scope table defines the name, as a type or as a value
abbrev pub defines : List ℕ → Bool → Name → Slot → Bool
defines text of_type x slot.Blank = false
defines text true x (slot.OfType b) = same_name (spelled_in text b.name) x
defines text false x (slot.OfType b) = false
defines text true x (slot.OfValue b) = false
defines text false x (slot.OfValue b) = same_name (spelled_in text b.name) x

abbrev pub number_at : Slot → ℕ
number_at slot.Blank = 0
number_at (slot.OfType b) = b.value
number_at (slot.OfValue b) = b.value

abbrev pub or_else : Bool → ℕ × ℕ → Option (ℕ × ℕ) → Option (ℕ × ℕ)
or_else true p o = Some p
or_else false p o = o

-- the first definition of the name from the place k on: the number of its type, and the place behind it
abbrev pub definition : List ℕ → Bool → Name → ℕ → List Slot → Option (ℕ × ℕ)
definition text of_type x k [] = None
definition text of_type x k (s ∷ ss) = or_else (defines text of_type x s) (number_at s, k + 1) (definition text of_type x (suc k) ss)

-- the same, among the places in use
unfoldable pub definition_n : List ℕ → Bool → Span → (used : ℕ) → ℕ → State → Option (ℕ × ℕ)
definition_n text of_type x used k s = definition text of_type (spelled_in text x) k (drop k (take used s.slots))

-- how the tables keep items; what is left of a body's definitions is told by the place of the first of them
abbrev pub item_tables : (w : Given) → ItemKeeping (tables w)
item_tables w = record {
  Left = ℕ;
  enter_type = enter_type_n;
  hide = hide_n w.text.now;
  supplied = λ of_type x body left s. definition_n w.text.now of_type x body.used left s;
}

-- a name that is no name of this interface or body yet
abbrev pub is_fresh : Given → Scope → Span → State → Bool
is_fresh w g x s = neither (nearest_n w.text.now g.types x s) (nearest_n w.text.now g.values x s)

-- the forms of items, on parts that stand at places of the tree
module _ (w : Given) where
  abbrev pub opaque_n : (at : ℕ) → Span → Span → Scope → State → Out State Scope
  opaque_n at m x = opaque_f (tables w) (item_tables w) at m x

  abbrev pub type_is_n : (at : ℕ) → Span → (t : ℕ) → Scope → State → Out State Scope
  type_is_n at x t = type_is_f (tables w) (item_tables w) at x (expand_n w 48 t)

  abbrev pub declared_n : Span → (t : ℕ) → Scope → State → Out State Scope
  declared_n x t = value_is_f (tables w) (item_tables w) x.place x (expand_n w 48 t)

  abbrev pub value_is_n : Span → (p : ℕ) → Scope → State → Out State Scope
  value_is_n x p = value_is_f (tables w) (item_tables w) x.place x (type_n w 48 p)

  abbrev pub match_opaque_n : Span → Scope → ℕ → State → Out State ℕ
  match_opaque_n x body = match_opaque_f (tables w) (item_tables w) x body

  abbrev pub match_n : Bool → Span → (t : ℕ) → Scope → ℕ → State → Out State ℕ
  match_n of_type x t body = match_f (tables w) (item_tables w) of_type x (expand_n w 48 t) body

  -- a declaration of the module m; a definition is passed over
  unfoldable pub declare_item : Span → Item → Scope → State → Out State Scope
  declare_item m (item.Opaque at x) g = opaque_n at m x g
  declare_item m (item.Transparent at x t) g = type_is_n at x t g
  declare_item m (item.Declared x t) g = declared_n x t g
  declare_item m (item.TypeIs at x t) g = give g
  declare_item m (item.ValueIs x p) g = give g
  declare_item m (item.Module at x) g = give g

  -- a definition; a declaration is passed over
  unfoldable pub define_item : Item → Scope → State → Out State Scope
  define_item (item.Opaque at x) g = give g
  define_item (item.Transparent at x t) g = give g
  define_item (item.Declared x t) g = give g
  define_item (item.TypeIs at x t) g = type_is_n at x t g
  define_item (item.ValueIs x p) g = value_is_n x p g
  define_item (item.Module at x) g = give g

  -- a declaration against the definitions that are left
  unfoldable pub match_item : Scope → Item → ℕ → State → Out State ℕ
  match_item body (item.Opaque at x) k = match_opaque_n x body k
  match_item body (item.Transparent at x t) k = match_n true x t body k
  match_item body (item.Declared x t) k = match_n false x t body k
  match_item body (item.TypeIs at x t) k = give k
  match_item body (item.ValueIs x p) k = give k
  match_item body (item.Module at x) k = give k

-- what is done at each item
abbrev pub Act : Type 0 → Type 0
Act A = Given → Item → A → State → Out State A

-- only items count
abbrev pub on_item : {A : Type 0} → (Item → A → State → Out State A) → Node → A → State → Out State A
on_item f node.Blank a = give a
on_item f (node.«Type» n) a = give a
on_item f (node.Expression n) a = give a
on_item f (node.Item x) a = f x a

-- all of them in order
unfoldable pub all_items : {A : Type 0} → (Item → A → State → Out State A) → List Node → A → State → Out State A
all_items f [] a s = good a s
all_items f (x ∷ xs) a s = after (on_item f x a s) (all_items f xs)

-- nothing in scope but the places below n, which are in use
abbrev pub empty_at : ℕ → Scope
empty_at n = record { used = n; types = 0; values = 0 }

-- the body of a module whose declarations took the places below `used`: definitions, then matching
abbrev pub body_n : Given → List Node → (used : ℕ) → State → Out State Unit
body_n w ns used = do
  body ← all_items (define_item w) ns (empty_at used)
  all_items (match_item w body) ns used
  give tt

abbrev pub no_interface : Option Interface → Bool
no_interface None = true
no_interface (Some i) = false

-- the name is no earlier module's and not the pantry's
abbrev pub is_new : Given → Span → Bool
is_new w m = no_interface (interface_n w.text.now (spelled_in w.text.now m) w.interfaces.now) &&
    not (same_name pantry_name (spelled_in w.text.now m))

-- a module m whose items are among ns: its name, its interface, and its body
abbrev pub module_n : Given → Span → List Node → (used : ℕ) → State → Out State Scope
module_n w m ns used = do
  want (is_new w m) (Repeated m.place)
  interface ← all_items (declare_item w m) ns (empty_at used)
  body_n w ns interface.used
  give interface

-- what a tree holds: the parts of its items
abbrev pub ItemIn : List ℕ → List Node → Item → Type 0
ItemIn text tree (item.Opaque at x) = Unit {0}
ItemIn text tree (item.Transparent at x t) = is_some (type_at 48 text tree t) ≡ true
ItemIn text tree (item.Declared x t) = is_some (type_at 48 text tree t) ≡ true
ItemIn text tree (item.TypeIs at x t) = is_some (type_at 48 text tree t) ≡ true
ItemIn text tree (item.ValueIs x p) = is_some (exp_at 48 text tree p) ≡ true
ItemIn text tree (item.Module at x) = Unit {0}

abbrev pub NodeIn : List ℕ → List Node → Node → Type 0
NodeIn text tree node.Blank = Unit {0}
NodeIn text tree (node.«Type» n) = Unit {0}
NodeIn text tree (node.Expression n) = Unit {0}
NodeIn text tree (node.Item x) = ItemIn text tree x

abbrev pub AllIn : List ℕ → List Node → List Node → Type 0
AllIn text tree ns = (k : ℕ) → k < length ns → NodeIn text tree (slice_index_or ns k node.Blank)

abbrev pub NodeHolds : Given → Node → Type 0
NodeHolds w x = NodeIn w.text.now w.tree.now x

abbrev pub AllHold : Given → List Node → Type 0
AllHold w ns = AllIn w.text.now w.tree.now ns
