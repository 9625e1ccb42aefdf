-- The check as the tables keep it: a type is told by its number, a name by its span, what is in scope by links into the scope table.
use Rattle.std.specs.Prelude.{◌≡◌, ℕ, zero, suc, ◌+◌, min, max, Bool, true, false, cond, ◌&&◌, List, length, take, is_some, Some, None, Ok, Err, Option, Result, ◌==◌, nat_eq, nat_lt, slice_set}
use Rattle.std.specs.List.{slice_get, find, position_from}
use Rattle.std.specs.Option.{option_map}
use Rattle.std.specs.Str.{bytes_eq}
use Rattle.language.specs.declared.spans.Span.{Span}
use Rattle.language.specs.declared.bindings.Binding.{Binding}
use Rattle.words.specs.Names.{Name, same_name}
use Rattle.language.specs.Names.{pantry_name}
use Rattle.language.specs.Scopes.{nearest_in}
use Rattle.language.specs.Bindings.{spelled_in, bindings_in, option_of}
use Rattle.grammar.specs.declared.tree.Operator.{Operator}
use Rattle.grammar.specs.declared.tree.Operator.TheVariants as op
use Rattle.grammar.specs.declared.tree.TypeNode.{TypeNode}
use Rattle.grammar.specs.declared.tree.TypeNode.TheVariants as ty
use Rattle.grammar.specs.declared.tree.ExpNode.{ExpNode}
use Rattle.grammar.specs.declared.tree.ExpNode.TheVariants as ex
use Rattle.grammar.specs.declared.tree.Node.{Node}
use Rattle.grammar.specs.declared.tree.Node.TheVariants as node
use Rattle.grammar.specs.Table.{type_at, exp_at}
use Rattle.rules.specs.declared.faults.CheckFault.{CheckFault}
use Rattle.rules.specs.declared.faults.CheckFault.TheVariants.{TooDeep, TypesFull, ScopeFull, Unwanted}
use Rattle.rules.specs.Forms.{Out, bad, good, want, give, ◌>>=◌, ◌>>◌, Keeping, named_t, qualified_t, arrow_t, variable_f, qualified_f, is_zero_f, binary_f, apply_f, proc_f, let_f, conditional_f, body_f, letrec_f}
use Rattle.typing.specs.declared.types.TypeEntry.{TypeEntry}
use Rattle.typing.specs.declared.types.TypeEntry.TheVariants as entry
use Rattle.typing.specs.declared.types.Slot.{Slot}
use Rattle.typing.specs.declared.types.Slot.TheVariants as slot
use Rattle.typing.specs.declared.types.Scope.{Scope}
use Rattle.typing.specs.declared.types.Interface.{Interface}
use Rattle.typing.specs.declared.types.Known.{Known}
use Rattle.typing.specs.declared.types.Given.{Given}
use Rattle.typing.specs.declared.tables.Tables.{Tables}
use Rattle.typing.specs.Slots.{held_slot}

-- the tables as they stand, and how many types there are
pub record State : Type 0 where
  pub types : List TypeEntry
  pub count : ℕ
  pub slots : List Slot

-- what is there, or else d
abbrev pub or : {A : Type 0} → A → Option A → A
or d None = d
or d (Some a) = a

-- THE TYPE TABLE

-- the entry at a place, blank past the end
abbrev pub entry_at : List TypeEntry → ℕ → TypeEntry
entry_at ts k = or entry.Blank (slice_get ts k)

abbrev pub depth_of : TypeEntry → ℕ
depth_of entry.Blank = 0
depth_of entry.Int = 1
depth_of entry.Bool = 1
depth_of (entry.Hidden m t) = 1
depth_of (entry.Arrow a b d) = d

-- the two sides of an arrow
abbrev pub sides_of : TypeEntry → Option (ℕ × ℕ)
sides_of entry.Blank = None
sides_of entry.Int = None
sides_of entry.Bool = None
sides_of (entry.Hidden m t) = None
sides_of (entry.Arrow a b d) = Some (a, b)

-- is it the arrow from a to b?
abbrev pub is_arrow : ℕ → ℕ → TypeEntry → Bool
is_arrow a b entry.Blank = false
is_arrow a b entry.Int = false
is_arrow a b entry.Bool = false
is_arrow a b (entry.Hidden m t) = false
is_arrow a b (entry.Arrow c d e) = c == a && d == b

-- is it the hidden type that the two spans tell?
abbrev pub is_hidden : List ℕ → Span → Span → TypeEntry → Bool
is_hidden text m t entry.Blank = false
is_hidden text m t entry.Int = false
is_hidden text m t entry.Bool = false
is_hidden text m t (entry.Hidden n u) = bytes_eq (spelled_in text n) (spelled_in text m) && bytes_eq (spelled_in text u) (spelled_in text t)
is_hidden text m t (entry.Arrow c d e) = false

-- does the second entry tell the same arrow or hidden type as the first?
abbrev pub alike : List ℕ → TypeEntry → TypeEntry → Bool
alike text entry.Blank y = false
alike text entry.Int y = false
alike text entry.Bool y = false
alike text (entry.Hidden m t) y = is_hidden text m t y
alike text (entry.Arrow a b d) y = is_arrow a b y

-- where the arrow or hidden type of an entry stands in the list, whose first place is k
abbrev pub type_place : List ℕ → TypeEntry → ℕ → List TypeEntry → Option ℕ
type_place text x = position_from (alike text x)

-- one type more, which stands at the next place
unfoldable pub adding : (at : ℕ) → TypeEntry → State → Out State ℕ
adding at x s = (want (nat_lt s.count (min (length s.types) 65535)) (TypesFull at) >>
    (λ _. good s.count (record { types = slice_set s.types s.count x; count = s.count + 1; slots = s.slots }))) s

abbrev pub there : Option ℕ → (State → Out State ℕ) → State → Out State ℕ
there None more s = more s
there (Some k) more s = good k s

abbrev pub deeper : State → ℕ → ℕ → ℕ
deeper s a b = max (depth_of (entry_at s.types a)) (depth_of (entry_at s.types b))

-- the place of an entry's type among the types so far
unfoldable pub found_n : List ℕ → TypeEntry → State → Option ℕ
found_n text x s = type_place text x 0 (take s.count s.types)

-- the arrow from a to b, entered unless it is there; depth is tested before space
unfoldable pub arrow_n : List ℕ → (at : ℕ) → ℕ → ℕ → State → Out State ℕ
arrow_n text at a b s = there (found_n text (entry.Arrow a b 0) s)
    (want (nat_lt (deeper s a b) 32) (TooDeep at) >> adding at (entry.Arrow a b (deeper s a b + 1))) s

-- a hidden type, entered unless it is there
unfoldable pub hide_n : List ℕ → (at : ℕ) → (m t : Span) → State → Out State ℕ
hide_n text at m t s = there (found_n text (entry.Hidden m t) s) (adding at (entry.Hidden m t)) s

-- THE SCOPE TABLE

-- a binding at the next place, the first one not in use; the answer is the link that leads to it
unfoldable pub binding : (at : ℕ) → (used : ℕ) → Slot → State → Out State ℕ
binding at used x s = (want (nat_lt used (min (length s.slots) 65535)) (ScopeFull at) >>
    (λ _. good (used + 1) (record { types = s.types; count = s.count; slots = slice_set s.slots used x }))) s

abbrev pub bound : Span → ℕ → ℕ → Binding ℕ
bound x a outer = record { name = x; value = a; outer = outer }

-- one value name more in scope
unfoldable pub enter_n : (at : ℕ) → Scope → Span → ℕ → State → Out State Scope
enter_n at g x a = do
  link ← binding at g.used (slot.OfValue (bound x a g.values))
  give (record { used = link; types = g.types; values = link })

-- one type name more in scope
unfoldable pub enter_type_n : (at : ℕ) → Scope → Span → ℕ → State → Out State Scope
enter_type_n at g x a = do
  link ← binding at g.used (slot.OfType (bound x a g.types))
  give (record { used = link; types = link; values = g.values })

-- the type number of the nearest binding of a name, from a link on
unfoldable pub nearest_n : List ℕ → ℕ → Span → State → Option ℕ
nearest_n text link x s = option_of (nearest_in (bindings_in held_slot text s.slots) link (spelled_in text x))

-- WHAT IS TAKEN FROM ELSEWHERE

-- the first interface of a module of that name
abbrev pub interface_n : List ℕ → Name → List Interface → Option Interface
interface_n text m = find (λ i. same_name (spelled_in text i.name) m)

abbrev pub types_of : Interface → ℕ
types_of i = i.types

abbrev pub values_of : Interface → ℕ
values_of i = i.values

abbrev pub in_interface : List ℕ → (Interface → ℕ) → Span → State → Option Interface → Option ℕ
in_interface text start x s None = None
in_interface text start x s (Some i) = nearest_n text (start i) x s

-- the number that the interface of the module m has for the name x
unfoldable pub declared_n : List ℕ → List Interface → (Interface → ℕ) → Span → Span → State → Option ℕ
declared_n text is start m x s = in_interface text start x s (interface_n text (spelled_in text m) is)

-- the type number of the pantry's first entry of that name
abbrev pub entry_n : Name → List Known → Option ℕ
entry_n x es = option_map (λ e. e.of) (find (λ e. same_name e.name.now x) es)

-- the type number of `from m take x`
unfoldable pub taken_n : Given → Span → Span → State → Option ℕ
taken_n w m x s = cond (same_name pantry_name (spelled_in w.text.now m)) (entry_n (spelled_in w.text.now x) w.entries.now)
    (declared_n w.text.now w.interfaces.now values_of m x s)

-- THE TABLES AS A WAY TO KEEP TYPES AND NAMES
abbrev pub tables : Given → Keeping
tables w = record {
  Name = Span;
  at = λ x. x.place;
  Ty = ℕ;
  Scope = Scope;
  State = State;
  int = 0;
  bool = 1;
  same = nat_eq;
  sides = λ k s. sides_of (entry_at s.types k);
  arrow = arrow_n w.text.now;
  type_named = λ g x s. nearest_n w.text.now g.types x s;
  value_named = λ g x s. nearest_n w.text.now g.values x s;
  type_taken = λ g m x s. declared_n w.text.now w.interfaces.now types_of m x s;
  value_taken = λ g m x s. taken_n w m x s;
  enter = enter_n;
}

-- THE TREE

-- a check of what stands at a place of the tree
abbrev pub Check : Type 0
Check = Scope → State → Out State ℕ

-- where a node is of another kind: no tree that stands for a part has one there
abbrev pub other : Check
other g s = bad (Unwanted 0)

-- where an expression stands
abbrev pub place_of : ExpNode → ℕ
place_of (ex.Number at v) = at
place_of (ex.Boolean at b) = at
place_of (ex.Variable x) = x.place
place_of (ex.From at m x) = at
place_of (ex.IsZero at j) = at
place_of (ex.Apply at j k) = at
place_of (ex.Proc at x t b) = at
place_of (ex.Let at x j k) = at
place_of (ex.If at i j k) = at
place_of (ex.Letrec at u f x t b k) = at
place_of (ex.Binary at o j k) = at

abbrev pub place_in : Option Node → ℕ
place_in None = 0
place_in (Some node.Blank) = 0
place_in (Some (node.«Type» n)) = 0
place_in (Some (node.Expression n)) = place_of n
place_in (Some (node.Item n)) = 0

-- where the expression at a place of the tree stands in the text
unfoldable pub placed : Given → ℕ → ℕ
placed w i = place_in (slice_get w.tree.now i)

-- a written type's node, by the checks of its parts
abbrev pub form_t : Given → (ℕ → Check) → TypeNode → Check
form_t w part (ty.Int at) g = give 0
form_t w part (ty.Bool at) g = give 1
form_t w part (ty.Named x) g = named_t (tables w) x g
form_t w part (ty.From at m t) g = qualified_t (tables w) at m t g
form_t w part (ty.Arrow at j k) g = arrow_t (tables w) at (part j g) (part k g)

abbrev pub on_type : (TypeNode → Check) → Option Node → Check
on_type f None g = other g
on_type f (Some node.Blank) g = other g
on_type f (Some (node.«Type» n)) g = f n g
on_type f (Some (node.Expression n)) g = other g
on_type f (Some (node.Item n)) g = other g

-- the number of the written type at a place of the tree
unfoldable pub expand_n : Given → ℕ → ℕ → Check
expand_n w zero i = other
expand_n w (suc levels) i = on_type (form_t w (expand_n w levels)) (slice_get w.tree.now i)

-- the type number of what an operator gives
abbrev pub result_n : Operator → ℕ
result_n op.Plus = 0
result_n op.Minus = 0
result_n op.Times = 0
result_n op.Over = 0
result_n op.Less = 1

-- an expression's node, by the checks of its parts
abbrev pub form_e : Given → (ℕ → Check) → (ℕ → Check) → ExpNode → Check
form_e w type part (ex.Number at v) g = give 0
form_e w type part (ex.Boolean at b) g = give 1
form_e w type part (ex.Variable x) g = variable_f (tables w) x g
form_e w type part (ex.From at m x) g = qualified_f (tables w) at m x g
form_e w type part (ex.IsZero at j) g = is_zero_f (tables w) (part j g) (placed w j)
form_e w type part (ex.Apply at j k) g = apply_f (tables w) (part j g) (placed w j) (part k g) (placed w k)
form_e w type part (ex.Proc at x t b) g = proc_f (tables w) at x (type t) (part b) g
form_e w type part (ex.Let at x j k) g = let_f (tables w) at x (part j) (part k) g
form_e w type part (ex.If at i j k) g = conditional_f (tables w) (part i g) (placed w i) (part j g) (part k g) (placed w k)
form_e w type part (ex.Letrec at u f x t b k) g = letrec_f (tables w) at f x (type u) (type t) (part b) (placed w b) (part k) g
form_e w type part (ex.Binary at o j k) g = binary_f (tables w) (result_n o) (part j g) (placed w j) (part k g) (placed w k)

abbrev pub on_exp : (ExpNode → Check) → Option Node → Check
on_exp f None g = other g
on_exp f (Some node.Blank) g = other g
on_exp f (Some (node.«Type» n)) g = other g
on_exp f (Some (node.Expression n)) g = f n g
on_exp f (Some (node.Item n)) g = other g

-- the number of the type of the expression at a place of the tree
unfoldable pub type_n : Given → ℕ → ℕ → Check
type_n w zero i = other
type_n w (suc levels) i = on_exp (form_e w (expand_n w levels) (type_n w levels)) (slice_get w.tree.now i)

-- the forms, on parts that stand at places of the tree
module _ (w : Given) (levels : ℕ) where
  abbrev typed : ℕ → Check
  typed i = type_n w levels i

  abbrev pub is_zero_n : (p : ℕ) → Check
  is_zero_n p g = is_zero_f (tables w) (typed p g) (placed w p)

  abbrev pub binary_n : Operator → (p q : ℕ) → Check
  binary_n o p q g = binary_f (tables w) (result_n o) (typed p g) (placed w p) (typed q g) (placed w q)

  abbrev pub apply_n : (p q : ℕ) → Check
  apply_n p q g = apply_f (tables w) (typed p g) (placed w p) (typed q g) (placed w q)

  abbrev pub proc_n : (at : ℕ) → Span → (t p : ℕ) → Check
  proc_n at x t p g = proc_f (tables w) at x (expand_n w levels t) (typed p) g

  abbrev pub let_n : (at : ℕ) → Span → (p q : ℕ) → Check
  let_n at x p q g = let_f (tables w) at x (typed p) (typed q) g

  abbrev pub conditional_n : (p q r : ℕ) → Check
  conditional_n p q r g = conditional_f (tables w) (typed p g) (placed w p) (typed q g) (typed r g) (placed w r)

  abbrev pub body_n : (at : ℕ) → Span → (a b p : ℕ) → Scope → State → Out State Unit
  body_n at x a b p g = body_f (tables w) at x a b (typed p) (placed w p) g

  abbrev pub letrec_n : (at : ℕ) → Span → Span → (u t p q : ℕ) → Check
  letrec_n at f x u t p q g = letrec_f (tables w) at f x (expand_n w levels u) (expand_n w levels t) (typed p) (placed w p) (typed q) g

-- CONTRACTS

-- the state that the lent tables are in
abbrev pub state_of : Tables → State
state_of s = record { types = s.types.now; count = s.count; slots = s.slots.now }

-- what a check leaves: the same tables, as long as they were, and all that is only read
pub record Kept (s t : Tables) : Type 0 where
  pub given : t.given ≡ s.given
  pub types_same : t.types.ghost_name ≡ s.types.ghost_name
  pub slots_same : t.slots.ghost_name ≡ s.slots.ghost_name
  pub types_long : length t.types.now ≡ length s.types.now
  pub slots_long : length t.slots.now ≡ length s.slots.now

pub record Done {A : Type 0} (a : A) (x : State) (r : Result A CheckFault) (t : Tables) : Type 0 where
  pub result : r ≡ Ok a
  pub state : state_of t ≡ x

abbrev pub Gave : {A : Type 0} → Out State A → Result A CheckFault → Tables → Type 0
Gave (bad f) r t = r ≡ Err f
Gave (good a x) r t = Done a x r t

-- what a check gives, from s to t
pub record Gives {A : Type 0} (m : State → Out State A) (r : Result A CheckFault) (s t : Tables) : Type 0 where
  pub kept : Kept s t
  pub gives : Gave (m (state_of s)) r t

-- the place i of the tree stands for a written type of at most so many levels
abbrev pub HasType : Given → ℕ → ℕ → Type 0
HasType w levels i = is_some (type_at levels w.text.now w.tree.now i) ≡ true

-- the place i of the tree stands for an expression of at most so many levels
abbrev pub HasExp : Given → ℕ → ℕ → Type 0
HasExp w levels i = is_some (exp_at levels w.text.now w.tree.now i) ≡ true
