-- The check as the rules have it: a type is told by itself, a name by its bytes. The types so far are a list without repetitions, in the
-- order in which they were met; of the scope table only the number of places in use counts.
use Rattle.std.specs.Prelude.{ℕ, ◌+◌, max, Bool, true, false, cond, List, [], ◌∷◌, ◌++◌, length, Some, None, Option, nat_le, nat_lt}
use Rattle.language.specs.Bindings.{option_of}
use Rattle.words.specs.Names.{same_name}
use Rattle.language.specs.Names.{bind, lookup}
use Rattle.language.specs.Typing.{ExpandedType, int, bool, hidden, ◌⇒◌, Context, Interfaces, Environment, type_declared, taken, result_of}
use Rattle.language.specs.TypeOf.{same_type}
use Rattle.language.specs.Modules.{seeing, Made, made_type, made_value}
use Rattle.grammar.specs.Syntax as placed
use Rattle.grammar.specs.Syntax.{WrittenType, Exp}
use Rattle.grammar.specs.Plain.{plain_o}
use Rattle.rules.specs.declared.faults.CheckFault.TheVariants.{TooDeep, TypesFull, ScopeFull}
use Rattle.rules.specs.Forms.{
  Out,
  good,
  want,
  give,
  ◌>>◌,
  Keeping,
  named_t,
  qualified_t,
  arrow_t,
  variable_f,
  qualified_f,
  is_zero_f,
  binary_f,
  apply_f,
  proc_f,
  let_f,
  conditional_f,
  letrec_f,
}
use Rattle.rules.specs.ItemForms.{ItemKeeping}

-- how deep a type is: an arrow is one deeper than the deeper of its sides, all others are 1 deep
abbrev pub depth : ExpandedType → ℕ
depth int = 1
depth bool = 1
depth (hidden m t) = 1
depth (a ⇒ b) = max (depth a) (depth b) + 1

-- the greatest depth of a type
abbrev pub depth_limit : ℕ
depth_limit = 32

-- the sides of an arrow
abbrev pub sides_of : ExpandedType → Option (ExpandedType × ExpandedType)
sides_of int = None
sides_of bool = None
sides_of (hidden m t) = None
sides_of (a ⇒ b) = Some (a, b)

-- whether the list has the type
abbrev pub member : ExpandedType → List ExpandedType → Bool
member a [] = false
member a (b ∷ ts) = cond (same_type b a) true (member a ts)

-- the type names among what was made, the latest first
abbrev pub types_of : List Made → Context
types_of [] = []
types_of (made_type t a ∷ ms) = bind t a ∷ types_of ms
types_of (made_value x a ∷ ms) = types_of ms

-- the value names among it
abbrev pub values_of : List Made → Context
values_of [] = []
values_of (made_type t a ∷ ms) = values_of ms
values_of (made_value x a ∷ ms) = bind x a ∷ values_of ms

-- what is in scope: names with their types, the nearest first; the interfaces of the earlier modules; what the pantry has; and how many
-- places of the scope table are in use
pub record Scope : Type 0 where
  pub used : ℕ
  pub modules : Interfaces
  pub stock : Context
  pub names : List Made

-- what is seen there besides the value names
abbrev pub seen_in : Scope → Environment
seen_in g = seeing (types_of g.names) g.modules g.stock

-- one name more, which takes the next place
abbrev pub with_name : Made → Scope → Scope
with_name x g = record { used = g.used + 1; modules = g.modules; stock = g.stock; names = x ∷ g.names }

-- the type a, entered at that place of the text unless it is there; depth is tested before space
unfoldable pub entering : (type_places at : ℕ) → ExpandedType → List ExpandedType → Out (List ExpandedType) ExpandedType
entering type_places at a ts = cond (member a ts) (good a ts)
    ((want (nat_le (depth a) depth_limit) (TooDeep at) >> (want (nat_lt (length ts) type_places) (TypesFull at) >>
    (λ _. good a (ts ++ a ∷ [])))) ts)

-- one name more in scope
unfoldable pub taking : (scope_places at : ℕ) → Made → Scope → List ExpandedType → Out (List ExpandedType) Scope
taking scope_places at x g ts = (want (nat_lt g.used scope_places) (ScopeFull at) >> give (with_name x g)) ts

-- how types and names are kept, with tables of so many places
abbrev pub rules : (type_places scope_places : ℕ) → Keeping
rules type_places scope_places = record {
  Name = placed.Name;
  at = λ x. x.place;
  Ty = ExpandedType;
  Scope = Scope;
  State = List ExpandedType;
  int = int;
  bool = bool;
  same = same_type;
  sides = λ a ts. sides_of a;
  arrow = λ at a b. entering type_places at (a ⇒ b);
  type_named = λ g x ts. option_of (lookup (types_of g.names) x.bytes);
  value_named = λ g x ts. option_of (lookup (values_of g.names) x.bytes);
  type_taken = λ g m x ts. option_of (type_declared (lookup g.modules m.bytes) x.bytes);
  value_taken = λ g m x ts. option_of (taken (seen_in g) m.bytes x.bytes);
  enter = λ at g x a. taking scope_places at (made_value x.bytes a) g;
}

-- the first of what was made with that name and kind (true for a type), and what is behind it
abbrev pub supplied_by : Bool → List ℕ → List Made → Option (ExpandedType × List Made)
supplied_by of_type x [] = None
supplied_by true x (made_type y a ∷ ms) = cond (same_name y x) (Some (a, ms)) (supplied_by true x ms)
supplied_by true x (made_value y a ∷ ms) = supplied_by true x ms
supplied_by false x (made_type y a ∷ ms) = supplied_by false x ms
supplied_by false x (made_value y a ∷ ms) = cond (same_name y x) (Some (a, ms)) (supplied_by false x ms)

-- how items are kept, with tables of so many places
abbrev pub item_rules : (type_places scope_places : ℕ) → ItemKeeping (rules type_places scope_places)
item_rules type_places scope_places = record {
  Left = List Made;
  enter_type = λ at g x a. taking scope_places at (made_type x.bytes a) g;
  hide = λ at m x. entering type_places at (hidden m.bytes x.bytes);
  supplied = λ of_type x body left ts. supplied_by of_type x.bytes left;
}

-- where an expression stands
abbrev pub place_of : Exp → ℕ
place_of (placed.number at v) = at
place_of (placed.boolean at b) = at
place_of (placed.variable x) = x.place
place_of (placed.qualified at m x) = at
place_of (placed.is_zero at p) = at
place_of (placed.apply at p q) = at
place_of (placed.proc at x t p) = at
place_of (placed.let_in at x p q) = at
place_of (placed.conditional at p q r) = at
place_of (placed.letrec at u f x t p q) = at
place_of (placed.binary at o p q) = at

-- a check that gives an A
abbrev pub Check : Type 0 → Type 0
Check A = List ExpandedType → Out (List ExpandedType) A

module _ (type_places scope_places : ℕ) where
  -- how the rules keep types and names
  abbrev K : Keeping
  K = rules type_places scope_places

  -- what a written type stands for
  abbrev pub expanding : WrittenType → Scope → Check ExpandedType
  expanding (placed.int_type at) g = give int
  expanding (placed.bool_type at) g = give bool
  expanding (placed.named_type t) g = named_t K t g
  expanding (placed.qualified_type at m t) g = qualified_t K at m t g
  expanding (placed.arrow_type at a b) g = arrow_t K at (expanding a g) (expanding b g)

  -- the type of an expression
  abbrev pub typing : Exp → Scope → Check ExpandedType
  typing (placed.number at v) g = give int
  typing (placed.boolean at b) g = give bool
  typing (placed.variable x) g = variable_f K x g
  typing (placed.qualified at m x) g = qualified_f K at m x g
  typing (placed.is_zero at p) g = is_zero_f K (typing p g) (place_of p)
  typing (placed.apply at p q) g = apply_f K (typing p g) (place_of p) (typing q g) (place_of q)
  typing (placed.proc at x t p) g = proc_f K at x (expanding t) (typing p) g
  typing (placed.let_in at x p q) g = let_f K at x (typing p) (typing q) g
  typing (placed.conditional at p q r) g = conditional_f K (typing p g) (place_of p) (typing q g) (typing r g) (place_of r)
  typing (placed.letrec at u f x t p q) g = letrec_f K at f x (expanding u) (expanding t) (typing p) (place_of p) (typing q) g
  typing (placed.binary at o p q) g = binary_f K (result_of (plain_o o)) (typing p g) (place_of p) (typing q g) (place_of q)
