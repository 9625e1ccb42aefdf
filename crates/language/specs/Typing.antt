-- Expanded types, what a written type stands for, and the typing rules for expressions. No limit enters them.
use Rattle.std.specs.Prelude.{◌≡◌, Bool, cond, List, ◌∷◌, map, ℤ}
use Rattle.std.proofs.Math.Option.{Option, none, some}
use Rattle.words.specs.Names.{Name, same_name}
use Rattle.language.specs.Names.{pantry_name, Binding, bind, map_binding, lookup}
use Rattle.language.specs.Pantry.{Kind, figure_kind, flag_kind, figure_by_item, flag_by_item, Stock}
use Rattle.language.specs.Syntax.{
  WrittenType,
  int_type,
  bool_type,
  named_type,
  qualified_type,
  arrow_type,
  Operator,
  plus,
  minus,
  times,
  over,
  less,
  Exp,
  number,
  boolean,
  variable,
  qualified,
  is_zero,
  apply,
  proc,
  let_in,
  conditional,
  letrec,
  binary,
}

infixr 60 ◌⇒◌
-- expanded types; `hidden m t` is the opaque type t of the module m as others see it
pub data ExpandedType : Type 0 where
  int bool : ExpandedType
  hidden : Name → Name → ExpandedType
  ◌⇒◌ : ExpandedType → ExpandedType → ExpandedType

-- names with their types (type names with their expansions), the nearest first
abbrev pub Context : Type 0
Context = List (Binding ExpandedType)

-- the type of an entry of that kind
abbrev pub kind_type : Kind → ExpandedType
kind_type figure_kind = int
kind_type flag_kind = bool
kind_type figure_by_item = int ⇒ int
kind_type flag_by_item = int ⇒ bool

-- the pantry's names with their types
abbrev pub stock_types : Stock → Context
stock_types s = map (map_binding kind_type) s

-- what a module's interface declares, as others see it
pub record Interface : Type 0 where
  pub types : Context
  pub values : Context

-- the interfaces of modules by their names, the first module's first
abbrev pub Interfaces : Type 0
Interfaces = List (Binding Interface)

-- what an expression can use besides the values bound around it: the type names at its place, the interfaces of the modules before its
-- own, and the pantry's names
pub record Environment : Type 0 where
  pub types : Context
  pub modules : Interfaces
  pub stock : Context

-- the type of the value that an interface declares under a name
abbrev pub value_declared : Option Interface → Name → Option ExpandedType
value_declared none x = none
value_declared (some i) x = lookup i.values x

-- what the type name of an interface stands for
abbrev pub type_declared : Option Interface → Name → Option ExpandedType
type_declared none x = none
type_declared (some i) x = lookup i.types x

-- the type of `from m take x`
abbrev pub taken : Environment → Name → Name → Option ExpandedType
taken e m x = cond (same_name pantry_name m) (lookup e.stock x) (value_declared (lookup e.modules m) x)

-- an arrow, if both sides are known
abbrev pub arrow_of : Option ExpandedType → Option ExpandedType → Option ExpandedType
arrow_of none b = none
arrow_of (some a) none = none
arrow_of (some a) (some b) = some (a ⇒ b)

-- what a written type stands for, if every name in it is known
abbrev pub expand : Environment → WrittenType → Option ExpandedType
expand e int_type = some int
expand e bool_type = some bool
expand e (named_type t) = lookup e.types t
expand e (qualified_type m t) = type_declared (lookup e.modules m) t
expand e (arrow_type a b) = arrow_of (expand e a) (expand e b)

-- the type of an operation's result
abbrev pub result_of : Operator → ExpandedType
result_of plus = int
result_of minus = int
result_of times = int
result_of over = int
result_of less = bool

-- `HasType e g p a`: in the environment e, with the names g bound to values of their types, the expression p has the type a
pub data HasType (e : Environment) : Context → Exp → ExpandedType → Type 0 where
  t_number : {g : Context} {z : ℤ} → HasType e g (number z) int
  t_boolean : {g : Context} {b : Bool} → HasType e g (boolean b) bool
  t_variable : {g : Context} {x : Name} {a : ExpandedType} → lookup g x ≡ some a → HasType e g (variable x) a
  t_qualified : {g : Context} {m x : Name} {a : ExpandedType} → taken e m x ≡ some a → HasType e g (qualified m x) a
  t_zero : {g : Context} {p : Exp} → HasType e g p int → HasType e g (is_zero p) bool
  t_apply : {g : Context} {p q : Exp} {a b : ExpandedType} → HasType e g p (a ⇒ b) → HasType e g q a → HasType e g (apply p q) b
  t_proc : {g : Context} {x : Name} {t : WrittenType} {p : Exp} {a b : ExpandedType} → expand e t ≡ some a →
      HasType e (bind x a ∷ g) p b → HasType e g (proc x t p) (a ⇒ b)
  t_let : {g : Context} {x : Name} {p q : Exp} {a b : ExpandedType} → HasType e g p a → HasType e (bind x a ∷ g) q b →
      HasType e g (let_in x p q) b
  t_conditional : {g : Context} {p q r : Exp} {a : ExpandedType} → HasType e g p bool → HasType e g q a → HasType e g r a →
      HasType e g (conditional p q r) a
  t_letrec : {g : Context} {u t : WrittenType} {f x : Name} {p q : Exp} {a b c : ExpandedType} → expand e t ≡ some a →
      expand e u ≡ some b → HasType e (bind x a ∷ (bind f (a ⇒ b) ∷ g)) p b → HasType e (bind f (a ⇒ b) ∷ g) q c →
      HasType e g (letrec u f x t p q) c
  t_binary : {g : Context} {o : Operator} {p q : Exp} → HasType e g p int → HasType e g q int → HasType e g (binary o p q) (result_of o)
