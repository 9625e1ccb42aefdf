-- The syntax of sheets as read, each part and each name with its place, a byte offset in the text. Assumes nothing.
use Rattle.std.specs.Prelude.{ℕ, ◌+◌, Bool, List, [], ◌∷◌, ℤ}
use Rattle.grammar.specs.declared.tree.Operator.{Operator}

-- a name as it stands in the text
pub record Name : Type 0 where
  pub place : ℕ
  pub bytes : List ℕ

-- a type as written: `int`, `bool`, `t`, `from m take t`, `(T -> T)`
pub data WrittenType : Type 0 where
  int_type : (at : ℕ) → WrittenType
  bool_type : (at : ℕ) → WrittenType
  named_type : (t : Name) → WrittenType
  qualified_type : (at : ℕ) (m t : Name) → WrittenType
  arrow_type : (at : ℕ) (a b : WrittenType) → WrittenType

-- `letrec at r f x t body rest` is `letrec r f (x : t) = body in rest`
pub data Exp : Type 0 where
  number : (at : ℕ) (v : ℤ) → Exp
  boolean : (at : ℕ) (b : Bool) → Exp
  variable : (x : Name) → Exp
  qualified : (at : ℕ) (m x : Name) → Exp
  is_zero : (at : ℕ) (a : Exp) → Exp
  apply : (at : ℕ) (a b : Exp) → Exp
  proc : (at : ℕ) (x : Name) (t : WrittenType) (body : Exp) → Exp
  let_in : (at : ℕ) (x : Name) (a body : Exp) → Exp
  conditional : (at : ℕ) (test consequent alternative : Exp) → Exp
  letrec : (at : ℕ) (r : WrittenType) (f x : Name) (t : WrittenType) (body rest : Exp) → Exp
  binary : (at : ℕ) (o : Operator) (a b : Exp) → Exp

-- `opaque t`, `transparent t = T`, `x : T`
pub data Declaration : Type 0 where
  opaque_type : (at : ℕ) (t : Name) → Declaration
  transparent_type : (at : ℕ) (t : Name) (is : WrittenType) → Declaration
  value_of_type : (x : Name) (t : WrittenType) → Declaration

-- `type t = T`, `x = E`
pub data Definition : Type 0 where
  type_is : (at : ℕ) (t : Name) (is : WrittenType) → Definition
  value_is : (x : Name) (e : Exp) → Definition

-- `module m interface [` declarations `] body [` definitions `]`
pub record Module : Type 0 where
  pub at : ℕ
  pub name : Name
  pub interface : List Declaration
  pub body : List Definition

-- modules, then one expression
pub record Sheet : Type 0 where
  pub modules : List Module
  pub closing : Exp

-- How many places of the tree the proper parts of a part take; the part itself takes one more, behind them.
abbrev pub inner_t : WrittenType → ℕ
inner_t (int_type at) = 0
inner_t (bool_type at) = 0
inner_t (named_type t) = 0
inner_t (qualified_type at m t) = 0
inner_t (arrow_type at a b) = (inner_t a + 1) + (inner_t b + 1)

-- of an expression
abbrev pub inner_e : Exp → ℕ
inner_e (number at v) = 0
inner_e (boolean at b) = 0
inner_e (variable x) = 0
inner_e (qualified at m x) = 0
inner_e (is_zero at a) = inner_e a + 1
inner_e (apply at a b) = (inner_e a + 1) + (inner_e b + 1)
inner_e (proc at x t e) = (inner_t t + 1) + (inner_e e + 1)
inner_e (let_in at x a e) = (inner_e a + 1) + (inner_e e + 1)
inner_e (conditional at a b c) = (inner_e a + 1) + ((inner_e b + 1) + (inner_e c + 1))
inner_e (letrec at r f x t b e) = (inner_t r + 1) + ((inner_t t + 1) + ((inner_e b + 1) + (inner_e e + 1)))
inner_e (binary at o a b) = (inner_e a + 1) + (inner_e b + 1)

-- of a declaration
abbrev pub inner_d : Declaration → ℕ
inner_d (opaque_type at t) = 0
inner_d (transparent_type at t is) = inner_t is + 1
inner_d (value_of_type x t) = inner_t t + 1

-- of a definition
abbrev pub inner_f : Definition → ℕ
inner_f (type_is at t is) = inner_t is + 1
inner_f (value_is x e) = inner_e e + 1

-- the places of several parts
abbrev pub places : {A : Type 0} → (A → ℕ) → List A → ℕ
places inner [] = 0
places inner (a ∷ r) = (inner a + 1) + places inner r

-- of a module
abbrev pub inner_m : Module → ℕ
inner_m m = places inner_d m.interface + places inner_f m.body

-- the places of a whole sheet
abbrev pub size : Sheet → ℕ
size s = places inner_m s.modules + (inner_e s.closing + 1)

-- how many parts there are
abbrev pub count : {A : Type 0} → List A → ℕ
count [] = 0
count (a ∷ r) = count r + 1
