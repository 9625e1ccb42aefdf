-- The syntax of sheets: written types, expressions, modules, without their places in the text. Limits are no part of it.
use Rattle.std.specs.Prelude.{Bool, List, ℤ}
use Rattle.words.specs.Names.{Name}

-- a type as written
pub data WrittenType : Type 0 where
  int_type bool_type : WrittenType
  named_type : Name → WrittenType
  qualified_type : Name → Name → WrittenType
  arrow_type : WrittenType → WrittenType → WrittenType

-- the operations on two sides
pub data Operator : Type 0 where
  plus minus times over less : Operator

-- expressions; `letrec u f x t body rest` is written `letrec u f (x : t) = body in rest`
pub data Exp : Type 0 where
  number : ℤ → Exp
  boolean : Bool → Exp
  variable : Name → Exp
  qualified : Name → Name → Exp
  is_zero : Exp → Exp
  apply : Exp → Exp → Exp
  proc : Name → WrittenType → Exp → Exp
  let_in : Name → Exp → Exp → Exp
  conditional : Exp → Exp → Exp → Exp
  letrec : WrittenType → Name → Name → WrittenType → Exp → Exp → Exp
  binary : Operator → Exp → Exp → Exp

-- what an interface declares: `opaque t`, `transparent t = T`, `x : T`
pub data Declaration : Type 0 where
  opaque_type : Name → Declaration
  transparent_type : Name → WrittenType → Declaration
  value_of_type : Name → WrittenType → Declaration

-- what a body defines: `type t = T`, `x = E`
pub data Definition : Type 0 where
  type_is : Name → WrittenType → Definition
  value_is : Name → Exp → Definition

-- a module, with the declarations of its interface and the definitions of its body in order
pub record Module : Type 0 where
  pub name : Name
  pub interface : List Declaration
  pub body : List Definition

-- a sheet: its modules in order, and the expression that closes it
pub record Sheet : Type 0 where
  pub modules : List Module
  pub closing : Exp
