-- The map that forgets the places, from what is read into the syntax of the language. Assumes nothing.
use Rattle.std.specs.Prelude.{map}
use Rattle.language.specs.Syntax as language
use Rattle.grammar.specs.declared.tree.Operator.{Operator}
use Rattle.grammar.specs.declared.tree.Operator.TheVariants as operator
use Rattle.grammar.specs.Syntax.{WrittenType, Exp, Declaration, Definition, Module, Sheet}
use Rattle.grammar.specs.Syntax as is

-- operators
abbrev pub plain_o : Operator → language.Operator
plain_o operator.Plus = language.plus
plain_o operator.Minus = language.minus
plain_o operator.Times = language.times
plain_o operator.Over = language.over
plain_o operator.Less = language.less

-- a written type
abbrev pub plain_t : WrittenType → language.WrittenType
plain_t (is.int_type at) = language.int_type
plain_t (is.bool_type at) = language.bool_type
plain_t (is.named_type t) = language.named_type t.bytes
plain_t (is.qualified_type at m t) = language.qualified_type m.bytes t.bytes
plain_t (is.arrow_type at a b) = language.arrow_type (plain_t a) (plain_t b)

-- an expression
abbrev pub plain_e : Exp → language.Exp
plain_e (is.number at v) = language.number v
plain_e (is.boolean at b) = language.boolean b
plain_e (is.variable x) = language.variable x.bytes
plain_e (is.qualified at m x) = language.qualified m.bytes x.bytes
plain_e (is.is_zero at a) = language.is_zero (plain_e a)
plain_e (is.apply at a b) = language.apply (plain_e a) (plain_e b)
plain_e (is.proc at x t e) = language.proc x.bytes (plain_t t) (plain_e e)
plain_e (is.let_in at x a e) = language.let_in x.bytes (plain_e a) (plain_e e)
plain_e (is.conditional at a b c) = language.conditional (plain_e a) (plain_e b) (plain_e c)
plain_e (is.letrec at r f x t b e) = language.letrec (plain_t r) f.bytes x.bytes (plain_t t) (plain_e b) (plain_e e)
plain_e (is.binary at o a b) = language.binary (plain_o o) (plain_e a) (plain_e b)

-- a declaration
abbrev pub plain_d : Declaration → language.Declaration
plain_d (is.opaque_type at t) = language.opaque_type t.bytes
plain_d (is.transparent_type at t a) = language.transparent_type t.bytes (plain_t a)
plain_d (is.value_of_type x t) = language.value_of_type x.bytes (plain_t t)

-- a definition
abbrev pub plain_f : Definition → language.Definition
plain_f (is.type_is at t a) = language.type_is t.bytes (plain_t a)
plain_f (is.value_is x e) = language.value_is x.bytes (plain_e e)

-- a module
abbrev pub plain_m : Module → language.Module
plain_m m = record { name = m.name.bytes; interface = map plain_d m.interface; body = map plain_f m.body }

-- the sheet without its places
abbrev pub plain : Sheet → language.Sheet
plain s = record { modules = map plain_m s.modules; closing = plain_e s.closing }
