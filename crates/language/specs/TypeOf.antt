-- The type of an expression as a function: the parts first, from left to right, then what is asked of them.
use Rattle.std.specs.Prelude.{◌≡◌, Bool, true, false, ◌&&◌, ◌↔◌, ◌∷◌}
use Rattle.std.proofs.Math.Option.{Option, none, some}
use Rattle.language.specs.Options.{◌then◌, need}
use Rattle.std.specs.Str.{bytes_eq}
use Rattle.language.specs.Names.{bind, lookup}
use Rattle.language.specs.Syntax.{Exp, number, boolean, variable, qualified, is_zero, apply, proc, let_in, conditional, letrec, binary}
use Rattle.language.specs.Typing.{ExpandedType, int, bool, hidden, ◌⇒◌, Context, Environment, taken, expand, result_of, HasType}

-- are the types the same? Hidden types are if their declarations are spelled the same
abbrev pub same_type : ExpandedType → ExpandedType → Bool
same_type int int = true
same_type int bool = false
same_type int (hidden m t) = false
same_type int (a ⇒ b) = false
same_type bool int = false
same_type bool bool = true
same_type bool (hidden m t) = false
same_type bool (a ⇒ b) = false
same_type (hidden m t) int = false
same_type (hidden m t) bool = false
same_type (hidden m t) (hidden m' t') = bytes_eq m m' && bytes_eq t t'
same_type (hidden m t) (a ⇒ b) = false
same_type (a ⇒ b) int = false
same_type (a ⇒ b) bool = false
same_type (a ⇒ b) (hidden m t) = false
same_type (a ⇒ b) (c ⇒ d) = same_type a c && same_type b d

-- the result of an application of the first type to the second
abbrev pub on_argument : ExpandedType → ExpandedType → Option ExpandedType
on_argument int a = none
on_argument bool a = none
on_argument (hidden m t) a = none
on_argument (c ⇒ b) a = need (same_type a c) (some b)

-- the type, if there is one
abbrev pub type_of : Environment → Context → Exp → Option ExpandedType
type_of e g (number z) = some int
type_of e g (boolean b) = some bool
type_of e g (variable x) = lookup g x
type_of e g (qualified m x) = taken e m x
type_of e g (is_zero p) = type_of e g p then λ a. need (same_type a int) (some bool)
type_of e g (apply p q) = type_of e g p then λ f. type_of e g q then λ a. on_argument f a
type_of e g (proc x t p) = expand e t then λ a. type_of e (bind x a ∷ g) p then λ b. some (a ⇒ b)
type_of e g (let_in x p q) = type_of e g p then λ a. type_of e (bind x a ∷ g) q
type_of e g (conditional p q r) = type_of e g p then λ a. type_of e g q then λ b. type_of e g r then λ c. need (same_type a bool)
    (need (same_type c b) (some b))
type_of e g (letrec u f x t p q) = expand e u then λ b. expand e t then λ a.
    type_of e (bind x a ∷ (bind f (a ⇒ b) ∷ g)) p then λ c. need (same_type c b) (type_of e (bind f (a ⇒ b) ∷ g) q)
type_of e g (binary o p q) = type_of e g p then λ a. type_of e g q then λ b. need (same_type a int)
    (need (same_type b int) (some (result_of o)))

-- the function gives a type exactly when the rules do, and gives that type
abbrev pub TypeOfAgrees : Type 0
TypeOfAgrees = (e : Environment) (g : Context) (p : Exp) (a : ExpandedType) → (type_of e g p ≡ some a) ↔ HasType e g p a
