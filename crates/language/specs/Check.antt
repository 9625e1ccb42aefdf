-- The type of a sheet as a function, limits apart: module after module (name, interface, body, match), then the closing expression.
-- Which fault a refusal has is for the check itself to say.
use Rattle.std.specs.Prelude.{◌≡◌, Bool, true, false, cond, not, ◌&&◌, ◌↔◌, List, [], ◌∷◌, ◌++◌, map}
use Rattle.std.proofs.Math.Option.{Option, none, some}
use Rattle.words.specs.Names.{Name, same_name}
use Rattle.language.specs.Names.{pantry_name, bind, lookup, distinct}
use Rattle.language.specs.Syntax.{Exp, Declaration, opaque_type, transparent_type, value_of_type, Definition, type_is, value_is, Module, Sheet}
use Rattle.language.specs.Typing.{ExpandedType, hidden, Context, Interface, Environment, expand, HasType, Interfaces}
use Rattle.language.specs.TypeOf.{same_type, type_of}
use Rattle.language.specs.Options.{◌then◌, need}
use Rattle.language.specs.Modules.{seeing, declared_name, Made, made_type, made_value, made_name, SheetTyped}

-- the interface as others see it, with ts and vs declared so far
abbrev pub outward_of : Interfaces → Context → Name → Context → Context → List Declaration → Option Interface
outward_of n s m ts vs [] = some (record { types = ts; values = vs })
outward_of n s m ts vs (opaque_type t ∷ ds) = outward_of n s m (bind t (hidden m t) ∷ ts) vs ds
outward_of n s m ts vs (transparent_type t u ∷ ds) = expand (seeing ts n s) u then λ a. outward_of n s m (bind t a ∷ ts) vs ds
outward_of n s m ts vs (value_of_type x u ∷ ds) = expand (seeing ts n s) u then λ a. outward_of n s m ts (bind x a ∷ vs) ds

-- what the definitions make, after those that made ts and g
abbrev pub body_of : Interfaces → Context → Context → Context → List Definition → Option (List Made)
body_of n s ts g [] = some []
body_of n s ts g (type_is t u ∷ ds) =
    expand (seeing ts n s) u then λ a. body_of n s (bind t a ∷ ts) g ds then λ ms. some (made_type t a ∷ ms)
body_of n s ts g (value_is x p ∷ ds) =
    type_of (seeing ts n s) g p then λ a. body_of n s ts (bind x a ∷ g) ds then λ ms. some (made_value x a ∷ ms)

-- is it that type?
abbrev pub agrees : Option ExpandedType → ExpandedType → Bool
agrees none a = false
agrees (some b) a = same_type b a

-- do the declarations match what was made?
abbrev pub matched : Interfaces → Context → Context → List Declaration → List Made → Bool
matched n s ts [] ms = true
matched n s ts (d ∷ ds) [] = false
matched n s ts (opaque_type t ∷ ds) (made_type k a ∷ ms) =
    cond (same_name k t) (matched n s (bind t a ∷ ts) ds ms) (matched n s ts (opaque_type t ∷ ds) ms)
matched n s ts (opaque_type t ∷ ds) (made_value k a ∷ ms) = matched n s ts (opaque_type t ∷ ds) ms
matched n s ts (transparent_type t u ∷ ds) (made_type k a ∷ ms) =
    cond (same_name k t) (agrees (expand (seeing ts n s) u) a && matched n s (bind t a ∷ ts) ds ms)
    (matched n s ts (transparent_type t u ∷ ds) ms)
matched n s ts (transparent_type t u ∷ ds) (made_value k a ∷ ms) = matched n s ts (transparent_type t u ∷ ds) ms
matched n s ts (value_of_type x u ∷ ds) (made_type k a ∷ ms) = matched n s ts (value_of_type x u ∷ ds) ms
matched n s ts (value_of_type x u ∷ ds) (made_value k a ∷ ms) =
    cond (same_name k x) (agrees (expand (seeing ts n s) u) a && matched n s ts ds ms) (matched n s ts (value_of_type x u ∷ ds) ms)

-- is there no module of that name yet?
abbrev pub is_none : Option Interface → Bool
is_none none = true
is_none (some i) = false

-- the interfaces after the modules, where n are those before
abbrev pub modules_of : Context → Interfaces → List Module → Option Interfaces
modules_of s n [] = some n
modules_of s n (m ∷ ms) =
    need (is_none (lookup n m.name)) (need (not (same_name pantry_name m.name)) (need (distinct (map declared_name m.interface))
    (outward_of n s m.name [] [] m.interface then λ i. body_of n s [] [] m.body then λ k.
    need (distinct (map made_name k)) (need (matched n s [] m.interface k) (modules_of s (n ++ (bind m.name i ∷ [])) ms)))))

-- the type of the sheet, if it has one
abbrev pub check_of : Context → Sheet → Option ExpandedType
check_of s sheet = modules_of s [] sheet.modules then λ n. type_of (seeing [] n s) [] sheet.closing

-- the function gives a sheet a type exactly when the rules do, and gives that type
abbrev pub CheckAgrees : Type 0
CheckAgrees = (s : Context) (sheet : Sheet) (r : ExpandedType) → (check_of s sheet ≡ some r) ↔ SheetTyped s sheet r

-- typing is unambiguous: an expression and a sheet have one type at most
pub record OneType : Type 0 where
  pub of_expression : (e : Environment) (g : Context) (p : Exp) (a b : ExpandedType) → HasType e g p a → HasType e g p b → a ≡ b
  pub of_sheet : (s : Context) (sheet : Sheet) (a b : ExpandedType) → SheetTyped s sheet a → SheetTyped s sheet b → a ≡ b
