-- The typing rules for modules and sheets: interfaces as others see them, bodies, how an interface is matched, and a whole sheet.
use Rattle.std.specs.Prelude.{◌≡◌, true, false, List, [], ◌∷◌, ◌++◌, map}
use Rattle.std.proofs.Math.Option.{none, some}
use Rattle.words.specs.Names.{Name, same_name}
use Rattle.language.specs.Names.{pantry_name, Binding, bind, lookup, distinct}
use Rattle.language.specs.Syntax.{
  WrittenType,
  Exp,
  Declaration,
  opaque_type,
  transparent_type,
  value_of_type,
  Definition,
  type_is,
  value_is,
  Module,
  Sheet,
}
use Rattle.language.specs.Typing.{ExpandedType, hidden, Context, Interface, Environment, expand, HasType, Interfaces}

-- the environment after modules with the interfaces n, with these type names and these names of the pantry
abbrev pub seeing : Context → Interfaces → Context → Environment
seeing ts n s = record { types = ts; modules = n; stock = s }

-- the name that a declaration declares
abbrev pub declared_name : Declaration → Name
declared_name (opaque_type t) = t
declared_name (transparent_type t u) = t
declared_name (value_of_type x u) = x

-- what a definition makes: a type name with its expansion, or a value name with its type
pub data Made : Type 0 where
  made_type : Name → ExpandedType → Made
  made_value : Name → ExpandedType → Made

-- the name that it makes
abbrev pub made_name : Made → Name
made_name (made_type t a) = t
made_name (made_value x a) = x

-- `Outward n s m ts vs ds i`: with ts and vs declared so far, the declarations ds of module m make the interface i, in which an opaque
-- type is hidden and a transparent one is its expansion
pub data Outward (n : Interfaces) (s : Context) (m : Name) : Context → Context → List Declaration → Interface → Type 0 where
  o_end : {ts vs : Context} → Outward n s m ts vs [] (record { types = ts; values = vs })
  o_opaque : {ts vs : Context} {t : Name} {ds : List Declaration} {i : Interface} →
      Outward n s m (bind t (hidden m t) ∷ ts) vs ds i → Outward n s m ts vs (opaque_type t ∷ ds) i
  o_transparent : {ts vs : Context} {t : Name} {u : WrittenType} {a : ExpandedType} {ds : List Declaration} {i : Interface} →
      expand (seeing ts n s) u ≡ some a → Outward n s m (bind t a ∷ ts) vs ds i → Outward n s m ts vs (transparent_type t u ∷ ds) i
  o_value : {ts vs : Context} {x : Name} {u : WrittenType} {a : ExpandedType} {ds : List Declaration} {i : Interface} →
      expand (seeing ts n s) u ≡ some a → Outward n s m ts (bind x a ∷ vs) ds i → Outward n s m ts vs (value_of_type x u ∷ ds) i

-- `BodyTyped n s ts g ds ms`: after definitions that made the types ts and the values g, the definitions ds make ms
pub data BodyTyped (n : Interfaces) (s : Context) : Context → Context → List Definition → List Made → Type 0 where
  b_end : {ts g : Context} → BodyTyped n s ts g [] []
  b_type : {ts g : Context} {t : Name} {u : WrittenType} {a : ExpandedType} {ds : List Definition} {ms : List Made} →
      expand (seeing ts n s) u ≡ some a → BodyTyped n s (bind t a ∷ ts) g ds ms → BodyTyped n s ts g (type_is t u ∷ ds) (made_type t a ∷ ms)
  b_value : {ts g : Context} {x : Name} {p : Exp} {a : ExpandedType} {ds : List Definition} {ms : List Made} →
      HasType (seeing ts n s) g p a → BodyTyped n s ts (bind x a ∷ g) ds ms → BodyTyped n s ts g (value_is x p ∷ ds) (made_value x a ∷ ms)

-- the environment of each expression of the body, in order
abbrev pub body_sees : {n : Interfaces} {s ts g : Context} {ds : List Definition} {ms : List Made} →
    BodyTyped n s ts g ds ms → List Environment
body_sees b_end = []
body_sees (b_type h b) = body_sees b
body_sees {n} {s} (b_value {ts = ts} h b) = seeing ts n s ∷ body_sees b

-- `Matches n s ts ds ms`: one after another, the declarations ds find their definitions in ms, each further on than the last. A type name
-- of the interface stands for what the body made of it (ts, for those matched so far), and by that reading the types agree.
pub data Matches (n : Interfaces) (s : Context) : Context → List Declaration → List Made → Type 0 where
  m_end : {ts : Context} {ms : List Made} → Matches n s ts [] ms
  m_skip : {ts : Context} {d : Declaration} {ds : List Declaration} {k : Made} {ms : List Made} →
      Matches n s ts (d ∷ ds) ms → Matches n s ts (d ∷ ds) (k ∷ ms)
  m_opaque : {ts : Context} {t t' : Name} {a : ExpandedType} {ds : List Declaration} {ms : List Made} → same_name t' t ≡ true →
      Matches n s (bind t a ∷ ts) ds ms → Matches n s ts (opaque_type t ∷ ds) (made_type t' a ∷ ms)
  m_transparent : {ts : Context} {t t' : Name} {u : WrittenType} {a : ExpandedType} {ds : List Declaration} {ms : List Made} →
      same_name t' t ≡ true → expand (seeing ts n s) u ≡ some a →
      Matches n s (bind t a ∷ ts) ds ms → Matches n s ts (transparent_type t u ∷ ds) (made_type t' a ∷ ms)
  m_value : {ts : Context} {x x' : Name} {u : WrittenType} {a : ExpandedType} {ds : List Declaration} {ms : List Made} →
      same_name x' x ≡ true → expand (seeing ts n s) u ≡ some a →
      Matches n s ts ds ms → Matches n s ts (value_of_type x u ∷ ds) (made_value x' a ∷ ms)

-- the opaque types, each with what the body made of it
abbrev pub opaques_of : {n : Interfaces} {s ts : Context} {ds : List Declaration} {ms : List Made} → Matches n s ts ds ms → Context
opaques_of m_end = []
opaques_of (m_skip m) = opaques_of m
opaques_of (m_opaque {t = t} {a = a} e m) = bind t a ∷ opaques_of m
opaques_of (m_transparent e h m) = opaques_of m
opaques_of (m_value e h m) = opaques_of m

-- the interface with the declarations ds accepts the body: it is typed, no two of its names are the same, and the declarations match it
pub record Accepts (n : Interfaces) (s : Context) (ds : List Declaration) (body : List Definition) : Type 0 where
  pub made : List Made
  pub typed : BodyTyped n s [] [] body made
  pub apart : distinct (map made_name made) ≡ true
  pub matched : Matches n s [] ds made

-- `ModulesTyped s n ms n'`: after modules with the interfaces n, the modules ms are typed, and the interfaces are n' then
pub data ModulesTyped (s : Context) : Interfaces → List Module → Interfaces → Type 0 where
  y_none : {n : Interfaces} → ModulesTyped s n [] n
  y_module : {n n' : Interfaces} {m : Module} {ms : List Module} {i : Interface} → lookup n m.name ≡ none →
      same_name pantry_name m.name ≡ false → distinct (map declared_name m.interface) ≡ true →
      Outward n s m.name [] [] m.interface i → Accepts n s m.interface m.body →
      ModulesTyped s (n ++ (bind m.name i ∷ [])) ms n' → ModulesTyped s n (m ∷ ms) n'

-- each module with its opaque types and what its body made of them
abbrev pub hides_of : {s : Context} {n n' : Interfaces} {ms : List Module} → ModulesTyped s n ms n' → List (Binding Context)
hides_of y_none = []
hides_of (y_module {m = m} f g d o a t) = bind m.name (opaques_of a.matched) ∷ hides_of t

-- the environment of each expression of the modules, in order, and of the closing one
abbrev pub sees_of : {s : Context} {n n' : Interfaces} {ms : List Module} → ModulesTyped s n ms n' → List Environment
sees_of {s} (y_none {n = n}) = seeing [] n s ∷ []
sees_of (y_module f g d o a t) = body_sees a.typed ++ sees_of t

-- with these names of the pantry the sheet has the type r, that of its closing expression
pub record SheetTyped (s : Context) (sheet : Sheet) (r : ExpandedType) : Type 0 where
  pub all : Interfaces
  pub modules_typed : ModulesTyped s [] sheet.modules all
  pub closing_typed : HasType (seeing [] all s) [] sheet.closing r
