-- What a sheet needs of the limits and of the tables: the types that its parts form, and the names that are in scope at once.
use Rattle.std.specs.Prelude.{◌≡◌, ℕ, ◌+◌, ◌≤◌, max, false, cond, List, [], ◌∷◌, ◌++◌, length}
use Rattle.std.proofs.Math.Option.{Option, none, some}
use Rattle.words.specs.Names.{Name}
use Rattle.language.specs.Names.{bind}
use Rattle.language.specs.Pantry.{Stock}
use Rattle.language.specs.Syntax.{
  WrittenType,
  int_type,
  bool_type,
  named_type,
  qualified_type,
  arrow_type,
  Exp,
  number,
  boolean,
  variable,
  qualified,
  is_zero,
  apply,
  proc,
  let_in,
  conditional,
  letrec,
  binary,
  Declaration,
  opaque_type,
  transparent_type,
  value_of_type,
  Definition,
  type_is,
  value_is,
  Module,
  Sheet,
}
use Rattle.language.specs.Typing.{ExpandedType, int, bool, hidden, ◌⇒◌, Context, Environment, Interfaces, expand, stock_types}
use Rattle.language.specs.TypeOf.{type_of}
use Rattle.language.specs.Modules.{seeing}
use Rattle.language.specs.Check.{outward_of, body_of}
use Rattle.rules.specs.Rules.{depth, depth_limit, member, types_of}
use Rattle.rules.specs.Checking.{onto, kind_types}

-- go on with what is there
abbrev pub along : {A B : Type 0} → Option A → (A → List B) → List B
along none f = []
along (some a) f = f a

-- ── the types that the parts form, parts before whole ──

-- the arrows of a written type
abbrev pub formed_t : Environment → WrittenType → List ExpandedType
formed_t e int_type = []
formed_t e bool_type = []
formed_t e (named_type t) = []
formed_t e (qualified_type m t) = []
formed_t e (arrow_type a b) = formed_t e a ++ (formed_t e b ++ along (expand e a) (λ x. along (expand e b) (λ y. (x ⇒ y) ∷ [])))

-- the arrows of an expression: those written in it, and those of each `proc` and `letrec`
abbrev pub formed_e : Environment → Context → Exp → List ExpandedType
formed_e e g (number z) = []
formed_e e g (boolean b) = []
formed_e e g (variable x) = []
formed_e e g (qualified m x) = []
formed_e e g (is_zero p) = formed_e e g p
formed_e e g (apply p q) = formed_e e g p ++ formed_e e g q
formed_e e g (proc x t p) = formed_t e t ++
    along (expand e t) (λ a. formed_e e (bind x a ∷ g) p ++ along (type_of e (bind x a ∷ g) p) (λ b. (a ⇒ b) ∷ []))
formed_e e g (let_in x p q) = formed_e e g p ++ along (type_of e g p) (λ a. formed_e e (bind x a ∷ g) q)
formed_e e g (conditional p q r) = formed_e e g p ++ (formed_e e g q ++ formed_e e g r)
formed_e e g (letrec u f x t p q) = formed_t e u ++ (formed_t e t ++ along (expand e u) (λ b. along (expand e t) (λ a.
    (a ⇒ b) ∷ (formed_e e (bind x a ∷ (bind f (a ⇒ b) ∷ g)) p ++ formed_e e (bind f (a ⇒ b) ∷ g) q))))
formed_e e g (binary o p q) = formed_e e g p ++ formed_e e g q

-- the types of an interface read outward: its hidden types and its arrows
abbrev pub formed_outward : Interfaces → Context → Name → Context → List Declaration → List ExpandedType
formed_outward n s m ts [] = []
formed_outward n s m ts (opaque_type t ∷ ds) = hidden m t ∷ formed_outward n s m (bind t (hidden m t) ∷ ts) ds
formed_outward n s m ts (transparent_type t u ∷ ds) =
    formed_t (seeing ts n s) u ++ along (expand (seeing ts n s) u) (λ a. formed_outward n s m (bind t a ∷ ts) ds)
formed_outward n s m ts (value_of_type x u ∷ ds) = formed_t (seeing ts n s) u ++ formed_outward n s m ts ds

-- the types of a body
abbrev pub formed_body : Interfaces → Context → Context → Context → List Definition → List ExpandedType
formed_body n s ts g [] = []
formed_body n s ts g (type_is t u ∷ ds) =
    formed_t (seeing ts n s) u ++ along (expand (seeing ts n s) u) (λ a. formed_body n s (bind t a ∷ ts) g ds)
formed_body n s ts g (value_is x p ∷ ds) =
    formed_e (seeing ts n s) g p ++ along (type_of (seeing ts n s) g p) (λ a. formed_body n s ts (bind x a ∷ g) ds)

-- the types of an interface read inward, where e has the type names of the body
abbrev pub formed_inward : Environment → List Declaration → List ExpandedType
formed_inward e [] = []
formed_inward e (opaque_type t ∷ ds) = formed_inward e ds
formed_inward e (transparent_type t u ∷ ds) = formed_t e u ++ formed_inward e ds
formed_inward e (value_of_type x u ∷ ds) = formed_t e u ++ formed_inward e ds

-- the types of a body, and then those of its interface read inward
abbrev pub formed_inside : Interfaces → Context → List Declaration → List Definition → List ExpandedType
formed_inside n s ds body = formed_body n s [] [] body ++
    along (body_of n s [] [] body) (λ made. formed_inward (seeing (types_of (onto made [])) n s) ds)

-- the types of the modules, where n are the interfaces before them, and then those of the closing expression
abbrev pub formed_modules : Context → Interfaces → List Module → Exp → List ExpandedType
formed_modules s n [] closing = formed_e (seeing [] n s) [] closing
formed_modules s n (m ∷ ms) closing = formed_outward n s m.name [] m.interface ++ (formed_inside n s m.interface m.body ++
    along (outward_of n s m.name [] [] m.interface) (λ i. formed_modules s (n ++ (bind m.name i ∷ [])) ms closing))

-- all the types of a sheet, in the order in which they are met
abbrev pub formed : Stock → Sheet → List ExpandedType
formed kinds sheet = (int ∷ bool ∷ kind_types kinds) ++ formed_modules (stock_types kinds) [] sheet.modules sheet.closing

-- a list with one type more, unless it has it
abbrev pub with_type : List ExpandedType → ExpandedType → List ExpandedType
with_type ts a = cond (member a ts) ts (ts ++ a ∷ [])

-- a list with each of some types, once
abbrev pub with_types : List ExpandedType → List ExpandedType → List ExpandedType
with_types ts [] = ts
with_types ts (a ∷ more) = with_types (with_type ts a) more

-- the distinct types of a sheet
abbrev pub distinct_types : Stock → Sheet → List ExpandedType
distinct_types kinds sheet = with_types [] (formed kinds sheet)

-- each type of the list stands there once
abbrev pub Once : List ExpandedType → Type 0
Once [] = Unit {0}
Once (a ∷ ts) = (member a ts ≡ false) × Once ts

-- no type of the list is deeper than the limit
abbrev pub Shallow : List ExpandedType → Type 0
Shallow [] = Unit {0}
Shallow (a ∷ ts) = (depth a ≤ depth_limit) × Shallow ts

-- ── how many names are in scope at once ──

-- of those that the expression binds
abbrev pub names_e : Exp → ℕ
names_e (number z) = 0
names_e (boolean b) = 0
names_e (variable x) = 0
names_e (qualified m x) = 0
names_e (is_zero p) = names_e p
names_e (apply p q) = max (names_e p) (names_e q)
names_e (proc x t p) = 1 + names_e p
names_e (let_in x p q) = max (names_e p) (1 + names_e q)
names_e (conditional p q r) = max (names_e p) (max (names_e q) (names_e r))
names_e (letrec u f x t p q) = 1 + max (1 + names_e p) (names_e q)
names_e (binary o p q) = max (names_e p) (names_e q)

-- of those of a body
abbrev pub names_body : List Definition → ℕ
names_body [] = 0
names_body (type_is t u ∷ ds) = 1 + names_body ds
names_body (value_is x p ∷ ds) = max (names_e p) (1 + names_body ds)

-- of those of the modules and of the closing expression: declarations stay, the names of a body leave with it
abbrev pub names_modules : List Module → Exp → ℕ
names_modules [] closing = names_e closing
names_modules (m ∷ ms) closing = length m.interface + max (names_body m.body) (names_modules ms closing)

-- of those of a sheet
abbrev pub names_in : Sheet → ℕ
names_in sheet = names_modules sheet.modules sheet.closing

-- No limit and no table is exceeded: no type of the sheet is too deep, its distinct types and its names have places.
pub record Within (kinds : Stock) (type_places scope_places : ℕ) (sheet : Sheet) : Type 0 where
  pub shallow : Shallow (formed kinds sheet)
  pub types_fit : length (distinct_types kinds sheet) ≤ type_places
  pub names_fit : names_in sheet ≤ scope_places
