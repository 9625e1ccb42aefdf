-- Sample texts and what the check says of them, all in one statement.
use Rattle.std.specs.Prelude.{◌≡◌, ℕ, zero, suc, List, [], ◌∷◌, ◌++◌, codes}
use Rattle.language.specs.Names.{bind}
use Rattle.language.specs.Pantry.{Stock, figure_kind, figure_by_item, flag_by_item}
use Rattle.language.specs.Typing.{ExpandedType, int, hidden, ◌⇒◌}
use Rattle.grammar.specs.Reading as reading
use Rattle.grammar.specs.Syntax.{Sheet}
use Rattle.rules.specs.Faults.{number_of, place_of}
use Rattle.rules.specs.Forms as check
use Rattle.rules.specs.Checking.{checking}

-- the type that a text passes with, or its refusal with number and place
pub data Answer : Type 0 where
  passes : ExpandedType → Answer
  refused : (number place : ℕ) → Answer

-- what the check says
abbrev pub checked : check.Out (List ExpandedType) ExpandedType → Answer
checked (check.bad f) = refused (number_of f) (place_of f)
checked (check.good a ts) = passes a

-- a pantry with two entries by item and a figure
abbrev pub kinds : Stock
kinds = bind (codes "kcal") figure_by_item ∷ bind (codes "allergen") flag_by_item ∷ bind (codes "items") figure_kind ∷ []

-- what is said of a text that was read so
abbrev pub answered : (type_places scope_places : ℕ) → reading.Out Sheet → Answer
answered type_places scope_places (reading.bad k at) = refused k at
answered type_places scope_places (reading.good s e) = checked (checking kinds type_places scope_places s)

-- with tables of so many places
abbrev pub answer_in : (type_places scope_places : ℕ) → List ℕ → Answer
answer_in type_places scope_places text = answered type_places scope_places (reading.reading 2048 text)

-- with tables that have places enough
abbrev pub answer : List ℕ → Answer
answer = answer_in 2048 2048

-- a module that hides what a gram is
abbrev pub salt : List ℕ
salt = codes "module salt interface [opaque g zero : g more : (g -> g) mg : (g -> int)] " ++
    codes "body [type g = int zero = 0 more = proc (x : g) +(x,400) mg = proc (x : g) x] "

-- the text k times
abbrev pub times : ℕ → List ℕ → List ℕ
times zero t = []
times (suc k) t = t ++ times k t

-- a type with so many arrows, one within the other
abbrev pub nested : ℕ → List ℕ
nested k = times k (codes "(") ++ (codes "int" ++ times k (codes " -> int)"))

-- the samples
pub record Samples : Type 0 where
  pub plain_number : answer (codes "33") ≡ passes int
  pub sum : answer (codes "+(1,true)") ≡ refused 11 4
  pub salt_passes : answer (salt ++ codes "(from salt take mg (from salt take more from salt take zero))") ≡ passes int
  pub salt_hides : answer (salt ++ codes "+(from salt take zero,1)") ≡ refused 11 154
  pub salt_hidden : answer (salt ++ codes "from salt take zero") ≡ passes (hidden (codes "salt") (codes "g"))
  pub pantry_entry : answer (codes "from pantry take kcal") ≡ passes (int ⇒ int)
  pub recursion : answer (codes "letrec int f (x : int) = if zero?(x) then 0 else (f -(x,1)) in f") ≡ passes (int ⇒ int)
  pub declared_twice : answer (codes "module m interface [x : int x : bool] body [x = 1] 1") ≡ refused 8 28
  pub defined_twice : answer (codes "module m interface [] body [x = 1 type x = int] 1") ≡ refused 8 39
  pub module_twice : answer (codes "module m interface [] body [] module m interface [] body [] 1") ≡ refused 8 37
  pub module_pantry : answer (codes "module pantry interface [] body [] 1") ≡ refused 8 7
  pub parts_first : answer (codes "if 1 then 1 else nope") ≡ refused 9 17
  pub own_module : answer (codes "module m interface [x : int] body [y = 1 x = from m take x] 1") ≡ refused 9 45
  pub interface_unseen : answer (codes "module m interface [opaque t] body [x = proc (y : t) y type t = int] 1") ≡ refused 10 50
  pub pantry_type : answer (codes "proc (x : from pantry take t) x") ≡ refused 10 10
  pub body_first : answer (codes "letrec bool f (x : int) = x in nope") ≡ refused 11 26
  pub no_arrow : answer (codes "(1 true)") ≡ refused 12 1
  pub hidden_arrow :
      answer (codes "module m interface [opaque f g : f] body [type f = (int -> int) g = proc (x : int) x] (from m take g 1)") ≡
      refused 12 87
  pub out_of_order : answer (codes "module m interface [x : int y : int] body [y = 1 x = 2] 1") ≡ refused 13 28
  pub other_kind : answer (codes "module m interface [opaque t] body [t = 1] 1") ≡ refused 13 27
  pub other_type : answer (codes "module m interface [x : bool y : int] body [x = 1] 1") ≡ refused 14 20
  pub deep_type : answer (codes "zero?(proc (x : " ++ (nested 31 ++ codes ") x)")) ≡ refused 15 6
  pub too_deep : answer (codes "proc (x : " ++ (nested 32 ++ codes ") x")) ≡ refused 15 10
  pub pantry_full : answer_in 3 2048 (codes "1") ≡ refused 22 0
  pub types_full : answer_in 4 2048 (codes "(proc (x : bool) x true)") ≡ refused 22 1
  pub inward_full : answer_in 6 2048 (codes "module m interface [opaque t x : (t -> int)] body [type t = bool x = 1] 1") ≡ refused 22 33
  pub inward_room : answer_in 7 2048 (codes "module m interface [opaque t x : (t -> int)] body [type t = bool x = 1] 1") ≡ refused 14 29
  pub scope_full : answer_in 2048 0 (codes "+(1,let x = 1 in x)") ≡ refused 23 4
  pub declarations_stay : answer_in 2048 2 (codes "module m interface [x : int] body [x = 1] let x = 1 in let y = 2 in x") ≡ refused 23 55
