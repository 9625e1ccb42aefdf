-- The sample sheets: their types, and what their jobs answer. They also show that what the theorems suppose can be had.
use Rattle.std.specs.Prelude.{◌≡◌, ℕ, true, false, List, [], ◌∷◌, replicate, ℤ, pos, negsuc, codes}
use Rattle.std.proofs.Math.Option.{none, some}
use Rattle.words.specs.Names.{Name}
use Rattle.language.specs.Names.{pantry_name}
use Rattle.language.specs.Pantry.{figure_kind, figure_by_item, figure_reply, Pantry, stock_of, Lawful}
use Rattle.language.specs.Syntax
use Rattle.language.specs.Syntax.{Exp, Definition, Module, Sheet, named_type, int_type, bool_type, arrow_type, plus, minus, over}
use Rattle.language.specs.Tree.{
  Part,
  Node,
  type_node,
  int_node,
  named_type_node,
  number_node,
  boolean_node,
  variable_node,
  qualified_node,
  is_zero_node,
  apply_node,
  proc_node,
  conditional_node,
  letrec_node,
  binary_node,
  define,
  end_module,
  Plan,
  SheetStands,
}
use Rattle.language.specs.Typing.{ExpandedType, int, bool, hidden, ◌⇒◌}
use Rattle.language.specs.Modules.{seeing, SheetTyped}
use Rattle.language.specs.Points.{point}
use Rattle.language.specs.Machine.{integer, boolean, closure, blank_cell, blank_frame, store_of, divide_by_zero, no_answer, Cell, value_cell, nearest}
use Rattle.language.specs.Job.{Answer, going_at, done_at, stop_at, answer_of, opened, after}
use Rattle.language.specs.Fits.{Setting, Fits}
use Rattle.language.specs.Safety.{Passes, sheet_of, with_body, AcceptsThere}

-- the answer to an advance by that allowance, of a job just opened on tables of 2,048 places
abbrev pub answer_with : Pantry → Plan → ℕ → Answer
answer_with p plan allowance =
    answer_of (after plan p allowance (opened plan (store_of (replicate 2048 blank_cell) (replicate 2048 blank_frame)))).job

-- with this pantry the sheet has the type r, the plan stands for it, and its job answers so
pub record Runs (p : Pantry) (sheet : Sheet) (plan : Plan) (r : ExpandedType) (a : Answer) : Type 0 where
  pub passes : Passes (stock_of p) sheet r
  pub stands : SheetStands plan sheet
  pub answers : answer_with p plan 1000000 ≡ a

-- with no pantry no type is the sheet's
abbrev pub NoType : Sheet → Type 0
NoType sheet = (r : ExpandedType) → ¬ SheetTyped [] sheet r

-- a plan of a sheet with no modules
abbrev pub closing_only : List Node → Part → Plan
closing_only tree close = record { tree = tree; tasks = []; close = close }

-- ── the module with salt ──

-- a module's name
abbrev pub salt : Name
salt = codes "salt"

-- a name: a type's in salt, a value's elsewhere
abbrev pub g : Name
g = codes "g"

-- a value of salt
abbrev pub zero_name : Name
zero_name = codes "zero"

-- a procedure of salt
abbrev pub more : Name
more = codes "more"

-- another
abbrev pub mg : Name
mg = codes "mg"

-- a parameter
abbrev pub x : Name
x = codes "x"

-- module salt interface [opaque g zero : g more : (g -> g) mg : (g -> int)]
-- body [type g = int zero = 0 more = proc (x : g) +(x,400) mg = proc (x : g) x]
abbrev pub salt_module : Module
salt_module = record {
  name = salt;
  interface = Syntax.opaque_type g ∷ Syntax.value_of_type zero_name (named_type g) ∷
      Syntax.value_of_type more (arrow_type (named_type g) (named_type g)) ∷ Syntax.value_of_type mg (arrow_type (named_type g) int_type) ∷ [];
  body = Syntax.type_is g int_type ∷ Syntax.value_is zero_name (Syntax.number (pos 0)) ∷
      Syntax.value_is more (Syntax.proc x (named_type g) (Syntax.binary plus (Syntax.variable x) (Syntax.number (pos 400)))) ∷
      Syntax.value_is mg (Syntax.proc x (named_type g) (Syntax.variable x)) ∷ [];
}

-- (from salt take mg (from salt take more from salt take zero))
abbrev pub more_salt : Exp
more_salt = Syntax.apply (Syntax.qualified salt mg) (Syntax.apply (Syntax.qualified salt more) (Syntax.qualified salt zero_name))

-- salt, closed by that
abbrev pub salt_sheet : Sheet
salt_sheet = sheet_of (salt_module ∷ []) more_salt

-- its plan
abbrev pub salt_plan : Plan
salt_plan = record {
  tasks = define zero_name 0 ∷ define more 5 ∷ define mg 8 ∷ end_module salt ∷ [];
  close = 13;
  tree =
      number_node (pos 0) ∷
      type_node (named_type_node g) ∷ variable_node x ∷ number_node (pos 400) ∷ binary_node plus 2 3 ∷ proc_node x 1 4 ∷
      type_node (named_type_node g) ∷ variable_node x ∷ proc_node x 6 7 ∷
      qualified_node salt mg ∷ qualified_node salt more ∷ qualified_node salt zero_name ∷ apply_node 10 11 ∷ apply_node 9 12 ∷ [];
}

-- salt, from salt take zero
abbrev pub salt_zero : Sheet
salt_zero = sheet_of (salt_module ∷ []) (Syntax.qualified salt zero_name)

-- its plan
abbrev pub salt_zero_plan : Plan
salt_zero_plan = record {
  tasks = define zero_name 0 ∷ define more 5 ∷ define mg 8 ∷ end_module salt ∷ [];
  close = 9;
  tree =
      number_node (pos 0) ∷
      type_node (named_type_node g) ∷ variable_node x ∷ number_node (pos 400) ∷ binary_node plus 2 3 ∷ proc_node x 1 4 ∷
      type_node (named_type_node g) ∷ variable_node x ∷ proc_node x 6 7 ∷ qualified_node salt zero_name ∷ [];
}

-- salt, +(from salt take zero,1)
abbrev pub salt_plus_one : Sheet
salt_plus_one = sheet_of (salt_module ∷ []) (Syntax.binary plus (Syntax.qualified salt zero_name) (Syntax.number (pos 1)))

-- another body that the interface accepts, with another type for g:
-- [type g = bool zero = false more = proc (x : g) true mg = proc (x : g) if x then 400 else 0]
abbrev pub other_body : List Definition
other_body = Syntax.type_is g bool_type ∷ Syntax.value_is zero_name (Syntax.boolean false) ∷
    Syntax.value_is more (Syntax.proc x (named_type g) (Syntax.boolean true)) ∷
    Syntax.value_is mg (Syntax.proc x (named_type g)
    (Syntax.conditional (Syntax.variable x) (Syntax.number (pos 400)) (Syntax.number (pos 0)))) ∷ []

-- salt with that body, closed as before
abbrev pub other_sheet : Sheet
other_sheet = sheet_of (with_body salt_module other_body ∷ []) more_salt

-- its plan
abbrev pub other_plan : Plan
other_plan = record {
  tasks = define zero_name 0 ∷ define more 3 ∷ define mg 9 ∷ end_module salt ∷ [];
  close = 14;
  tree =
      boolean_node false ∷
      type_node (named_type_node g) ∷ boolean_node true ∷ proc_node x 1 2 ∷
      type_node (named_type_node g) ∷ variable_node x ∷ number_node (pos 400) ∷ number_node (pos 0) ∷ conditional_node 5 6 7 ∷ proc_node x 4 8 ∷
      qualified_node salt mg ∷ qualified_node salt more ∷ qualified_node salt zero_name ∷ apply_node 11 12 ∷ apply_node 10 13 ∷ [];
}

-- ── other sheets ──

-- a number
abbrev pub figure : ℤ → Sheet
figure z = sheet_of [] (Syntax.number z)

-- +(1,true)
abbrev pub plus_true : Sheet
plus_true = sheet_of [] (Syntax.binary plus (Syntax.number (pos 1)) (Syntax.boolean true))

-- /(a,b)
abbrev pub division : ℤ → ℤ → Sheet
division a b = sheet_of [] (Syntax.binary over (Syntax.number a) (Syntax.number b))

-- its plan
abbrev pub division_plan : ℤ → ℤ → Plan
division_plan a b = closing_only (number_node a ∷ number_node b ∷ binary_node over 0 1 ∷ []) 2

-- letrec int g (x : int) = if zero?(x) then 0 else +(2,(g -(x,1))) in (g 3)
abbrev pub doubling : Sheet
doubling = sheet_of [] (Syntax.letrec int_type g x int_type
    (Syntax.conditional (Syntax.is_zero (Syntax.variable x)) (Syntax.number (pos 0))
    (Syntax.binary plus (Syntax.number (pos 2))
    (Syntax.apply (Syntax.variable g) (Syntax.binary minus (Syntax.variable x) (Syntax.number (pos 1))))))
    (Syntax.apply (Syntax.variable g) (Syntax.number (pos 3))))

-- its plan
abbrev pub doubling_plan : Plan
doubling_plan = closing_only (
    type_node int_node ∷ type_node int_node ∷
    variable_node x ∷ is_zero_node 2 ∷ number_node (pos 0) ∷
    number_node (pos 2) ∷ variable_node g ∷ variable_node x ∷ number_node (pos 1) ∷ binary_node minus 7 8 ∷ apply_node 6 9 ∷
    binary_node plus 5 10 ∷ conditional_node 3 4 11 ∷
    variable_node g ∷ number_node (pos 3) ∷ apply_node 13 14 ∷ letrec_node 0 g x 1 12 15 ∷ []) 16

-- an entry's name
abbrev pub kcal : Name
kcal = codes "kcal"

-- another
abbrev pub items : Name
items = codes "items"

-- a pantry of two entries: `kcal`, by item, that has none for any argument, and `items`, which is 0
abbrev pub no_items : Pantry
no_items = record { name = kcal; kind = figure_by_item; reply = λ z. none } ∷
    record { name = items; kind = figure_kind; reply = λ z. some (figure_reply (pos 0)) } ∷ []

-- from pantry take items
abbrev pub item_count : Sheet
item_count = sheet_of [] (Syntax.qualified pantry_name items)

-- (from pantry take kcal 5)
abbrev pub kcal_of : Sheet
kcal_of = sheet_of [] (Syntax.apply (Syntax.qualified pantry_name kcal) (Syntax.number (pos 5)))

-- its plan
abbrev pub kcal_plan : Plan
kcal_plan = closing_only (qualified_node pantry_name kcal ∷ number_node (pos 5) ∷ apply_node 0 1 ∷ []) 2

-- proc (x : int) y, where y is the parameter or another name
abbrev pub returning : Name → Setting
returning y = record { tree = type_node int_node ∷ variable_node y ∷ proc_node x 0 1 ∷ []; stock = []; points = point 2 (seeing [] [] []) ∷ [] }

-- a cell in which g is a flag
abbrev pub kept_flag : List Cell
kept_flag = value_cell g (boolean true) 0 ∷ []

-- cells of a foreign table: the first one's link leads up to the second
abbrev pub upward : List Cell
upward = value_cell g (integer (pos 1)) 2 ∷ value_cell x (integer (pos 7)) 0 ∷ []

-- what the definitions say of all these
pub record Samples : Type 0 where
  pub thirty_three : Runs [] (figure (pos 33)) (closing_only (number_node (pos 33) ∷ []) 0) int (done_at (integer (pos 33)) 2)
  pub thirty_three_going : answer_with [] (closing_only (number_node (pos 33) ∷ []) 0) 1 ≡ going_at 1
  pub plus_true_untyped : NoType plus_true
  pub salt_sheet_done : Runs [] salt_sheet salt_plan int (done_at (integer (pos 400)) 22)
  pub salt_going : answer_with [] salt_plan 21 ≡ going_at 21
  pub salt_zero_done : Runs [] salt_zero salt_zero_plan (hidden salt g) (done_at (integer (pos 0)) 8)
  pub salt_plus_one_untyped : NoType salt_plus_one
  pub other_accepted : AcceptsThere [] [] salt_module other_body
  pub other_sheet_done : Runs [] other_sheet other_plan int (done_at (integer (pos 400)) 21)
  pub minus_seven_by_two : Runs [] (division (negsuc 6) (pos 2)) (division_plan (negsuc 6) (pos 2)) int (done_at (integer (negsuc 2)) 6)
  pub seven_by_zero : Runs [] (division (pos 7) (pos 0)) (division_plan (pos 7) (pos 0)) int (stop_at divide_by_zero 4)
  pub seven_by_zero_stops : answer_with [] (division_plan (pos 7) (pos 0)) 5 ≡ stop_at divide_by_zero 4
  pub seven_by_zero_going : answer_with [] (division_plan (pos 7) (pos 0)) 4 ≡ going_at 4
  pub doubles : Runs [] doubling doubling_plan int (done_at (integer (pos 6)) 67)
  pub no_items_lawful : Lawful no_items
  pub no_items_counted : Runs no_items item_count (closing_only (qualified_node pantry_name items ∷ []) 0) int (done_at (integer (pos 0)) 2)
  pub no_kcal : Runs no_items kcal_of kcal_plan int (stop_at (no_answer 0 (pos 5)) 4)
  pub link_up : nearest upward 1 x ≡ some (integer (pos 7))
  pub fits : Fits (returning x) [] (closure 2 0) (int ⇒ int)
  pub fits_not : ¬ Fits (returning x) [] (closure 2 0) (int ⇒ bool)
  pub kept_fits : Fits (returning g) kept_flag (closure 2 1) (int ⇒ bool)
  pub kept_fits_not : ¬ Fits (returning g) kept_flag (closure 2 1) (int ⇒ int)
