-- What a job works on: values, the lent tables of cells and frames, the job's own registers; and what a name is bound to in the cells.
use Rattle.std.specs.Prelude.{◌≡◌, ℕ, suc, ◌≤◌, Bool, List, length, take, ℤ, slice_index_or}
use Rattle.std.proofs.Math.Option.{Option, none, some}
use Rattle.words.specs.Names.{Name}
use Rattle.language.specs.Names.{Binding, lookup}
use Rattle.language.specs.Scopes.{Scope, table_limit, Linked, linked, chain, nearest_in}
use Rattle.language.specs.Tree.{Part, Node, Task, Plan}
use Rattle.language.specs.Pantry.{EntryNumber, Pantry}

-- a value; a procedure is its `proc` or `letrec` part with the scope that it keeps, and one of the pantry is its entry's number
pub data Value : Type 0 where
  integer : ℤ → Value
  boolean : Bool → Value
  closure : Part → Scope → Value
  pantry_procedure : EntryNumber → Value

-- a cell: blank, a name bound to a value before an outer scope, or a `letrec` name bound to the procedure of that part
pub data Cell : Type 0 where
  blank_cell : Cell
  value_cell : Name → Value → Scope → Cell
  letrec_cell : Name → Part → Scope → Cell

-- a frame: blank, or a form and its scope, waiting for its first part's value, or for its second's with the first one at hand
pub data Frame : Type 0 where
  blank_frame : Frame
  await_first : Part → Scope → Frame
  await_second : Part → Scope → Value → Frame

-- the lent tables; whoever lends other tables lends another store
pub record Store : Type 0 where
  pub cells : List Cell
  pub frames : List Frame

-- the cell at a place; past the end it is blank
abbrev pub cell_at : List Cell → ℕ → Cell
cell_at cs i = slice_index_or cs i blank_cell

-- the frame at a place; past the end it is blank
abbrev pub frame_at : List Frame → ℕ → Frame
frame_at fs d = slice_index_or fs d blank_frame

-- lent tables as a store: the places that are used of them
abbrev pub store_of : List Cell → List Frame → Store
store_of cells frames = record { cells = take table_limit cells; frames = take table_limit frames }

-- what is under way: a part is evaluated in a scope, or a value is returned to the topmost frame
pub data Control : Type 0 where
  evaluate : Part → Scope → Control
  return : Value → Control

-- what the root under way is for: the next name of a body whose scope so far is this, or the end
pub data Target : Type 0 where
  defining : Name → Scope → Target
  closing : Target

-- A job's own registers: what is under way, what for, the tasks still to come, the scopes of the bodies that have ended (the first
-- module's first), and how many cells and frames are in use, from place 0 on.
pub record Registers : Type 0 where
  pub control : Control
  pub target : Target
  pub pending : List Task
  pub module_scopes : List (Binding Scope)
  pub cell_count : ℕ
  pub frame_count : ℕ

-- what a job reads: the tree, where the closing expression stands, and the pantry
pub record Program : Type 0 where
  pub tree : List Node
  pub close : Part
  pub pantry : Pantry

-- a plan with a pantry
abbrev pub program_of : Plan → Pantry → Program
program_of plan p = record { tree = plan.tree; close = plan.close; pantry = p }

-- why a job stops; an entry that has no answer is kept with its argument
pub data Reason : Type 0 where
  no_cell no_frame too_large divide_by_zero no_rule : Reason
  no_answer : EntryNumber → ℤ → Reason

-- the number of each stop
abbrev pub stop_number : Reason → ℕ
stop_number no_cell = 24
stop_number no_frame = 25
stop_number too_large = 26
stop_number divide_by_zero = 27
stop_number (no_answer i z) = 28
stop_number no_rule = 29

-- What a step comes to: the next store and registers, the closing value, or a stop. An end holds no store, so it alters none.
pub data Outcome : Type 0 where
  next : Store → Registers → Outcome
  done : Value → Outcome
  stop : Reason → Outcome

-- ── the nearest binding ──

-- what the cell at place i binds; the procedure of a `letrec` name keeps the scope that begins at this very cell
abbrev pub held : Cell → ℕ → Option (Linked Value)
held blank_cell i = none
held (value_cell x v o) i = some (linked x v o)
held (letrec_cell f j o) i = some (linked f (closure j (suc i)) o)

-- what place i binds
abbrev pub held_at : List Cell → ℕ → Option (Linked Value)
held_at cs i = held (cell_at cs i) i

-- what the name is bound to in the scope
abbrev pub nearest : List Cell → Scope → Name → Option Value
nearest cs s x = nearest_in (held_at cs) s x

-- a search that followed more links would find no more
abbrev pub LinksEnough : Type 0
LinksEnough = (cs : List Cell) (n : ℕ) → length cs ≤ table_limit → table_limit ≤ n → (s : Scope) (x : Name) →
    lookup (chain (held_at cs) n s) x ≡ nearest cs s x
