-- One step as a function, and the statements that it does what the rules say and stops where they say so.
use Rattle.std.specs.Prelude.{◌≡◌, ℕ, zero, suc, Bool, true, false, cond, ◌↔◌, ℤ, pos}
use Rattle.std.proofs.Math.Option.{Option, none, some}
use Rattle.std.proofs.Math.ListN.{get_elem?}
use Rattle.language.specs.Options.{◌then◌}
use Rattle.words.specs.Names.{Name, same_name}
use Rattle.language.specs.Names.{pantry_name, lookup}
use Rattle.language.specs.Syntax.{Operator}
use Rattle.language.specs.Tree.{
  Part,
  Node,
  node_at,
  number_node,
  boolean_node,
  variable_node,
  qualified_node,
  is_zero_node,
  apply_node,
  proc_node,
  let_node,
  conditional_node,
  letrec_node,
  binary_node,
  no_node,
  type_node,
}
use Rattle.language.specs.Pantry.{EntryNumber, Entry, by_item}
use Rattle.language.specs.Scopes.{Scope}
use Rattle.language.specs.Machine.{
  Value,
  integer,
  boolean,
  closure,
  pantry_procedure,
  value_cell,
  letrec_cell,
  Frame,
  blank_frame,
  await_first,
  await_second,
  frame_at,
  Store,
  Control,
  evaluate,
  return,
  Target,
  defining,
  closing,
  Registers,
  Program,
  no_rule,
  Outcome,
  stop,
  nearest,
  plain,
  operation,
  fetched,
  is_zeroℤ,
  kept,
  removed,
  Action,
  hands,
  binds,
  branches,
  puts_down,
  replaces,
  defines,
  ends,
  perform,
  Reason,
  no_cell,
  no_frame,
  Result,
  Frames,
  try,
  fails,
  cell_free,
  frame_free,
}
use Rattle.language.specs.Rules.{Procedure, procedure, procedure_at, Numbered, numbered, entry_for, Rule, Steps}

-- ── a part is evaluated ──

-- return the value, if there is one
abbrev pub handing_value : Option Value → Option Action
handing_value none = none
handing_value (some v) = some (hands kept (plain v))

-- a pantry entry, if there is one: a procedure, or what a fetch at 0 gives
abbrev pub from_entry : Option Numbered → Option Action
from_entry none = none
from_entry (some (numbered i k)) = some (cond (by_item k) (hands kept (plain (pantry_procedure i))) (hands kept (fetched i (pos 0))))

-- the value of a name in an ended body, if there is one
abbrev pub from_module : Store → Option Scope → Name → Option Value
from_module s none x = none
from_module s (some o) x = nearest s.cells o x

-- by form
abbrev pub on_node : Program → Store → Registers → Part → Scope → Node → Option Action
on_node w s r j sc no_node = none
on_node w s r j sc (type_node y) = none
on_node w s r j sc (number_node z) = some (hands kept (plain (integer z)))
on_node w s r j sc (boolean_node b) = some (hands kept (plain (boolean b)))
on_node w s r j sc (variable_node x) = handing_value (nearest s.cells sc x)
on_node w s r j sc (qualified_node m x) = cond (same_name pantry_name m)
    (from_entry (entry_for w.pantry x)) (handing_value (from_module s (lookup r.module_scopes m) x))
on_node w s r j sc (is_zero_node k) = some (puts_down (await_first j sc) k sc)
on_node w s r j sc (apply_node k l) = some (puts_down (await_first j sc) k sc)
on_node w s r j sc (proc_node x t k) = some (hands kept (plain (closure j sc)))
on_node w s r j sc (let_node x k l) = some (puts_down (await_first j sc) k sc)
on_node w s r j sc (conditional_node k l n) = some (puts_down (await_first j sc) k sc)
on_node w s r j sc (letrec_node u f x t k l) = some (binds kept (letrec_cell f j sc) l)
on_node w s r j sc (binary_node o k l) = some (puts_down (await_first j sc) k sc)

-- ── a value is returned to the frame at place d ──

-- the value as a figure, if it is one
abbrev pub as_integer : Value → Option ℤ
as_integer (integer z) = some z
as_integer (boolean b) = none
as_integer (closure j s) = none
as_integer (pantry_procedure i) = none

-- the value as a flag, if it is one
abbrev pub as_boolean : Value → Option Bool
as_boolean (integer z) = none
as_boolean (boolean b) = some b
as_boolean (closure j s) = none
as_boolean (pantry_procedure i) = none

-- the value of the part of `zero?`
abbrev pub testing_zero : ℕ → Value → Option Action
testing_zero d v = as_integer v then λ z. some (hands (removed d) (plain (boolean (is_zeroℤ z))))

-- the value of a test
abbrev pub choosing : ℕ → Scope → Part → Part → Value → Option Action
choosing d sc l n v = as_boolean v then λ b. some (branches d (cond b l n) sc)

-- a first part's value
abbrev pub on_first : ℕ → Part → Scope → Value → Node → Option Action
on_first d j sc v no_node = none
on_first d j sc v (type_node y) = none
on_first d j sc v (number_node z) = none
on_first d j sc v (boolean_node b) = none
on_first d j sc v (variable_node x) = none
on_first d j sc v (qualified_node m x) = none
on_first d j sc v (is_zero_node k) = testing_zero d v
on_first d j sc v (apply_node k l) = some (replaces d (await_second j sc v) l sc)
on_first d j sc v (proc_node x t k) = none
on_first d j sc v (let_node x k l) = some (binds (removed d) (value_cell x v sc) l)
on_first d j sc v (conditional_node k l n) = choosing d sc l n v
on_first d j sc v (letrec_node u f x t k l) = none
on_first d j sc v (binary_node o k l) = some (replaces d (await_second j sc v) l sc)

-- a procedure, if there is one, with its argument
abbrev pub calling : ℕ → Scope → Value → Option Procedure → Option Action
calling d o v none = none
calling d o v (some (procedure x b)) = some (binds (removed d) (value_cell x v o) b)

-- a pantry entry, if there is one, with its argument
abbrev pub fetching : ℕ → EntryNumber → ℤ → Option Entry → Option Action
fetching d i z none = none
fetching d i z (some e) = some (hands (removed d) (fetched i z))

-- a pantry procedure with its argument, if that is a figure
abbrev pub asking : Program → ℕ → EntryNumber → Value → Option Action
asking w d i v = as_integer v then λ z. fetching d i z (get_elem? w.pantry i)

-- operator u, operand v
abbrev pub applying : Program → ℕ → Value → Value → Option Action
applying w d (integer z) v = none
applying w d (boolean b) v = none
applying w d (closure j o) v = calling d o v (procedure_at (node_at w.tree j))
applying w d (pantry_procedure i) v = asking w d i v

-- an operation on two values, if they are figures
abbrev pub computing : ℕ → Operator → Value → Value → Option Action
computing d o u v = as_integer u then λ a. as_integer v then λ b. some (hands (removed d) (operation o a b))

-- a second part's value v, where u was the first part's
abbrev pub on_second : Program → ℕ → Value → Value → Node → Option Action
on_second w d u v no_node = none
on_second w d u v (type_node y) = none
on_second w d u v (number_node z) = none
on_second w d u v (boolean_node b) = none
on_second w d u v (variable_node x) = none
on_second w d u v (qualified_node m x) = none
on_second w d u v (is_zero_node k) = none
on_second w d u v (apply_node k l) = applying w d u v
on_second w d u v (proc_node x t k) = none
on_second w d u v (let_node x k l) = none
on_second w d u v (conditional_node k l n) = none
on_second w d u v (letrec_node u' f x t k l) = none
on_second w d u v (binary_node o k l) = computing d o u v

-- by frame
abbrev pub on_frame : Program → ℕ → Value → Frame → Option Action
on_frame w d v blank_frame = none
on_frame w d v (await_first j sc) = on_first d j sc v (node_at w.tree j)
on_frame w d v (await_second j sc u) = on_second w d u v (node_at w.tree j)

-- no frame is left
abbrev pub ending : Value → Target → Option Action
ending v (defining x sc) = some (defines x v sc)
ending v closing = some (ends v)

-- by the count of frames
abbrev pub on_return : Program → Store → Registers → Value → ℕ → Option Action
on_return w s r v zero = ending v r.target
on_return w s r v (suc d) = on_frame w d v (frame_at s.frames d)

-- by what is under way
abbrev pub on_control : Program → Store → Registers → Control → Option Action
on_control w s r (evaluate j sc) = on_node w s r j sc (node_at w.tree j)
on_control w s r (return v) = on_return w s r v r.frame_count

-- the action to take, if there is one
abbrev pub rule_for : Program → Store → Registers → Option Action
rule_for w s r = on_control w s r r.control

-- it is taken, or the job stops for want of one
abbrev pub performing : Program → Store → Registers → Option Action → Outcome
performing w s r none = stop no_rule
performing w s r (some a) = perform w s r a

-- one step
abbrev pub step : Program → Store → Registers → Outcome
step w s r = performing w s r (rule_for w s r)

-- ── the function and the rules agree ──

-- a step comes to what the rules say, and to nothing else
abbrev pub StepAgrees : Type 0
StepAgrees = (w : Program) (s : Store) (r : Registers) (o : Outcome) → (step w s r ≡ o) ↔ Steps w s r o

-- stop 29 comes exactly when no rule has its premises
abbrev pub Stop29 : Type 0
Stop29 = (w : Program) (s : Store) (r : Registers) → (step w s r ≡ stop no_rule) ↔ ((a : Action) → ¬ Rule w s r a)

-- does the action bind a cell?
abbrev pub binds_cell : Action → Bool
binds_cell (hands f x) = false
binds_cell (binds f c k) = true
binds_cell (branches d k sc) = false
binds_cell (puts_down f k sc) = false
binds_cell (replaces d f k sc) = false
binds_cell (defines x v sc) = true
binds_cell (ends v) = false

-- Why a step stops: for want of a rule, whatever else may be wanting; else for the result that a rule returns, for the cell that it
-- binds, or for the frame that it puts down.
pub data Stops (w : Program) (s : Store) (r : Registers) : Reason → Type 0 where
  for_rule : ((a : Action) → ¬ Rule w s r a) → Stops w s r no_rule
  for_result : {f : Frames} {x : Result} {k : Reason} → Rule w s r (hands f x) → try w.pantry x ≡ fails k → Stops w s r k
  for_cell : {a : Action} → Rule w s r a → binds_cell a ≡ true → cell_free s r ≡ false → Stops w s r no_cell
  for_frame : {f : Frame} {k : Part} {sc : Scope} → Rule w s r (puts_down f k sc) → frame_free s r ≡ false → Stops w s r no_frame

-- a step stops for these reasons, and for no other
abbrev pub StopsAgree : Type 0
StopsAgree = (w : Program) (s : Store) (r : Registers) (k : Reason) → (step w s r ≡ stop k) ↔ Stops w s r k
