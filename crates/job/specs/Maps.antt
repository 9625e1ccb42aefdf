-- What the declared records stand for. Names are parts of a text.
use Rattle.std.specs.Prelude.{ℕ, List, map, drop, Some, None, Ok, Err, Option as Maybe, Result}
use Rattle.std.proofs.Math.Option.{Option, none, some}
use Rattle.language.specs.Names as names
use Rattle.language.specs.Scopes.{Scope}
use Rattle.language.specs.Bindings.{spelled_in}
use Rattle.language.specs.Machine as machine
use Rattle.language.specs.Job as language
use Rattle.grammar.specs.Plain.{plain_o}
use Rattle.grammar.specs.Plan.{tasks_of}
use Rattle.job.specs.declared.tables.Value.{Value}
use Rattle.job.specs.declared.tables.Value.TheVariants.{Integer, Boolean, Closure, PantryProcedure}
use Rattle.job.specs.declared.tables.Cell.{Cell}
use Rattle.job.specs.declared.tables.Cell.TheVariants as cell
use Rattle.job.specs.declared.tables.Frame.{Frame}
use Rattle.job.specs.declared.tables.Frame.TheVariants as frame
use Rattle.job.specs.declared.registers.Control.{Control}
use Rattle.job.specs.declared.registers.Control.TheVariants.{Evaluate, Return}
use Rattle.job.specs.declared.registers.Target.{Target}
use Rattle.job.specs.declared.registers.Target.TheVariants.{Defining, Closing}
use Rattle.job.specs.declared.course.ModuleScope.{ModuleScope}
use Rattle.job.specs.declared.course.Course.{Course}
use Rattle.job.specs.declared.registers.Registers.{Registers}
use Rattle.job.specs.declared.reasons.Reason.{Reason}
use Rattle.job.specs.declared.reasons.Reason.TheVariants.{NoCell, NoFrame, TooLarge, DivideByZero, NoAnswer, NoRule}
use Rattle.job.specs.declared.actions.Yield.{Yield}
use Rattle.job.specs.declared.actions.Yield.TheVariants.{Plain, Operation, Fetched}
use Rattle.job.specs.declared.actions.Frames.{Frames}
use Rattle.job.specs.declared.actions.Frames.TheVariants.{Kept, Removed}
use Rattle.job.specs.declared.actions.Action.{Action}
use Rattle.job.specs.declared.actions.Action.TheVariants as action
use Rattle.job.specs.declared.answers.Status.{Status}
use Rattle.job.specs.declared.answers.Status.TheVariants.{Running, Finished, Stopped}
use Rattle.job.specs.declared.answers.Answer.{Answer}
use Rattle.job.specs.declared.answers.Answer.TheVariants as answer

-- a value
abbrev pub value_of : Value → machine.Value
value_of (Integer z) = machine.integer z
value_of (Boolean b) = machine.boolean b
value_of (Closure j s) = machine.closure j s
value_of (PantryProcedure i) = machine.pantry_procedure i

-- a cell; a `letrec` name is bound to its part
abbrev pub cell_of : List ℕ → Cell → machine.Cell
cell_of text cell.Blank = machine.blank_cell
cell_of text (cell.Bound b) = machine.value_cell (spelled_in text b.name) (value_of b.value) b.outer
cell_of text (cell.Letrec b) = machine.letrec_cell (spelled_in text b.name) b.value b.outer

-- a frame
abbrev pub frame_of : Frame → machine.Frame
frame_of frame.Blank = machine.blank_frame
frame_of (frame.AwaitFirst j s) = machine.await_first j s
frame_of (frame.AwaitSecond j s v) = machine.await_second j s (value_of v)

-- what is under way
abbrev pub control_of : Control → machine.Control
control_of (Evaluate j s) = machine.evaluate j s
control_of (Return v) = machine.return (value_of v)

-- what its value is for
abbrev pub target_of : List ℕ → Target → machine.Target
target_of text (Defining x s) = machine.defining (spelled_in text x) s
target_of text Closing = machine.closing

-- the scope of a module whose body has ended
abbrev pub scope_of : List ℕ → ModuleScope → names.Binding Scope
scope_of text m = names.bind (spelled_in text m.name) m.scope

-- why a job stops
abbrev pub reason_of : Reason → machine.Reason
reason_of NoCell = machine.no_cell
reason_of NoFrame = machine.no_frame
reason_of TooLarge = machine.too_large
reason_of DivideByZero = machine.divide_by_zero
reason_of (NoAnswer f) = machine.no_answer f.«entry» f.argument
reason_of NoRule = machine.no_rule

-- what is to be handed on
abbrev pub yield_of : Yield → machine.Result
yield_of (Plain v) = machine.plain (value_of v)
yield_of (Operation o a b) = machine.operation (plain_o o) a b
yield_of (Fetched i z) = machine.fetched i z

-- a value that was tried for, or why there is none
abbrev pub tried_of : Result Value Reason → machine.Tried
tried_of (Ok v) = machine.gives (value_of v)
tried_of (Err k) = machine.fails (reason_of k)

-- whether the top frame, at the place d, is removed
abbrev pub frames_of : ℕ → Frames → machine.Frames
frames_of d Kept = machine.kept
frames_of d Removed = machine.removed d

-- an action, where d is the place of the top frame
abbrev pub action_of : List ℕ → ℕ → Action → machine.Action
action_of text d (action.Hands f y) = machine.hands (frames_of d f) (yield_of y)
action_of text d (action.Binds f c k) = machine.binds (frames_of d f) (cell_of text c) k
action_of text d (action.Branches k s) = machine.branches d k s
action_of text d (action.PutsDown f k s) = machine.puts_down (frame_of f) k s
action_of text d (action.Replaces f k s) = machine.replaces d (frame_of f) k s
action_of text d (action.Defines x v s) = machine.defines (spelled_in text x) (value_of v) s
action_of text d (action.Ends v) = machine.ends (value_of v)

-- the action that was decided on, if any
abbrev pub decided : List ℕ → ℕ → Maybe Action → Option machine.Action
decided text d None = none
decided text d (Some a) = some (action_of text d a)

-- the tables as the machine's store
abbrev pub stored : List ℕ → List Cell → List Frame → machine.Store
stored text cells frames = record { cells = map (cell_of text) cells; frames = map frame_of frames }

-- the machine's registers, on a course through the sheet
abbrev pub registers_of : List ℕ → Course → Registers → machine.Registers
registers_of text c r = record {
  control = control_of r.control;
  target = target_of text r.target;
  pending = tasks_of text (drop c.next c.tree.now);
  module_scopes = map (scope_of text) c.modules.items;
  cell_count = r.cells;
  frame_count = r.frames;
}

-- how a job stands
abbrev pub status_of : List ℕ → Course → Status → language.Status
status_of text c (Running r) = language.running (registers_of text c r)
status_of text c (Finished v) = language.finished (value_of v)
status_of text c (Stopped k) = language.stopped (reason_of k)

-- what an answer says
abbrev pub answer_of : Answer → language.Answer
answer_of (answer.Going n) = language.going_at n
answer_of (answer.Done v n) = language.done_at (value_of v) n
answer_of (answer.Stop k n) = language.stop_at (reason_of k) n
