-- What the actions leave.
use Rattle.std.specs.Prelude.{◌≡◌, ℕ, List, Some, None, Ok, Err, Option as Maybe, Result}
use Rattle.language.specs.Pantry.{Pantry}
use Rattle.language.specs.Machine as machine
use Rattle.job.specs.declared.machine.Machine.{Machine}
use Rattle.job.specs.declared.tables.Value.{Value}
use Rattle.job.specs.declared.tables.Cell.{Cell}
use Rattle.job.specs.declared.tables.Frame.{Frame}
use Rattle.job.specs.declared.reasons.Reason.{Reason}
use Rattle.job.specs.Maps.{stored, value_of, reason_of}
use Rattle.job.specs.Machines.{program_of, store_of, state_of}

-- what a machine step is, by what it reads and the state that it finds
abbrev pub Step : Type 0
Step = machine.Program → machine.Store → machine.Registers → machine.Outcome

-- the machine goes on as it is left
abbrev pub next_of : Machine → machine.Outcome
next_of m = machine.next (store_of m) (state_of m)

-- the same, if it does not stop
abbrev pub moved_of : {X : Type 0} → Machine → Result X Reason → machine.Outcome
moved_of m (Ok u) = next_of m
moved_of m (Err k) = machine.stop (reason_of k)

-- what a step comes to: it goes on, ends with a closing value, or stops
abbrev pub outcome_of : Machine → Result (Maybe Value) Reason → machine.Outcome
outcome_of m (Ok None) = next_of m
outcome_of m (Ok (Some v)) = machine.done (value_of v)
outcome_of m (Err k) = machine.stop (reason_of k)

-- the frames after a removal, whatever the cells are
abbrev pub Removes : List Frame → List Frame → machine.Frames → Type 0
Removes frames frames' f = (text : List ℕ) (cells : List Cell) → stored text cells frames' ≡ machine.without f (stored text cells frames)

-- an action that goes on, whatever the pantry
abbrev pub Moves : Machine → Machine → Step → Type 0
Moves a b f = (p : Pantry) → next_of b ≡ f (program_of p a) (store_of a) (state_of a)

-- one that may stop
abbrev pub MovesIf : {X : Type 0} → Machine → Machine → Result X Reason → Step → Type 0
MovesIf a b r f = (p : Pantry) → moved_of b r ≡ f (program_of p a) (store_of a) (state_of a)

-- one that may end the job, with this pantry
abbrev pub Performs : Pantry → Machine → Machine → Result (Maybe Value) Reason → Step → Type 0
Performs p a b r f = outcome_of b r ≡ f (program_of p a) (store_of a) (state_of a)

-- the sheet and the lent tables are the same ones
pub record Same (a b : Machine) : Type 0 where
  pub sheet : b.sheet ≡ a.sheet
  pub tree : b.course.now.tree ≡ a.course.now.tree
  pub course : b.course.ghost_name ≡ a.course.ghost_name
  pub cells : b.cells.ghost_name ≡ a.cells.ghost_name
  pub frames : b.frames.ghost_name ≡ a.frames.ghost_name

-- no table is altered
pub record Unaltered (a b : Machine) : Type 0 where
  pub cells : b.cells.now ≡ a.cells.now
  pub frames : b.frames.now ≡ a.frames.now

-- an action that stops the job alters no table
abbrev pub SparedIf : {X : Type 0} → Machine → Machine → Result X Reason → Type 0
SparedIf a b (Ok u) = Unit {0}
SparedIf a b (Err k) = Unaltered a b

-- a step that ends the job alters no table
abbrev pub Spared : Machine → Machine → Result (Maybe Value) Reason → Type 0
Spared a b (Ok None) = Unit {0}
Spared a b (Ok (Some v)) = Unaltered a b
Spared a b (Err k) = Unaltered a b
