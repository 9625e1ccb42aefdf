-- A job under way, as the machine's program, store and registers.
use Rattle.std.specs.Prelude.{◌≡◌, ℕ, ◌-◌, List, Option as Maybe}
use Rattle.std.proofs.Math.Option.{Option}
use Rattle.language.specs.Pantry.{Pantry}
use Rattle.language.specs.Machine as machine
use Rattle.job.specs.declared.machine.Machine.{Machine}
use Rattle.job.specs.declared.actions.Action.{Action}
use Rattle.job.specs.Maps.{stored, registers_of, decided}
use Rattle.job.specs.Rules.{program_in}

-- the text that its names are parts of
abbrev pub text_of : Machine → List ℕ
text_of m = m.sheet.text.now

-- what it reads, with a pantry of this meaning
abbrev pub program_of : Pantry → Machine → machine.Program
program_of p m = program_in m.sheet p

-- the tables
abbrev pub store_of : Machine → machine.Store
store_of m = stored (text_of m) m.cells.now m.frames.now

-- the registers
abbrev pub state_of : Machine → machine.Registers
state_of m = registers_of (text_of m) m.course.now m.registers

-- the rules ask for this action, if for any
abbrev pub Decides : Pantry → Machine → Maybe Action → (machine.Program → machine.Store → machine.Registers → Option machine.Action) → Type 0
Decides p m r f = decided (text_of m) (m.registers.frames - 1) r ≡ f (program_of p m) (store_of m) (state_of m)
