-- An advance over tables, as the machine's.
use Rattle.std.specs.Prelude.{◌≡◌, ℕ, List, take, drop}
use Rattle.language.specs.Scopes.{table_limit}
use Rattle.language.specs.Pantry.{Pantry}
use Rattle.language.specs.Job as language
use Rattle.grammar.specs.declared.sheet.ReadSheet.{ReadSheet}
use Rattle.job.specs.declared.course.Course.{Course}
use Rattle.job.specs.declared.machine.Machine.{Machine}
use Rattle.job.specs.declared.registers.Registers.{Registers}
use Rattle.job.specs.declared.tables.Cell.{Cell}
use Rattle.job.specs.declared.tables.Frame.{Frame}
use Rattle.job.specs.declared.answers.Progress.{Progress}
use Rattle.job.specs.Maps.{stored, registers_of, status_of}
use Rattle.job.specs.Rules.{program_in}

-- a job's course, and the two tables
pub record State : Type 0 where
  pub course : Course
  pub cells : List Cell
  pub frames : List Frame

-- those of a machine
abbrev pub lent_to : Machine → State
lent_to m = record { course = m.course.now; cells = m.cells.now; frames = m.frames.now }

-- on this sheet, from the registers g and n steps, an advance by the allowance a comes to the progress r
abbrev pub Advances : Pantry → ReadSheet → State → State → Registers → ℕ → ℕ → Progress → Type 0
Advances p sheet s t g n a r =
    language.moment (stored sheet.text.now t.cells t.frames) (status_of sheet.text.now t.course r.status) r.steps ≡
    language.stepping (program_in sheet p) a (stored sheet.text.now s.cells s.frames)
    (language.running (registers_of sheet.text.now s.course g)) n

-- the places of a table that count
abbrev pub within : {X : Type 0} → List X → List X
within xs = take table_limit xs

-- the places behind them
abbrev pub behind : {X : Type 0} → List X → List X
behind xs = drop table_limit xs

-- what lies behind is untouched
pub record Behind (cells cells' : List Cell) (frames frames' : List Frame) : Type 0 where
  pub cells_stay : behind cells' ≡ behind cells
  pub frames_stay : behind frames' ≡ behind frames
