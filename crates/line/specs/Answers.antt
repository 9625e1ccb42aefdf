-- What a job answers, as the line has it.
use Rattle.std.specs.Prelude.{◌≡◌}
use Rattle.language.specs.Job.{Answer, going_at, done_at, stop_at}
use Rattle.language.specs.Machine as machine
use Rattle.line.specs.declared.outcomes.Value.{Value}
use Rattle.line.specs.declared.outcomes.Value.TheVariants.{Integer, Boolean, Procedure}
use Rattle.job.specs.declared.reasons.Reason.{Reason}
use Rattle.job.specs.declared.reasons.Reason.TheVariants.{NoCell, NoFrame, TooLarge, DivideByZero, NoAnswer, NoRule}
use Rattle.job.specs.Maps.{reason_of}
use Rattle.line.specs.declared.outcomes.Outcome.{Outcome}
use Rattle.line.specs.declared.outcomes.Outcome.TheVariants.{Done, Going, Stopped}

-- a value: no line tells procedures apart
abbrev pub shown_of : machine.Value → Value
shown_of (machine.integer z) = Integer z
shown_of (machine.boolean b) = Boolean b
shown_of (machine.closure j s) = Procedure
shown_of (machine.pantry_procedure i) = Procedure

-- a reason to stop, with the entry's number and the argument, as a job gives it
abbrev pub stop_of : machine.Reason → Reason
stop_of machine.no_cell = NoCell
stop_of machine.no_frame = NoFrame
stop_of machine.too_large = TooLarge
stop_of machine.divide_by_zero = DivideByZero
stop_of (machine.no_answer i z) = NoAnswer (record { entry = i; argument = z })
stop_of machine.no_rule = NoRule

-- an answer
abbrev pub outcome_of : Answer → Outcome
outcome_of (going_at n) = Going n
outcome_of (done_at v n) = Done (shown_of v) n
outcome_of (stop_at k n) = Stopped (stop_of k) n

-- A stop keeps the machine's reason.
abbrev pub ReasonKept : Type 0
ReasonKept = (k : machine.Reason) → reason_of (stop_of k) ≡ k
