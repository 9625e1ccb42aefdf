-- What a line is for: it is one line of words with single spaces between them, and it tells the outcome.
use Rattle.std.specs.Prelude.{◌≡◌, ℕ, ◌^◌, ◌<◌, Bool, true, false, cond, not, ◌&&◌, List, [], ◌∷◌, length, ◌==◌}
use Rattle.std.proofs.Math.Option.{Option, none, some}
use Rattle.std.specs.Int.Signed.{mag}
use Rattle.words.specs.Names.{is_name}
use Rattle.language.specs.Pantry.{Pantry, Lawful}
use Rattle.language.specs.Typing.{ExpandedType, int, bool, hidden, ◌⇒◌}
use Rattle.line.specs.declared.outcomes.Value.{Value}
use Rattle.line.specs.declared.outcomes.Value.TheVariants.{Integer, Boolean, Procedure}
use Rattle.job.specs.declared.reasons.Reason.{Reason}
use Rattle.job.specs.declared.reasons.Reason.TheVariants.{NoCell, NoFrame, TooLarge, DivideByZero, NoAnswer, NoRule}
use Rattle.line.specs.declared.outcomes.Outcome.{Outcome}
use Rattle.line.specs.declared.outcomes.Outcome.TheVariants.{Done, Going, Stopped, Refused}
use Rattle.line.specs.Lines.{line_of}

-- every name in the type is a name of the words
abbrev pub Named : ExpandedType → Type 0
Named int = Unit {0}
Named bool = Unit {0}
Named (hidden m t) = (is_name m ≡ true) × (is_name t ≡ true)
Named (a ⇒ b) = Named a × Named b

-- a value of the code
abbrev pub ValueFits : Value → Type 0
ValueFits (Integer z) = mag z < 2 ^ 31
ValueFits (Boolean b) = Unit {0}
ValueFits Procedure = Unit {0}

-- a stop of the code, about an entry that the pantry has
abbrev pub StopFits : Pantry → Reason → Type 0
StopFits p NoCell = Unit {0}
StopFits p NoFrame = Unit {0}
StopFits p TooLarge = Unit {0}
StopFits p DivideByZero = Unit {0}
StopFits p (NoAnswer fault) = (fault.entry < length p) × (mag fault.argument < 2 ^ 31)
StopFits p NoRule = Unit {0}

-- an outcome of the code: its numbers fit their types, and the pantry has the entry that it speaks of
abbrev pub OutcomeFits : Pantry → Outcome → Type 0
OutcomeFits p (Done v n) = ValueFits v × (n < 2 ^ 32)
OutcomeFits p (Going n) = n < 2 ^ 32
OutcomeFits p (Stopped s n) = StopFits p s × (n < 2 ^ 32)
OutcomeFits p (Refused r) = (r.number < 2 ^ 8) × (r.place < 2 ^ 64)

-- a value as far as the type shows it
abbrev pub seen : ExpandedType → Value → Value
seen int (Integer z) = Integer z
seen int (Boolean b) = Procedure
seen int Procedure = Procedure
seen bool (Integer z) = Procedure
seen bool (Boolean b) = Boolean b
seen bool Procedure = Procedure
seen (hidden m t) v = Procedure
seen (a ⇒ b) v = Procedure

-- the type that a line names: the closing type of a job that is done
abbrev pub closing_told : ExpandedType → Outcome → Option ExpandedType
closing_told a (Done v n) = some a
closing_told a (Going n) = none
closing_told a (Stopped s n) = none
closing_told a (Refused r) = none

-- the outcome as far as the closing type shows it
abbrev pub outcome_told : ExpandedType → Outcome → Outcome
outcome_told a (Done v n) = Done (seen a v) n
outcome_told a (Going n) = Going n
outcome_told a (Stopped s n) = Stopped s n
outcome_told a (Refused r) = Refused r

-- The line tells the outcome: where two lines are the same, so are the types, values, steps, stops and refusals that they tell of.
abbrev pub LineTells : Type 0
LineTells = (p : Pantry) (a b : ExpandedType) (o q : Outcome) → Lawful p → Named a → Named b → OutcomeFits p o → OutcomeFits p q →
    line_of p a o ≡ line_of p b q → (closing_told a o ≡ closing_told b q) × (outcome_told a o ≡ outcome_told b q)

-- no byte follows
abbrev pub last : List ℕ → Bool
last [] = true
last (b ∷ bs) = false

-- Words with single spaces between them, then LF and the end. The flag says that a word has begun.
abbrev pub spaced : Bool → List ℕ → Bool
spaced w [] = false
spaced false (b ∷ bs) = not (b == 32) && (not (b == 10) && spaced true bs)
spaced true (b ∷ bs) = cond (b == 32) (spaced false bs) (cond (b == 10) (last bs) (spaced true bs))

-- The line is one line, with single spaces.
abbrev pub OneLine : Type 0
OneLine = (p : Pantry) (a : ExpandedType) (o : Outcome) → Lawful p → Named a → OutcomeFits p o → spaced false (line_of p a o) ≡ true
