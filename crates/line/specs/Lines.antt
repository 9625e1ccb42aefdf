-- The one line that tells an outcome.
use Rattle.std.specs.Prelude.{ℕ, cond, List, [], ◌++◌, length, drop, Ok, Err, codes, decimal, Result, nat_le}
use Rattle.std.proofs.Math.Option.{Option, none, some}
use Rattle.std.proofs.Math.ListN.{get_elem?}
use Rattle.std.specs.Fmt.{signed_decimal}
use Rattle.language.specs.Machine.{Reason as MachineReason, no_cell, no_frame, too_large, divide_by_zero, no_answer, no_rule, stop_number}
use Rattle.language.specs.Names.{Binding, bind}
use Rattle.language.specs.Pantry.{Kind, Pantry, stock_of}
use Rattle.language.specs.Typing.{ExpandedType, int, bool, hidden, ◌⇒◌}
use Rattle.typing.specs.Told.{type_told}
use Rattle.line.specs.declared.faults.TooShort.{TooShort}
use Rattle.line.specs.declared.outcomes.Value.{Value}
use Rattle.line.specs.declared.outcomes.Value.TheVariants.{Integer, Boolean, Procedure}
use Rattle.job.specs.declared.reasons.Reason.{Reason}
use Rattle.job.specs.Maps.{reason_of}
use Rattle.line.specs.declared.outcomes.Layer.{Layer}
use Rattle.line.specs.declared.outcomes.Layer.TheVariants as layer
use Rattle.line.specs.declared.outcomes.Refusal.{Refusal}
use Rattle.line.specs.declared.outcomes.Outcome.{Outcome}
use Rattle.line.specs.declared.outcomes.Outcome.TheVariants.{Done, Going, Stopped, Refused}
use Rattle.line.specs.declared.types.ClosingType.{ClosingType}
use Rattle.line.specs.Types.{type_bytes}

-- the closing type
abbrev pub closing_of : ClosingType → ExpandedType
closing_of c = type_told c.text.now c.types.now c.number

-- a number for `int`, a word for `bool`, else `hidden`
abbrev pub value_bytes : ExpandedType → Value → List ℕ
value_bytes int (Integer z) = signed_decimal z
value_bytes int (Boolean b) = codes "hidden"
value_bytes int Procedure = codes "hidden"
value_bytes bool (Integer z) = codes "hidden"
value_bytes bool (Boolean b) = cond b (codes "true") (codes "false")
value_bytes bool Procedure = codes "hidden"
value_bytes (hidden m t) v = codes "hidden"
value_bytes (a ⇒ b) v = codes "hidden"

-- the end of a line that tells the steps
abbrev pub steps_bytes : ℕ → List ℕ
steps_bytes n = codes " steps " ++ (decimal n ++ codes "\n")

-- the name of an entry; where there is none, nothing is written
abbrev pub name_of : Option (Binding Kind) → List ℕ
name_of none = []
name_of (some (bind x k)) = x

-- what stands behind a stop's number: where the pantry has no answer, the entry's name and the argument
abbrev pub asked_bytes : Pantry → MachineReason → List ℕ
asked_bytes p no_cell = []
asked_bytes p no_frame = []
asked_bytes p too_large = []
asked_bytes p divide_by_zero = []
asked_bytes p (no_answer i z) = codes " " ++ (name_of (get_elem? (stock_of p) i) ++ (codes " " ++ signed_decimal z))
asked_bytes p no_rule = []

abbrev pub stop_bytes : Pantry → Reason → List ℕ
stop_bytes p s = decimal (stop_number (reason_of s)) ++ asked_bytes p (reason_of s)

abbrev pub layer_bytes : Layer → List ℕ
layer_bytes layer.Words = codes "words"
layer_bytes layer.Grammar = codes "grammar"
layer_bytes layer.Check = codes "check"
layer_bytes layer.Items = codes "items"
layer_bytes layer.Line = codes "line"

-- the line of a refusal
unfoldable pub refusal_bytes : Refusal → List ℕ
refusal_bytes r =
    codes "refused " ++ (decimal r.number ++ (codes " at " ++
    (decimal r.place ++ (codes " by " ++ (layer_bytes r.layer ++ codes "\n")))))

-- the line of an outcome, where p is the pantry and a the closing type
abbrev pub line_of : Pantry → ExpandedType → Outcome → List ℕ
line_of p a (Done v n) = codes "done " ++ (type_bytes a ++ (codes " " ++ (value_bytes a v ++ steps_bytes n)))
line_of p a (Going n) = codes "going" ++ steps_bytes n
line_of p a (Stopped s n) = codes "stop " ++ (stop_bytes p s ++ steps_bytes n)
line_of p a (Refused r) = refusal_bytes r

-- what writing the line bs into the buffer xs answers: its length, or that the buffer is too short
abbrev pub answer : List ℕ → List ℕ → Result ℕ TooShort
answer bs xs = cond (nat_le (length bs) (length xs)) (Ok (length bs)) (Err (record {}))

-- what the buffer xs then holds: the line and behind it what stood there, or what it held
abbrev pub written : List ℕ → List ℕ → List ℕ
written bs xs = cond (nat_le (length bs) (length xs)) (bs ++ drop (length bs) xs) xs
