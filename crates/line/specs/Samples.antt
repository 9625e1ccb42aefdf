-- Sample lines, by computation.
use Rattle.std.specs.Prelude.{◌≡◌, ℕ, true, List, [], ◌∷◌, pos, negsuc, codes}
use Rattle.language.specs.Samples.{no_items}
use Rattle.language.specs.Typing.{ExpandedType}
use Rattle.typing.specs.declared.types.TypeEntry.{TypeEntry}
use Rattle.typing.specs.declared.types.TypeEntry.TheVariants as entry
use Rattle.typing.specs.Told.{type_told}
use Rattle.line.specs.declared.outcomes.Value.TheVariants.{Integer, Boolean, Procedure}
use Rattle.job.specs.declared.reasons.Reason.TheVariants.{DivideByZero, NoAnswer}
use Rattle.line.specs.declared.outcomes.Layer.TheVariants as layer
use Rattle.line.specs.declared.outcomes.Outcome.TheVariants.{Done, Going, Stopped, Refused}
use Rattle.line.specs.Faults.{line_refusal}
use Rattle.line.specs.Lines.{line_of}

-- the text that spells a module and its hidden type
abbrev pub text : List ℕ
text = codes "module salt interface [opaque g]"

-- `int`, `bool`, the hidden type and two arrows
abbrev pub table : List TypeEntry
table =
    entry.Int ∷ entry.Bool ∷ entry.Hidden (record { place = 7; len = 4 }) (record { place = 30; len = 1 }) ∷ entry.Arrow 2 0 2 ∷
    entry.Arrow 3 1 3 ∷ []

abbrev pub typed : ℕ → ExpandedType
typed i = type_told text table i

pub record Samples : Type 0 where
  pub thirty_three : line_of [] (typed 0) (Done (Integer (pos 33)) 2) ≡ codes "done int 33 steps 2\n"
  pub minus_three : line_of [] (typed 0) (Done (Integer (negsuc 2)) 6) ≡ codes "done int -3 steps 6\n"
  pub boolean : line_of [] (typed 1) (Done (Boolean true) 4) ≡ codes "done bool true steps 4\n"
  pub integer_hidden : line_of [] (typed 2) (Done (Integer (pos 400)) 22) ≡ codes "done from salt take g hidden steps 22\n"
  pub arrow : line_of [] (typed 4) (Done Procedure 3) ≡ codes "done ((from salt take g -> int) -> bool) hidden steps 3\n"
  pub under_way : line_of [] (typed 0) (Going 1000000) ≡ codes "going steps 1000000\n"
  pub by_zero : line_of [] (typed 0) (Stopped DivideByZero 4) ≡ codes "stop 27 steps 4\n"
  pub no_answer : line_of no_items (typed 0) (Stopped (NoAnswer (record { entry = 0; argument = pos 5 })) 4) ≡
      codes "stop 28 kcal 5 steps 4\n"
  pub unwanted : line_of [] (typed 0) (Refused (record { number = 11; place = 4; layer = layer.Check })) ≡
      codes "refused 11 at 4 by check\n"
  pub too_short : line_of [] (typed 0) (Refused line_refusal) ≡ codes "refused 30 at 0 by line\n"
