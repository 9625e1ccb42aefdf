-- The refusals of a check: number, place and layer.
use Rattle.std.specs.Prelude.{ℕ, Bool, true, false, List, codes}
use Rattle.rules.specs.declared.faults.CheckFault.{CheckFault}
use Rattle.rules.specs.declared.faults.CheckFault.TheVariants.{
  Repeated,
  UnknownValue,
  UnknownType,
  Unwanted,
  NoArrow,
  Missing,
  Mismatch,
  TooDeep,
  TypesFull,
  ScopeFull,
}

-- the number of the refusal
abbrev pub number_of : CheckFault → ℕ
number_of (Repeated at) = 8
number_of (UnknownValue at) = 9
number_of (UnknownType at) = 10
number_of (Unwanted at) = 11
number_of (NoArrow at) = 12
number_of (Missing at) = 13
number_of (Mismatch at) = 14
number_of (TooDeep at) = 15
number_of (TypesFull at) = 22
number_of (ScopeFull at) = 23

-- its place in the text
abbrev pub place_of : CheckFault → ℕ
place_of (Repeated at) = at
place_of (UnknownValue at) = at
place_of (UnknownType at) = at
place_of (Unwanted at) = at
place_of (NoArrow at) = at
place_of (Missing at) = at
place_of (Mismatch at) = at
place_of (TooDeep at) = at
place_of (TypesFull at) = at
place_of (ScopeFull at) = at

-- the layer that refuses
abbrev pub layer_of : CheckFault → List ℕ
layer_of f = codes "check"

-- does the refusal say that a limit or a table is exceeded? (15, 22, 23; the others say that a rule is broken)
abbrev pub is_exceeded : CheckFault → Bool
is_exceeded (Repeated at) = false
is_exceeded (UnknownValue at) = false
is_exceeded (UnknownType at) = false
is_exceeded (Unwanted at) = false
is_exceeded (NoArrow at) = false
is_exceeded (Missing at) = false
is_exceeded (Mismatch at) = false
is_exceeded (TooDeep at) = true
is_exceeded (TypesFull at) = true
is_exceeded (ScopeFull at) = true
