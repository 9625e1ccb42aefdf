-- What may be missing, one step after another.
use Rattle.std.specs.Prelude.{Bool, cond}
use Rattle.std.proofs.Math.Option.{Option, none, some}

-- go on with what is there; where it is missing, so is the rest
infixl 10 ◌then◌
abbrev pub ◌then◌ : {A B : Type 0} → Option A → (A → Option B) → Option B
none then f = none
(some a) then f = f a

-- go on if the test holds
abbrev pub need : {A : Type 0} → Bool → Option A → Option A
need b r = cond b r none
