-- The faults of an item file: number, place and layer. Assumes nothing.
use Rattle.std.specs.Prelude.{ℕ, List, codes}
use Rattle.pantry.specs.declared.faults.LoadFault.{LoadFault}
use Rattle.pantry.specs.declared.faults.LoadFault.TheVariants.{NoItemFile, BadRecord}

-- a fault as a line tells it
pub record Refusal : Type 0 where
  pub number : ℕ
  pub place : ℕ
  pub layer : List ℕ

-- each fault's number, place and layer
abbrev pub refusal_of : LoadFault → Refusal
refusal_of NoItemFile = record { number = 16; place = 0; layer = codes "items" }
refusal_of (BadRecord p) = record { number = 17; place = p; layer = codes "items" }
