-- What cells hold, as the one search for the nearest binding sees them.
use Rattle.std.specs.Prelude.{ℕ, Some, None, Option as Maybe}
use Rattle.std.proofs.Math.Option.{Option, none, some}
use Rattle.language.specs.declared.bindings.Binding.{Binding}
use Rattle.job.specs.declared.tables.Cell.{Cell}
use Rattle.job.specs.declared.tables.Cell.TheVariants as cell
use Rattle.job.specs.declared.tables.Value.{Value}
use Rattle.job.specs.declared.tables.Value.TheVariants.{Closure}

-- the binding in the cell with that link; a `letrec` name stands for the procedure whose scope begins at its own cell
abbrev pub held_cell : ℕ → Cell → Maybe (Binding Value)
held_cell link cell.Blank = None
held_cell link (cell.Bound b) = Some b
held_cell link (cell.Letrec b) = Some (record { name = b.name; value = Closure b.value link; outer = b.outer })

-- an answer of code, mapped
abbrev pub maybe : {X Y : Type 0} → (X → Y) → Maybe X → Option Y
maybe f None = none
maybe f (Some x) = some (f x)

-- a number is itself
abbrev pub same : ℕ → ℕ
same n = n
