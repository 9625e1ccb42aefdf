-- The binding that a place of the scope table holds; it does not depend on the link that leads there.
use Rattle.std.specs.Prelude.{ℕ, Some, None, Option}
use Rattle.language.specs.declared.bindings.Binding.{Binding}
use Rattle.typing.specs.declared.types.Slot.{Slot}
use Rattle.typing.specs.declared.types.Slot.TheVariants.{Blank, OfType, OfValue}

abbrev pub held_slot : ℕ → Slot → Option (Binding ℕ)
held_slot link Blank = None
held_slot link (OfType b) = Some b
held_slot link (OfValue b) = Some b
