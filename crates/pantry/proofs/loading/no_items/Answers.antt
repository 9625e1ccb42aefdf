use Rattle.std.proofs.Common.{refl}
use Rattle.pantry.specs.File.{header_ok, unlawful, record_at}
use Rattle.pantry.proofs.loading.no_items.Goals as goal

pub invariant_of-result : goal.invariant_of-result
unfolding header_ok unlawful record_at
invariant_of-result c = record { ok = refl }
