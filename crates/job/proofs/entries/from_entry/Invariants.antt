use Rattle.std.proofs.Common.{◌≡◌, drop}
use Rattle.language.specs.Names.{lookup}
use Rattle.language.specs.Rules.{numbered_from, entry_for}
use Rattle.job.proofs.entries.from_entry.Given as goal

abbrev pub invariant-loop-i : goal.invariant-loop-i
invariant-loop-i g l =
    entry_for (g.P.Pantry.meaning l.pantry) l.name ≡ lookup (numbered_from l.i (drop l.i (g.P.Pantry.meaning l.pantry)))
    l.name
