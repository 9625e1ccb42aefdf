use Rattle.std.proofs.Common.{◌≡◌, drop}
use Rattle.checker.specs.Sheets.{module_end}
use Rattle.checker.proofs.sheets.module_end.Given as goal

abbrev pub invariant-loop-k : goal.invariant-loop-k
invariant-loop-k l = module_end l.start (drop l.start l.tree) ≡ module_end l.k (drop l.k l.tree)
