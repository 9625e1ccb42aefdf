use Rattle.std.proofs.Common.{◌≡◌, take, drop}
use Rattle.language.specs.Pantry.{stock_of}
use Rattle.checker.specs.Stocks.{stock_in}
use Rattle.checker.proofs.copying.copy_entries.Given as goal

abbrev pub invariant-loop-i : goal.invariant-loop-i
invariant-loop-i g l = (stock_in (take l.i l.table) ≡ take l.i (stock_of (g.P.Pantry.meaning l.pantry))) ×
    (drop l.i l.table ≡ drop l.i l.initial.table)
