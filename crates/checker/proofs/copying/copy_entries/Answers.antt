use Rattle.std.proofs.Common.{◌≡◌, ◌+◌, ◌<◌, List, length, take, drop, sym, subst, arith}
use Rattle.language.specs.Pantry.{stock_of}
use Rattle.pantry.specs.declared.entries.Entry.{Entry}
use Rattle.checker.specs.Stocks.{stock_in}
use Rattle.checker.proofs.Copies.{one-copied, one-behind, all_listed}
use Rattle.checker.proofs.copying.copy_entries.Goals as goal
use Rattle.checker.proofs.copying.copy_entries.Goals.{in-Some, in_default}

pub loop-i-preserved : goal.loop-i-preserved
loop-i-preserved g c =
    let p = g.P.Pantry.meaning c.args.pantry.now in
    let i = c.loop-i.i in
    let T : List Entry → Type 0 = λ ts. (stock_in (take (i + 1) ts) ≡ take (i + 1) (stock_of p)) × (drop (i + 1) ts ≡ drop (i + 1) c.args.table.now) in
    let n : i < length p = omega arith in
    let h : i < length c.loop-i.table = omega arith in
    elim c.match-entry.branch [
      | in-Some w ↦ subst T (sym w.table-is) (
        one-copied p c.loop-i.table i w.in-Some.entry h c.loop-i.invariant.0 w.in-Some.ensures,
        one-behind c.loop-i.table c.args.table.now i w.in-Some.entry c.loop-i.invariant.1,
      )
      | in_default w ↦ absurd (all_listed p i n w.in_default.ensures)
    ]
