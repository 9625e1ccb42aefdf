use Rattle.std.proofs.Common.{w32, SFits, rules}
use Rattle.std.proofs.lemmas.Int.{to_z-of_z}
use Rattle.line.proofs.Joins.{then}
use Rattle.line.proofs.lines.stop.Goals as goal

pub returns-in_ok-number-2 : goal.returns-in_ok-number-2
returns-in_ok-number-2 g c =
    let j = g.met.S.Sink.joins in
    let fits : SFits w32 c.in-NoAnswer.fault.argument = search rules in
    let number = rw (c.number.ensures, c.in-NoAnswer.is) at c.in_ok-number.ensures in
    let name = rw c.entry_name.ensures at c.in_ok-put-2.ensures in
    let argument = simp to_z-of_z at c.in_ok-number-2.ensures in
    rw c.in-NoAnswer.is (then number (then c.in_ok-put.ensures (then name (then c.in_ok-put-3.ensures argument j) j) j) j)
