use Rattle.line.specs.Lines.{refusal_bytes}
use Rattle.line.proofs.Joins.{then}
use Rattle.line.proofs.lines.RefusalTold.tell.Goals as goal

pub returns : goal.returns
unfolding refusal_bytes
returns g c =
    let j = g.met.S.Sink.joins in
    let layer = rw c.name.ensures at c.in_ok-put-4.ensures in
    let end = then c.in_ok-put-3.ensures (then layer c.put-5.ensures j) j in
    then c.in_ok-put.ensures (then c.in_ok-number.ensures (then c.in_ok-put-2.ensures (then c.in_ok-number-2.ensures end j) j) j) j
