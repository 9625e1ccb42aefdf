use Rattle.line.proofs.Joins.{then}
use Rattle.line.proofs.types.hidden.Goals as goal

pub returns : goal.returns
returns g c =
    let j = g.met.S.Sink.joins in
    then c.in_ok-put.ensures (then c.in_ok-put-2.ensures (then c.in_ok-put-3.ensures c.put-4.ensures j) j) j
