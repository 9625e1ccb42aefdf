use Rattle.line.proofs.Joins.{then}
use Rattle.line.proofs.lines.steps.Goals as goal

pub returns : goal.returns
returns g c =
    let j = g.met.S.Sink.joins in
    then c.in_ok-put.ensures (then c.in_ok-number.ensures c.put-2.ensures j) j
