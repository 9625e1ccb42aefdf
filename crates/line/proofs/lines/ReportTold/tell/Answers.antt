use Rattle.line.proofs.Joins.{then}
use Rattle.line.proofs.lines.ReportTold.tell.Goals as goal

pub returns-in_ok-value-in-Done : goal.returns-in_ok-value-in-Done
returns-in_ok-value-in-Done g c =
    let j = g.met.S.Sink.joins in
    rw c.in-Done.is (then c.in_ok-put-in-Done.ensures (then c.in_ok-tell-in-Done.ensures (then c.in_ok-put-in-Done-2.ensures (then c.in_ok-value-in-Done.ensures c.steps.ensures j) j) j) j)

pub returns-in_ok-put-in-Going : goal.returns-in_ok-put-in-Going
returns-in_ok-put-in-Going g c =
    let j = g.met.S.Sink.joins in
    rw c.in-Going.is (then c.in_ok-put-in-Going.ensures c.steps-in-Going.ensures j)

pub returns-in_ok-stop-in-Stopped : goal.returns-in_ok-stop-in-Stopped
returns-in_ok-stop-in-Stopped g c =
    let j = g.met.S.Sink.joins in
    rw c.in-Stopped.is (then c.in_ok-put-in-Stopped.ensures (then c.in_ok-stop-in-Stopped.ensures c.steps-in-Stopped.ensures j) j)
