use Rattle.job.specs.Jobs.{plan_for}
use Rattle.job.proofs.Within.{behind, back_length}
use Rattle.job.proofs.Standing.{advanced-is, adds}
use Rattle.job.proofs.jobs.Job.go_on.Goals as goal

pub returns-clause-is : goal.returns-clause-is
returns-clause-is g c =
    let job = c.args.self.now in
    let cells = c.args.cells.now in
    let frames = c.args.frames.now in
    let run = c.stepping_on-self in
    let i = c.limited-c in
    let j = c.limited-f in
    advanced-is job.pass.sheet job.course run.new.course (g.P.Pantry.meaning c.args.pantry.now) cells run.new.cells frames
    run.new.frames i.result j.result c.in-Running.registers job.progress.status job.progress.steps c.args.allowance run.result
    i.ensures j.ensures (back_length cells run.new.cells i.result i.ensures run.auto.cells)
    (back_length frames run.new.frames j.result j.ensures run.auto.frames) c.in-Running.is run.ensures.is

pub returns-clause-behind : goal.returns-clause-behind
returns-clause-behind g c =
    let cells = c.args.cells.now in
    let frames = c.args.frames.now in
    let run = c.stepping_on-self in
    let i = c.limited-c in
    let j = c.limited-f in
    record {
      cells_stay = behind cells run.new.cells i.result i.ensures (back_length cells run.new.cells i.result i.ensures run.auto.cells);
      frames_stay = behind frames run.new.frames j.result j.ensures
          (back_length frames run.new.frames j.result j.ensures run.auto.frames);
    }

pub returns-clause-adds : goal.returns-clause-adds
returns-clause-adds g c b =
    let job = c.args.self.now in
    let cells = c.args.cells.now in
    let frames = c.args.frames.now in
    let m = g.P.Pantry.meaning c.args.pantry.now in
    let run = c.stepping_on-self in
    let i = c.limited-c in
    let j = c.limited-f in
    adds (plan_for job.pass) m c.args.allowance b _ _
    (advanced-is job.pass.sheet job.course run.new.course m cells run.new.cells frames run.new.frames i.result j.result
    c.in-Running.registers job.progress.status job.progress.steps c.args.allowance run.result i.ensures j.ensures
    (back_length cells run.new.cells i.result i.ensures run.auto.cells)
    (back_length frames run.new.frames j.result j.ensures run.auto.frames) c.in-Running.is run.ensures.is)
