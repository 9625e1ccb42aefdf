use Rattle.std.proofs.Common.{ap, ◌∙◌}
use Rattle.job.specs.Jobs.{plan_for, started}
use Rattle.job.proofs.jobs.Job.open.Goals as goal

pub returns-clause-is : goal.returns-clause-is
returns-clause-is c =
    c.fresh.ensures.is c.blank_tables.new.cells c.blank_tables.new.frames ∙
    ap (started (plan_for c.args.pass)) (c.blank_tables.ensures.is c.args.pass)
