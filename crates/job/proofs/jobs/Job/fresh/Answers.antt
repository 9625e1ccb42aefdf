use Rattle.job.proofs.Safely.{safe-runs}
use Rattle.job.proofs.jobs.Job.fresh.Goals as goal

pub returns-clause-safe : goal.returns-clause-safe
returns-clause-safe c = safe-runs c.args.pass
