-- A job that is held, and the tables lent to it, as the machine's.
use Rattle.std.specs.Prelude.{◌≡◌, List, [], map}
use Rattle.language.specs.Tree.{Plan}
use Rattle.language.specs.Machine.{Store, store_of, begin}
use Rattle.language.specs.Job as language
use Rattle.grammar.specs.Plan.{plan_of}
use Rattle.checker.specs.declared.passes.Pass.{Pass}
use Rattle.job.specs.declared.tables.Cell.{Cell}
use Rattle.job.specs.declared.tables.Frame.{Frame}
use Rattle.job.specs.declared.jobs.Job.{Job}
use Rattle.job.specs.Maps.{cell_of, frame_of, status_of}

-- what the pass gives a job of its sheet
abbrev pub plan_for : Pass → Plan
plan_for p = plan_of p.sheet.text.now p.sheet.tree.now p.sheet.close

-- the store that the lent tables are; names are parts of the pass's text
abbrev pub store_for : Pass → List Cell → List Frame → Store
store_for p cells frames = store_of (map (cell_of p.sheet.text.now) cells) (map frame_of frames)

-- the job as the machine has it
abbrev pub job_of : Job → language.Job
job_of j = record {
  status = status_of j.pass.sheet.text.now j.course j.progress.status;
  steps =
      j.progress.steps;
}

-- the job, with the tables at hand
abbrev pub moment_of : Job → List Cell → List Frame → language.Moment
moment_of j cells frames = record { store = store_for j.pass cells frames; job = job_of j }

-- a job of the plan that has made no step, on this store as it is
abbrev pub started : Plan → Store → language.Moment
started plan s = language.moment s (language.running (begin plan.close 0 [] 0 plan.tasks)) 0

-- two passes read the same
pub record SamePass (p q : Pass) : Type 0 where
  pub text : p.sheet.text.now ≡ q.sheet.text.now
  pub tree : p.sheet.tree.now ≡ q.sheet.tree.now
  pub close : p.sheet.close ≡ q.sheet.close
