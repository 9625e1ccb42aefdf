use Rattle.std.proofs.Common.{◌≡◌, ◌-◌}
use Rattle.language.specs.Job.{stepping, running}
use Rattle.job.specs.Machines.{program_of, store_of, state_of}
use Rattle.job.specs.Performs.{Same}
use Rattle.job.proofs.machine.Machine.stepping.Given as goal

abbrev pub invariant-loop-steps : goal.invariant-loop-steps
invariant-loop-steps g l = record {
  is : stepping (program_of (g.P.Pantry.meaning l.pantry) l.initial.self) l.allowance (store_of l.initial.self)
      (running (state_of l.initial.self)) l.made ≡
      stepping (program_of (g.P.Pantry.meaning l.pantry) l.self) (l.allowance - (l.steps - l.made)) (store_of l.self)
      (running (state_of l.self)) l.steps;
  same : Same l.initial.self l.self;
}
