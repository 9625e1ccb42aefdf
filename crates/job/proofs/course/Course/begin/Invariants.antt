use Rattle.std.proofs.Common.{◌≡◌, ℕ, ◌-◌, List, length}
use Rattle.job.specs.Begins.{remaining}
use Rattle.job.proofs.course.Course.begin.Given as goal

abbrev pub invariant-loop-task : goal.invariant-loop-task
invariant-loop-task l = record {
  is : (text : List ℕ) → remaining text l.close l.cells l.initial.self l.initial.scope ≡ remaining text l.close l.cells l.self l.scope;
  tree : l.self.tree ≡ l.initial.self.tree;
}

abbrev pub decreases-loop-task : goal.decreases-loop-task
decreases-loop-task l = length l.self.tree.now - l.self.next
