use Rattle.std.proofs.Common.{◌≡◌, ℕ, ◌-◌, ◌≤◌, List, length}
use Rattle.job.specs.Begins.{left_in}
use Rattle.job.proofs.course.Course.next_task.Given as goal

abbrev pub invariant-loop-node : goal.invariant-loop-node
invariant-loop-node l = record {
  rest : (text : List ℕ) → left_in text l.initial.self ≡ left_in text l.self;
  tree : l.self.tree ≡ l.initial.self.tree;
  modules : l.self.modules ≡ l.initial.self.modules;
  further : l.initial.self.next ≤ l.self.next;
}

abbrev pub decreases-loop-node : goal.decreases-loop-node
decreases-loop-node l = length l.self.tree.now - l.self.next
