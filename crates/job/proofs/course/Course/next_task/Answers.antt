use Rattle.std.proofs.Common.{◌+◌, ◌<◌, length, Some, None, ap, ◌∙◌, arith, rules}
use Rattle.grammar.specs.Plan.{with_task}
use Rattle.grammar.specs.declared.tree.Node.TheVariants as node
use Rattle.job.proofs.Tasks.{read-there, task-at, fewer-from}
use Rattle.job.proofs.course.Course.next_task.Goals as goal

pub overflow_add-self : goal.overflow_add-self
overflow_add-self c =
    let l = (read-there c.loop-node.self.tree.now c.loop-node.self.next c.from.result c.in-Some.node c.get.result c.from.ensures
    c.in-Some.ensures c.get.ensures.lookup.3).0 in
    let few : c.loop-node.self.next + 1 < 65536 = omega (arith, l, c.loop-node.self.short) in
    search rules

pub invariant_of-self : goal.invariant_of-self
invariant_of-self c =
    let way = c.loop-node.self in
    let l = (read-there way.tree.now way.next c.from.result c.in-Some.node c.get.result c.from.ensures c.in-Some.ensures
    c.get.ensures.lookup.3).0 in
    record { short = way.short; room = omega (arith, way.room, fewer-from way.tree.now way.next l) }

pub returns-in-Some-task_of : goal.returns-in-Some-task_of
returns-in-Some-task_of c =
    let way = c.loop-node.self in
    let there = read-there way.tree.now way.next c.from.result c.in-Some.node c.get.result c.from.ensures c.in-Some.ensures
    c.get.ensures.lookup.3 in
    let l : way.next < length way.tree.now = there.0 in
    record {
      rest = λ text. c.loop-node.invariant.rest text ∙ task-at text way.tree.now way.next node.Blank (Some c.in-Some-task_of.task) l
          (λ ts. ap (λ n. with_task text n ts) (there.1 node.Blank) ∙ c.in-Some-task_of.ensures text ts);
      tree = c.loop-node.invariant.tree;
      modules = c.loop-node.invariant.modules;
      further = (omega (arith, c.loop-node.invariant.further), omega arith);
    }

pub loop-node-preserved : goal.loop-node-preserved
loop-node-preserved c =
    let way = c.loop-node.self in
    let there = read-there way.tree.now way.next c.from.result c.in-Some.node c.get.result c.from.ensures c.in-Some.ensures
    c.get.ensures.lookup.3 in
    record {
      rest = λ text. c.loop-node.invariant.rest text ∙ task-at text way.tree.now way.next node.Blank None there.0
          (λ ts. ap (λ n. with_task text n ts) (there.1 node.Blank) ∙ c.in_default-task_of.ensures text ts);
      tree = c.loop-node.invariant.tree;
      modules = c.loop-node.invariant.modules;
      further = omega (arith, c.loop-node.invariant.further);
    }
