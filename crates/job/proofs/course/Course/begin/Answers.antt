use Rattle.std.proofs.Common.{◌≡◌, [], length, map, Some, sym, ap, ◌∙◌, arith, lit<}
use Rattle.job.specs.Maps.{scope_of}
use Rattle.job.specs.Begins.{before, left_in}
use Rattle.job.specs.declared.begin.Task.TheVariants.{EndModule}
use Rattle.job.proofs.Tasks.{no-tasks, ends-module, at-close}
use Rattle.job.proofs.course.Course.begin.Goals as goal

pub push-requires : goal.push-requires
push-requires c =
    let old = c.loop-task.self in
    let new = c.next_task.new.self in
    let e : left_in [] old ≡ before [] (Some (EndModule c.in-EndModule.name)) (left_in [] new) =
    c.in-Some.ensures.rest [] ∙ ap (λ t. before [] (Some t) (left_in [] new)) c.in-EndModule.is in
    let b = ends-module _ _ c.in-EndModule.name e in
    let n : length new.modules.items ≡ length old.modules.items = ap (λ v. length v.items) c.in-Some.ensures.modules in
    (lit< tt, omega (arith, b, n, old.room))

pub invariant_of-self : goal.invariant_of-self
invariant_of-self c =
    let old = c.loop-task.self in
    let new = c.next_task.new.self in
    let e : left_in [] old ≡ before [] (Some (EndModule c.in-EndModule.name)) (left_in [] new) =
    c.in-Some.ensures.rest [] ∙ ap (λ t. before [] (Some t) (left_in [] new)) c.in-EndModule.is in
    let b = ends-module _ _ c.in-EndModule.name e in
    let n : length new.modules.items ≡ length old.modules.items = ap (λ v. length v.items) c.in-Some.ensures.modules in
    record { short = new.short; room = omega (arith, b, n, old.room, c.push.ensures.len) }

pub returns-clause-is : goal.returns-clause-is
returns-clause-is c text =
    let old = c.loop-task.self in
    let new = c.next_task.new.self in
    let last = c.in_default.ensures in
    let none = no-tasks text new.tree.now new.next last.further in
    at-close c.args.close c.args.cells (map (scope_of text) new.modules.items) (map (scope_of text) old.modules.items)
    c.loop-task.scope (left_in text new) (left_in text old)
    (ap (λ v. map (scope_of text) v.items) last.modules) none (last.rest text ∙ none) ∙
    sym (c.loop-task.invariant.is text)
