use Rattle.std.proofs.Common.{◌≡◌, ◌≤◌, length, ap, arith}
use Rattle.job.specs.Endings.{ends_from}
use Rattle.job.specs.declared.course.ModuleScope.{ModuleScope}
use Rattle.job.proofs.Sheets.{planned}
use Rattle.job.proofs.course.Course.new.Goals as goal

pub invariant_of-result : goal.invariant_of-result
invariant_of-result c =
    let plan = planned c.args.sheet.text.now c.args.sheet.tree.now c.args.sheet.close c.args.sheet.read in
    let none : length c.new.result.items ≡ 0 = ap (length {A = ModuleScope}) c.new.ensures in
    let few : ends_from c.args.sheet.tree.now 0 ≤ 32 = plan.few in
    record { short = plan.short; room = omega arith }
