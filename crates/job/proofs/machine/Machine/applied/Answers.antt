use Rattle.std.proofs.Common.{◌-◌, sym, ap, ◌∙◌}
use Rattle.language.specs.Step.{applying}
use Rattle.job.specs.Maps.{value_of}
use Rattle.job.specs.Machines.{text_of, program_of}
use Rattle.job.proofs.machine.Machine.applied.Goals as goal

pub returns-in-PantryProcedure : goal.returns-in-PantryProcedure
returns-in-PantryProcedure g c =
    let m = c.args.self.now in
    let d = m.registers.frames - 1 in
    let w = program_of (g.P.Pantry.meaning c.args.pantry.now) m in
    c.asked.ensures (text_of m) d w ∙ ap (λ v. applying w d (value_of v) (value_of c.args.operand)) (sym c.in-PantryProcedure.is)
