use Rattle.std.proofs.Common.{suc, ◌-◌, refl, ap, ◌∙◌, add-one}
use Rattle.job.specs.Machines.{text_of, state_of}
use Rattle.job.proofs.Moved.{onward-same, frame-written}
use Rattle.job.proofs.machine.Machine.replace.Goals as goal

pub returns-clause-is : goal.returns-clause-is
returns-clause-is c p =
    let m = c.args.self.now in
    let top = c.saturating_sub-top in
    onward-same (state_of m)
    (frame-written (text_of m) m.cells.now m.frames.now c.write.new.table top.result (m.registers.frames - 1) c.args.frame
    c.write.ensures top.ensures)
    refl refl (add-one top.result ∙ ap suc top.ensures)
