use Rattle.std.proofs.Common.{true, sym, refl, ◌∙◌, add-one}
use Rattle.job.specs.Machines.{text_of, state_of}
use Rattle.job.proofs.Ways.{when-yes, was-free}
use Rattle.job.proofs.Moved.{onward-same, frame-written, free-frame}
use Rattle.job.proofs.machine.Machine.put_down.Goals as goal

pub returns-clause-is : goal.returns-clause-is
returns-clause-is c p =
    let m = c.args.self.now in
    let n = m.registers.frames in
    let free = was-free _ _ _ _ c.in_ok-count.ensures in
    when-yes _ _ _ _ (free-frame m.frames.now n true (sym free.0))
    (onward-same (state_of m)
    (frame-written (text_of m) m.cells.now m.frames.now c.write.new.table n n c.args.frame c.write.ensures refl)
    refl refl (free.1 ∙ add-one n))
