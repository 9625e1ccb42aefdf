use Rattle.std.proofs.Common.{true, sym, ap, ◌∙◌, add-one}
use Rattle.language.specs.Machine.{evaluate}
use Rattle.job.specs.Machines.{text_of, state_of}
use Rattle.job.proofs.Ways.{when-yes, was-free}
use Rattle.job.proofs.Moved.{onward-same, cell-written, free-cell}
use Rattle.job.proofs.machine.Machine.bind.Goals as goal

pub returns-clause-is : goal.returns-clause-is
returns-clause-is c p =
    let m = c.args.self.now in
    let n = m.registers.cells in
    let free = was-free _ _ _ _ c.in_ok-count.ensures in
    let more = free.1 ∙ add-one n in
    when-yes _ _ _ _ (free-cell (text_of m) m.cells.now n true (sym free.0))
    (onward-same (state_of m)
    (cell-written (text_of m) m.cells.now c.write.new.table c.removed-self.new.frames n c.args.cell _ c.write.ensures
    (c.removed-self.ensures.is (text_of m) m.cells.now))
    (ap (evaluate c.args.to) more) more c.removed-self.ensures.left)
