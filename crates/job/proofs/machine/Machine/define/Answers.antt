use Rattle.std.proofs.Common.{true, map, sym, refl, ◌∙◌, add-one}
use Rattle.job.specs.Maps.{scope_of}
use Rattle.job.specs.Begins.{left_in}
use Rattle.job.specs.Machines.{text_of}
use Rattle.job.proofs.Ways.{when-yes, was-free}
use Rattle.job.proofs.Moved.{cell-written, free-cell, defined}
use Rattle.job.proofs.machine.Machine.define.Goals as goal

pub returns-clause-is : goal.returns-clause-is
returns-clause-is c p =
    let m = c.args.self.now in
    let way = m.course.now in
    let n = m.registers.cells in
    let free = was-free _ _ _ _ c.in_ok-count.ensures in
    when-yes _ _ _ _ (free-cell (text_of m) m.cells.now n true (sym free.0))
    (defined _ _ _ m.sheet.close n _ (map (scope_of (text_of m)) way.modules.items) (left_in (text_of m) way)
    (cell-written (text_of m) m.cells.now c.write.new.table m.frames.now n _ _ c.write.ensures refl)
    (free.1 ∙ add-one n) (c.begin-self.ensures.is (text_of m)))
