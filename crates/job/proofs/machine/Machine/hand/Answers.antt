use Rattle.std.proofs.Common.{refl}
use Rattle.job.specs.Machines.{text_of, state_of}
use Rattle.job.proofs.Moved.{onward-same}
use Rattle.job.proofs.machine.Machine.hand.Goals as goal

pub returns-clause-is : goal.returns-clause-is
returns-clause-is c p =
    let m = c.args.self.now in
    onward-same (state_of m) (c.removed-self.ensures.is (text_of m) m.cells.now) refl refl c.removed-self.ensures.left
