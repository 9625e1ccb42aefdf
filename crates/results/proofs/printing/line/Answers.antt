use Rattle.results.proofs.Shown.{samples}
use Rattle.results.proofs.printing.line.Goals as goal

pub returns : goal.returns
returns c = record { is = c.print.ensures; samples = samples }
