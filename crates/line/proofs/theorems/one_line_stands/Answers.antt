use Rattle.line.proofs.OneLine.{one_line}
use Rattle.line.proofs.theorems.one_line_stands.Goals as goal

pub returns : goal.returns
returns c = one_line
