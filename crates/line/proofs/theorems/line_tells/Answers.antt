use Rattle.line.proofs.LineTells.{line-tells}
use Rattle.line.proofs.theorems.line_tells.Goals as goal

pub returns : goal.returns
returns c = line-tells
