use Rattle.grammar.proofs.Plans.{read-holds}
use Rattle.grammar.proofs.theorems.read_sheet_stands.Goals as goal

pub returns : goal.returns
returns c = read-holds
