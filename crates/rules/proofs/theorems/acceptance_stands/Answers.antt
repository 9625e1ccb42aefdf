use Rattle.rules.proofs.theorems.acceptance_stands.Goals as goal
use Rattle.rules.proofs.Exchange.{accepting}

pub returns : goal.returns
returns c = accepting
