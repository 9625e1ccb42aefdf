use Rattle.rules.proofs.theorems.exchange_stands.Goals as goal
use Rattle.rules.proofs.Exchange.{exchanging}

pub returns : goal.returns
returns c = exchanging
