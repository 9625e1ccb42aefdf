use Rattle.language.proofs.theorems.exchange_stands.Goals as goal
use Rattle.language.proofs.Safe.{exchange}

pub returns : goal.returns
returns c = exchange
