use Rattle.language.proofs.theorems.no_rule_stands.Goals as goal
use Rattle.language.proofs.Stepped.{stop-29}

pub returns : goal.returns
returns c = stop-29
