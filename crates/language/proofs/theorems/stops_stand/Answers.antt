use Rattle.language.proofs.theorems.stops_stand.Goals as goal
use Rattle.language.proofs.Stepped.{stops-agree}

pub returns : goal.returns
returns c = stops-agree
