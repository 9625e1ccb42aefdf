use Rattle.language.proofs.theorems.links_stand.Goals as goal
use Rattle.language.proofs.Links.{links-enough}

pub returns : goal.returns
returns c = links-enough
