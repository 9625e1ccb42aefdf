use Rattle.std.proofs.Common.{ap, ◌∙◌}
use Rattle.job.specs.Maps.{value_of}
use Rattle.job.specs.Lookups.{maybe}
use Rattle.job.proofs.Found.{nearest-is}
use Rattle.job.proofs.lookups.value_of.Goals as goal

pub returns : goal.returns
returns c = ap (maybe value_of) c.nearest.ensures ∙ nearest-is c.args.text.now c.args.cells.now c.args.scope
    c.args.name.now
