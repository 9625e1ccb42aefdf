use Rattle.std.proofs.Common.{◌≡◌, true, refl}
use Rattle.pantry.specs.File.{accepted}
use Rattle.pantry.proofs.Serving.{serves}
use Rattle.pantry.proofs.loading.item_pantry.Goals as goal

pub returns-clause-serves : goal.returns-clause-serves
returns-clause-serves c = let ok : accepted c.args.file.now ≡ true = rw c.requires refl in serves c.args.file.now ok
