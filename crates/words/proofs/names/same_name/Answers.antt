use Rattle.std.proofs.Common.{rules}
use Rattle.words.specs.Names.{key, same_name}
use Rattle.words.proofs.names.same_name.Goals as goal

pub returns : goal.returns
unfolding same_name key
returns c = search rules
