use Rattle.std.proofs.Common.{rules}
use Rattle.words.specs.Names.{is_keyword}
use Rattle.words.proofs.names.is_keyword.Goals as goal

pub returns : goal.returns
unfolding is_keyword
returns c = search rules
