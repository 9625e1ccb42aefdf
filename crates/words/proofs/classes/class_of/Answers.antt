use Rattle.std.proofs.Common.{ap, ◌∙◌, arith}
use Rattle.words.specs.Classes.{class_of}
use Rattle.words.proofs.Table.{rule}
use Rattle.words.proofs.classes.class_of.Goals as goal

pub returns : goal.returns
returns c = rule c.classes.result.now c.classes.ensures c.from-b.result (omega arith) ∙ ap class_of c.from-b.ensures
