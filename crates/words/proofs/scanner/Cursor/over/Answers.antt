use Rattle.std.proofs.Common.{refl}
use Rattle.words.proofs.AllLaws.{laws}
use Rattle.words.proofs.SamplesRead.{samples}
use Rattle.words.proofs.scanner.Cursor.over.Goals as goal

pub returns : goal.returns
returns c = record { text = refl; at = refl; laws = laws; samples = samples }
