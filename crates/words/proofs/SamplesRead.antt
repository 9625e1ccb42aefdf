-- The samples, as antt computes them. Assumes nothing.
use Rattle.std.proofs.Common.{refl}
use Rattle.words.specs.Words.{scan, start}
use Rattle.words.specs.Lexing.{lexed_from}
use Rattle.words.specs.Samples.{Samples}

pub samples : Samples
unfolding scan start lexed_from
samples = (
  record { dashed = refl; ended = refl; arrow = refl; after = refl; query = refl; spelled = refl; longest = refl; longer = refl },
  record {
    behind = refl;
    dashes = refl;
    apart = refl;
    arrow = refl;
    largest = refl;
    larger = refl;
    letter = refl;
    first = refl;
    query = refl;
    zeros = refl;
    negative = refl;
    nought = refl;
  },
  record { comment = refl; number = refl; stray = refl; lone = refl; none = refl; sum = refl; refused = refl },
)
