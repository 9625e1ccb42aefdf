-- The samples, by computation from the definitions.
use Rattle.std.proofs.Common.{refl}
use Rattle.words.specs.Words.{start, scan}
use Rattle.grammar.specs.Productions.{chosen}
use Rattle.grammar.specs.Reading.{single, many, read_part, sheet_from, steps, reading}
use Rattle.grammar.specs.Samples.{Samples}

pub samples : Samples
unfolding reading sheet_from read_part many single chosen steps scan start
samples =
    record {
      plain_number = refl;
      nothing = refl;
      comment = refl;
      sum = refl;
      quotient = refl;
      loop = refl;
      keyword = refl;
      word = refl;
      grammar_first = refl;
      full = refl;
      full_inside = refl;
      full_before = refl;
      behind = refl;
      deep = refl;
      too_deep = refl;
      deep_word = refl;
      salt_size = refl;
      salt_sum = refl;
      modules = refl;
      too_many = refl;
      inner = refl;
    }
