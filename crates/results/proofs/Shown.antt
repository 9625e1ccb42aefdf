-- The samples, by computation from the definitions.
use Rattle.std.proofs.Common.{refl}
use Rattle.std.specs.Fmt.{digits}
use Rattle.words.specs.Words.{start, scan}
use Rattle.words.specs.Names.{key, same_name}
use Rattle.language.specs.Names.{pantry_name}
use Rattle.language.specs.Scopes.{nearest_in}
use Rattle.language.specs.Bindings.{part_of}
use Rattle.pantry.specs.File.{record_at, records_of, header_ok, unlawful}
use Rattle.grammar.specs.Productions.{chosen}
use Rattle.grammar.specs.Reading.{single, many, read_part, sheet_from, steps, reading}
use Rattle.grammar.specs.Plan.{tasks_of}
use Rattle.rules.specs.Rules.{entering, taking}
use Rattle.line.specs.Lines.{refusal_bytes}
use Rattle.results.specs.Samples.{Samples}

pub samples : Samples
unfolding reading sheet_from read_part many single chosen steps scan start key same_name pantry_name nearest_in part_of entering taking tasks_of record_at records_of header_ok unlawful refusal_bytes digits
samples =
    record {
      plain_number = refl;
      empty_text = refl;
      unwanted_flag = refl;
      salt_shown = refl;
      salt_hidden = refl;
      salt_kept = refl;
      quotient = refl;
      by_zero = refl;
      no_record = refl;
    }
