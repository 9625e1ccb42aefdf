-- The samples, by computation from the definitions.
use Rattle.std.proofs.Common.{refl}
use Rattle.words.specs.Words.{start, scan}
use Rattle.words.specs.Names.{key, same_name}
use Rattle.language.specs.Names.{pantry_name}
use Rattle.grammar.specs.Productions.{chosen}
use Rattle.grammar.specs.Reading.{single, many, read_part, sheet_from, steps, reading}
use Rattle.rules.specs.Rules.{entering, taking}
use Rattle.rules.specs.Samples.{Samples}

pub samples : Samples
unfolding reading sheet_from read_part many single chosen steps scan start key same_name pantry_name entering taking
samples =
    record {
      plain_number = refl;
      sum = refl;
      salt_passes = refl;
      salt_hides = refl;
      salt_hidden = refl;
      pantry_entry = refl;
      recursion = refl;
      declared_twice = refl;
      defined_twice = refl;
      module_twice = refl;
      module_pantry = refl;
      parts_first = refl;
      own_module = refl;
      interface_unseen = refl;
      pantry_type = refl;
      body_first = refl;
      no_arrow = refl;
      hidden_arrow = refl;
      out_of_order = refl;
      other_kind = refl;
      other_type = refl;
      deep_type = refl;
      too_deep = refl;
      pantry_full = refl;
      types_full = refl;
      inward_full = refl;
      inward_room = refl;
      scope_full = refl;
      declarations_stay = refl;
    }
