use Rattle.std.proofs.Common.{refl}
use Rattle.std.specs.Fmt.{digits}
use Rattle.language.specs.Bindings.{part_of}
use Rattle.typing.specs.Told.{entry_told, type_within}
use Rattle.line.specs.Lines.{refusal_bytes}
use Rattle.line.proofs.theorems.samples_stand.Goals as goal

pub returns : goal.returns
unfolding digits part_of refusal_bytes entry_told type_within
returns c =
    record {
      thirty_three = refl;
      minus_three = refl;
      boolean = refl;
      integer_hidden = refl;
      arrow = refl;
      under_way = refl;
      by_zero = refl;
      no_answer = refl;
      unwanted = refl;
      too_short = refl;
    }
