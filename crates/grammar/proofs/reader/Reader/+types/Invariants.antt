use Rattle.std.proofs.Common.{◌+◌, ◌*◌}
use Rattle.grammar.proofs.reader.Reader.+types.Given as goal

abbrev pub decreases-ty : goal.decreases-ty
decreases-ty l = 3 * l.levels

abbrev pub decreases-type_form : goal.decreases-type_form
decreases-type_form l = 3 * l.levels + 2

abbrev pub decreases-arrow : goal.decreases-arrow
decreases-arrow l = 3 * l.levels + 1
