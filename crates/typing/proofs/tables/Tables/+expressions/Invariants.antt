use Rattle.std.proofs.Common.{◌+◌, ◌*◌}
use Rattle.typing.proofs.tables.Tables.+expressions.Given as goal

abbrev pub decreases-apply : goal.decreases-apply
decreases-apply l = 3 * l.levels + 1

abbrev pub decreases-binary : goal.decreases-binary
decreases-binary l = 3 * l.levels + 1

abbrev pub decreases-body : goal.decreases-body
decreases-body l = 3 * l.levels + 1

abbrev pub decreases-conditional : goal.decreases-conditional
decreases-conditional l = 3 * l.levels + 1

abbrev pub decreases-is_zero : goal.decreases-is_zero
decreases-is_zero l = 3 * l.levels + 1

abbrev pub decreases-let_in : goal.decreases-let_in
decreases-let_in l = 3 * l.levels + 1

abbrev pub decreases-letrec : goal.decreases-letrec
decreases-letrec l = 3 * l.levels + 2

abbrev pub decreases-procedure : goal.decreases-procedure
decreases-procedure l = 3 * l.levels + 1

abbrev pub decreases-type_of : goal.decreases-type_of
decreases-type_of l = 3 * l.levels
