use Rattle.std.proofs.Common.{◌+◌, ◌*◌}
use Rattle.grammar.proofs.reader.Reader.+expressions.Given as goal

abbrev pub decreases-application : goal.decreases-application
decreases-application l = 6 * l.levels + 4

abbrev pub decreases-binary : goal.decreases-binary
decreases-binary l = 6 * l.levels + 4

abbrev pub decreases-bound : goal.decreases-bound
decreases-bound l = 6 * l.levels + 3

abbrev pub decreases-conditional : goal.decreases-conditional
decreases-conditional l = 6 * l.levels + 4

abbrev pub decreases-expression : goal.decreases-expression
decreases-expression l = 6 * l.levels + 1

abbrev pub decreases-expression_form : goal.decreases-expression_form
decreases-expression_form l = 6 * l.levels + 5

abbrev pub decreases-expression_from : goal.decreases-expression_from
decreases-expression_from l = 6 * l.levels + 0

abbrev pub decreases-is_zero : goal.decreases-is_zero
decreases-is_zero l = 6 * l.levels + 4

abbrev pub decreases-let_in : goal.decreases-let_in
decreases-let_in l = 6 * l.levels + 4

abbrev pub decreases-letrec : goal.decreases-letrec
decreases-letrec l = 6 * l.levels + 4

abbrev pub decreases-pair : goal.decreases-pair
decreases-pair l = 6 * l.levels + 3

abbrev pub decreases-procedure : goal.decreases-procedure
decreases-procedure l = 6 * l.levels + 4
