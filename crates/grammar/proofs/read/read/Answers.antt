use Rattle.std.proofs.Common.{◌≡◌, length, arith}
use Rattle.grammar.proofs.Answered.{answered-read, answered-refused}
use Rattle.grammar.proofs.read.read.Goals as goal

pub returns-then-is_err : goal.returns-then-is_err
returns-then-is_err c =
    let l : length c.fill-answer.new.tree ≡ length c.args.tree.now = omega arith in
    let h = answered-refused c.args.text.now c.args.tree.now c.fill-answer.new.tree c.fill-answer.result
    c.if-is_err.ensures.value c.blank.new.tree c.blank-then-is_err.new.tree c.blank.ensures l c.blank-then-is_err.ensures
    c.fill-answer.ensures in
    record { reads = h.0; promises = h.1; judged = h.2 }

pub returns-else-is_err : goal.returns-else-is_err
returns-else-is_err c =
    let h = answered-read c.args.text.now c.args.tree.now c.fill-answer.new.tree c.fill-answer.result
    c.if-is_err.ensures.value c.blank.new.tree c.blank.ensures c.fill-answer.ensures in
    record { reads = h.0; promises = h.1; judged = h.2 }
