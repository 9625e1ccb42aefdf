use Rattle.std.proofs.Common.{◌≤◌, length, sym, ◌∙◌, arith}
use Rattle.checker.proofs.Sections.{end-here, end_on, end_none}
use Rattle.checker.proofs.sheets.module_end.Goals as goal

pub returns-in-Some : goal.returns-in-Some
returns-in-Some c = sym (c.loop-k.invariant ∙ end-here _ _ _ _ c.loop-k-test.true (sym c.in-Some.ensures))

pub loop-k-preserved : goal.loop-k-preserved
loop-k-preserved c = c.loop-k.invariant ∙ end_on _ _ _ c.loop-k-test.true (sym c.in_default.ensures)

pub returns : goal.returns
returns c =
    let h : length c.args.tree.now ≤ c.loop-k.k = omega arith in
    sym (c.loop-k.invariant ∙ end_none _ _ h)
