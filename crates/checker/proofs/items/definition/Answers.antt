use Rattle.std.proofs.Common.{◌≤◌, min, length, sym, ◌∙◌, arith, rules}
use Rattle.checker.specs.Items.{definition_n}
use Rattle.checker.proofs.Definitions.{def-here, def-on, def_none}
use Rattle.checker.proofs.items.definition.Goals as goal

pub returns-in_err-slot : goal.returns-in_err-slot
unfolding definition_n
returns-in_err-slot c =
    let past : length c.args.tables.now.slots.now ≤ c.from.result = c.in_err-slot.ensures.lookup.3 in
    let h : min c.args.used (length c.args.tables.now.slots.now) ≤ c.loop-k.k = omega arith in
    let e = c.loop-k.invariant ∙ def_none _ _ _ _ _ _ h in
    let z = c.spelled-wanted.ensures in
    search (rules, e, z)

pub returns-in-Some : goal.returns-in-Some
unfolding definition_n
returns-in-Some c =
    let h = c.in_ok-slot.ensures.lookup in
    let e = c.loop-k.invariant ∙ def-here _ _ _ _ _ _ c.in_ok-slot.field-0.now c.from.result c.from.ensures c.loop-k-test.true h.3.0 h.1 _ (sym c.in-Some.ensures) in
    let z = c.spelled-wanted.ensures in
    search (rules, e, z)

pub loop-k-preserved : goal.loop-k-preserved
loop-k-preserved c =
    let h = c.in_ok-slot.ensures.lookup in
    c.loop-k.invariant ∙ def-on _ _ _ _ _ _ c.in_ok-slot.field-0.now c.from.result c.from.ensures c.loop-k-test.true h.3.0 h.1 (sym c.in_default.ensures)

pub returns : goal.returns
unfolding definition_n
returns c =
    let h : min c.args.used (length c.args.tables.now.slots.now) ≤ c.loop-k.k = omega arith in
    let e = c.loop-k.invariant ∙ def_none _ _ _ _ _ _ h in
    let z = c.spelled-wanted.ensures in
    search (rules, e, z)
