use Rattle.std.proofs.Common.{◌≡◌, ◌≤◌, ◌<◌, ℕ, min, length, drop, Ok, Err, Result, sym, ap, ◌∙◌, subst, arith}
use Rattle.std.proofs.lemmas.Result.{err_from_is_err_and}
use Rattle.rules.specs.declared.faults.CheckFault.{CheckFault}
use Rattle.grammar.specs.Syntax.{count}
use Rattle.grammar.specs.Table.{modules_of}
use Rattle.typing.specs.declared.types.Given.{Given}
use Rattle.typing.specs.Tables.{state_of}
use Rattle.checker.specs.declared.sheets.Progress.{Progress}
use Rattle.checker.specs.Items.{AllHold}
use Rattle.checker.specs.Sheets.{places, Finish, StepTold}
use Rattle.checker.proofs.Goes.{range, one_more, going_on, going-bad, gone}
use Rattle.checker.proofs.InOrder.{kept_trans}
use Rattle.checker.proofs.sheets.all_modules.Goals as goal

pub step-requires : goal.step-requires
step-requires c =
    let w = c.args.tables.now.given in
    let same = c.loop-end.invariant.0.given in
    let n = one_more w.text.now w.tree.now c.loop-end.at.start c.in-Some.end c.in-Some.name (sym c.in-Some.ensures) in
    let i = c.loop-end.invariant.1 in
    record {
      holds = subst (λ (v : Given). AllHold v v.tree.now) (sym same) c.requires.holds;
      room = omega arith;
      range = subst (λ (v : Given). (c.loop-end.at.start ≤ c.in-Some.end) × (c.in-Some.end < length v.tree.now)) (sym same)
          (range w.text.now w.tree.now c.loop-end.at.start c.in-Some.end c.in-Some.name (sym c.in-Some.ensures));
    }

pub returns-in_err-at-clause-goes : goal.returns-in_err-at-clause-goes
returns-in_err-at-clause-goes c =
    let w = c.args.tables.now.given in
    let s = state_of c.args.tables.now in
    let l = state_of c.loop-end.tables in
    let t = state_of c.step.new.tables in
    let k = c.loop-end.invariant.0 in
    let p = err_from_is_err_and c.from_residual.result c.from_residual.ensures.1 in
    let e = subst (λ (v : Given). StepTold v l t c.loop-end.interfaces c.step.new.interfaces c.loop-end.at c.in-Some.end c.in-Some.name (Err c.in_err-at.field-0.0)) k.given c.in_err-at.ensures.goes in
    λ base h ts b.
    subst (λ (r : Result Progress CheckFault). Finish w.text.now w.tree.now base w.entries.now s ts h r c.step.new.interfaces t) (sym (p.1 ∙ ap Err p.2))
    (going-bad w.text.now w.tree.now base w.entries.now (places s.types) (places s.slots) h ts
    c.loop-end.interfaces l c.loop-end.at c.in-Some.end c.in-Some.name (sym c.in-Some.ensures)
    (c.loop-end.invariant.2 base h ts b) c.step.new.interfaces t c.in_err-at.field-0.0
    (ap (λ (n : ℕ). min n 65535) k.types_long) (ap (λ (n : ℕ). min n 65535) k.slots_long) e)

pub loop-end-smaller : goal.loop-end-smaller
loop-end-smaller c =
    let w = c.args.tables.now.given in
    let r = range w.text.now w.tree.now c.loop-end.at.start c.in-Some.end c.in-Some.name (sym c.in-Some.ensures) in
    let e = c.in_ok-at.ensures.next.1 in
    let a = r.0 in let b = r.1 in
    omega arith

pub loop-end-preserved : goal.loop-end-preserved
loop-end-preserved c =
    let w = c.args.tables.now.given in
    let s = state_of c.args.tables.now in
    let l = state_of c.loop-end.tables in
    let t = state_of c.step.new.tables in
    let k = c.loop-end.invariant.0 in
    let next = c.in_ok-at.ensures.next in
    let n = one_more w.text.now w.tree.now c.loop-end.at.start c.in-Some.end c.in-Some.name (sym c.in-Some.ensures) in
    let i = c.loop-end.invariant.1 in
    let m = next.0 in
    let q = ap (λ (j : ℕ). count (modules_of w.text.now w.tree.now (drop j w.tree.now))) next.1 in
    let ki : length c.step.new.interfaces ≡ length c.loop-end.interfaces = omega arith in
    let e = subst (λ (v : Given). StepTold v l t c.loop-end.interfaces c.step.new.interfaces c.loop-end.at c.in-Some.end c.in-Some.name (Ok c.in_ok-at.at)) k.given c.in_ok-at.ensures.goes in (
      kept_trans c.args.tables.now c.loop-end.tables c.step.new.tables k c.in_ok-at.ensures.kept,
      omega arith,
      λ base h ts b.
          going_on w.text.now w.tree.now base w.entries.now (places s.types) (places s.slots) h ts
          c.loop-end.interfaces l c.loop-end.at c.in-Some.end c.in-Some.name (sym c.in-Some.ensures)
          (c.loop-end.invariant.2 base h ts b) c.step.new.interfaces t c.in_ok-at.at
          (ap (λ (n : ℕ). min n 65535) k.types_long) (ap (λ (n : ℕ). min n 65535) k.slots_long) e next.1,
    )

pub returns : goal.returns
returns c =
    let w = c.args.tables.now.given in
    let s = state_of c.args.tables.now in
    let i = c.loop-end.invariant.1 in
    let k : length c.loop-end.interfaces ≡ length c.args.interfaces.now = omega arith in
    record {
      kept = c.loop-end.invariant.0;
      fits = omega arith;
      goes = λ base h ts b.
          gone w.text.now w.tree.now base w.entries.now (places s.types) (places s.slots) h ts
          c.loop-end.interfaces (state_of c.loop-end.tables) c.loop-end.at (sym c.in_default.ensures) (c.loop-end.invariant.2 base h ts b);
    }
