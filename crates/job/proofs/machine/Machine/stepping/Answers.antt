use Rattle.std.proofs.Common.{◌≡◌, ◌+◌, ◌-◌, ◌<◌, ◌≤◌, ◌⊎◌, sym, ap, ◌∙◌, arith, inl, inr, eq-or-lt_of_le, ⊎_elim}
use Rattle.language.specs.Job.{moment, running, stepping, step_limit}
use Rattle.job.specs.Maps.{stored, registers_of, value_of, reason_of}
use Rattle.job.specs.Rules.{program_in}
use Rattle.job.specs.Machines.{program_of, store_of, state_of}
use Rattle.job.proofs.Moved.{same_store}
use Rattle.job.proofs.Stepped.{advance-on, advance-done, advance-stop, advance-end}
use Rattle.job.proofs.machine.Machine.stepping.Goals as goal

pub returns-in-Ok-Some-clause-is : goal.returns-in-Ok-Some-clause-is
returns-in-Ok-Some-clause-is g c =
    let m = c.loop-steps.self in
    let n = c.loop-steps.steps in
    let a = c.args.allowance - (n - c.args.made) in
    let some : 0 < a = omega arith in
    let free : n < step_limit = omega arith in
    let e = rw c.in-Ok-Some.field-0-is at c.in-Ok-Some.ensures in
    advance-done (program_of (g.P.Pantry.meaning c.args.pantry.now) m) (store_of m) (state_of m) a n _ (value_of c.in-Ok-Some.value)
    some free e.is
    (same_store (ap (λ s. s.text.now) (sym c.loop-steps.invariant.same.sheet)) e.spared.cells e.spared.frames) ∙
    sym c.loop-steps.invariant.is

pub returns-in-Err-clause-is : goal.returns-in-Err-clause-is
returns-in-Err-clause-is g c =
    let m = c.loop-steps.self in
    let n = c.loop-steps.steps in
    let a = c.args.allowance - (n - c.args.made) in
    let some : 0 < a = omega arith in
    let free : n < step_limit = omega arith in
    let spared = c.in-Err.ensures.spared in
    advance-stop (program_of (g.P.Pantry.meaning c.args.pantry.now) m) (store_of m) (state_of m) a n _ (reason_of c.in-Err.reason)
    some free c.in-Err.ensures.is
    (same_store (ap (λ s. s.text.now) (sym c.loop-steps.invariant.same.sheet)) spared.cells spared.frames) ∙
    sym c.loop-steps.invariant.is

pub loop-steps-preserved : goal.loop-steps-preserved
loop-steps-preserved g c =
    let m = c.loop-steps.self in
    let on = c.step.new.self in
    let p = g.P.Pantry.meaning c.args.pantry.now in
    let n = c.loop-steps.steps in
    let a = c.args.allowance - (n - c.args.made) in
    let some : 0 < a = omega arith in
    let free : n < step_limit = omega arith in
    let left : a - 1 ≡ c.args.allowance - (n + 1 - c.args.made) = omega arith in
    let e = rw c.in-Ok-None.field-0-is at c.in-Ok-None.ensures in
    let past = c.loop-steps.invariant.same in
    let now = c.step.ensures.same in
    record {
      is = c.loop-steps.invariant.is ∙
          (advance-on (program_of p m) (store_of m) (state_of m) a n (store_of on) (state_of on) some free e.is ∙
          (ap (λ s. stepping (program_in s p) (a - 1) (store_of on) (running (state_of on)) (n + 1)) (sym now.sheet) ∙
          ap (λ k. stepping (program_of p on) k (store_of on) (running (state_of on)) (n + 1)) left));
      same = record {
        sheet = now.sheet ∙ past.sheet;
        tree = now.tree ∙ past.tree;
        course = now.course ∙ past.course;
        cells = now.cells ∙ past.cells;
        frames = now.frames ∙ past.frames;
      };
    }

pub returns-clause-is : goal.returns-clause-is
returns-clause-is g c =
    let m = c.loop-steps.self in
    let text = c.args.self.now.sheet.text.now in
    let n = c.loop-steps.steps in
    let a = c.args.allowance - (n - c.args.made) in
    let end : c.min-end.result ≡ n = omega arith in
    let most : n ≤ step_limit = omega arith in
    let none : (step_limit ≤ n) ⊎ (a ≡ 0) = ⊎_elim (λ (e : n ≡ step_limit). inl (omega arith)) (λ (l : n < step_limit). inr (omega arith))
    (eq-or-lt_of_le most) in
    ap (λ k. moment (stored text m.cells.now m.frames.now) (running (registers_of text m.course.now m.registers)) k) end ∙
    (ap (λ s. moment (stored s.text.now m.cells.now m.frames.now) (running (registers_of s.text.now m.course.now m.registers)) n)
    (sym c.loop-steps.invariant.same.sheet) ∙
    (sym (advance-end (program_of (g.P.Pantry.meaning c.args.pantry.now) m) (store_of m) (state_of m) a n none) ∙
    sym c.loop-steps.invariant.is))
