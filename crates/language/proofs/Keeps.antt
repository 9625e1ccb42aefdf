-- A step keeps the invariant or ends soundly, and so does any number of steps.
use Rattle.std.proofs.Common.{ℕ, zero, suc, Bool, true, false, cond, ltb}
use Rattle.language.specs.Typing.{ExpandedType, Interfaces}
use Rattle.language.specs.Pantry.{Pantry}
use Rattle.language.specs.Machine.{Store, Control, Registers, Outcome, next, done, stop}
use Rattle.language.specs.Step.{on_control, performing, step}
use Rattle.language.specs.Job.{Status, running, finished, stopped, Moment, moment, step_limit, counting, stepping, Suits}
use Rattle.language.specs.Fits.{Setting}
use Rattle.language.proofs.Held.{OneExpression, Goal}
use Rattle.language.proofs.Invariant.{ControlFits, c-turn, c-hand, RestIn, StackIn, program_in, WellTypedState, Good, GoodStatus}
use Rattle.language.proofs.Evaluates.{evaluate-good}
use Rattle.language.proofs.Returns.{return-good}

module _ (w : Setting) (one-expression : OneExpression w) (p : Pantry) (suits : Suits w.stock p) (goal : Goal) where
  control-good : {n : Interfaces} {a b : ExpandedType} (s : Store) (r : Registers) (c : Control) → ControlFits w n s.cells c a →
      StackIn w n s r.frame_count a b → RestIn w goal n s r b → Good w goal s (performing (program_in w goal p) s r (on_control (program_in w goal p) s r c))
  control-good s r c (c-turn {j = j} {s = sc} se sh ty) k o = evaluate-good w one-expression p suits goal s r j sc se sh k o ty
  control-good s r c (c-hand {v = v} f) k o = return-good w one-expression p suits goal s r v r.frame_count f k o

  -- one step
  pub step-good : (s : Store) (r : Registers) → WellTypedState w goal s r → Good w goal s (step (program_in w goal p) s r)
  step-good s r o = control-good s r r.control o.control-fits o.stack-fits o.rest

  -- any number of steps
  abbrev GoodMoment : Moment → Type 0
  GoodMoment m = GoodStatus w goal m.store m.job.status

  pub stepping-good : (a : ℕ) (s : Store) (x : Status) (n : ℕ) → GoodStatus w goal s x → GoodMoment (stepping (program_in w goal p) a s x n)
  stepping-good zero s x n h = h
  stepping-good (suc a) s (finished v) n h = h
  stepping-good (suc a) s (stopped k) n h = h
  stepping-good (suc a) s (running r) n h = go (ltb n step_limit) (step (program_in w goal p) s r) (step-good s r h) (stepping-good a)
    where
      go : (b : Bool) (x : Outcome) → Good w goal s x →
          ((s : Store) (x : Status) (n : ℕ) → GoodStatus w goal s x → GoodMoment (stepping (program_in w goal p) a s x n)) →
          GoodMoment (cond b (counting (stepping (program_in w goal p) a) s n x) (moment s (running r) n))
      go true (next s' r') g f = f s' (running r') (suc n) g
      go true (done v) g f = g
      go true (stop k) g f = g
      go false x g f = h
