-- The laws of advances.
use Rattle.std.proofs.Common.{◌≡◌, ℕ, zero, suc, ◌+◌, ◌<◌, ◌≤◌, min, Bool, true, false, cond, ltb, List, ◌∷◌, replicate, sym, refl, ap, ◌∙◌, suc-add, zero-add, arith, ltb-false, ltb-true}
use Rattle.language.specs.Tree.{Plan}
use Rattle.language.specs.Pantry.{Pantry}
use Rattle.language.specs.Machine.{Value, Store, Registers, Program, Reason, Outcome, next, done, stop, program_of}
use Rattle.language.specs.Step.{step}
use Rattle.language.specs.Job.{
  Status,
  running,
  finished,
  stopped,
  Moment,
  moment,
  step_limit,
  counting,
  stepping,
  Ended,
  AdvancesAdd,
  EndedStays,
  SpentStays,
  Counted,
  StepsCounted,
  Calls,
  no_call,
  finish,
  status,
  advance,
  Logged,
  after,
  answer_at,
  log,
  call_count,
  CallsLaw,
  LawfulSuits,
}

stays-finished : (w : Program) (a : ℕ) (s : Store) (v : Value) (n : ℕ) → stepping w a s (finished v) n ≡ moment s (finished v) n
stays-finished w zero s v n = refl
stays-finished w (suc a) s v n = refl

stays-stopped : (w : Program) (a : ℕ) (s : Store) (k : Reason) (n : ℕ) → stepping w a s (stopped k) n ≡ moment s (stopped k) n
stays-stopped w zero s k n = refl
stays-stopped w (suc a) s k n = refl

stays-full : (w : Program) (a : ℕ) (s : Store) (r : Registers) (n : ℕ) → ltb n step_limit ≡ false →
    stepping w a s (running r) n ≡ moment s (running r) n
stays-full w zero s r n q = refl
stays-full w (suc a) s r n q = rw q refl

abbrev After : Program → ℕ → Moment → Moment
After w b m = stepping w b m.store m.job.status m.job.steps

split : (w : Program) (a b : ℕ) (s : Store) (x : Status) (n : ℕ) → stepping w (a + b) s x n ≡ After w b (stepping w a s x n)
split w zero b s x n = rw zero-add refl
split w (suc a) b s (finished v) n = stays-finished w (suc a + b) s v n ∙ sym (stays-finished w b s v n)
split w (suc a) b s (stopped k) n = stays-stopped w (suc a + b) s k n ∙ sym (stays-stopped w b s k n)
split w (suc a) b s (running r) n = rw (suc-add a b) (go (ltb n step_limit) refl (step w s r) (split w a b))
  where
    go : (t : Bool) → ltb n step_limit ≡ t → (p : Outcome) →
        ((s : Store) (x : Status) (n : ℕ) → stepping w (a + b) s x n ≡ After w b (stepping w a s x n)) →
        cond t (counting (stepping w (a + b)) s n p) (moment s (running r) n) ≡
        After w b (cond t (counting (stepping w a) s n p) (moment s (running r) n))
    go true q (next s' r') f = f s' (running r') (suc n)
    go true q (done v) f = sym (stays-finished w b s v (suc n))
    go true q (stop k) f = sym (stays-stopped w b s k n)
    go false q p f = sym (stays-full w b s r n q)

pub advances-add : AdvancesAdd
advances-add w a b s j = split w a b s j.status j.steps

ended : (w : Program) (a : ℕ) (s : Store) (x : Status) (n : ℕ) → Ended x → stepping w a s x n ≡ moment s x n
ended w a s (running r) n h = absurd h
ended w a s (finished v) n h = stays-finished w a s v n
ended w a s (stopped k) n h = stays-stopped w a s k n

pub ended-stays : EndedStays
ended-stays w a s j h = ended w a s j.status j.steps h

pub spent-stays : SpentStays
spent-stays w a s (running r) = stays-full w a s r step_limit refl
spent-stays w a s (finished v) = stays-finished w a s v step_limit
spent-stays w a s (stopped k) = stays-stopped w a s k step_limit

-- ── the count of steps ──

counted : (w : Program) (a : ℕ) (s : Store) (x : Status) (n : ℕ) → Counted n a (stepping w a s x n)
counted w zero s x n = record { within_limit = λ h. h; within_allowance = omega arith; going_on = λ h g. omega arith }
counted w (suc a) s (finished v) n =
    record { within_limit = λ h. h; within_allowance = omega arith; going_on = λ h g. absurd g }
counted w (suc a) s (stopped k) n =
    record { within_limit = λ h. h; within_allowance = omega arith; going_on = λ h g. absurd g }
counted w (suc a) s (running r) n = go (ltb n step_limit) refl (step w s r) (counted w a)
  where
    go : (t : Bool) → ltb n step_limit ≡ t → (p : Outcome) →
        ((s : Store) (x : Status) (n : ℕ) → Counted n a (stepping w a s x n)) →
        Counted n (suc a) (cond t (counting (stepping w a) s n p) (moment s (running r) n))
    go true q (next s' r') f =
        let m = f s' (running r') (suc n) in
        let l : n < step_limit = ltb-true n step_limit q in
        record {
          within_limit = λ h. m.within_limit (omega arith);
          within_allowance = omega (arith, m.within_allowance);
          going_on = λ h g. m.going_on (omega arith) g ∙ ap (λ (k : ℕ). min k step_limit) (omega arith);
        }
    go true q (done v) f =
        let l : n < step_limit = ltb-true n step_limit q in
        record { within_limit = λ h. omega arith; within_allowance = omega arith; going_on = λ h g. absurd g }
    go true q (stop k) f = record { within_limit = λ h. h; within_allowance = omega arith; going_on = λ h g. absurd g }
    go false q p f =
        let l : step_limit ≤ n = ltb-false n step_limit q in
        record { within_limit = λ h. h; within_allowance = omega arith; going_on = λ h g. omega arith }

pub steps-counted : StepsCounted
steps-counted w a s j = counted w a s j.status j.steps

-- ── logs ──

two-advances : (plan : Plan) (m : Moment) (p : Pantry) (a b : ℕ) → after plan p b (after plan p a m) ≡ after plan p (a + b) m
two-advances plan m p a b = sym (advances-add (program_of plan p) a b m.store m.job)

end_repeats : (plan : Plan) (m : Moment) (cs : Calls) → Ended m.job.status → log plan m cs ≡ replicate (call_count cs) (answer_at m)
end_repeats plan m no_call h = refl
end_repeats plan m finish h = refl
end_repeats plan m (status cs) h = ap (λ (l : List Logged). answer_at m ∷ l) (end_repeats plan m cs h)
end_repeats plan m (advance p a cs) h =
    rw (ended-stays (program_of plan p) a m.store m.job h) (ap (λ (l : List Logged). answer_at m ∷ l) (end_repeats plan m cs h))

pub calls-law : CallsLaw
calls-law = record {
  status_keeps = λ plan m cs. refl;
  finish_keeps = λ plan m. refl;
  advances_join = λ plan m p a b cs. ap (λ (k : Moment). answer_at (after plan p a m) ∷ (answer_at k ∷ log plan k cs))
      (two-advances plan m p a b);
  end_repeats = end_repeats;
}

pub lawful-suits : LawfulSuits
lawful-suits p l = record { same_stock = refl; by_kind = l.by_kind }
