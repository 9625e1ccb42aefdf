-- From one step to an advance.
use Rattle.std.proofs.Common.{◌≡◌, ℕ, zero, suc, ◌+◌, ◌-◌, ◌<◌, ◌≤◌, Bool, cond, sym, refl, ap, ◌∙◌, add-one, arith, le-ltb, lt-ltb, ◌⊎◌, inl, inr}
use Rattle.language.specs.Machine.{Program, Store, Registers, Value, Reason, Outcome, next, done, stop}
use Rattle.language.specs.Step.{step}
use Rattle.language.specs.Job.{moment, running, finished, stopped, step_limit, counting, stepping}

module _ (w : Program) (s : Store) (r : Registers) (a n : ℕ) where
  -- no step is left
  pub advance-none : a ≡ 0 → stepping w a s (running r) n ≡ moment s (running r) n
  advance-none e = ap (λ (k : ℕ). stepping w k s (running r) n) e

  one-step : (b : ℕ) (o : Outcome) → a ≡ suc b → n < step_limit → o ≡ step w s r → stepping w a s (running r) n ≡
      counting (stepping w b) s n o
  one-step b o e h q =
      ap (λ (k : ℕ). stepping w k s (running r) n) e ∙
      (ap (λ (t : Bool). cond t (counting (stepping w b) s n (step w s r)) (moment s (running r) n)) (lt-ltb _ _ h) ∙
      ap (counting (stepping w b) s n) (sym q))

  pub advance-on : (s' : Store) (r' : Registers) → 0 < a → n < step_limit → next s' r' ≡ step w s r →
      stepping w a s (running r) n ≡ stepping w (a - 1) s' (running r') (n + 1)
  advance-on s' r' h l q =
      one-step (a - 1) (next s' r') (omega arith) l q ∙ ap (λ (k : ℕ). stepping w (a - 1) s' (running r') k) (sym (add-one n))

  pub advance-done : (s' : Store) (v : Value) → 0 < a → n < step_limit → done v ≡ step w s r → s' ≡ s →
      moment s' (finished v) (n + 1) ≡ stepping w a s (running r) n
  advance-done s' v h l q e =
      ap (λ (x : Store). moment x (finished v) (n + 1)) e ∙
      (ap (moment s (finished v)) (add-one n) ∙ sym (one-step (a - 1) (done v) (omega arith) l q))

  pub advance-stop : (s' : Store) (k : Reason) → 0 < a → n < step_limit → stop k ≡ step w s r → s' ≡ s →
      moment s' (stopped k) n ≡ stepping w a s (running r) n
  advance-stop s' k h l q e =
      ap (λ (x : Store). moment x (stopped k) n) e ∙ sym (one-step (a - 1) (stop k) (omega arith) l q)

-- no step is made past the limit
pub advance-full : (w : Program) (s : Store) (r : Registers) (a n : ℕ) → step_limit ≤ n → stepping w a s (running r) n ≡
    moment s (running r) n
advance-full w s r zero n h = refl
advance-full w s r (suc a) n h =
    ap (λ (b : Bool). cond b (counting (stepping w a) s n (step w s r)) (moment s (running r) n)) (le-ltb _ _ h)

-- no step is made where none is left, nor past the limit
pub advance-end : (w : Program) (s : Store) (r : Registers) (a n : ℕ) → (step_limit ≤ n) ⊎ (a ≡ 0) → stepping w a s (running r) n ≡
    moment s (running r) n
advance-end w s r a n (inl h) = advance-full w s r a n h
advance-end w s r a n (inr e) = advance-none w s r a n e
