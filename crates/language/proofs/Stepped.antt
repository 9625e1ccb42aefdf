-- A step does what the rules say, and stops where they say so.
use Rattle.std.proofs.Common.{◌≡◌, ℕ, Bool, true, false, cond, ℤ, ◌+ℤ◌, ◌-ℤ◌, ◌*ℤ◌, sym, refl, ap, ◌∙◌, arith}
use mathlib.Core.Option.{Option, none, some}
use Rattle.language.specs.Syntax.{Operator, plus, minus, times, over, less}
use Rattle.language.specs.Pantry.{EntryNumber, Reply, figure_reply, flag_reply, in_range, fetch}
use Rattle.language.specs.Machine.{
  integer,
  Store,
  Registers,
  Program,
  Reason,
  no_rule,
  no_cell,
  no_frame,
  too_large,
  divide_by_zero,
  Outcome,
  next,
  stop,
  Result,
  plain,
  operation,
  fetched,
  Tried,
  gives,
  fails,
  sized,
  compute,
  quotient,
  is_zeroℤ,
  replied,
  try,
  Frames,
  handing,
  Action,
  hands,
  binds,
  branches,
  puts_down,
  replaces,
  defines,
  ends,
  perform,
  cell_free,
  frame_free,
}
use Rattle.language.specs.Rules.{Rule, Steps, by_rule, by_none}
use Rattle.language.specs.Step.{
  rule_for,
  performing,
  step,
  StepAgrees,
  Stop29,
  binds_cell,
  Stops,
  for_rule,
  for_result,
  for_cell,
  for_frame,
  StopsAgree,
}
use Rattle.language.proofs.Ruled.{rule-of, rule-asked}

module _ (w : Program) (s : Store) (r : Registers) where
  -- no action stops with 29
  handing-stop : (f : Frames) (x : Tried) → ¬ (x ≡ fails no_rule) → ¬ (handing s r f x ≡ stop no_rule)
  handing-stop f (gives v) h q = let z : ◌≡◌ {A = ℕ} 0 1 = cc in omega arith
  handing-stop f (fails k) h q = let e : k ≡ no_rule = cc in h (ap fails e)

  sized-fails : (z : ℤ) → ¬ (sized z ≡ fails no_rule)
  sized-fails z = go (in_range z)
    where
      go : (b : Bool) → ¬ (cond b (gives (integer z)) (fails too_large) ≡ fails no_rule)
      go true q = let z : ◌≡◌ {A = ℕ} 0 1 = cc in omega arith
      go false q = let z : ◌≡◌ {A = ℕ} 0 1 = cc in omega arith

  compute-fails : (o : Operator) (a b : ℤ) → ¬ (compute o a b ≡ fails no_rule)
  compute-fails plus a b = sized-fails (a +ℤ b)
  compute-fails minus a b = sized-fails (a -ℤ b)
  compute-fails times a b = sized-fails (a *ℤ b)
  compute-fails over a b = go (is_zeroℤ b)
    where
      go : (t : Bool) → ¬ (cond t (fails divide_by_zero) (sized (quotient a b)) ≡ fails no_rule)
      go true q = let z : ◌≡◌ {A = ℕ} 0 1 = cc in omega arith
      go false q = sized-fails (quotient a b) q
  compute-fails less a b = λ q. let z : ◌≡◌ {A = ℕ} 0 1 = cc in omega arith

  replied-fails : (i : EntryNumber) (z : ℤ) (m : Option Reply) → ¬ (replied i z m ≡ fails no_rule)
  replied-fails i z none q = let z : ◌≡◌ {A = ℕ} 0 1 = cc in omega arith
  replied-fails i z (some (figure_reply y)) q = let z : ◌≡◌ {A = ℕ} 0 1 = cc in omega arith
  replied-fails i z (some (flag_reply y)) q = let z : ◌≡◌ {A = ℕ} 0 1 = cc in omega arith

  try-fails : (x : Result) → ¬ (try w.pantry x ≡ fails no_rule)
  try-fails (plain v) q = let z : ◌≡◌ {A = ℕ} 0 1 = cc in omega arith
  try-fails (operation o a b) q = compute-fails o a b q
  try-fails (fetched i z) q = replied-fails i z (fetch w.pantry i z) q

  guarded-stop : (b : Bool) (s' : Store) (r' : Registers) (k : Reason) → ¬ (k ≡ no_rule) → ¬ (cond b (next s' r') (stop k) ≡ stop no_rule)
  guarded-stop true s' r' k h q = let z : ◌≡◌ {A = ℕ} 0 1 = cc in omega arith
  guarded-stop false s' r' k h q = let e : k ≡ no_rule = cc in h e

  cell-not-rule : ¬ (no_cell ≡ no_rule)
  cell-not-rule q = let z : ◌≡◌ {A = ℕ} 0 1 = cc in omega arith

  frame-not-rule : ¬ (no_frame ≡ no_rule)
  frame-not-rule q = let z : ◌≡◌ {A = ℕ} 0 1 = cc in omega arith

  performed-stop : (a : Action) → ¬ (perform w s r a ≡ stop no_rule)
  performed-stop (hands f x) q = handing-stop f (try w.pantry x) (try-fails x) q
  performed-stop (binds f c k) q = guarded-stop (cell_free s r) _ _ no_cell cell-not-rule q
  performed-stop (branches d k sc) q = let z : ◌≡◌ {A = ℕ} 0 1 = cc in omega arith
  performed-stop (puts_down f k sc) q = guarded-stop (frame_free s r) _ _ no_frame frame-not-rule q
  performed-stop (replaces d f k sc) q = let z : ◌≡◌ {A = ℕ} 0 1 = cc in omega arith
  performed-stop (defines x v sc) q = guarded-stop (cell_free s r) _ _ no_cell cell-not-rule q
  performed-stop (ends v) q = let z : ◌≡◌ {A = ℕ} 0 1 = cc in omega arith

  -- ── the theorems ──

  none-asked : ((a : Action) → ¬ Rule w s r a) → rule_for w s r ≡ none
  none-asked f = go (rule_for w s r) refl
    where
      go : (m : Option Action) → rule_for w s r ≡ m → m ≡ none
      go none q = refl
      go (some a) q = absurd (f a (rule-of w s r a q))

  asked-none : rule_for w s r ≡ none → (a : Action) → ¬ Rule w s r a
  asked-none q a h = let k : rule_for w s r ≡ some a = rule-asked w s r a h in let z : ◌≡◌ {A = ℕ} 0 1 = cc in omega arith

  steps-there : Steps w s r (step w s r)
  steps-there = go (rule_for w s r) refl
    where
      go : (m : Option Action) → rule_for w s r ≡ m → Steps w s r (performing w s r m)
      go none q = by_none (asked-none q)
      go (some a) q = by_rule (rule-of w s r a q)

  steps-only : (o : Outcome) → Steps w s r o → step w s r ≡ o
  steps-only o (by_rule {a = a} h) = rw (rule-asked w s r a h) refl
  steps-only o (by_none f) = rw (none-asked f) refl

  no-rule : step w s r ≡ stop no_rule → (a : Action) → ¬ Rule w s r a
  no-rule q a h = performed-stop a (sym (steps-only (perform w s r a) (by_rule h)) ∙ q)

  -- ── why a step stops ──

  guarded : (b : Bool) (s' : Store) (r' : Registers) (k m : Reason) → cond b (next s' r') (stop k) ≡ stop m → (b ≡ false) × (k ≡ m)
  guarded true s' r' k m q = (cc, cc)
  guarded false s' r' k m q = (refl, cc)

  handed : (f : Frames) (x : Tried) (k : Reason) → handing s r f x ≡ stop k → x ≡ fails k
  handed f (gives v) k q = cc
  handed f (fails m) k q = let e : m ≡ k = cc in ap fails e

  rule-stops : (a : Action) (k : Reason) → Rule w s r a → perform w s r a ≡ stop k → Stops w s r k
  rule-stops (hands f x) k h q = for_result h (handed f (try w.pantry x) k q)
  rule-stops (binds f c l) k h q = let (e, z) = guarded (cell_free s r) _ _ no_cell k q in rw (sym z) (for_cell h refl e)
  rule-stops (branches d l sc) k h q = let z : ◌≡◌ {A = ℕ} 0 1 = cc in absurd (omega arith)
  rule-stops (puts_down f l sc) k h q = let (e, z) = guarded (frame_free s r) _ _ no_frame k q in rw (sym z) (for_frame h e)
  rule-stops (replaces d f l sc) k h q = let z : ◌≡◌ {A = ℕ} 0 1 = cc in absurd (omega arith)
  rule-stops (defines x v sc) k h q = let (e, z) = guarded (cell_free s r) _ _ no_cell k q in rw (sym z) (for_cell h refl e)
  rule-stops (ends v) k h q = let z : ◌≡◌ {A = ℕ} 0 1 = cc in absurd (omega arith)

  stops-there : (k : Reason) → step w s r ≡ stop k → Stops w s r k
  stops-there k q = go (rule_for w s r) refl q
    where
      go : (m : Option Action) → rule_for w s r ≡ m → performing w s r m ≡ stop k → Stops w s r k
      go none e q = let z : no_rule ≡ k = cc in rw (sym z) (for_rule (asked-none e))
      go (some a) e q = rule-stops a k (rule-of w s r a e) q

  no-cell : (a : Action) → binds_cell a ≡ true → cell_free s r ≡ false → perform w s r a ≡ stop no_cell
  no-cell (hands f x) b q = cc
  no-cell (binds f c k) b q = rw q refl
  no-cell (branches d k sc) b q = cc
  no-cell (puts_down f k sc) b q = cc
  no-cell (replaces d f k sc) b q = cc
  no-cell (defines x v sc) b q = rw q refl
  no-cell (ends v) b q = cc

  stops-only : (k : Reason) → Stops w s r k → step w s r ≡ stop k
  stops-only k (for_rule f) = steps-only (stop no_rule) (by_none f)
  stops-only k (for_result {f = f} {x = x} h q) = steps-only (perform w s r (hands f x)) (by_rule h) ∙ rw q refl
  stops-only k (for_cell {a = a} h b q) = steps-only (perform w s r a) (by_rule h) ∙ no-cell a b q
  stops-only k (for_frame {f = f} {k = l} {sc = sc} h q) = steps-only (perform w s r (puts_down f l sc)) (by_rule h) ∙ rw q refl

pub step-agrees : StepAgrees
step-agrees w s r o = ((λ q. rw q at (steps-there w s r)), steps-only w s r o)

pub stop-29 : Stop29
stop-29 w s r = (no-rule w s r, λ f. steps-only w s r (stop no_rule) (by_none f))

pub stops-agree : StopsAgree
stops-agree w s r k = (stops-there w s r k, stops-only w s r k)
