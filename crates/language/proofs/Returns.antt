-- A step that returns a value keeps the invariant, ends with a value that fits, or stops for a reason other than that no rule fits.
use Rattle.std.proofs.Common.{◌≡◌, ℕ, suc, ◌<◌, Bool, true, false, cond, ◌∷◌, length, set, sym, refl, arith, ltb→lt, get_or-set_same}
use mathlib.Core.Option.{some}
use lib.ListN.{get_elem?}
use Rattle.words.specs.Names.{Name}
use Rattle.language.specs.Names.{bind}
use Rattle.language.specs.Tree.{Part, node_at}
use Rattle.language.specs.Typing.{ExpandedType, int, Context, Environment, Interfaces}
use Rattle.language.specs.Pantry.{EntryNumber, Entry, Pantry, fetch}
use Rattle.language.specs.Scopes.{Scope}
use Rattle.language.specs.Machine.{
  Value,
  boolean,
  blank_cell,
  value_cell,
  Frame,
  blank_frame,
  await_first,
  await_second,
  frame_at,
  Store,
  evaluate,
  Target,
  Registers,
  no_cell,
  next,
  stop,
  is_zeroℤ,
  compute,
  replied,
  removed,
  without,
  with_cell,
  cell_free,
  onward,
  begin,
  binds,
  branches,
  replaces,
  perform,
}
use Rattle.language.specs.Step.{on_first, asking, on_second, on_frame, ending, on_return, performing}
use Rattle.language.specs.Job.{Suits}
use Rattle.language.specs.Fits.{Setting}
use Rattle.language.proofs.Rows.{Typed}
use Rattle.language.proofs.Held.{
  one,
  Seen,
  OneExpression,
  seen-part,
  held_fits,
  Held,
  v-integer,
  v-boolean,
  v-proc,
  v-rec,
  v-stock,
  ScopeHeld,
  h-value,
  h-letrec,
  Goal,
}
use Rattle.language.proofs.Grow.{Later, Free, free-after, later-cell, fits-later, scope-later}
use Rattle.language.proofs.Invariant.{
  FrameFits,
  r-zero,
  r-operator,
  r-operand,
  r-let,
  r-choose,
  r-left,
  r-right,
  k-none,
  k-more,
  c-turn,
  TargetFits,
  g-closing,
  g-defining,
  ModuleScopesFit,
  RestIn,
  StackIn,
  program_in,
  Good,
}
use Rattle.language.proofs.Begins.{begin-good}
use Rattle.language.proofs.Results.{reply_type, by-item, fetch-fine, compute-fine}
use Rattle.language.proofs.Moves.{figures_in_range, first-is-not-blank, scopes-later, stack_set, scope-within, stock-back}
use Rattle.language.proofs.Handing.{hand-removed, tried-removed, bound-state}

module _ (w : Setting) (one-expression : OneExpression w) (p : Pantry) (suits : Suits w.stock p) (goal : Goal) where
  branching-good : {n : Interfaces} {a b : ExpandedType} {e : Environment} {g : Context} (s : Store) (r : Registers) (d : ℕ) (l : Part)
      (sc : Scope) → Seen w n l e → ScopeHeld w n s.cells sc g → Typed w.tree e g l a → StackIn w n s d a b → RestIn w goal n s r b →
      Good w goal s (perform (program_in w goal p) s r (branches d l sc))
  branching-good {n} {a} {b} s r d l sc se sh ty k o = record {
    n = n;
    a = a;
    b = b;
    control-fits = c-turn se sh ty;
    stack-fits = stack_set d blank_frame (omega arith) k;
    rest = record { target_fits = o.target_fits; scopes-fit = o.scopes-fit; free = o.free };
  }

  replacing-good : {n : Interfaces} {a b c : ExpandedType} {e : Environment} {g : Context} (s : Store) (r : Registers) (d : ℕ) (j : Part)
      (sc : Scope) (l : Part) (v : Value) → frame_at s.frames d ≡ await_first j sc → Seen w n l e → ScopeHeld w n s.cells sc g →
      Typed w.tree e g l a → FrameFits w n s.cells (await_second j sc v) a b → StackIn w n s d b c → RestIn w goal n s r c →
      Good w goal s (perform (program_in w goal p) s r (replaces d (await_second j sc v) l sc))
  replacing-good {n} {a} {b} {c} s r d j sc l v q se sh ty fr sk o =
      let room : d < length s.frames = figures_in_range s.frames d (await_first j sc) q (first-is-not-blank j sc) in
      record {
        n = n;
        a = a;
        b = c;
        control-fits = c-turn se sh ty;
        stack-fits = k-more (get_or-set_same s.frames d (await_second j sc v) blank_frame room) fr
            (stack_set d (await_second j sc v) (omega arith) sk);
        rest = record { target_fits = o.target_fits; scopes-fit = o.scopes-fit; free = o.free };
      }

  -- the parameter is bound
  binding-good : {n : Interfaces} {a b c : ExpandedType} {e : Environment} {g : Context} (s : Store) (r : Registers) (d : ℕ) (k : Part)
      (sc : Scope) (x : Name) (v : Value) → Seen w n k e → ScopeHeld w n s.cells sc g → Typed w.tree e (bind x a ∷ g) k b →
      Held w n s.cells v a → StackIn w n s d b c → RestIn w goal n s r c → Good w goal s (perform (program_in w goal p) s r (binds (removed d) (value_cell x v sc) k))
  binding-good s r d k sc x v se sh ty f sk o = go (cell_free s r) refl
    where
      go : (b : Bool) → cell_free s r ≡ b →
          Good w goal s (cond b (next (with_cell (without (removed d) s) r.cell_count (value_cell x v sc))
          (onward r (evaluate k (suc r.cell_count)) (suc r.cell_count) d)) (stop no_cell))
      go true q = bound-state w p goal s (set s.frames d blank_frame) r d (value_cell x v sc) k (ltb→lt _ _ (rw q tt))
          (λ later at. h-value at (scope-within r.cell_count o.free sh) (fits-later later f) (scope-later later sh))
          se ty (stack_set d blank_frame (omega arith) sk) o
      go false q = tt

  first_good : {n : Interfaces} {a b c : ExpandedType} (s : Store) (r : Registers) (d : ℕ) (j : Part) (sc : Scope) (v : Value) →
      frame_at s.frames d ≡ await_first j sc → StackIn w n s d b c → RestIn w goal n s r c → FrameFits w n s.cells (await_first j sc) a b →
      Held w n s.cells v a → Good w goal s (performing (program_in w goal p) s r (on_first d j sc v (node_at w.tree j)))
  first_good s r d j sc v at sk o (r-zero q) (v-integer {z = z}) = rw q (hand-removed w p goal s r d (boolean (is_zeroℤ z)) v-boolean sk o)
  first_good s r d j sc v at sk o (r-operator {l = l} q se sh u) f = rw q (replacing-good s r d j sc l v at se sh u (r-operand q f) sk o)
  first_good s r d j sc v at sk o (r-let {l = l} {x = x} q se sh u) f = rw q (binding-good s r d l sc x v se sh u f sk o)
  first_good s r d j sc v at sk o (r-choose {l = l} {m = m} q se se' sh u x) (v-boolean {b = true}) =
      rw q (branching-good s r d l sc se sh u sk o)
  first_good s r d j sc v at sk o (r-choose {l = l} {m = m} q se se' sh u x) (v-boolean {b = false}) =
      rw q (branching-good s r d m sc se' sh x sk o)
  first_good s r d j sc v at sk o (r-left {l = l} q se sh u) f = rw q (replacing-good s r d j sc l v at se sh u (r-right q f) sk o)

  asking-good : {n : Interfaces} {c : ExpandedType} (s : Store) (r : Registers) (d : ℕ) (i : EntryNumber) (e : Entry) (v : Value) →
      get_elem? p i ≡ some e → StackIn w n s d (reply_type e.kind) c → RestIn w goal n s r c → Held w n s.cells v int →
      Good w goal s (performing (program_in w goal p) s r (asking (program_in w goal p) d i v))
  asking-good {n} s r d i e v at sk o (v-integer {z = z}) =
      rw at (tried-removed w p goal s r d (replied i z (fetch p i z)) (fetch-fine w p suits n s.cells i z e at) sk o)

  second-good : {n : Interfaces} {a b c : ExpandedType} (s : Store) (r : Registers) (d : ℕ) (j : Part) (sc : Scope) (u v : Value) →
      StackIn w n s d b c → RestIn w goal n s r c → FrameFits w n s.cells (await_second j sc u) a b → Held w n s.cells v a →
      Good w goal s (performing (program_in w goal p) s r (on_second (program_in w goal p) d u v (node_at w.tree j)))
  second-good s r d j sc u v sk o (r-operand q (v-proc {k = k} {s = s'} {x = x} e se sh ty)) f =
      rw (q, e) (binding-good s r d k s' x v (seen-part one-expression se e one) sh ty f sk o)
  second-good s r d j sc u v sk o (r-operand q (v-rec {c = c} {k = k} y z {x = x} at h e se ta ha tb hb ty sh)) f =
      rw (q, e) (binding-good s r d k (suc c) x v (seen-part one-expression se e one)
      (h-letrec y z at h e se ta ha tb hb ty sh) ty f sk o)
  second-good s r d j sc u v sk o (r-operand {a = a} {b = b} q (v-stock {i = i} {x = x} {k = k} at h)) f =
      let (from, to) = by-item k a b h in
      let (e, here, same) = stock-back p i x k (rw (sym suits.same_stock) at at) in
      rw q (asking-good s r d i e v here (rw (sym to, sym same) at sk) o (rw from at f))
  second-good {n} s r d j sc u v sk o (r-right {o = m} q (v-integer {z = y})) (v-integer {z = z}) =
      rw q (tried-removed w p goal s r d (compute m y z) (compute-fine w n s.cells m y z) sk o)

  -- ── no frame is left ──

  ending-good : {n : Interfaces} {a : ExpandedType} (s : Store) (r : Registers) (v : Value) (tg : Target) → Held w n s.cells v a →
      ModuleScopesFit w n s.cells n r.module_scopes → Free s.cells r.cell_count →
      TargetFits w goal s.cells n tg a r.pending → Good w goal s (performing (program_in w goal p) s r (ending v tg))
  ending-good s r v tg f hm fr g-closing = held_fits f
  ending-good {n} s r v tg f hm fr (g-defining {x = x} {s = sc} sh k) = go (cell_free s r) refl
    where
      go : (b : Bool) → cell_free s r ≡ b → Good w goal s (cond b (next (with_cell s r.cell_count (value_cell x v sc))
          (begin goal.close (suc r.cell_count) r.module_scopes (suc r.cell_count) r.pending)) (stop no_cell))
      go true q =
          let room : r.cell_count < length s.cells = ltb→lt _ _ (rw q tt) in
          let l : Later n n s.cells (set s.cells r.cell_count (value_cell x v sc)) =
          later-cell n s.cells r.cell_count (value_cell x v sc) fr in
          begin-good w goal (with_cell s r.cell_count (value_cell x v sc)) (suc r.cell_count) r.module_scopes (suc r.cell_count)
          (free-after s.cells r.cell_count (value_cell x v sc) fr)
          (h-value (get_or-set_same s.cells r.cell_count (value_cell x v sc) blank_cell room) (scope-within r.cell_count fr sh)
          (fits-later l f) (scope-later l sh))
          (scopes-later l hm) k
      go false q = tt

  frame-good : {n : Interfaces} {a b c : ExpandedType} (s : Store) (r : Registers) (d : ℕ) (v : Value) (fr : Frame) →
      frame_at s.frames d ≡ fr → StackIn w n s d b c → RestIn w goal n s r c → FrameFits w n s.cells fr a b → Held w n s.cells v a →
      Good w goal s (performing (program_in w goal p) s r (on_frame (program_in w goal p) d v fr))
  frame-good s r d v blank_frame q sk o k f = elim k [ ]
  frame-good s r d v (await_first j sc) q sk o k f = first_good s r d j sc v q sk o k f
  frame-good s r d v (await_second j sc u) q sk o k f = second-good s r d j sc u v sk o k f

  pub return-good : {n : Interfaces} {a b : ExpandedType} (s : Store) (r : Registers) (v : Value) (d : ℕ) → Held w n s.cells v a →
      StackIn w n s d a b → RestIn w goal n s r b → Good w goal s (performing (program_in w goal p) s r (on_return (program_in w goal p) s r v d))
  return-good s r v d f k-none o = ending-good s r v r.target f o.scopes-fit o.free o.target_fits
  return-good s r v d f (k-more {d = d'} {r = fr} e ff k) o = rw e (frame-good s r d' v fr e k o ff f)
