-- What a step does to the tables keeps the invariant: a result is returned, a frame is put down, a cell is bound.
use Rattle.std.proofs.Common.{◌≡◌, ℕ, suc, ◌<◌, Bool, true, false, cond, List, length, set, refl, arith, ltb→lt, get_or-set_same}
use Rattle.language.specs.Tree.{Part}
use Rattle.language.specs.Typing.{ExpandedType, Context, Environment, Interfaces}
use Rattle.language.specs.Pantry.{Pantry}
use Rattle.language.specs.Scopes.{Scope}
use Rattle.language.specs.Machine.{
  Value,
  Cell,
  blank_cell,
  cell_at,
  Frame,
  blank_frame,
  await_first,
  Store,
  evaluate,
  Registers,
  no_frame,
  next,
  stop,
  Tried,
  gives,
  fails,
  kept,
  removed,
  with_frame,
  frame_free,
  onward,
  handing,
  puts_down,
  perform,
}
use Rattle.language.specs.Fits.{Setting}
use Rattle.language.proofs.Rows.{Typed}
use Rattle.language.proofs.Held.{Seen, Held, ScopeHeld, Goal}
use Rattle.language.proofs.Grow.{Later, free-after, later-cell}
use Rattle.language.proofs.Invariant.{FrameFits, Stack, k-more, c-turn, c-hand, RestIn, StackIn, program_in, WellTypedState, Good}
use Rattle.language.proofs.Results.{Fine}
use Rattle.language.proofs.Moves.{stack-later, scopes-later, stack_set, target-later}

module _ (w : Setting) (p : Pantry) (goal : Goal) where
  -- a value is returned, with all frames kept or one removed
  pub hand-kept : {n : Interfaces} {a b : ExpandedType} (s : Store) (r : Registers) (v : Value) → Held w n s.cells v a →
      StackIn w n s r.frame_count a b → RestIn w goal n s r b → Good w goal s (handing s r kept (gives v))
  hand-kept {n} {a} {b} s r v f k o = record {
    n = n;
    a = a;
    b = b;
    control-fits = c-hand f;
    stack-fits = k;
    rest = record { target_fits = o.target_fits; scopes-fit = o.scopes-fit; free = o.free };
  }

  pub hand-removed : {n : Interfaces} {a b : ExpandedType} (s : Store) (r : Registers) (d : ℕ) (v : Value) → Held w n s.cells v a →
      StackIn w n s d a b → RestIn w goal n s r b → Good w goal s (handing s r (removed d) (gives v))
  hand-removed {n} {a} {b} s r d v f k o = record {
    n = n;
    a = a;
    b = b;
    control-fits = c-hand f;
    stack-fits = stack_set d blank_frame (omega arith) k;
    rest = record { target_fits = o.target_fits; scopes-fit = o.scopes-fit; free = o.free };
  }

  pub tried-kept : {n : Interfaces} {a b : ExpandedType} (s : Store) (r : Registers) (x : Tried) → Fine w n s.cells a x →
      StackIn w n s r.frame_count a b → RestIn w goal n s r b → Good w goal s (handing s r kept x)
  tried-kept s r (gives v) f k o = hand-kept s r v f k o
  tried-kept s r (fails m) f k o = f

  pub tried-removed : {n : Interfaces} {a b : ExpandedType} (s : Store) (r : Registers) (d : ℕ) (x : Tried) → Fine w n s.cells a x →
      StackIn w n s d a b → RestIn w goal n s r b → Good w goal s (handing s r (removed d) x)
  tried-removed s r d (gives v) f k o = hand-removed s r d v f k o
  tried-removed s r d (fails m) f k o = f

  -- a form puts its frame down
  pub entering-good : {n : Interfaces} {a b c : ExpandedType} {e : Environment} {g : Context} (s : Store) (r : Registers) (j : Part)
      (sc : Scope) (k : Part) → Seen w n k e → ScopeHeld w n s.cells sc g → Typed w.tree e g k a →
      FrameFits w n s.cells (await_first j sc) a b → StackIn w n s r.frame_count b c → RestIn w goal n s r c →
      Good w goal s (perform (program_in w goal p) s r (puts_down (await_first j sc) k sc))
  entering-good {n} {a} {b} {c} s r j sc k se sh ty fr sk o = go (frame_free s r) refl
    where
      go : (f : Bool) → frame_free s r ≡ f →
          Good w goal s (cond f (next (with_frame s r.frame_count (await_first j sc))
          (onward r (evaluate k sc) r.cell_count (suc r.frame_count))) (stop no_frame))
      go true q =
          let room : r.frame_count < length s.frames = ltb→lt _ _ (rw q tt) in
          record {
            n = n;
            a = a;
            b = c;
            control-fits = c-turn se sh ty;
            stack-fits = k-more (get_or-set_same s.frames r.frame_count (await_first j sc) blank_frame room) fr
                (stack_set r.frame_count (await_first j sc) (omega arith) sk);
            rest = record { target_fits = o.target_fits; scopes-fit = o.scopes-fit; free = o.free };
          }
      go false q = tt

  -- a cell is bound, with the frames fs left, d of them in use
  pub bound-state : {n : Interfaces} {b c : ExpandedType} {e : Environment} {g : Context} (s : Store) (fs : List Frame) (r : Registers)
      (d : ℕ) (l : Cell) (k : Part) → r.cell_count < length s.cells →
      (Later n n s.cells (set s.cells r.cell_count l) → cell_at (set s.cells r.cell_count l) r.cell_count ≡ l →
      ScopeHeld w n (set s.cells r.cell_count l) (suc r.cell_count) g) → Seen w n k e → Typed w.tree e g k b →
      Stack w n s.cells fs d b c → RestIn w goal n s r c →
      WellTypedState w goal (record { cells = set s.cells r.cell_count l; frames = fs })
      (onward r (evaluate k (suc r.cell_count)) (suc r.cell_count) d)
  bound-state {n} {b} {c} s fs r d l k room sc se ty sk o =
      let later : Later n n s.cells (set s.cells r.cell_count l) = later-cell n s.cells r.cell_count l o.free in
      record {
        n = n;
        a = b;
        b = c;
        control-fits = c-turn se (sc later (get_or-set_same s.cells r.cell_count l blank_cell room)) ty;
        stack-fits = stack-later later sk;
        rest = record {
          target_fits = target-later later o.target_fits;
          scopes-fit = scopes-later later o.scopes-fit;
          free = free-after s.cells r.cell_count l o.free;
        };
      }
