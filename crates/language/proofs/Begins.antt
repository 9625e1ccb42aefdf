-- The registers at the next definition, or at the closing expression, meet the invariant.
use Rattle.std.proofs.Common.{ℕ, List, [], ◌∷◌, ◌++◌}
use Rattle.language.specs.Names.{Binding, bind}
use Rattle.language.specs.Tree.{Task}
use Rattle.language.specs.Typing.{Context, Interfaces}
use Rattle.language.specs.Scopes.{Scope}
use Rattle.language.specs.Machine.{Cell, Store, begin}
use Rattle.language.specs.Fits.{Setting}
use Rattle.language.proofs.Held.{ScopeHeld, h-empty, Goal, TasksTyped, k-close, k-define, k-finish}
use Rattle.language.proofs.Grow.{Later, Free, lookup-append, scope-later}
use Rattle.language.proofs.Invariant.{k-none, c-turn, g-closing, g-defining, ModuleScopesFit, WellTypedState}
use Rattle.language.proofs.Moves.{scopes-later, scopes-snoc}

module _ (w : Setting) (goal : Goal) where
  later-ended : (n k : Interfaces) (cs : List Cell) → Later n (n ++ k) cs cs
  later-ended n k cs = record {
    value_stays = λ i o x v e. e;
    letrec-stays = λ i o j f e. e;
    ended-stays =
        λ m i e. lookup-append n k m i e;
  }

  -- by what is still to be done
  pub begin-good : (s : Store) (u : ℕ) {n : Interfaces} {g : Context} {ts : List Task} (h : List (Binding Scope)) (sc : Scope) →
      Free s.cells u → ScopeHeld w n s.cells sc g → ModuleScopesFit w n s.cells n h → TasksTyped w goal n g ts →
      WellTypedState w goal s (begin goal.close u h sc ts)
  begin-good s u h sc f sh hm (k-close se ty) =
      record {
        n = goal.all;
        a = goal.result;
        b = goal.result;
        control-fits = c-turn se h-empty ty;
        stack-fits = k-none;
        rest = record { target_fits = g-closing; scopes-fit = hm; free = f };
      }
  begin-good s u {n = n} h sc f sh hm (k-define {a = a} se ty k) =
      record {
        n = n;
        a = a;
        b = a;
        control-fits = c-turn se sh ty;
        stack-fits = k-none;
        rest = record { target_fits = g-defining sh k; scopes-fit = hm; free = f };
      }
  begin-good s u {n = n} h sc f sh hm (k-finish {m = m} i cov k) =
      let l : Later n (n ++ (bind m i ∷ [])) s.cells s.cells = later-ended n (bind m i ∷ []) s.cells in
      begin-good s u (h ++ (bind m sc ∷ [])) 0 f h-empty (scopes-snoc m i (scopes-later l hm) (scope-later l sh) cov) k
