-- What holds of every state of a job of a typed sheet.
use Rattle.std.proofs.Common.{◌≡◌, ℕ, zero, suc, List, [], ◌∷◌}
use Rattle.words.specs.Names.{Name}
use Rattle.language.specs.Names.{Binding, bind}
use Rattle.language.specs.Syntax.{Operator}
use Rattle.language.specs.Tree.{Part, node_at, Task, is_zero_node, apply_node, let_node, conditional_node, binary_node}
use Rattle.language.specs.Typing.{ExpandedType, int, bool, ◌⇒◌, Context, Interface, Environment, result_of, Interfaces}
use Rattle.language.specs.Pantry.{Pantry}
use Rattle.language.specs.Scopes.{Scope}
use Rattle.language.specs.Machine.{
  Program,
  Value,
  Cell,
  Frame,
  await_first,
  await_second,
  frame_at,
  Control,
  evaluate,
  return,
  Target,
  defining,
  closing,
  Reason,
  no_cell,
  no_frame,
  too_large,
  divide_by_zero,
  no_rule,
  no_answer,
  Store,
  Registers,
  Outcome,
  next,
  done,
  stop,
}
use Rattle.language.specs.Job.{Status, running, finished, stopped}
use Rattle.language.specs.Fits.{Setting, Fits}
use Rattle.language.proofs.Rows.{Typed}
use Rattle.language.proofs.Held.{Seen, Held, ScopeHeld, Covers, Goal, TasksTyped}
use Rattle.language.proofs.Grow.{Free}

-- a frame that wants a value of the first type and then gives one of the second
pub data FrameFits (w : Setting) (n : Interfaces) (cs : List Cell) : Frame → ExpandedType → ExpandedType → Type 0 where
  r-zero : {j k : Part} {s : Scope} → node_at w.tree j ≡ is_zero_node k → FrameFits w n cs (await_first j s) int bool
  r-operator : {j k l : Part} {s : Scope} {e : Environment} {g : Context} {a b : ExpandedType} → node_at w.tree j ≡ apply_node k l →
      Seen w n l e → ScopeHeld w n cs s g → Typed w.tree e g l a → FrameFits w n cs (await_first j s) (a ⇒ b) b
  r-operand : {j k l : Part} {s : Scope} {u : Value} {a b : ExpandedType} → node_at w.tree j ≡ apply_node k l → Held w n cs u (a ⇒ b) →
      FrameFits w n cs (await_second j s u) a b
  r-let : {j k l : Part} {s : Scope} {x : Name} {e : Environment} {g : Context} {a b : ExpandedType} →
      node_at w.tree j ≡ let_node x k l → Seen w n l e → ScopeHeld w n cs s g → Typed w.tree e (bind x a ∷ g) l b →
      FrameFits w n cs (await_first j s) a b
  r-choose : {j k l m : Part} {s : Scope} {e : Environment} {g : Context} {a : ExpandedType} →
      node_at w.tree j ≡ conditional_node k l m → Seen w n l e → Seen w n m e → ScopeHeld w n cs s g → Typed w.tree e g l a →
      Typed w.tree e g m a → FrameFits w n cs (await_first j s) bool a
  r-left : {j k l : Part} {s : Scope} {o : Operator} {e : Environment} {g : Context} → node_at w.tree j ≡ binary_node o k l →
      Seen w n l e → ScopeHeld w n cs s g → Typed w.tree e g l int → FrameFits w n cs (await_first j s) int (result_of o)
  r-right : {j k l : Part} {s : Scope} {o : Operator} {u : Value} → node_at w.tree j ≡ binary_node o k l → Held w n cs u int →
      FrameFits w n cs (await_second j s u) int (result_of o)

-- the frames below d: the topmost wants a value of the first type, and the lowest gives one of the second
pub data Stack (w : Setting) (n : Interfaces) (cs : List Cell) (fs : List Frame) : ℕ → ExpandedType → ExpandedType → Type 0 where
  k-none : {a : ExpandedType} → Stack w n cs fs zero a a
  k-more : {d : ℕ} {r : Frame} {a b c : ExpandedType} → frame_at fs d ≡ r → FrameFits w n cs r a b → Stack w n cs fs d b c →
      Stack w n cs fs (suc d) a c

pub data ControlFits (w : Setting) (n : Interfaces) (cs : List Cell) : Control → ExpandedType → Type 0 where
  c-turn : {j : Part} {s : Scope} {e : Environment} {g : Context} {a : ExpandedType} → Seen w n j e → ScopeHeld w n cs s g →
      Typed w.tree e g j a → ControlFits w n cs (evaluate j s) a
  c-hand : {v : Value} {a : ExpandedType} → Held w n cs v a → ControlFits w n cs (return v) a

-- the value under way may be of the type b
pub data TargetFits (w : Setting) (goal : Goal) (cs : List Cell) : Interfaces → Target → ExpandedType →
    List Task → Type 0 where
  g-closing : {ts : List Task} → TargetFits w goal cs goal.all closing goal.result ts
  g-defining : {n : Interfaces} {x : Name} {s : Scope} {g : Context} {b : ExpandedType} {ts : List Task} → ScopeHeld w n cs s g →
      TasksTyped w goal n (bind x b ∷ g) ts → TargetFits w goal cs n (defining x s) b ts

-- the scopes of the ended bodies have what the interfaces declare
pub data ModuleScopesFit (w : Setting) (n : Interfaces) (cs : List Cell) : Interfaces → List (Binding Scope) → Type 0 where
  h-none : ModuleScopesFit w n cs [] []
  h-more : {m : Name} {i : Interface} {s : Scope} {g : Context} {l : Interfaces} {h : List (Binding Scope)} → ScopeHeld w n cs s g →
      Covers g i.values → ModuleScopesFit w n cs l h → ModuleScopesFit w n cs (bind m i ∷ l) (bind m s ∷ h)

-- all but what the control and the frames hold
pub record Rest (w : Setting) (goal : Goal) (n : Interfaces) (cs : List Cell) (r : Registers)
    (b : ExpandedType) : Type 0 where
  pub target_fits : TargetFits w goal cs n r.target b r.pending
  pub scopes-fit : ModuleScopesFit w n cs n r.module_scopes
  pub free : Free cs r.cell_count

pub record WellTypedState (w : Setting) (goal : Goal) (s : Store) (r : Registers) : Type 0 where
  pub n : Interfaces
  pub a : ExpandedType
  pub b : ExpandedType
  pub control-fits : ControlFits w n s.cells r.control a
  pub stack-fits : Stack w n s.cells s.frames r.frame_count a b
  pub rest : Rest w goal n s.cells r b

abbrev pub Allowed : Reason → Type 0
Allowed no_rule = ⊥
Allowed no_cell = Unit {0}
Allowed no_frame = Unit {0}
Allowed too_large = Unit {0}
Allowed divide_by_zero = Unit {0}
Allowed (no_answer i z) = Unit {0}

-- what a step from the store s may come to
abbrev pub Good : Setting → Goal → Store → Outcome → Type 0
Good w goal s (next s' r) = WellTypedState w goal s' r
Good w goal s (done v) = Fits w s.cells v goal.result
Good w goal s (stop k) = Allowed k

-- what a job may have come to, with the store s
abbrev pub GoodStatus : Setting → Goal → Store → Status → Type 0
GoodStatus w goal s (running r) = WellTypedState w goal s r
GoodStatus w goal s (finished v) = Fits w s.cells v goal.result
GoodStatus w goal s (stopped k) = Allowed k

-- the frames in use, and the rest, of a store
abbrev pub StackIn : Setting → Interfaces → Store → ℕ → ExpandedType → ExpandedType → Type 0
StackIn w n s d a b = Stack w n s.cells s.frames d a b

abbrev pub RestIn : Setting → Goal → Interfaces → Store → Registers → ExpandedType → Type 0
RestIn w goal n s r b = Rest w goal n s.cells r b

-- what a job of the sheet reads
abbrev pub program_in : Setting → Goal → Pantry → Program
program_in w goal p = record { tree = w.tree; close = goal.close; pantry = p }
