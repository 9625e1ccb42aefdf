-- What each action does to the tables and registers. Which action a step takes is for `Rules` and `Step` to say.
use Rattle.std.specs.Prelude.{◌≡◌, ℕ, zero, suc, ◌*◌, ◌/◌, ◌<◌, ◌≤◌, Bool, true, false, cond, not, List, [], ◌∷◌, ◌++◌, length, ℤ, pos, negsuc, ◌+ℤ◌, ◌-ℤ◌, ◌*ℤ◌, neg_ℤ, nat_lt, slice_set, unsigned_abs}
use Rattle.std.proofs.Math.Option.{Option, none, some}
use Rattle.words.specs.Names.{Name}
use Rattle.language.specs.Names.{Binding, bind}
use Rattle.language.specs.Scopes.{Scope}
use Rattle.language.specs.Syntax.{Operator, plus, minus, times, over, less}
use Rattle.language.specs.Tree.{Part, Task, define, end_module}
use Rattle.language.specs.Pantry.{EntryNumber, Reply, figure_reply, flag_reply, Pantry, in_range, fetch}
pub use Rattle.language.specs.State.{
  Value,
  integer,
  boolean,
  closure,
  pantry_procedure,
  Cell,
  blank_cell,
  value_cell,
  letrec_cell,
  Frame,
  blank_frame,
  await_first,
  await_second,
  Store,
  cell_at,
  frame_at,
  store_of,
  Control,
  evaluate,
  return,
  Target,
  defining,
  closing,
  Registers,
  Program,
  program_of,
  Reason,
  no_cell,
  no_frame,
  too_large,
  divide_by_zero,
  no_rule,
  no_answer,
  stop_number,
  Outcome,
  next,
  done,
  stop,
  held,
  held_at,
  nearest,
  LinksEnough,
}

-- ── what an operation or a fetch gives ──

-- what is to be returned: a value, the result of an operation, or what a fetch gives
pub data Result : Type 0 where
  plain : Value → Result
  operation : Operator → ℤ → ℤ → Result
  fetched : EntryNumber → ℤ → Result

-- what that comes to: a value, or a reason to stop
pub data Tried : Type 0 where
  gives : Value → Tried
  fails : Reason → Tried

-- the quotient, its fraction dropped
abbrev pub quotient : ℤ → ℤ → ℤ
quotient (pos a) (pos b) = pos (a / b)
quotient (pos a) (negsuc b) = neg_ℤ (pos (a / suc b))
quotient (negsuc a) (pos b) = neg_ℤ (pos (suc a / b))
quotient (negsuc a) (negsuc b) = pos (suc a / suc b)

-- is it 0?
abbrev pub is_zeroℤ : ℤ → Bool
is_zeroℤ (pos zero) = true
is_zeroℤ (pos (suc n)) = false
is_zeroℤ (negsuc n) = false

-- is it below 0?
abbrev pub is_negative : ℤ → Bool
is_negative (pos n) = false
is_negative (negsuc n) = true

-- The law of `/`: q has the size of the exact quotient without its fraction, and is not negative where a and b have one sign, nor
-- positive where they have not.
pub record TowardZero (a b q : ℤ) : Type 0 where
  pub not_over : unsigned_abs q * unsigned_abs b ≤ unsigned_abs a
  pub not_under : unsigned_abs a < suc (unsigned_abs q) * unsigned_abs b
  pub one_sign : is_negative a ≡ is_negative b → is_negative q ≡ false
  pub two_signs : is_negative a ≡ not (is_negative b) → is_negative (neg_ℤ q) ≡ false

-- and so it is of every two figures, the second not 0
abbrev pub DivisionLaw : Type 0
DivisionLaw = (a b : ℤ) → is_zeroℤ b ≡ false → TowardZero a b (quotient a b)

-- a figure of a size that is allowed, or too large
abbrev pub sized : ℤ → Tried
sized z = cond (in_range z) (gives (integer z)) (fails too_large)

-- what an operation comes to
abbrev pub compute : Operator → ℤ → ℤ → Tried
compute plus a b = sized (a +ℤ b)
compute minus a b = sized (a -ℤ b)
compute times a b = sized (a *ℤ b)
compute over a b = cond (is_zeroℤ b) (fails divide_by_zero) (sized (quotient a b))
compute less a b = gives (boolean (is_negative (a -ℤ b)))

-- what a reply of the pantry comes to
abbrev pub replied : EntryNumber → ℤ → Option Reply → Tried
replied i z none = fails (no_answer i z)
replied i z (some (figure_reply y)) = gives (integer y)
replied i z (some (flag_reply b)) = gives (boolean b)

-- what a result comes to
abbrev pub try : Pantry → Result → Tried
try p (plain v) = gives v
try p (operation o a b) = compute o a b
try p (fetched i z) = replied i z (fetch p i z)

-- ── actions ──

-- what becomes of the frames: all are kept, or the one at a place is removed
pub data Frames : Type 0 where
  kept : Frames
  removed : ℕ → Frames

-- What a step does: return a result; bind the next cell and evaluate a part in the scope that begins there; evaluate a branch; put a
-- frame down, or overwrite the one at a place, and evaluate a part; bind a definition's value; or end the job.
pub data Action : Type 0 where
  hands : Frames → Result → Action
  binds : Frames → Cell → Part → Action
  branches : ℕ → Part → Scope → Action
  puts_down : Frame → Part → Scope → Action
  replaces : ℕ → Frame → Part → Scope → Action
  defines : Name → Value → Scope → Action
  ends : Value → Action

-- the store with that done to its frames
abbrev pub without : Frames → Store → Store
without kept s = s
without (removed d) s = record { cells = s.cells; frames = slice_set s.frames d blank_frame }

-- how many frames are in use then
abbrev pub count_without : Frames → ℕ → ℕ
count_without kept n = n
count_without (removed d) n = d

-- the store with a cell written
abbrev pub with_cell : Store → ℕ → Cell → Store
with_cell s i c = record { cells = slice_set s.cells i c; frames = s.frames }

-- the store with a frame written
abbrev pub with_frame : Store → ℕ → Frame → Store
with_frame s d f = record { cells = s.cells; frames = slice_set s.frames d f }

-- is a cell still free?
abbrev pub cell_free : Store → Registers → Bool
cell_free s r = nat_lt r.cell_count (length s.cells)

-- is a frame still free?
abbrev pub frame_free : Store → Registers → Bool
frame_free s r = nat_lt r.frame_count (length s.frames)

-- the registers with another control and other counts
abbrev pub onward : Registers → Control → ℕ → ℕ → Registers
onward r c cells frames = record {
  control = c;
  target = r.target;
  pending = r.pending;
  module_scopes = r.module_scopes;
  cell_count = cells;
  frame_count = frames;
}

-- The registers at the next root: the next definition of a body whose scope so far is s, or the closing expression, in no scope. A body
-- that ends puts its scope behind those in h, and the next one begins in no scope.
abbrev pub begin : Part → ℕ → List (Binding Scope) → Scope → List Task → Registers
begin close cells h s [] = record {
  control = evaluate close 0;
  target = closing;
  pending = [];
  module_scopes = h;
  cell_count = cells;
  frame_count = 0;
}
begin close cells h s (define x j ∷ ts) = record {
  control = evaluate j s;
  target = defining x s;
  pending = ts;
  module_scopes = h;
  cell_count = cells;
  frame_count = 0;
}
begin close cells h s (end_module m ∷ ts) = begin close cells (h ++ (bind m s ∷ [])) 0 ts

-- a result is returned, or the job stops
abbrev pub handing : Store → Registers → Frames → Tried → Outcome
handing s r f (gives v) = next (without f s) (onward r (return v) r.cell_count (count_without f r.frame_count))
handing s r f (fails k) = stop k

-- What an action comes to. Only returning a result can meet 26 to 28, only binding a cell 24, only putting a frame down 25, so that no two
-- of these stops ever compete; 29 is none of them, since it is the want of an action.
abbrev pub perform : Program → Store → Registers → Action → Outcome
perform w s r (hands f x) = handing s r f (try w.pantry x)
perform w s r (binds f c k) = cond (cell_free s r)
    (next (with_cell (without f s) r.cell_count c)
    (onward r (evaluate k (suc r.cell_count)) (suc r.cell_count) (count_without f r.frame_count)))
    (stop no_cell)
perform w s r (branches d k sc) = next (without (removed d) s) (onward r (evaluate k sc) r.cell_count d)
perform w s r (puts_down f k sc) = cond (frame_free s r)
    (next (with_frame s r.frame_count f) (onward r (evaluate k sc) r.cell_count (suc r.frame_count)))
    (stop no_frame)
perform w s r (replaces d f k sc) = next (with_frame s d f) (onward r (evaluate k sc) r.cell_count (suc d))
perform w s r (defines x v sc) = cond (cell_free s r)
    (next (with_cell s r.cell_count (value_cell x v sc))
    (begin w.close (suc r.cell_count) r.module_scopes (suc r.cell_count) r.pending))
    (stop no_cell)
perform w s r (ends v) = done v
