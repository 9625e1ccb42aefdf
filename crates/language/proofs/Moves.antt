-- The invariant's parts at a later moment, and what is found in them.
use Rattle.std.proofs.Common.{◌≡◌, ℕ, zero, suc, ◌+◌, ◌<◌, ◌≤◌, Bool, true, false, cond, List, [], ◌∷◌, ◌++◌, length, set, sym, refl, ap, ◌∙◌, arith, get_or-set_other}
use mathlib.Core.Option.{Option, some}
use native.Mathlib.Decide.{dec_le}
use lib.ListN.{get_elem?, get_or-eq_default}
use Rattle.words.specs.Names.{Name, same_name}
use Rattle.language.specs.Names.{Binding, bind, lookup}
use Rattle.language.specs.Tree.{Task}
use Rattle.language.specs.Typing.{ExpandedType, Context, Interface, kind_type, stock_types, Interfaces}
use Rattle.language.specs.Pantry.{Kind, EntryNumber, Entry, Pantry, name_and_kind, stock_of}
use Rattle.language.specs.Machine.{Value, Cell, blank_cell, value_cell, letrec_cell, cell_at, Frame, blank_frame, Target, await_first, frame_at}
use Rattle.language.specs.Rules.{Numbered, numbered, numbered_from}
use Rattle.language.specs.Scopes.{Scope}
use Rattle.language.specs.Fits.{Setting}
use Rattle.language.proofs.Held.{ScopeHeld, h-empty, h-value, h-letrec, Covers, Goal}
use Rattle.language.proofs.Grow.{Later, Free, seen-later, fits-later, scope-later}
use Rattle.language.proofs.Invariant.{
  FrameFits,
  r-zero,
  r-operator,
  r-operand,
  r-let,
  r-choose,
  r-left,
  r-right,
  Stack,
  k-none,
  k-more,
  TargetFits,
  g-closing,
  g-defining,
  ModuleScopesFit,
  h-none,
  h-more,
}

module _ {w : Setting} {n n' : Interfaces} {cs cs' : List Cell} (l : Later n n' cs cs') where
  pub frame-later : {f : Frame} {a b : ExpandedType} → FrameFits w n cs f a b → FrameFits w n' cs' f a b
  frame-later (r-zero q) = r-zero q
  frame-later (r-operator q s g t) = r-operator q (seen-later l s) (scope-later l g) t
  frame-later (r-operand q f) = r-operand q (fits-later l f)
  frame-later (r-let q s g t) = r-let q (seen-later l s) (scope-later l g) t
  frame-later (r-choose q s s' g t u) = r-choose q (seen-later l s) (seen-later l s') (scope-later l g) t u
  frame-later (r-left q s g t) = r-left q (seen-later l s) (scope-later l g) t
  frame-later (r-right q f) = r-right q (fits-later l f)

  pub stack-later : {fs : List Frame} {d : ℕ} {a b : ExpandedType} → Stack w n cs fs d a b → Stack w n' cs' fs d a b
  stack-later k-none = k-none
  stack-later (k-more q f s) = k-more q (frame-later f) (stack-later s)

  pub scopes-later : {i : Interfaces} {h : List (Binding Scope)} → ModuleScopesFit w n cs i h → ModuleScopesFit w n' cs' i h
  scopes-later h-none = h-none
  scopes-later (h-more g c r) = h-more (scope-later l g) c (scopes-later r)

-- frames below d stay when place d is written
pub stack_set : {w : Setting} {n : Interfaces} {cs : List Cell} {fs : List Frame} {k : ℕ} {a b : ExpandedType} (d : ℕ) (f : Frame) →
    k ≤ d → Stack w n cs fs k a b → Stack w n cs (set fs d f) k a b
stack_set d f h k-none = k-none
stack_set {fs = fs} d f h (k-more {d = k} q r s) =
    k-more (get_or-set_other fs d k f blank_frame (omega arith) ∙ q) r (stack_set d f (omega arith) s)

pub target-later : {w : Setting} {goal : Goal} {n : Interfaces} {cs cs' : List Cell} {t : Target}
    {b : ExpandedType} {ts : List Task} → Later n n cs cs' → TargetFits w goal cs n t b ts → TargetFits w goal cs' n t b ts
target-later l g-closing = g-closing
target-later l (g-defining g k) = g-defining (scope-later l g) k

-- a place that is not blank is in use
in_use : (cs : List Cell) (u i : ℕ) (c : Cell) → Free cs u → cell_at cs i ≡ c → ¬ (c ≡ blank_cell) → i < u
in_use cs u i c h e ne = elim (dec_le u i) [ yes k ↦ absurd (ne (sym e ∙ h.1 i k)) | no k ↦ omega arith ]

pub cell-in-range : (cs : List Cell) (i : ℕ) (c : Cell) → cell_at cs i ≡ c → ¬ (c ≡ blank_cell) → i < length cs
cell-in-range cs i c q h =
    elim (dec_le (length cs) i) [ yes k ↦ absurd (h (sym q ∙ get_or-eq_default cs blank_cell k)) | no k ↦ omega arith ]

pub value-is-not-blank : (x : Name) (v : Value) (o : ℕ) → ¬ (value_cell x v o ≡ blank_cell)
value-is-not-blank x v o q = let z : ◌≡◌ {A = ℕ} 0 1 = cc in omega arith

pub letrec-is-not-blank : (f : Name) (j o : ℕ) → ¬ (letrec_cell f j o ≡ blank_cell)
letrec-is-not-blank f j o q = let z : ◌≡◌ {A = ℕ} 0 1 = cc in omega arith

-- so is it within the table
pub scope-short : {w : Setting} {n : Interfaces} {cs : List Cell} {s : Scope} {g : Context} → ScopeHeld w n cs s g → s ≤ length cs
scope-short h-empty = omega arith
scope-short {cs = cs} (h-value {i = i} {o = o} {x = x} {v = v} q k f g) =
    cell-in-range cs i (value_cell x v o) q (value-is-not-blank x v o)
scope-short {cs = cs} (h-letrec {c = i} {o = o} {j = j} y z {f = f} q k t s ta ha tb hb b g) =
    cell-in-range cs i (letrec_cell f j o) q (letrec-is-not-blank f j o)

-- a scope begins at a cell in use
pub scope-within : {w : Setting} {n : Interfaces} {cs : List Cell} {s : Scope} {g : Context} (u : ℕ) → Free cs u →
    ScopeHeld w n cs s g → s ≤ u
scope-within u h h-empty = omega arith
scope-within {cs = cs} u h (h-value {i = i} {o = o} {x = x} {v = v} q k f g) =
    in_use cs u i (value_cell x v o) h q (value-is-not-blank x v o)
scope-within {cs = cs} u h (h-letrec {c = i} {o = o} {j = j} y z {f = f} q k t s ta ha tb hb b g) =
    in_use cs u i (letrec_cell f j o) h q (letrec-is-not-blank f j o)

abbrev Home : Setting → Interfaces → List Cell → Option Scope → Interface → Type 0
Home w n cs o i = (s : Scope) × (g : Context) × (o ≡ some s) × ScopeHeld w n cs s g × Covers g i.values

scope-cases : {w : Setting} {n : Interfaces} {cs : List Cell} {s : Scope} {g : Context} (t : Bool) (i i' : Interface)
    (l : Option Interface) (h : Option Scope) → ScopeHeld w n cs s g → Covers g i'.values → (l ≡ some i → Home w n cs h i) →
    cond t (some i') l ≡ some i → Home w n cs (cond t (some s) h) i
scope-cases {s = s} {g = g} true i i' l h sc c rest e = let q : i' ≡ i = cc in (s, g, refl, sc, rw q at c)
scope-cases false i i' l h sc c rest e = rest e

pub scopes-find : {w : Setting} {n : Interfaces} {cs : List Cell} {l : Interfaces} {h : List (Binding Scope)} (m : Name) (i : Interface) →
    ModuleScopesFit w n cs l h → lookup l m ≡ some i →
    Home w n cs (lookup h m) i
scopes-find m i h-none e = let z : ◌≡◌ {A = ℕ} 0 1 = cc in absurd (omega arith)
scopes-find m i (h-more {m = m'} {i = i'} {s = s} {g = g} {l = l} {h = h} sc c r) e =
    scope-cases (same_name m' m) i i' (lookup l m) (lookup h m) sc c (scopes-find m i r) e

pub scopes-snoc : {w : Setting} {n : Interfaces} {cs : List Cell} {l : Interfaces} {h : List (Binding Scope)} {s : Scope} {g : Context}
    (m : Name) (i : Interface) → ModuleScopesFit w n cs l h → ScopeHeld w n cs s g → Covers g i.values →
    ModuleScopesFit w n cs (l ++ (bind m i ∷ [])) (h ++ (bind m s ∷ []))
scopes-snoc m i h-none sc c = h-more sc c h-none
scopes-snoc m i (h-more sc' c' r) sc c = h-more sc' c' (scopes-snoc m i r sc c)

-- a name that the pantry's types have is an entry's, where the entries are numbered from i0
abbrev Entered : EntryNumber → Pantry → Option Numbered → ExpandedType → Type 0
Entered i0 p o a = (i : EntryNumber) × (e : Entry) × (o ≡ some (numbered (i0 + i) e.kind)) × (get_elem? p i ≡ some e) ×
    (kind_type e.kind ≡ a)

entry-cases : (t : Bool) (i0 : EntryNumber) (e : Entry) (p : Pantry) (a : ExpandedType) (l : Option ExpandedType) (o : Option Numbered) →
    (l ≡ some a → Entered (suc i0) p o a) → cond t (some (kind_type e.kind)) l ≡ some a →
    Entered i0 (e ∷ p) (cond t (some (numbered i0 e.kind)) o) a
entry-cases true i0 e p a l o rest h = let q : i0 ≡ i0 + 0 = omega arith in
    (zero, e, ap (λ (i : ℕ). some (numbered i e.kind)) q, refl, cc)
entry-cases false i0 e p a l o rest h =
    let (i, n, q, at, k) = rest h in
    let z : suc i0 + i ≡ i0 + suc i = omega arith in
    (suc i, n, q ∙ ap (λ (i : ℕ). some (numbered i n.kind)) z, at, k)

pub stock-find : (i0 : EntryNumber) (p : Pantry) (x : Name) (a : ExpandedType) → lookup (stock_types (stock_of p)) x ≡ some a →
    Entered i0 p (lookup (numbered_from i0 p) x) a
stock-find i0 [] x a h = let z : ◌≡◌ {A = ℕ} 0 1 = cc in absurd (omega arith)
stock-find i0 (e ∷ p) x a h =
    entry-cases (same_name e.name x) i0 e p a (lookup (stock_types (stock_of p)) x) (lookup (numbered_from (suc i0) p) x)
    (stock-find (suc i0) p x a) h

-- an entry and its name and kind
pub stock-at : (p : Pantry) (i : EntryNumber) (e : Entry) → get_elem? p i ≡ some e → get_elem? (stock_of p) i ≡ some (name_and_kind e)
stock-at [] i e h = let z : ◌≡◌ {A = ℕ} 0 1 = cc in absurd (omega arith)
stock-at (d ∷ p) zero e h = let q : d ≡ e = cc in rw q refl
stock-at (d ∷ p) (suc i) e h = stock-at p i e h

pub stock-back : (p : Pantry) (i : EntryNumber) (x : Name) (k : Kind) → get_elem? (stock_of p) i ≡ some (bind x k) →
    (e : Entry) × (get_elem? p i ≡ some e) × (e.kind ≡ k)
stock-back [] i x k h = let z : ◌≡◌ {A = ℕ} 0 1 = cc in absurd (omega arith)
stock-back (d ∷ p) zero x k h = (d, refl, cc)
stock-back (d ∷ p) (suc i) x k h = stock-back p i x k h

-- a frame in the table is within it
pub figures_in_range : (fs : List Frame) (d : ℕ) (f : Frame) → frame_at fs d ≡ f → ¬ (f ≡ blank_frame) → d < length fs
figures_in_range fs d f q h = elim (dec_le (length fs) d)
    [ yes k ↦ absurd (h (sym q ∙ get_or-eq_default fs blank_frame k)) | no k ↦ omega arith ]

pub first-is-not-blank : (j s : ℕ) → ¬ (await_first j s ≡ blank_frame)
first-is-not-blank j s q = let z : ◌≡◌ {A = ℕ} 0 1 = cc in omega arith
