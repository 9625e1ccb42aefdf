-- A step that evaluates a part keeps the invariant, or stops for a reason other than that no rule fits.
use Rattle.std.proofs.Common.{◌≡◌, ℕ, suc, ◌≤◌, Bool, true, false, cond, length, set, pos, sym, refl, ap, ◌∙◌, arith, ltb→lt}
use mathlib.Core.Option.{Option, none, some}
use lib.ListN.{get_elem?}
use Rattle.words.specs.Names.{Name, same_name}
use Rattle.language.specs.Names.{pantry_name, bind, lookup}
use Rattle.language.specs.Tree.{Part, node_at}
use Rattle.language.specs.Typing.{ExpandedType, Context, Interface, Environment, taken, value_declared, kind_type, stock_types, Interfaces}
use Rattle.language.specs.Pantry.{Kind, figure_kind, flag_kind, figure_by_item, flag_by_item, EntryNumber, Entry, Pantry, fetch, stock_of}
use Rattle.language.specs.Scopes.{Scope, table_limit, nearest_in}
use Rattle.language.specs.Machine.{
  Value,
  pantry_procedure,
  Cell,
  letrec_cell,
  cell_at,
  Store,
  evaluate,
  Registers,
  no_cell,
  next,
  stop,
  nearest,
  replied,
  kept,
  with_cell,
  cell_free,
  onward,
  binds,
  perform,
}
use Rattle.language.specs.Rules.{numbered, entry_for}
use Rattle.language.specs.Step.{handing_value, from_entry, from_module, on_node, performing}
use Rattle.language.specs.Job.{Suits}
use Rattle.language.specs.Fits.{Setting}
use Rattle.language.proofs.Rows.{
  Typed,
  n-number,
  n-boolean,
  n-variable,
  n-qualified,
  n-zero,
  n-apply,
  n-proc,
  n-let,
  n-conditional,
  n-letrec,
  n-binary,
}
use Rattle.language.proofs.Held.{
  one,
  two,
  three,
  Seen,
  OneExpression,
  seen-part,
  Held,
  v-integer,
  v-boolean,
  v-proc,
  v-stock,
  ScopeHeld,
  h-letrec,
  Goal,
}
use Rattle.language.proofs.Grow.{Later, seen-later, scope-later, chain_fits}
use Rattle.language.proofs.Invariant.{r-zero, r-operator, r-let, r-choose, r-left, RestIn, StackIn, program_in, Good}
use Rattle.language.proofs.Results.{fetch-fine}
use Rattle.language.proofs.Moves.{scope-within, scope-short, scopes-find, stock-find, stock-at}
use Rattle.language.proofs.Handing.{hand-kept, tried-kept, entering-good, bound-state}

module _ (w : Setting) (one-expression : OneExpression w) (p : Pantry) (suits : Suits w.stock p) (goal : Goal) where
  stocked : (i : EntryNumber) (e : Entry) → get_elem? p i ≡ some e → get_elem? w.stock i ≡ some (bind e.name e.kind)
  stocked i e at = rw suits.same_stock at (stock-at p i e at)

  entry-good : {n : Interfaces} {b : ExpandedType} (s : Store) (r : Registers) (i : EntryNumber) (e : Entry) (k : Kind) → e.kind ≡ k →
      get_elem? p i ≡ some e → StackIn w n s r.frame_count (kind_type k) b → RestIn w goal n s r b →
      Good w goal s (performing (program_in w goal p) s r (from_entry (some (numbered i k))))
  entry-good {n} s r i e figure_kind q at sk o =
      tried-kept w p goal s r (replied i (pos 0) (fetch p i (pos 0))) (rw q at (fetch-fine w p suits n s.cells i (pos 0) e at)) sk o
  entry-good {n} s r i e flag_kind q at sk o =
      tried-kept w p goal s r (replied i (pos 0) (fetch p i (pos 0))) (rw q at (fetch-fine w p suits n s.cells i (pos 0) e at)) sk o
  entry-good {n} s r i e figure_by_item q at sk o = hand-kept w p goal s r (pantry_procedure i) (v-stock (stocked i e at) (ap kind_type q)) sk o
  entry-good {n} s r i e flag_by_item q at sk o = hand-kept w p goal s r (pantry_procedure i) (v-stock (stocked i e at) (ap kind_type q)) sk o

  value-good : {n : Interfaces} {a b : ExpandedType} (s : Store) (r : Registers) (v : Value) (m : Option Value) → m ≡ some v →
      Held w n s.cells v a → StackIn w n s r.frame_count a b → RestIn w goal n s r b → Good w goal s (performing (program_in w goal p) s r (handing_value m))
  value-good s r v m q f k o = rw q (hand-kept w p goal s r v f k o)

  nearest-fits : {n : Interfaces} {g : Context} (s : Store) (r : Registers) (sc : Scope) {c : ExpandedType} (x : Name)
      (a : ExpandedType) → RestIn w goal n s r c → ScopeHeld w n s.cells sc g → lookup g x ≡ some a → (v : Value) ×
      (nearest s.cells sc x ≡ some v) × Held w n s.cells v a
  unfolding nearest_in
  nearest-fits s r sc x a o sh h =
      let short : sc ≤ length s.cells = scope-short sh in
      let few : length s.cells ≤ table_limit = o.free.0 in
      chain_fits table_limit x a (omega arith) sh h

  taking-good : {n : Interfaces} {b : ExpandedType} (s : Store) (r : Registers) (j : Part) (m x : Name) (e : Environment)
      (a : ExpandedType) → Seen w n j e → taken e m x ≡ some a → StackIn w n s r.frame_count a b → RestIn w goal n s r b →
      Good w goal s (performing (program_in w goal p) s r (cond (same_name pantry_name m) (from_entry (entry_for p x))
      (handing_value (from_module s (lookup r.module_scopes m) x))))
  taking-good {n} {b} s r j m x e a se h sk o = go (same_name pantry_name m) h
    where
      of_module : (i : Option Interface) → lookup e.modules m ≡ i → value_declared i x ≡ some a →
          Good w goal s (performing (program_in w goal p) s r (handing_value (from_module s (lookup r.module_scopes m) x)))
      of_module none q k = let z : ◌≡◌ {A = ℕ} 0 1 = cc in absurd (omega arith)
      of_module (some i) q k =
          let (sc, g, at, sh, cov) = scopes-find m i o.scopes-fit (se.earlier m i q) in
          let (v, found_it, f) = nearest-fits s r sc x a o sh (cov x a k) in
          value-good s r v (from_module s (lookup r.module_scopes m) x) (rw at found_it) f sk o

      of-stock : lookup e.stock x ≡ some a → Good w goal s (performing (program_in w goal p) s r (from_entry (entry_for p x)))
      of-stock k =
          let same : e.stock ≡ stock_types (stock_of p) = se.stock-is ∙ ap stock_types (sym suits.same_stock) in
          let (i, d, q, at, ty) = stock-find 0 p x a (rw same at k) in
          let here : entry_for p x ≡ some (numbered i d.kind) = q ∙ ap (λ (k : ℕ). some (numbered k d.kind)) (omega arith) in
          rw here (entry-good s r i d d.kind refl at (rw (sym ty) at sk) o)

      go : (f : Bool) → cond f (lookup e.stock x) (value_declared (lookup e.modules m) x) ≡ some a →
          Good w goal s (performing (program_in w goal p) s r (cond f (from_entry (entry_for p x)) (handing_value (from_module s (lookup r.module_scopes m) x))))
      go true k = of-stock k
      go false k = of_module (lookup e.modules m) refl k

  letrec-good : {n : Interfaces} {b c : ExpandedType} {e : Environment} {g : Context} (s : Store) (r : Registers) (l : Cell) (k : Part) →
      (Later n n s.cells (set s.cells r.cell_count l) → cell_at (set s.cells r.cell_count l) r.cell_count ≡ l →
      ScopeHeld w n (set s.cells r.cell_count l) (suc r.cell_count) g) → Seen w n k e → Typed w.tree e g k b →
      StackIn w n s r.frame_count b c → RestIn w goal n s r c → Good w goal s (perform (program_in w goal p) s r (binds kept l k))
  letrec-good s r l k sc se ty sk o = go (cell_free s r) refl
    where
      go : (f : Bool) → cell_free s r ≡ f →
          Good w goal s (cond f (next (with_cell s r.cell_count l)
          (onward r (evaluate k (suc r.cell_count)) (suc r.cell_count) r.frame_count)) (stop no_cell))
      go true q = bound-state w p goal s s.frames r r.frame_count l k (ltb→lt _ _ (rw q tt)) sc se ty sk o
      go false q = tt

  pub evaluate-good : {n : Interfaces} {e : Environment} {g : Context} (s : Store) (r : Registers) (j : Part) (sc : Scope)
      {a b : ExpandedType} → Seen w n j e → ScopeHeld w n s.cells sc g → StackIn w n s r.frame_count a b → RestIn w goal n s r b →
      Typed w.tree e g j a → Good w goal s (performing (program_in w goal p) s r (on_node (program_in w goal p) s r j sc (node_at w.tree j)))
  evaluate-good s r j sc se sh sk o (n-number q) = rw q (hand-kept w p goal s r _ v-integer sk o)
  evaluate-good s r j sc se sh sk o (n-boolean q) = rw q (hand-kept w p goal s r _ v-boolean sk o)
  evaluate-good s r j sc se sh sk o (n-variable {x = x} {a = a} q h) =
      let (v, at, f) = nearest-fits s r sc x a o sh h in
      rw q (value-good s r v (nearest s.cells sc x) at f sk o)
  evaluate-good {e = e} s r j sc se sh sk o (n-qualified {m = m} {x = x} {a = a} q h) = rw q (taking-good s r j m x e a se h sk o)
  evaluate-good s r j sc se sh sk o (n-zero q u) =
      rw q (entering-good w p goal s r j sc _ (seen-part one-expression se q one) sh u (r-zero q) sk o)
  evaluate-good s r j sc se sh sk o (n-apply q u v) =
      rw q (entering-good w p goal s r j sc _ (seen-part one-expression se q one) sh u
      (r-operator q (seen-part one-expression se q two) sh v) sk o)
  evaluate-good s r j sc se sh sk o (n-proc y q ty h u) = rw q (hand-kept w p goal s r _ (v-proc q se sh u) sk o)
  evaluate-good s r j sc se sh sk o (n-let q u v) =
      rw q (entering-good w p goal s r j sc _ (seen-part one-expression se q one) sh u (r-let q (seen-part one-expression se q two) sh v) sk o)
  evaluate-good s r j sc se sh sk o (n-conditional q u v x) =
      rw q (entering-good w p goal s r j sc _ (seen-part one-expression se q one) sh u
      (r-choose q (seen-part one-expression se q two) (seen-part one-expression se q three) sh v x) sk o)
  evaluate-good s r j sc se sh sk o (n-letrec {l = l} y z {f = f} q ta ha tb hb u v) =
      rw q (letrec-good s r (letrec_cell f j sc) l
      (λ later at. h-letrec y z at (scope-within r.cell_count o.free sh) q (seen-later later se) ta ha tb hb u
      (scope-later later sh))
      (seen-part one-expression se q two) v sk o)
  evaluate-good s r j sc se sh sk o (n-binary q u v) =
      rw q (entering-good w p goal s r j sc _ (seen-part one-expression se q one) sh u (r-left q (seen-part one-expression se q two) sh v) sk o)
