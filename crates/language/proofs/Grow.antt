-- What fits goes on fitting when a cell is bound or a module ends.
use Rattle.std.proofs.Common.{◌≡◌, ℕ, zero, suc, ◌≤◌, Bool, true, false, cond, ◌≢◌, List, [], ◌∷◌, ◌++◌, length, set, refl, ◌∙◌, arith, length-set, get_or-set_other}
use mathlib.Core.Option.{Option, some}
use Rattle.words.specs.Names.{Name, same_name}
use Rattle.language.specs.Names.{Binding, bind, lookup}
use Rattle.language.specs.Typing.{ExpandedType, ◌⇒◌, Context, Interface, Environment, Interfaces}
use Rattle.language.specs.Tree.{Part}
use Rattle.language.specs.Fits.{Setting}
use Rattle.language.specs.Machine.{Value, closure, Cell, blank_cell, value_cell, letrec_cell, cell_at, held_at}
use Rattle.language.specs.Scopes.{Scope, chain, table_limit}
use Rattle.language.proofs.Held.{Seen, Held, v-integer, v-boolean, v-proc, v-rec, v-stock, ScopeHeld, h-empty, h-value, h-letrec}

-- a later moment: bindings and ended modules stay
pub record Later (n n' : Interfaces) (cs cs' : List Cell) : Type 0 where
  pub value_stays : (i : ℕ) (o : Scope) (x : Name) (v : Value) → cell_at cs i ≡ value_cell x v o → cell_at cs' i ≡ value_cell x v o
  pub letrec-stays : (i : ℕ) (o : Scope) (j : Part) (f : Name) → cell_at cs i ≡ letrec_cell f j o → cell_at cs' i ≡ letrec_cell f j o
  pub ended-stays : (m : Name) (i : Interface) → lookup n m ≡ some i → lookup n' m ≡ some i

pub seen-later : {w : Setting} {n n' : Interfaces} {cs cs' : List Cell} {j : Part} {e : Environment} → Later n n' cs cs' → Seen w n j e →
    Seen w n' j e
seen-later l s = record { at = s.at; earlier = λ m i h. l.ended-stays m i (s.earlier m i h); stock-is = s.stock-is }

mutual
  pub fits-later : {w : Setting} {n n' : Interfaces} {cs cs' : List Cell} {v : Value} {a : ExpandedType} →
      Later n n' cs cs' → Held w n cs v a → Held w n' cs' v a
  fits-later l v-integer = v-integer
  fits-later l v-boolean = v-boolean
  fits-later l (v-proc e s g b) = v-proc e (seen-later l s) (scope-later l g) b
  fits-later l (v-rec {c = i} {o = o} {j = j} u t {f = f} c h e s ta ha tb hb b g) =
      v-rec u t (l.letrec-stays i o j f c) h e (seen-later l s) ta ha tb hb b (scope-later l g)
  fits-later l (v-stock e k) = v-stock e k

  pub scope-later : {w : Setting} {n n' : Interfaces} {cs cs' : List Cell} {s : Scope} {g : Context} →
      Later n n' cs cs' → ScopeHeld w n cs s g → ScopeHeld w n' cs' s g
  scope-later l h-empty = h-empty
  scope-later l (h-value {i = i} {o = o} {x = x} {v = v} e h f g) =
      h-value (l.value_stays i o x v e) h (fits-later l f) (scope-later l g)
  scope-later l (h-letrec {c = i} {o = o} {j = j} u t {f = f} c h e s ta ha tb hb b g) =
      h-letrec u t (l.letrec-stays i o j f c) h e (seen-later l s) ta ha tb hb b (scope-later l g)

-- A cell is bound at place u, where all from u on are blank.
abbrev pub Free : List Cell → ℕ → Type 0
Free cs u = (length cs ≤ table_limit) × ((i : ℕ) → u ≤ i → cell_at cs i ≡ blank_cell)

pub free-after : (cs : List Cell) (u : ℕ) (c : Cell) → Free cs u → Free (set cs u c) (suc u)
free-after cs u c h = (rw (length-set cs u c) h.0, λ i k. get_or-set_other cs u i c blank_cell (omega arith) ∙ h.1 i (omega arith))

-- a place that is not blank is another than u
elsewhere-value : (cs : List Cell) (u i o : ℕ) (x : Name) (v : Value) → Free cs u → cell_at cs i ≡ value_cell x v o → i ≢ u
elsewhere-value cs u i o x v h e q =
    let k : cell_at cs i ≡ blank_cell = h.1 i (omega arith) in
    let z : ◌≡◌ {A = ℕ} 0 1 = cc in omega arith

elsewhere-letrec : (cs : List Cell) (u i o j : ℕ) (f : Name) → Free cs u → cell_at cs i ≡ letrec_cell f j o → i ≢ u
elsewhere-letrec cs u i o j f h e q =
    let k : cell_at cs i ≡ blank_cell = h.1 i (omega arith) in
    let z : ◌≡◌ {A = ℕ} 0 1 = cc in omega arith

pub later-cell : (n : Interfaces) (cs : List Cell) (u : ℕ) (c : Cell) → Free cs u → Later n n cs (set cs u c)
later-cell n cs u c h = record {
  value_stays = λ i o x v e. get_or-set_other cs u i c blank_cell (elsewhere-value cs u i o x v h e) ∙ e;
  letrec-stays = λ i o j f e. get_or-set_other cs u i c blank_cell (elsewhere-letrec cs u i o j f h e) ∙ e;
  ended-stays = λ m i e. e;
}

-- the bindings of a list stay before what is added behind
pub lookup-append : {A : Type 0} (xs ys : List (Binding A)) (m : Name) (a : A) → lookup xs m ≡ some a → lookup (xs ++ ys) m ≡ some a
lookup-append {A} [] ys m a h = cc
lookup-append {A} (bind x b ∷ xs) ys m a h = go (same_name x m) (lookup-append xs ys m a) h
  where
    go : (t : Bool) → (lookup xs m ≡ some a → lookup (xs ++ ys) m ≡ some a) → cond t (some b) (lookup xs m) ≡ some a →
        cond t (some b) (lookup (xs ++ ys) m) ≡ some a
    go true r k = k
    go false r k = r k

-- the search for a name gives a value of its type
module _ {w : Setting} {n : Interfaces} {cs : List Cell} where
  -- the name of the nearest binding is x, or it is not
  here-or-out : (t : Bool) (b a : ExpandedType) (g : Context) (v : Value) (x : Name) (out : Option Value) → Held w n cs v b →
      (lookup g x ≡ some a → (u : Value) × (out ≡ some u) × Held w n cs u a) → cond t (some b) (lookup g x) ≡ some a →
      (u : Value) × (cond t (some v) out ≡ some u) × Held w n cs u a
  here-or-out true b a g v x out f rest e = let q : b ≡ a = cc in (v, refl, rw q at f)
  here-or-out false b a g v x out f rest e = rest e

  pub chain_fits : {s : Scope} {g : Context} (bnd : ℕ) (x : Name) (a : ExpandedType) →
      s ≤ bnd → ScopeHeld w n cs s g → lookup g x ≡ some a → (v : Value) × (lookup (chain (held_at cs) bnd s) x ≡ some v) × Held w n cs v a
  chain_fits bnd x a h h-empty e = let z : ◌≡◌ {A = ℕ} 0 1 = cc in absurd (omega arith)
  chain_fits zero x a h (h-value c k f g) e = absurd (omega arith)
  chain_fits (suc bnd) x a h (h-value {i = i} {o = o} {x = y} {v = v} {a = b} {g = g} c k f sc) e =
      rw c (here-or-out (same_name y x) b a g v x (lookup (chain (held_at cs) bnd o) x) f (chain_fits bnd x a (omega arith) sc) e)
  chain_fits zero x a h (h-letrec y z c k t s ta ha tb hb b g) e = absurd (omega arith)
  chain_fits (suc bnd) x a h (h-letrec {c = i} {o = o} {j = j} y z {f = f} {a = a'} {b = b} {g = g} c k t s ta ha tb hb ty sc) e =
      rw c (here-or-out (same_name f x) (a' ⇒ b) a g (closure j (suc i)) x (lookup (chain (held_at cs) bnd o) x)
      (v-rec y z c k t s ta ha tb hb ty sc) (chain_fits bnd x a (omega arith) sc) e)
