-- Typing by the numbers of parts: the same rules, read off the tree. It is what the proofs about the machine keep.
use Rattle.std.proofs.Common.{◌≡◌, Bool, List, ◌∷◌, ℤ}
use mathlib.Core.Option.{some}
use Rattle.words.specs.Names.{Name}
use Rattle.language.specs.Names.{bind, lookup}
use Rattle.language.specs.Syntax.{
  WrittenType,
  Operator,
  Exp,
  number,
  boolean,
  variable,
  qualified,
  is_zero,
  apply,
  proc,
  let_in,
  conditional,
  letrec,
  binary,
}
use Rattle.language.specs.Tree.{
  Part,
  Node,
  node_at,
  number_node,
  boolean_node,
  variable_node,
  qualified_node,
  is_zero_node,
  apply_node,
  proc_node,
  let_node,
  conditional_node,
  letrec_node,
  binary_node,
  TypeStands,
  Stands,
}
use Rattle.language.specs.Typing.{
  ExpandedType,
  int,
  bool,
  ◌⇒◌,
  Context,
  Environment,
  taken,
  expand,
  result_of,
  HasType,
  t_number,
  t_boolean,
  t_variable,
  t_qualified,
  t_zero,
  t_apply,
  t_proc,
  t_let,
  t_conditional,
  t_letrec,
  t_binary,
}

-- `Typed tree e g j a`: part j of the tree has the type a where e and the names g are seen
pub data Typed (tree : List Node) (e : Environment) : Context → Part → ExpandedType → Type 0 where
  n-number : {g : Context} {j : Part} {z : ℤ} → node_at tree j ≡ number_node z → Typed tree e g j int
  n-boolean : {g : Context} {j : Part} {b : Bool} → node_at tree j ≡ boolean_node b → Typed tree e g j bool
  n-variable : {g : Context} {j : Part} {x : Name} {a : ExpandedType} → node_at tree j ≡ variable_node x → lookup g x ≡ some a →
      Typed tree e g j a
  n-qualified : {g : Context} {j : Part} {m x : Name} {a : ExpandedType} → node_at tree j ≡ qualified_node m x → taken e m x ≡ some a →
      Typed tree e g j a
  n-zero : {g : Context} {j k : Part} → node_at tree j ≡ is_zero_node k → Typed tree e g k int → Typed tree e g j bool
  n-apply : {g : Context} {j k l : Part} {a b : ExpandedType} → node_at tree j ≡ apply_node k l → Typed tree e g k (a ⇒ b) →
      Typed tree e g l a → Typed tree e g j b
  n-proc : {g : Context} {j i k : Part} {x : Name} (t : WrittenType) {a b : ExpandedType} → node_at tree j ≡ proc_node x i k →
      TypeStands tree i t → expand e t ≡ some a → Typed tree e (bind x a ∷ g) k b → Typed tree e g j (a ⇒ b)
  n-let : {g : Context} {j k l : Part} {x : Name} {a b : ExpandedType} → node_at tree j ≡ let_node x k l → Typed tree e g k a →
      Typed tree e (bind x a ∷ g) l b → Typed tree e g j b
  n-conditional : {g : Context} {j k l n : Part} {a : ExpandedType} → node_at tree j ≡ conditional_node k l n → Typed tree e g k bool →
      Typed tree e g l a → Typed tree e g n a → Typed tree e g j a
  n-letrec : {g : Context} {j h i k l : Part} (u t : WrittenType) {f x : Name} {a b c : ExpandedType} →
      node_at tree j ≡ letrec_node h f x i k l → TypeStands tree i t → expand e t ≡ some a → TypeStands tree h u → expand e u ≡ some b →
      Typed tree e (bind x a ∷ (bind f (a ⇒ b) ∷ g)) k b → Typed tree e (bind f (a ⇒ b) ∷ g) l c → Typed tree e g j c
  n-binary : {g : Context} {j k l : Part} {o : Operator} → node_at tree j ≡ binary_node o k l → Typed tree e g k int →
      Typed tree e g l int → Typed tree e g j (result_of o)

-- the two agree
pub typed-rows : {tree : List Node} {e : Environment} {g : Context} {x : Exp} {a : ExpandedType} (j : Part) → Stands tree j x →
    HasType e g x a → Typed tree e g j a
typed-rows j s t_number = n-number s
typed-rows j s t_boolean = n-boolean s
typed-rows j s (t_variable h) = n-variable s h
typed-rows j s (t_qualified h) = n-qualified s h
typed-rows j s (t_zero t) = let (k, q, p) = s in n-zero q (typed-rows k p t)
typed-rows j s (t_apply t u) = let (k, l, q, p, r) = s in n-apply q (typed-rows k p t) (typed-rows l r u)
typed-rows j s (t_proc {t = y} h t) = let (i, k, q, ty, p) = s in n-proc y q ty h (typed-rows k p t)
typed-rows j s (t_let t u) = let (k, l, q, p, r) = s in n-let q (typed-rows k p t) (typed-rows l r u)
typed-rows j s (t_conditional t u v) = let (k, l, n, q, p, r, o) = s in
    n-conditional q (typed-rows k p t) (typed-rows l r u) (typed-rows n o v)
typed-rows j s (t_letrec {u = y} {t = z} ha hb t u) = let (h, i, k, l, q, tb, ta, p, r) = s in
    n-letrec y z q ta ha tb hb (typed-rows k p t) (typed-rows l r u)
typed-rows j s (t_binary t u) = let (k, l, q, p, r) = s in n-binary q (typed-rows k p t) (typed-rows l r u)

pub rows-typed : {tree : List Node} {e : Environment} {g : Context} {j : Part} {a : ExpandedType} → Typed tree e g j a → (x : Exp) ×
    Stands tree j x × HasType e g x a
rows-typed (n-number {z = z} q) = (number z, q, t_number)
rows-typed (n-boolean {b = b} q) = (boolean b, q, t_boolean)
rows-typed (n-variable {x = x} q h) = (variable x, q, t_variable h)
rows-typed (n-qualified {m = m} {x = x} q h) = (qualified m x, q, t_qualified h)
rows-typed (n-zero {k = k} q t) = let (x, p, h) = rows-typed t in (is_zero x, (k, q, p), t_zero h)
rows-typed (n-apply {k = k} {l = l} q t u) = let (x, p, h) = rows-typed t in let (y, r, i) = rows-typed u in
    (apply x y, (k, l, q, p, r), t_apply h i)
rows-typed (n-proc {i = i} {k = k} {x = z} t q ty ha b) = let (x, p, h) = rows-typed b in (proc z t x, (i, k, q, ty, p), t_proc ha h)
rows-typed (n-let {k = k} {l = l} {x = z} q t u) = let (x, p, h) = rows-typed t in let (y, r, i) = rows-typed u in
    (let_in z x y, (k, l, q, p, r), t_let h i)
rows-typed (n-conditional {k = k} {l = l} {n = n} q t u v) =
    let (x, p, h) = rows-typed t in let (y, r, i) = rows-typed u in let (z, s, o) = rows-typed v in
    (conditional x y z, (k, l, n, q, p, r, s), t_conditional h i o)
rows-typed (n-letrec {h = m} {i = n} {k = k} {l = l} u t {f = f} {x = z} q ta ha tb hb b c) =
    let (x, p, h) = rows-typed b in let (y, r, i) = rows-typed c in
    (letrec u f z t x y, (m, n, k, l, q, tb, ta, p, r), t_letrec ha hb h i)
rows-typed (n-binary {k = k} {l = l} {o = o} q t u) = let (x, p, h) = rows-typed t in let (y, r, i) = rows-typed u in
    (binary o x y, (k, l, q, p, r), t_binary h i)
