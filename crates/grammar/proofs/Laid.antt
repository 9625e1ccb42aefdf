-- Nodes that were laid stand for what was laid.
use Rattle.std.proofs.Common.{◌≡◌, ℕ, zero, suc, ◌+◌, ◌-◌, ◌≤◌, max, List, [], ◌∷◌, ◌++◌, length, drop, set, replicate, Some, sym, refl, ap, ◌∙◌, subst, append_assoc, append-nil, arith, length-append}
use lib.ListN.{length-replicate}
use Rattle.std.specs.List.{slice_get}
use Rattle.grammar.specs.declared.tree.TypeNode.TheVariants as ty
use Rattle.grammar.specs.declared.tree.ExpNode.TheVariants as ex
use Rattle.grammar.specs.declared.tree.Item.TheVariants as item
use Rattle.grammar.specs.declared.tree.Node.{Node}
use Rattle.grammar.specs.declared.tree.Node.TheVariants as node
use Rattle.grammar.specs.Syntax.{Name, WrittenType, Exp, Declaration, Definition, Module, Sheet, inner_t, inner_e, inner_d, inner_f, inner_m}
use Rattle.grammar.specs.Syntax.{places, size}
use Rattle.grammar.specs.Syntax as is
use Rattle.grammar.specs.Grammar.{levels_t, levels_e, levels_d, levels_f, levels_m, levels_s, deepest}
use Rattle.grammar.specs.Table.{nodes_t, nodes_e, nodes_d, nodes_f, nodes_m, nodes_s, nodes_of, laid, span_of, name_in, type_in, type_at, exp_in}
use Rattle.grammar.specs.Table.{exp_at, declare, define, modules_of, sheet_at, Spelled, SpelledT, SpelledE, SpelledD, SpelledF, SpelledM}
use Rattle.grammar.specs.Table.{SpelledS, Every}
use Rattle.grammar.specs.Laws.{StandsFor}

-- the table ns holds nodes from the place u on
abbrev pub Stand : List Node → ℕ → List Node → Type 0
Stand ns u [] = Unit {0}
Stand ns u (r ∷ rs) = (slice_get ns u ≡ Some r) × Stand ns (u + 1) rs

pub stand-append : (ns : List Node) (u n : ℕ) (xs ys : List Node) → length xs ≡ n → Stand ns u (xs ++ ys) → Stand ns u xs
    × Stand ns (u + n) ys
stand-append ns u n [] ys e h = (tt, let i : u + n ≡ u = omega arith in rw i h)
stand-append ns u n (x ∷ xs) ys e h =
    let t = stand-append ns (u + 1) (length xs) xs ys refl h.1 in
    let i : u + n ≡ (u + 1) + length xs = omega arith in
    ((h.0, t.0), rw i t.1)

length_two : (xs ys : List Node) (x : Node) (m n : ℕ) → length xs ≡ m → length ys ≡ n → length (xs ++ (ys ++ (x ∷ []))) ≡ (m + n) + 1
length_two xs ys x m n a b = omega (arith, length-append xs (ys ++ (x ∷ [])), length-append ys (x ∷ []))

pub length-nodes_t : (u : ℕ) (t : WrittenType) → length (nodes_t u t) ≡ inner_t t + 1
length-nodes_t u (is.int_type at) = refl
length-nodes_t u (is.bool_type at) = refl
length-nodes_t u (is.named_type t) = refl
length-nodes_t u (is.qualified_type at m t) = refl
length-nodes_t u (is.arrow_type at a b) = length_two (nodes_t u a) (nodes_t (u + (inner_t a + 1)) b) _ (inner_t a + 1) (inner_t b + 1)
    (length-nodes_t u a) (length-nodes_t (u + (inner_t a + 1)) b)

pub length-nodes_e : (u : ℕ) (e : Exp) → length (nodes_e u e) ≡ inner_e e + 1
length-nodes_e u (is.number at v) = refl
length-nodes_e u (is.boolean at b) = refl
length-nodes_e u (is.variable x) = refl
length-nodes_e u (is.qualified at m x) = refl
length-nodes_e u (is.is_zero at a) = omega (
  arith,
  length-append (nodes_e u a) (node.Expression (ex.IsZero at (u + inner_e a)) ∷ []),
  length-nodes_e u a,
)
length-nodes_e u (is.apply at a b) = length_two (nodes_e u a) (nodes_e (u + (inner_e a + 1)) b) _ (inner_e a + 1) (inner_e b + 1)
    (length-nodes_e u a) (length-nodes_e (u + (inner_e a + 1)) b)
length-nodes_e u (is.proc at x t e) = length_two (nodes_t u t) (nodes_e (u + (inner_t t + 1)) e) _ (inner_t t + 1) (inner_e e + 1)
    (length-nodes_t u t) (length-nodes_e (u + (inner_t t + 1)) e)
length-nodes_e u (is.let_in at x a e) = length_two (nodes_e u a) (nodes_e (u + (inner_e a + 1)) e) _ (inner_e a + 1) (inner_e e + 1)
    (length-nodes_e u a) (length-nodes_e (u + (inner_e a + 1)) e)
length-nodes_e u (is.conditional at a b c) =
    let v = u + (inner_e a + 1) in
    let w = v + (inner_e b + 1) in
    let i = length_two (nodes_e v b) (nodes_e w c) (node.Expression (ex.If at (u + inner_e a) (v + inner_e b) (w + inner_e c))) (inner_e b + 1)
    (inner_e c + 1) (length-nodes_e v b) (length-nodes_e w c) in
    omega (
      arith,
      length-append (nodes_e u a) (nodes_e v b ++ (nodes_e w c ++ (node.Expression (ex.If at (u + inner_e a) (v + inner_e b)
          (w + inner_e c)) ∷ []))),
      i,
      length-nodes_e u a,
    )
length-nodes_e u (is.letrec at r f x t b e) =
    let v = u + (inner_t r + 1) in
    let w = v + (inner_t t + 1) in
    let z = w + (inner_e b + 1) in
    let y = node.Expression (ex.Letrec at (u + inner_t r) (span_of f) (span_of x) (v + inner_t t) (w + inner_e b) (z + inner_e e)) in
    let i = length_two (nodes_e w b) (nodes_e z e) y (inner_e b + 1) (inner_e e + 1) (length-nodes_e w b) (length-nodes_e z e) in
    omega (
      arith,
      length-append (nodes_t u r) (nodes_t v t ++ (nodes_e w b ++ (nodes_e z e ++ (y ∷ [])))),
      length-append (nodes_t v t)
          (nodes_e w b ++ (nodes_e z e ++ (y ∷ []))),
      i,
      length-nodes_t u r,
      length-nodes_t v t,
    )
length-nodes_e u (is.binary at o a b) = length_two (nodes_e u a) (nodes_e (u + (inner_e a + 1)) b) _ (inner_e a + 1) (inner_e b + 1)
    (length-nodes_e u a) (length-nodes_e (u + (inner_e a + 1)) b)

pub length-nodes_d : (u : ℕ) (d : Declaration) → length (nodes_d u d) ≡ inner_d d + 1
length-nodes_d u (is.opaque_type at t) = refl
length-nodes_d u (is.transparent_type at t a) = omega (
  arith,
  length-append (nodes_t u a)
      (node.Item (item.Transparent at (span_of t) (u + inner_t a)) ∷ []),
  length-nodes_t u a,
)
length-nodes_d u (is.value_of_type x a) = omega (
  arith,
  length-append (nodes_t u a)
      (node.Item (item.Declared (span_of x) (u + inner_t a)) ∷ []),
  length-nodes_t u a,
)

pub length-nodes_f : (u : ℕ) (d : Definition) → length (nodes_f u d) ≡ inner_f d + 1
length-nodes_f u (is.type_is at t a) = omega (
  arith,
  length-append (nodes_t u a)
      (node.Item (item.TypeIs at (span_of t) (u + inner_t a)) ∷ []),
  length-nodes_t u a,
)
length-nodes_f u (is.value_is x a) = omega (
  arith,
  length-append (nodes_e u a) (node.Item (item.ValueIs (span_of x) (u + inner_e a)) ∷ []),
  length-nodes_e u a,
)

pub length-nodes_of : {A : Type 0} (inner : A → ℕ) (nodes : ℕ → A → List Node) → ((u : ℕ) (a : A) → length (nodes u a) ≡ inner a + 1)
    → (u : ℕ) (r : List A) → length (nodes_of inner nodes u r) ≡ places inner r
length-nodes_of inner nodes f u [] = refl
length-nodes_of inner nodes f u (a ∷ r) = omega (
  arith,
  length-append (nodes u a) (nodes_of inner nodes (u + (inner a + 1)) r),
  f u a,
  length-nodes_of inner nodes f (u + (inner a + 1)) r,
)

-- each of some parts adds itself
abbrev All : {A : Type 0} → (A → List Module → List Module) → List A → List Module → List Module
All add [] ms = ms
All add (a ∷ r) ms = add a (All add r ms)

defines-all : (at : ℕ) (t : Name) (fs : List Definition) (ms : List Module)
    → All define fs (record { at = at; name = t; interface = []; body = [] } ∷ ms)
    ≡ record { at = at; name = t; interface = []; body = fs } ∷ ms
defines-all at t [] ms = refl
defines-all at t (f ∷ fs) ms = ap (define f) (defines-all at t fs ms)

declares-all : (at : ℕ) (t : Name) (ds : List Declaration) (fs : List Definition) (ms : List Module)
    → All declare ds (record { at = at; name = t; interface = []; body = fs } ∷ ms)
    ≡ record { at = at; name = t; interface = ds; body = fs } ∷ ms
declares-all at t [] fs ms = refl
declares-all at t (d ∷ ds) fs ms = ap (declare d) (declares-all at t ds fs ms)

pub length-nodes_m : (u : ℕ) (m : Module) → length (nodes_m u m) ≡ inner_m m + 1
length-nodes_m u m =
    length_two (nodes_of inner_d nodes_d u m.interface) (nodes_of inner_f nodes_f (u + places inner_d m.interface) m.body) _
    (places inner_d m.interface) (places inner_f m.body)
    (length-nodes_of inner_d nodes_d length-nodes_d u m.interface) (length-nodes_of inner_f nodes_f length-nodes_f
    (u + places inner_d m.interface) m.body)

adds-all : (l ms : List Module) → All (λ m ms. m ∷ ms) l ms ≡ l ++ ms
adds-all [] ms = refl
adds-all (m ∷ l) ms = ap (λ z. m ∷ z) (adds-all l ms)

-- nodes stand where they were put
nth-behind : (zs : List Node) (x : Node) (ys : List Node) → slice_get (zs ++ (x ∷ ys)) (length zs) ≡ Some x
nth-behind [] x ys = refl
nth-behind (z ∷ zs) x ys = nth-behind zs x ys

pub stand-put : (zs xs ys : List Node) → Stand (zs ++ (xs ++ ys)) (length zs) xs
stand-put zs [] ys = tt
stand-put zs (x ∷ xs) ys =
    let e : (zs ++ (x ∷ [])) ++ (xs ++ ys) ≡ zs ++ (x ∷ (xs ++ ys)) = append_assoc zs (x ∷ []) (xs ++ ys) in
    let i : length (zs ++ (x ∷ [])) ≡ length zs + 1 = omega (arith, length-append zs (x ∷ [])) in (
      nth-behind zs x (xs ++ ys),
      subst (λ z. Stand z (length zs + 1) xs) e (subst (λ n. Stand ((zs ++ (x ∷ [])) ++ (xs ++ ys)) n xs) i
          (stand-put (zs ++ (x ∷ [])) xs ys)),
    )

pub length-nodes_s : (s : Sheet) → length (nodes_s s) ≡ size s
length-nodes_s s =
    let n = places inner_m s.modules in
    omega (
      arith,
      length-append (nodes_of inner_m nodes_m 0 s.modules) (nodes_e n s.closing),
      length-nodes_of inner_m nodes_m length-nodes_m 0 s.modules,
      length-nodes_e n s.closing,
    )

module _ (text : List ℕ) where
  -- a name that is spelled in the text is found there again
  back : (x : Name) → Spelled text x → name_in text (span_of x) ≡ x
  back x h = λ i. record { place = x.place; bytes = h i }

  -- a node at its place, whose parts nest at most n levels
  type-root : (l n : ℕ) (ns : List Node) (i j : ℕ) (r : Node) (t : WrittenType) → n + 1 ≤ l → i ≡ j → slice_get ns j ≡ Some r
      → ((k : ℕ) → n ≤ k → type_in text (type_at k text ns) r ≡ Some t) → type_at l text ns i ≡ Some t
  unfolding type_at
  type-root zero n ns i j r t b e h g = absurd (omega arith)
  type-root (suc l) n ns i j r t b e h g = rw (e, h) (g l (omega arith))

  exp-root : (l n : ℕ) (ns : List Node) (i j : ℕ) (r : Node) (t : Exp) → n + 1 ≤ l → i ≡ j → slice_get ns j ≡ Some r
      → ((k : ℕ) → n ≤ k → exp_in text (type_at k text ns) (exp_at k text ns) r ≡ Some t) → exp_at l text ns i ≡ Some t
  unfolding exp_at
  exp-root zero n ns i j r t b e h g = absurd (omega arith)
  exp-root (suc l) n ns i j r t b e h g = rw (e, h) (g l (omega arith))

  pub type-laid : (t : WrittenType) (l u : ℕ) (ns : List Node) → levels_t t ≤ l → SpelledT text t → Stand ns u (nodes_t u t)
      → type_at l text ns (u + inner_t t) ≡ Some t
  type-laid (is.int_type at) l u ns b sp h = type-root l 0 ns (u + 0) u (node.«Type» (ty.Int at)) (is.int_type at) b (omega arith) h.0
      (λ k c. refl)
  type-laid (is.bool_type at) l u ns b sp h = type-root l 0 ns (u + 0) u (node.«Type» (ty.Bool at)) (is.bool_type at) b (omega arith)
      h.0 (λ k c. refl)
  type-laid (is.named_type t) l u ns b sp h = type-root l 0 ns (u + 0) u (node.«Type» (ty.Named (span_of t))) (is.named_type t) b
      (omega arith) h.0 (λ k c. ap (λ z. Some (is.named_type z)) (back t sp))
  type-laid (is.qualified_type at m t) l u ns b sp h = type-root l 0 ns (u + 0) u (node.«Type» (ty.From at (span_of m) (span_of t)))
      (is.qualified_type at m t) b (omega arith) h.0 (λ k c. rw (back m sp.0, back t sp.1))
  type-laid (is.arrow_type at a e) l u ns b sp h =
      let v = u + (inner_t a + 1) in
      let s = stand-append ns u (inner_t a + 1) (nodes_t u a) _ (length-nodes_t u a) h in
      let t = stand-append ns v (inner_t e + 1) (nodes_t v e) _ (length-nodes_t v e) s.1 in
      type-root l (max (levels_t a) (levels_t e)) ns (u + inner_t (is.arrow_type at a e)) (v + (inner_t e + 1))
      (node.«Type» (ty.Arrow at (u + inner_t a) (v + inner_t e))) (is.arrow_type at a e) b (omega arith) t.1.0
      (λ k c. rw (type-laid a k u ns (omega arith) sp.0 s.0, type-laid e k v ns (omega arith) sp.1 t.0))

  pub exp-laid : (e : Exp) (l u : ℕ) (ns : List Node) → levels_e e ≤ l → SpelledE text e → Stand ns u (nodes_e u e)
      → exp_at l text ns (u + inner_e e) ≡ Some e
  exp-laid (is.number at v) l u ns b sp h = exp-root l 0 ns (u + 0) u (node.Expression (ex.Number at v)) (is.number at v) b (omega arith)
      h.0 (λ k c. refl)
  exp-laid (is.boolean at v) l u ns b sp h = exp-root l 0 ns (u + 0) u (node.Expression (ex.Boolean at v)) (is.boolean at v) b
      (omega arith) h.0 (λ k c. refl)
  exp-laid (is.variable x) l u ns b sp h = exp-root l 0 ns (u + 0) u (node.Expression (ex.Variable (span_of x))) (is.variable x) b
      (omega arith) h.0 (λ k c. ap (λ z. Some (is.variable z)) (back x sp))
  exp-laid (is.qualified at m x) l u ns b sp h = exp-root l 0 ns (u + 0) u (node.Expression (ex.From at (span_of m) (span_of x)))
      (is.qualified at m x) b (omega arith) h.0 (λ k c. rw (back m sp.0, back x sp.1))
  exp-laid (is.is_zero at a) l u ns b sp h =
      let s = stand-append ns u (inner_e a + 1) (nodes_e u a) _ (length-nodes_e u a) h in
      exp-root l (levels_e a) ns (u + inner_e (is.is_zero at a)) (u + (inner_e a + 1)) (node.Expression (ex.IsZero at (u + inner_e a)))
      (is.is_zero at a) b (omega arith) s.1.0
      (λ k c. rw (exp-laid a k u ns (omega arith) (sp) s.0))
  exp-laid (is.apply at a e) l u ns b sp h =
      let v = u + (inner_e a + 1) in
      let s = stand-append ns u (inner_e a + 1) (nodes_e u a) _ (length-nodes_e u a) h in
      let t = stand-append ns v (inner_e e + 1) (nodes_e v e) _ (length-nodes_e v e) s.1 in
      exp-root l (max (levels_e a) (levels_e e)) ns (u + inner_e (is.apply at a e)) (v + (inner_e e + 1))
      (node.Expression (ex.Apply at (u + inner_e a) (v + inner_e e))) (is.apply at a e) b (omega arith) t.1.0
      (λ k c. rw (exp-laid a k u ns (omega arith) sp.0 s.0, exp-laid e k v ns (omega arith) sp.1 t.0))
  exp-laid (is.proc at x a e) l u ns b sp h =
      let v = u + (inner_t a + 1) in
      let s = stand-append ns u (inner_t a + 1) (nodes_t u a) _ (length-nodes_t u a) h in
      let t = stand-append ns v (inner_e e + 1) (nodes_e v e) _ (length-nodes_e v e) s.1 in
      exp-root l (max (levels_t a) (levels_e e)) ns (u + inner_e (is.proc at x a e)) (v + (inner_e e + 1))
      (node.Expression (ex.Proc at (span_of x) (u + inner_t a) (v + inner_e e))) (is.proc at x a e) b (omega arith) t.1.0
      (λ k c. rw (type-laid a k u ns (omega arith) sp.1 s.0, exp-laid e k v ns (omega arith) sp.2 t.0)
      (ap (λ z. Some (is.proc at z a e)) (back x sp.0)))
  exp-laid (is.let_in at x a e) l u ns b sp h =
      let v = u + (inner_e a + 1) in
      let s = stand-append ns u (inner_e a + 1) (nodes_e u a) _ (length-nodes_e u a) h in
      let t = stand-append ns v (inner_e e + 1) (nodes_e v e) _ (length-nodes_e v e) s.1 in
      exp-root l (max (levels_e a) (levels_e e)) ns (u + inner_e (is.let_in at x a e)) (v + (inner_e e + 1))
      (node.Expression (ex.Let at (span_of x) (u + inner_e a) (v + inner_e e))) (is.let_in at x a e) b (omega arith) t.1.0
      (λ k c. rw (exp-laid a k u ns (omega arith) sp.1 s.0, exp-laid e k v ns (omega arith) sp.2 t.0)
      (ap (λ z. Some (is.let_in at z a e)) (back x sp.0)))
  exp-laid (is.conditional at a d e) l u ns b sp h =
      let v = u + (inner_e a + 1) in
      let w = v + (inner_e d + 1) in
      let s = stand-append ns u (inner_e a + 1) (nodes_e u a) _ (length-nodes_e u a) h in
      let t = stand-append ns v (inner_e d + 1) (nodes_e v d) _ (length-nodes_e v d) s.1 in
      let r = stand-append ns w (inner_e e + 1) (nodes_e w e) _ (length-nodes_e w e) t.1 in
      exp-root l (max (levels_e a) (max (levels_e d) (levels_e e))) ns (u + inner_e (is.conditional at a d e)) (w + (inner_e e + 1))
      (node.Expression (ex.If at (u + inner_e a) (v + inner_e d) (w + inner_e e))) (is.conditional at a d e) b (omega arith) r.1.0
      (λ k c. rw (
        exp-laid a k u ns (omega arith) sp.0 s.0,
        exp-laid d k v ns (omega arith) sp.1 t.0,
        exp-laid e k w ns
            (omega arith) sp.2 r.0,
      ))
  exp-laid (is.letrec at a f x d g e) l u ns b sp h =
      let v = u + (inner_t a + 1) in
      let w = v + (inner_t d + 1) in
      let z = w + (inner_e g + 1) in
      let s = stand-append ns u (inner_t a + 1) (nodes_t u a) _ (length-nodes_t u a) h in
      let t = stand-append ns v (inner_t d + 1) (nodes_t v d) _ (length-nodes_t v d) s.1 in
      let r = stand-append ns w (inner_e g + 1) (nodes_e w g) _ (length-nodes_e w g) t.1 in
      let q = stand-append ns z (inner_e e + 1) (nodes_e z e) _ (length-nodes_e z e) r.1 in
      exp-root l (max (max (levels_t a) (levels_t d)) (max (levels_e g) (levels_e e))) ns (u + inner_e (is.letrec at a f x d g e))
      (z + (inner_e e + 1))
      (node.Expression (ex.Letrec at (u + inner_t a) (span_of f) (span_of x) (v + inner_t d) (w + inner_e g) (z + inner_e e)))
      (is.letrec at a f x d g e) b (omega arith) q.1.0
      (λ k c. rw (
        type-laid a k u ns (omega arith) sp.2 s.0,
        type-laid d k v ns (omega arith) sp.3 t.0,
        exp-laid g k w ns
            (omega arith) sp.4 r.0,
        exp-laid e k z ns (omega arith) sp.5 q.0,
      ) (rw (back f sp.0, back x sp.1)))
  exp-laid (is.binary at o a e) l u ns b sp h =
      let v = u + (inner_e a + 1) in
      let s = stand-append ns u (inner_e a + 1) (nodes_e u a) _ (length-nodes_e u a) h in
      let t = stand-append ns v (inner_e e + 1) (nodes_e v e) _ (length-nodes_e v e) s.1 in
      exp-root l (max (levels_e a) (levels_e e)) ns (u + inner_e (is.binary at o a e)) (v + (inner_e e + 1))
      (node.Expression (ex.Binary at o (u + inner_e a) (v + inner_e e))) (is.binary at o a e) b (omega arith) t.1.0
      (λ k c. rw (exp-laid a k u ns (omega arith) sp.0 s.0, exp-laid e k v ns (omega arith) sp.1 t.0))

  -- MODULES

  -- nodes that say nothing of the modules
  abbrev Silent : List Node → List Node → Type 0
  Silent ns xs = (r : List Node) → modules_of text ns (xs ++ r) ≡ modules_of text ns r

  silent-append : (ns xs ys : List Node) → Silent ns xs → Silent ns ys → Silent ns (xs ++ ys)
  silent-append ns xs ys f g r = ap (modules_of text ns) (append_assoc xs ys r) ∙ (f (ys ++ r) ∙ g r)

  silent-two : (ns xs ys : List Node) (x : Node) → Silent ns xs → Silent ns ys → Silent ns (x ∷ []) → Silent ns (xs ++ (ys ++ (x ∷ [])))
  silent-two ns xs ys x f g h = silent-append ns xs (ys ++ (x ∷ [])) f (silent-append ns ys (x ∷ []) g h)

  silent_t : (ns : List Node) (u : ℕ) (t : WrittenType) → Silent ns (nodes_t u t)
  silent_t ns u (is.int_type at) = λ r. refl
  silent_t ns u (is.bool_type at) = λ r. refl
  silent_t ns u (is.named_type t) = λ r. refl
  silent_t ns u (is.qualified_type at m t) = λ r. refl
  silent_t ns u (is.arrow_type at a b) = silent-two ns (nodes_t u a) (nodes_t (u + (inner_t a + 1)) b) _ (silent_t ns u a)
      (silent_t ns (u + (inner_t a + 1)) b) (λ r. refl)

  silent_e : (ns : List Node) (u : ℕ) (e : Exp) → Silent ns (nodes_e u e)
  silent_e ns u (is.number at v) = λ r. refl
  silent_e ns u (is.boolean at b) = λ r. refl
  silent_e ns u (is.variable x) = λ r. refl
  silent_e ns u (is.qualified at m x) = λ r. refl
  silent_e ns u (is.is_zero at a) = silent-append ns (nodes_e u a) (node.Expression (ex.IsZero at (u + inner_e a)) ∷ []) (silent_e ns u a)
      (λ r. refl)
  silent_e ns u (is.apply at a b) = silent-two ns (nodes_e u a) (nodes_e (u + (inner_e a + 1)) b)
      (node.Expression (ex.Apply at (u + inner_e a) (u + (inner_e a + 1) + inner_e b))) (silent_e ns u a) (silent_e ns (u + (inner_e a + 1)) b)
      (λ r. refl)
  silent_e ns u (is.proc at x t e) = silent-two ns (nodes_t u t) (nodes_e (u + (inner_t t + 1)) e)
      (node.Expression (ex.Proc at (span_of x) (u + inner_t t) (u + (inner_t t + 1) + inner_e e))) (silent_t ns u t)
      (silent_e ns (u + (inner_t t + 1)) e) (λ r. refl)
  silent_e ns u (is.let_in at x a e) = silent-two ns (nodes_e u a) (nodes_e (u + (inner_e a + 1)) e)
      (node.Expression (ex.Let at (span_of x) (u + inner_e a) (u + (inner_e a + 1) + inner_e e))) (silent_e ns u a)
      (silent_e ns (u + (inner_e a + 1)) e) (λ r. refl)
  silent_e ns u (is.conditional at a b c) =
      let v = u + (inner_e a + 1) in
      let w = v + (inner_e b + 1) in
      let y = node.Expression (ex.If at (u + inner_e a) (v + inner_e b) (w + inner_e c)) in
      silent-append ns (nodes_e u a) (nodes_e v b ++ (nodes_e w c ++ (y ∷ []))) (silent_e ns u a) (silent-two ns (nodes_e v b) (nodes_e w c) y
      (silent_e ns v b) (silent_e ns w c) (λ r. refl))
  silent_e ns u (is.letrec at s f x t b e) =
      let v = u + (inner_t s + 1) in
      let w = v + (inner_t t + 1) in
      let z = w + (inner_e b + 1) in
      let y = node.Expression (ex.Letrec at (u + inner_t s) (span_of f) (span_of x) (v + inner_t t) (w + inner_e b) (z + inner_e e)) in
      silent-append ns (nodes_t u s) (nodes_t v t ++ (nodes_e w b ++ (nodes_e z e ++ (y ∷ [])))) (silent_t ns u s)
      (silent-append ns (nodes_t v t) (nodes_e w b ++ (nodes_e z e ++ (y ∷ []))) (silent_t ns v t) (silent-two ns (nodes_e w b) (nodes_e z e) y
      (silent_e ns w b) (silent_e ns z e) (λ r. refl)))
  silent_e ns u (is.binary at o a b) = silent-two ns (nodes_e u a) (nodes_e (u + (inner_e a + 1)) b)
      (node.Expression (ex.Binary at o (u + inner_e a) (u + (inner_e a + 1) + inner_e b))) (silent_e ns u a)
      (silent_e ns (u + (inner_e a + 1)) b) (λ r. refl)

  -- a declaration's nodes, laid in ns, say that declaration
  declared : (ns : List Node) (u : ℕ) (d : Declaration) (r : List Node) → levels_d d ≤ 48 → SpelledD text d → Stand ns u (nodes_d u d)
      → modules_of text ns (nodes_d u d ++ r) ≡ declare d (modules_of text ns r)
  declared ns u (is.opaque_type at t) r b sp h = ap (λ z. declare (is.opaque_type at z) (modules_of text ns r)) (back t sp)
  declared ns u (is.transparent_type at t a) r b sp h =
      let s = stand-append ns u (inner_t a + 1) (nodes_t u a) _ (length-nodes_t u a) h in
      let x = node.Item (item.Transparent at (span_of t) (u + inner_t a)) in
      ap (modules_of text ns) (append_assoc (nodes_t u a) (x ∷ []) r) ∙ (silent_t ns u a (x ∷ r)
      ∙ rw (type-laid a 48 u ns b sp.1 s.0) (ap (λ z. declare (is.transparent_type at z a) (modules_of text ns r))
      (back t sp.0)))
  declared ns u (is.value_of_type y a) r b sp h =
      let s = stand-append ns u (inner_t a + 1) (nodes_t u a) _ (length-nodes_t u a) h in
      let x = node.Item (item.Declared (span_of y) (u + inner_t a)) in
      ap (modules_of text ns) (append_assoc (nodes_t u a) (x ∷ []) r) ∙ (silent_t ns u a (x ∷ r)
      ∙ rw (type-laid a 48 u ns b sp.1 s.0) (ap (λ z. declare (is.value_of_type z a) (modules_of text ns r)) (back y sp.0)))

  defined : (ns : List Node) (u : ℕ) (d : Definition) (r : List Node) → levels_f d ≤ 48 → SpelledF text d → Stand ns u (nodes_f u d)
      → modules_of text ns (nodes_f u d ++ r) ≡ define d (modules_of text ns r)
  defined ns u (is.type_is at t a) r b sp h =
      let s = stand-append ns u (inner_t a + 1) (nodes_t u a) _ (length-nodes_t u a) h in
      let x = node.Item (item.TypeIs at (span_of t) (u + inner_t a)) in
      ap (modules_of text ns) (append_assoc (nodes_t u a) (x ∷ []) r) ∙ (silent_t ns u a (x ∷ r)
      ∙ rw (type-laid a 48 u ns b sp.1 s.0) (ap (λ z. define (is.type_is at z a) (modules_of text ns r)) (back t sp.0)))
  defined ns u (is.value_is y a) r b sp h =
      let s = stand-append ns u (inner_e a + 1) (nodes_e u a) _ (length-nodes_e u a) h in
      let x = node.Item (item.ValueIs (span_of y) (u + inner_e a)) in
      ap (modules_of text ns) (append_assoc (nodes_e u a) (x ∷ []) r) ∙ (silent_e ns u a (x ∷ r)
      ∙ rw (exp-laid a 48 u ns b sp.1 s.0) (ap (λ z. define (is.value_is z a) (modules_of text ns r)) (back y sp.0)))

  all_laid : {A : Type 0} (inner level : A → ℕ) (nodes : ℕ → A → List Node) (add : A → List Module
      → List Module) (ns : List Node) (most : ℕ) (P : A → Type 0) → ((u : ℕ) (a : A) → length (nodes u a) ≡ inner a + 1)
      → ((u : ℕ) (a : A) (r : List Node) → level a ≤ most → P a → Stand ns u (nodes u a) → modules_of text ns (nodes u a ++ r)
      ≡ add a (modules_of text ns r))
      → (u : ℕ) (l : List A) (r : List Node) → deepest level l ≤ most → Every P l → Stand ns u (nodes_of inner nodes u l)
      → modules_of text ns (nodes_of inner nodes u l ++ r) ≡ All add l (modules_of text ns r)
  all_laid inner level nodes add ns most P len f u [] r b sp h = refl
  all_laid inner level nodes add ns most P len f u (a ∷ l) r b sp h =
      let v = u + (inner a + 1) in
      let s = stand-append ns u (inner a + 1) (nodes u a) (nodes_of inner nodes v l) (len u a) h in
      ap (modules_of text ns) (append_assoc (nodes u a) (nodes_of inner nodes v l) r)
      ∙ (f u a (nodes_of inner nodes v l ++ r) (omega arith) sp.0 s.0
      ∙ ap (add a) (all_laid inner level nodes add ns most P len f v l r (omega arith) sp.1 s.1))

  module-laid : (ns : List Node) (u : ℕ) (m : Module) (r : List Node) → levels_m m ≤ 48 → SpelledM text m → Stand ns u (nodes_m u m)
      → modules_of text ns (nodes_m u m ++ r) ≡ m ∷ modules_of text ns r
  module-laid ns u m r b sp h =
      let ds = m.interface in
      let fs = m.body in
      let v = u + places inner_d ds in
      let x = node.Item (item.Module m.at (span_of m.name)) in
      let xs = nodes_of inner_d nodes_d u ds in
      let ys = nodes_of inner_f nodes_f v fs in
      let s = stand-append ns u (places inner_d ds) xs (ys ++ (x ∷ [])) (length-nodes_of inner_d nodes_d length-nodes_d u ds) h in
      let t = stand-append ns v (places inner_f fs) ys (x ∷ []) (length-nodes_of inner_f nodes_f length-nodes_f v fs) s.1 in
      ap (modules_of text ns) (append_assoc xs (ys ++ (x ∷ [])) r ∙ ap (λ z. xs ++ z) (append_assoc ys (x ∷ []) r))
      ∙ (all_laid inner_d levels_d nodes_d declare ns 48 (SpelledD text) length-nodes_d (declared ns) u ds (ys ++ (x ∷ r)) (omega arith)
      sp.1 s.0
      ∙ (ap (All declare ds) (all_laid inner_f levels_f nodes_f define ns 48 (SpelledF text) length-nodes_f (defined ns) v fs (x ∷ r)
      (omega arith) sp.2 t.0)
      ∙ (ap (λ z. All declare ds (All define fs (record { at = m.at; name = z; interface = []; body = [] } ∷ modules_of text ns r)))
      (back m.name sp.0)
      ∙ (ap (All declare ds) (defines-all m.at m.name fs (modules_of text ns r))
      ∙ declares-all m.at m.name ds fs (modules_of text ns r)))))

  blanks-silent : (ns : List Node) (k : ℕ) → modules_of text ns (replicate k node.Blank) ≡ []
  blanks-silent ns zero = refl
  blanks-silent ns (suc k) = blanks-silent ns k

  -- the sheet that was laid, with blank places behind it
  pub sheet-laid : (s : Sheet) (k : ℕ) → levels_s s ≤ 48 → SpelledS text s
      → sheet_at text (nodes_s s ++ replicate k node.Blank) (places inner_m s.modules + inner_e s.closing) ≡ Some s
  unfolding sheet_at
  sheet-laid s k b sp =
      let ms = s.modules in
      let e = s.closing in
      let n = places inner_m ms in
      let xs = nodes_of inner_m nodes_m 0 ms in
      let bs = replicate k node.Blank in
      let ns = nodes_s s ++ bs in
      let st = stand-append ns 0 n xs (nodes_e n e) (length-nodes_of inner_m nodes_m length-nodes_m 0 ms) (stand-put [] (nodes_s s) bs) in
      let i : exp_at 48 text ns (n + inner_e e) ≡ Some e = exp-laid e 48 n ns (omega arith) sp.1 (subst (λ z. Stand ns z (nodes_e n e))
      (let z : 0 + n ≡ n = omega arith in z) st.1) in
      let j : modules_of text ns ns ≡ ms =
      ap (modules_of text ns) (append_assoc xs (nodes_e n e) bs)
      ∙ (all_laid inner_m levels_m nodes_m (λ m ms. m ∷ ms) ns 48 (SpelledM text) length-nodes_m (module-laid ns) 0 ms (nodes_e n e ++ bs)
      (omega arith) sp.0 st.0
      ∙ (adds-all ms (modules_of text ns (nodes_e n e ++ bs)) ∙ (ap (λ z. ms ++ z) (silent_e ns n e bs ∙ blanks-silent ns k)
      ∙ append-nil ms))) in
      rw (i, j)
  -- NODES LAID IN A TABLE

set-behind : {A : Type 0} (zs : List A) (x y : A) (ys : List A) → set (zs ++ (y ∷ ys)) (length zs) x ≡ zs ++ (x ∷ ys)
set-behind [] x y ys = refl
set-behind (z ∷ zs) x y ys = ap (λ r. z ∷ r) (set-behind zs x y ys)

pub laid-put : {A : Type 0} (zs rs ys : List A) → length rs ≤ length ys → laid (length zs) rs (zs ++ ys) ≡ zs ++ (rs ++ drop (length rs) ys)
laid-put zs [] ys b = refl
laid-put zs (r ∷ rs) [] b = absurd (omega arith)
laid-put zs (r ∷ rs) (y ∷ ys) b =
    let i : length zs + 1 ≡ length (zs ++ (r ∷ [])) = omega (arith, length-append zs (r ∷ [])) in
    let j : set (zs ++ (y ∷ ys)) (length zs) r ≡ (zs ++ (r ∷ [])) ++ ys = set-behind zs r y ys ∙ sym (append_assoc zs (r ∷ []) ys) in
    rw (j, i) (laid-put (zs ++ (r ∷ [])) rs ys (omega arith) ∙ append_assoc zs (r ∷ []) (rs ++ drop (length rs) ys))

pub drop-blanks : (k n : ℕ) → drop k (replicate n node.Blank) ≡ replicate (n - k) node.Blank
drop-blanks zero n = let i : n - 0 ≡ n = omega arith in rw i
drop-blanks (suc k) zero = let i : 0 - suc k ≡ 0 = omega arith in rw i
drop-blanks (suc k) (suc n) = let i : suc n - suc k ≡ n - k = omega arith in rw i (drop-blanks k n)

pub stands-for : StandsFor
stands-for n text s fits nests sp =
    let len = length-nodes_s s in
    let a : laid 0 (nodes_s s) (replicate n node.Blank) ≡ nodes_s s ++ replicate (n - length (nodes_s s)) node.Blank =
    laid-put [] (nodes_s s) (replicate n node.Blank) (omega (arith, len, length-replicate n node.Blank))
    ∙ ap (λ z. nodes_s s ++ z) (drop-blanks (length (nodes_s s)) n) in
    let b : size s - 1 ≡ places inner_m s.modules + inner_e s.closing = omega arith in
    rw (a, b) (sheet-laid text s (n - length (nodes_s s)) nests sp)
