-- What a reader does to a table is to lay the nodes in it.
use Rattle.std.proofs.Common.{◌≡◌, ℕ, ◌+◌, List, [], ◌∷◌, ◌++◌, length, set, sym, refl, ap, ◌∙◌, arith}
use Rattle.grammar.specs.declared.tree.TypeNode.TheVariants as ty
use Rattle.grammar.specs.declared.tree.ExpNode.TheVariants as ex
use Rattle.grammar.specs.declared.tree.Item.TheVariants as item
use Rattle.grammar.specs.declared.tree.Node.{Node}
use Rattle.grammar.specs.declared.tree.Node.TheVariants as node
use Rattle.grammar.specs.Syntax.{WrittenType, Exp, Declaration, Definition, Module, inner_t, inner_e, inner_d, inner_f, inner_m, places}
use Rattle.grammar.specs.Syntax as is
use Rattle.grammar.specs.Table.{nodes_t, nodes_e, nodes_d, nodes_f, nodes_m, nodes_of, laid, lay_t, lay_e, lay_d, lay_f, lay_m, lay_of, span_of}
use Rattle.grammar.specs.Laws.{LaysNodes}
use Rattle.grammar.proofs.Laid.{length-nodes_t, length-nodes_e, length-nodes_d, length-nodes_f, length-nodes_m, length-nodes_of}

-- nodes behind nodes: n is how many the first are
laid-append : (u n : ℕ) (xs ys ns : List Node) → length xs ≡ n → laid u (xs ++ ys) ns ≡ laid (u + n) ys (laid u xs ns)
laid-append u n [] ys ns e = let i : u + n ≡ u = omega arith in rw i
laid-append u n (x ∷ xs) ys ns e =
    let i : u + n ≡ (u + 1) + length xs = omega arith in
    rw i (laid-append (u + 1) (length xs) xs ys (set ns u x) refl)

-- a part, then more: ms is the table after the part
part_then : (u n : ℕ) (xs ys ns ms : List Node) → length xs ≡ n → ms ≡ laid u xs ns → laid (u + n) ys ms ≡ laid u (xs ++ ys) ns
part_then u n xs ys ns ms e h = ap (laid (u + n) ys) h ∙ sym (laid-append u n xs ys ns e)

lays-T : (t : WrittenType) (u : ℕ) (ns : List Node) → lay_t u t ns ≡ laid u (nodes_t u t) ns
lays-T (is.int_type at) u ns = refl
lays-T (is.bool_type at) u ns = refl
lays-T (is.named_type t) u ns = refl
lays-T (is.qualified_type at m t) u ns = refl
lays-T (is.arrow_type at a b) u ns =
    let v = u + (inner_t a + 1) in
    let x = node.«Type» (ty.Arrow at (u + inner_t a) (v + inner_t b)) in
    part_then v (inner_t b + 1) (nodes_t v b) (x ∷ []) (lay_t u a ns) _ (length-nodes_t v b) (lays-T b v (lay_t u a ns))
    ∙ part_then u (inner_t a + 1) (nodes_t u a) (nodes_t v b ++ (x ∷ [])) ns _ (length-nodes_t u a) (lays-T a u ns)

two-E : (a b : Exp) (u : ℕ) (x : Node) (ns : List Node) → ((u : ℕ) (ns : List Node) → lay_e u a ns ≡ laid u (nodes_e u a) ns)
    → ((u : ℕ) (ns : List Node) → lay_e u b ns ≡ laid u (nodes_e u b) ns)
    → set (lay_e (u + (inner_e a + 1)) b (lay_e u a ns)) (u + (inner_e a + 1) + (inner_e b + 1)) x
    ≡ laid u (nodes_e u a ++ (nodes_e (u + (inner_e a + 1)) b ++ (x ∷ []))) ns
two-E a b u x ns f g =
    let v = u + (inner_e a + 1) in
    part_then v (inner_e b + 1) (nodes_e v b) (x ∷ []) (lay_e u a ns) _ (length-nodes_e v b) (g v (lay_e u a ns))
    ∙ part_then u (inner_e a + 1) (nodes_e u a) (nodes_e v b ++ (x ∷ [])) ns _ (length-nodes_e u a) (f u ns)

lays-E : (e : Exp) (u : ℕ) (ns : List Node) → lay_e u e ns ≡ laid u (nodes_e u e) ns
lays-E (is.number at v) u ns = refl
lays-E (is.boolean at b) u ns = refl
lays-E (is.variable x) u ns = refl
lays-E (is.qualified at m x) u ns = refl
lays-E (is.is_zero at a) u ns = part_then u (inner_e a + 1) (nodes_e u a) (node.Expression (ex.IsZero at (u + inner_e a)) ∷ []) ns _
    (length-nodes_e u a) (lays-E a u ns)
lays-E (is.apply at a b) u ns = two-E a b u (node.Expression (ex.Apply at (u + inner_e a) (u + (inner_e a + 1) + inner_e b))) ns (lays-E a)
    (lays-E b)
lays-E (is.proc at x t e) u ns =
    let v = u + (inner_t t + 1) in
    let y = node.Expression (ex.Proc at (span_of x) (u + inner_t t) (v + inner_e e)) in
    part_then v (inner_e e + 1) (nodes_e v e) (y ∷ []) (lay_t u t ns) _ (length-nodes_e v e) (lays-E e v (lay_t u t ns))
    ∙ part_then u (inner_t t + 1) (nodes_t u t) (nodes_e v e ++ (y ∷ [])) ns _ (length-nodes_t u t) (lays-T t u ns)
lays-E (is.let_in at x a b) u ns = two-E a b u (node.Expression (ex.Let at (span_of x) (u + inner_e a) (u + (inner_e a + 1) + inner_e b))) ns
    (lays-E a) (lays-E b)
lays-E (is.conditional at a b c) u ns =
    let v = u + (inner_e a + 1) in
    let w = v + (inner_e b + 1) in
    let y = node.Expression (ex.If at (u + inner_e a) (v + inner_e b) (w + inner_e c)) in
    two-E b c v y (lay_e u a ns) (lays-E b) (lays-E c)
    ∙ part_then u (inner_e a + 1) (nodes_e u a) (nodes_e v b ++ (nodes_e w c ++ (y ∷ []))) ns _ (length-nodes_e u a) (lays-E a u ns)
lays-E (is.letrec at r f x t b e) u ns =
    let v = u + (inner_t r + 1) in
    let w = v + (inner_t t + 1) in
    let z = w + (inner_e b + 1) in
    let y = node.Expression (ex.Letrec at (u + inner_t r) (span_of f) (span_of x) (v + inner_t t) (w + inner_e b) (z + inner_e e)) in
    two-E b e w y (lay_t v t (lay_t u r ns)) (lays-E b) (lays-E e)
    ∙ (part_then v (inner_t t + 1) (nodes_t v t) (nodes_e w b ++ (nodes_e z e ++ (y ∷ []))) (lay_t u r ns) _ (length-nodes_t v t)
    (lays-T t v (lay_t u r ns))
    ∙ part_then u (inner_t r + 1) (nodes_t u r) (nodes_t v t ++ (nodes_e w b ++ (nodes_e z e ++ (y ∷ [])))) ns _ (length-nodes_t u r)
    (lays-T r u ns))
lays-E (is.binary at o a b) u ns = two-E a b u (node.Expression (ex.Binary at o (u + inner_e a) (u + (inner_e a + 1) + inner_e b))) ns
    (lays-E a) (lays-E b)

lays-D : (d : Declaration) (u : ℕ) (ns : List Node) → lay_d u d ns ≡ laid u (nodes_d u d) ns
lays-D (is.opaque_type at t) u ns = refl
lays-D (is.transparent_type at t a) u ns = part_then u (inner_t a + 1) (nodes_t u a)
    (node.Item (item.Transparent at (span_of t) (u + inner_t a)) ∷ []) ns _ (length-nodes_t u a) (lays-T a u ns)
lays-D (is.value_of_type x a) u ns = part_then u (inner_t a + 1) (nodes_t u a)
    (node.Item (item.Declared (span_of x) (u + inner_t a)) ∷ []) ns _ (length-nodes_t u a) (lays-T a u ns)

lays-F : (d : Definition) (u : ℕ) (ns : List Node) → lay_f u d ns ≡ laid u (nodes_f u d) ns
lays-F (is.type_is at t a) u ns = part_then u (inner_t a + 1) (nodes_t u a) (node.Item (item.TypeIs at (span_of t) (u + inner_t a)) ∷ []) ns _
    (length-nodes_t u a) (lays-T a u ns)
lays-F (is.value_is x e) u ns = part_then u (inner_e e + 1) (nodes_e u e) (node.Item (item.ValueIs (span_of x) (u + inner_e e)) ∷ []) ns _
    (length-nodes_e u e) (lays-E e u ns)

lays-of : {A : Type 0} (inner : A → ℕ) (nodes : ℕ → A → List Node) (lay : ℕ → A → List Node → List Node)
    → ((u : ℕ) (a : A) → length (nodes u a) ≡ inner a + 1) → ((a : A) (u : ℕ) (ns : List Node) → lay u a ns ≡ laid u (nodes u a) ns)
    → (l : List A) (u : ℕ) (ns : List Node) → lay_of inner lay u l ns ≡ laid u (nodes_of inner nodes u l) ns
lays-of inner nodes lay len f [] u ns = refl
lays-of inner nodes lay len f (a ∷ l) u ns =
    let v = u + (inner a + 1) in
    lays-of inner nodes lay len f l v (lay u a ns) ∙ part_then u (inner a + 1) (nodes u a) (nodes_of inner nodes v l) ns (lay u a ns)
    (len u a) (f a u ns)

lays-M : (m : Module) (u : ℕ) (ns : List Node) → lay_m u m ns ≡ laid u (nodes_m u m) ns
lays-M m u ns =
    let ds = m.interface in
    let fs = m.body in
    let v = u + places inner_d ds in
    let x = node.Item (item.Module m.at (span_of m.name)) in
    let ms = lay_of inner_d lay_d u ds ns in
    part_then v (places inner_f fs) (nodes_of inner_f nodes_f v fs) (x ∷ []) ms _ (length-nodes_of inner_f nodes_f length-nodes_f v fs)
    (lays-of inner_f nodes_f lay_f length-nodes_f lays-F fs v ms)
    ∙ part_then u (places inner_d ds) (nodes_of inner_d nodes_d u ds) (nodes_of inner_f nodes_f v fs ++ (x ∷ [])) ns ms
    (length-nodes_of inner_d nodes_d length-nodes_d u ds) (lays-of inner_d nodes_d lay_d length-nodes_d lays-D ds u ns)

pub lays-nodes : LaysNodes
lays-nodes s ns =
    let ms = s.modules in
    let n = places inner_m ms in
    let ts = lay_of inner_m lay_m 0 ms ns in
    lays-E s.closing n ts
    ∙ (ap (λ z. laid z (nodes_e n s.closing) ts) (let i : n ≡ 0 + n = omega arith in i)
    ∙ part_then 0 n (nodes_of inner_m nodes_m 0 ms) (nodes_e n s.closing) ns ts (length-nodes_of inner_m nodes_m length-nodes_m 0 ms)
    (lays-of inner_m nodes_m lay_m length-nodes_m lays-M ms 0 ns))
