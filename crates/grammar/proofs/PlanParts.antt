-- The parts of a tree that stand before the part they belong to, and no task among them.
use Rattle.std.proofs.Common.{◌≡◌, ℕ, suc, ◌+◌, ◌<◌, ◌≤◌, Bool, true, false, cond, ◌&&◌, ltb, List, [], ◌∷◌, ◌++◌, map, length, refl, subst, arith}
use Rattle.std.proofs.lemmas.Bool.{lt-ltb, ltb-true}
use Rattle.language.specs.Tree.{Part, children, none_between, parts_before, inner_first}
use Rattle.grammar.specs.declared.tree.Node.{Node}
use Rattle.grammar.specs.declared.tree.Node.TheVariants as node
use Rattle.grammar.specs.Syntax.{WrittenType, Exp, inner_t, inner_e}
use Rattle.grammar.specs.Syntax as is
use Rattle.grammar.specs.Table.{nodes_t, nodes_e}
use Rattle.grammar.specs.Plan.{node_of, exp_node_of, tasks_of}
use Rattle.grammar.proofs.Laid.{length-nodes_t, length-nodes_e}

-- the expressions that an expression has for parts stand from lo on and before i
abbrev pub Within : ℕ → ℕ → List Part → Type 0
Within lo i [] = Unit {0}
Within lo i (k ∷ ks) = ((lo ≤ k) × (k < i)) × Within lo i ks

within-weaken : (lo lo' i : ℕ) (ks : List Part) → lo' ≤ lo → Within lo i ks → Within lo' i ks
within-weaken lo lo' i [] b h = tt
within-weaken lo lo' i (k ∷ ks) b h = ((omega (arith, h.0.0), h.0.1), within-weaken lo lo' i ks b h.1)

module _ (text : List ℕ) where
  -- a type, or an expression with its parts so
  abbrev pub PartAt : ℕ → ℕ → Node → Type 0
  PartAt lo i node.Blank = ⊥
  PartAt lo i (node.«Type» n) = Unit {0}
  PartAt lo i (node.Expression n) = Within lo i (children (exp_node_of text n))
  PartAt lo i (node.Item n) = ⊥

  -- nodes from the place i on
  abbrev pub Parts : ℕ → ℕ → List Node → Type 0
  Parts lo i [] = Unit {0}
  Parts lo i (n ∷ ns) = PartAt lo i n × Parts lo (suc i) ns

  part-weaken : (lo lo' i : ℕ) (n : Node) → lo' ≤ lo → PartAt lo i n → PartAt lo' i n
  part-weaken lo lo' i node.Blank b h = h
  part-weaken lo lo' i (node.«Type» n) b h = tt
  part-weaken lo lo' i (node.Expression n) b h = within-weaken lo lo' i (children (exp_node_of text n)) b h
  part-weaken lo lo' i (node.Item n) b h = h

  parts-weaken : (lo lo' i : ℕ) (ns : List Node) → lo' ≤ lo → Parts lo i ns → Parts lo' i ns
  parts-weaken lo lo' i [] b h = tt
  parts-weaken lo lo' i (n ∷ ns) b h = (part-weaken lo lo' i n b h.0, parts-weaken lo lo' (suc i) ns b h.1)

  parts-append : (lo i m : ℕ) (xs ys : List Node) → length xs ≡ m → Parts lo i xs → Parts lo (i + m) ys → Parts lo i (xs ++ ys)
  parts-append lo i m [] ys e h k = let j : i + m ≡ i = omega arith in subst (λ z. Parts lo z ys) j k
  parts-append lo i m (x ∷ xs) ys e h k =
      let j : i + m ≡ suc i + length xs = omega arith in
      (h.0, parts-append lo (suc i) (length xs) xs ys refl h.1 (subst (λ z. Parts lo z ys) j k))

  pub type-parts : (t : WrittenType) (u lo i : ℕ) → Parts lo i (nodes_t u t)
  type-parts (is.int_type at) u lo i = (tt, tt)
  type-parts (is.bool_type at) u lo i = (tt, tt)
  type-parts (is.named_type t) u lo i = (tt, tt)
  type-parts (is.qualified_type at m t) u lo i = (tt, tt)
  type-parts (is.arrow_type at a b) u lo i =
      let v = u + (inner_t a + 1) in
      parts-append lo i (inner_t a + 1) (nodes_t u a) _ (length-nodes_t u a) (type-parts a u lo i)
      (parts-append lo (i + (inner_t a + 1)) (inner_t b + 1) (nodes_t v b) _ (length-nodes_t v b) (type-parts b v lo (i + (inner_t a + 1)))
      (tt, tt))

  -- an expression among the parts of another, which begins at u
  inside : (a : Exp) (u v : ℕ) → u ≤ v → ((u : ℕ) → Parts u u (nodes_e u a)) → Parts u v (nodes_e v a)
  inside a u v b h = parts-weaken v u v (nodes_e v a) b (h v)

  pub exp-parts : (e : Exp) (u : ℕ) → Parts u u (nodes_e u e)
  exp-parts (is.number at v) u = (tt, tt)
  exp-parts (is.boolean at b) u = (tt, tt)
  exp-parts (is.variable x) u = (tt, tt)
  exp-parts (is.qualified at m x) u = (tt, tt)
  exp-parts (is.is_zero at a) u = parts-append u u (inner_e a + 1) (nodes_e u a) _ (length-nodes_e u a) (exp-parts a u)
      ((((omega arith, omega arith), tt)), tt)
  exp-parts (is.apply at a b) u =
      let v = u + (inner_e a + 1) in
      parts-append u u (inner_e a + 1) (nodes_e u a) _ (length-nodes_e u a) (exp-parts a u)
      (parts-append u v (inner_e b + 1) (nodes_e v b) _ (length-nodes_e v b) (inside b u v (omega arith) (exp-parts b))
      (((omega arith, omega arith), ((omega arith, omega arith), tt)), tt))
  exp-parts (is.proc at x t e) u =
      let v = u + (inner_t t + 1) in
      parts-append u u (inner_t t + 1) (nodes_t u t) _ (length-nodes_t u t) (type-parts t u u u)
      (parts-append u v (inner_e e + 1) (nodes_e v e) _ (length-nodes_e v e) (inside e u v (omega arith) (exp-parts e))
      (((omega arith, omega arith), tt), tt))
  exp-parts (is.let_in at x a b) u =
      let v = u + (inner_e a + 1) in
      parts-append u u (inner_e a + 1) (nodes_e u a) _ (length-nodes_e u a) (exp-parts a u)
      (parts-append u v (inner_e b + 1) (nodes_e v b) _ (length-nodes_e v b) (inside b u v (omega arith) (exp-parts b))
      (((omega arith, omega arith), ((omega arith, omega arith), tt)), tt))
  exp-parts (is.conditional at a b c) u =
      let v = u + (inner_e a + 1) in
      let w = v + (inner_e b + 1) in
      parts-append u u (inner_e a + 1) (nodes_e u a) _ (length-nodes_e u a) (exp-parts a u)
      (parts-append u v (inner_e b + 1) (nodes_e v b) _ (length-nodes_e v b) (inside b u v (omega arith) (exp-parts b))
      (parts-append u w (inner_e c + 1) (nodes_e w c) _ (length-nodes_e w c) (inside c u w (omega arith) (exp-parts c))
      (((omega arith, omega arith), ((omega arith, omega arith), ((omega arith, omega arith), tt))), tt)))
  exp-parts (is.letrec at r f x t b e) u =
      let v = u + (inner_t r + 1) in
      let w = v + (inner_t t + 1) in
      let z = w + (inner_e b + 1) in
      parts-append u u (inner_t r + 1) (nodes_t u r) _ (length-nodes_t u r) (type-parts r u u u)
      (parts-append u v (inner_t t + 1) (nodes_t v t) _ (length-nodes_t v t) (type-parts t v u v)
      (parts-append u w (inner_e b + 1) (nodes_e w b) _ (length-nodes_e w b) (inside b u w (omega arith) (exp-parts b))
      (parts-append u z (inner_e e + 1) (nodes_e z e) _ (length-nodes_e z e) (inside e u z (omega arith) (exp-parts e))
      (((omega arith, omega arith), ((omega arith, omega arith), tt)), tt))))
  exp-parts (is.binary at o a b) u =
      let v = u + (inner_e a + 1) in
      parts-append u u (inner_e a + 1) (nodes_e u a) _ (length-nodes_e u a) (exp-parts a u)
      (parts-append u v (inner_e b + 1) (nodes_e v b) _ (length-nodes_e v b) (inside b u v (omega arith) (exp-parts b))
      (((omega arith, omega arith), ((omega arith, omega arith), tt)), tt))

  -- types and expressions are no tasks
  pub calm : (lo i : ℕ) (xs r : List Node) → Parts lo i xs → tasks_of text (xs ++ r) ≡ tasks_of text r
  unfolding tasks_of
  calm lo i [] r h = refl
  calm lo i (node.Blank ∷ xs) r h = absurd h.0
  calm lo i (node.«Type» n ∷ xs) r h = calm lo (suc i) xs r h.1
  calm lo i (node.Expression n ∷ xs) r h = calm lo (suc i) xs r h.1
  calm lo i (node.Item n ∷ xs) r h = absurd h.0

  -- NO ROOT AMONG PARTS
  both : (a b : Bool) → a ≡ true → b ≡ true → (a && b) ≡ true
  both a b p q = rw (p, q)

  left : (a b : Bool) → (a && b) ≡ true → a ≡ true
  left true b p = refl
  left false b p = let z : ◌≡◌ {A = ℕ} 0 1 = cc in absurd (omega arith)

  right : (a b : Bool) → (a && b) ≡ true → b ≡ true
  right true b p = p
  right false b p = let z : ◌≡◌ {A = ℕ} 0 1 = cc in absurd (omega arith)

  between : (k k' j j' q : ℕ) → k ≤ k' → j' ≤ j → cond (ltb q j) (ltb q k) true ≡ true → cond (ltb q j') (ltb q k') true ≡ true
  between k k' j j' q a b h = go (ltb q j') refl
    where
      go : (x : Bool) → ltb q j' ≡ x → cond x (ltb q k') true ≡ true
      go false i = refl
      go true i =
          let m : q < j' = ltb-true q j' i in
          let n : ltb q k ≡ true = rw (lt-ltb q j (omega arith)) at h in
          lt-ltb q k' (omega (arith, ltb-true q k n))

  pub none-weaken : (k k' j j' : ℕ) (R : List Part) → k ≤ k' → j' ≤ j → none_between k j R ≡ true → none_between k' j' R ≡ true
  none-weaken k k' j j' [] a b h = refl
  none-weaken k k' j j' (q ∷ R) a b h =
      both _ _ (between k k' j j' q a b (left (cond (ltb q j) (ltb q k) true) (none_between k j R) h)) (none-weaken k k' j j' R a b
      (right (cond (ltb q j) (ltb q k) true) (none_between k j R) h))

  none-empty : (k : ℕ) (R : List Part) → none_between k k R ≡ true
  none-empty k [] = refl
  none-empty k (q ∷ R) = both _ _ (go (ltb q k) refl) (none-empty k R)
    where
      go : (x : Bool) → ltb q k ≡ x → cond x (ltb q k) true ≡ true
      go true i = i
      go false i = refl

  before : (R : List Part) (lo hi i : ℕ) (ks : List Part) → none_between lo hi R ≡ true → i ≤ hi → Within lo i ks → parts_before R i ks ≡ true
  before R lo hi i [] z b h = refl
  before R lo hi i (k ∷ ks) z b h = both _ _ (both _ _ (lt-ltb k i h.0.1) (none-weaken lo k hi i R h.0.0 b z))
      (before R lo hi i ks z b h.1)

  pub ordered : (R : List Part) (lo hi : ℕ) → none_between lo hi R ≡ true → (i : ℕ) (xs : List Node) → Parts lo i xs
      → i + length xs ≤ hi + 1 → inner_first R i (map (node_of text) xs) ≡ true
  ordered R lo hi z i [] h b = refl
  ordered R lo hi z i (node.Blank ∷ xs) h b = absurd h.0
  ordered R lo hi z i (node.«Type» n ∷ xs) h b = ordered R lo hi z (suc i) xs h.1 (omega arith)
  ordered R lo hi z i (node.Expression n ∷ xs) h b = both _ _ (before R lo hi i (children (exp_node_of text n)) z (omega arith) h.0)
      (ordered R lo hi z (suc i) xs h.1 (omega arith))
  ordered R lo hi z i (node.Item n ∷ xs) h b = absurd h.0

  pub types-ordered : (R : List Part) (t : WrittenType) (u i : ℕ) → inner_first R i (map (node_of text) (nodes_t u t)) ≡ true
  types-ordered R t u i =
      let hi = i + length (nodes_t u t) in
      ordered R hi hi (none-empty hi R) i (nodes_t u t) (type-parts t u hi i) (omega arith)

  pub first-append : (R : List Part) (i m : ℕ) (xs ys : List Node) → length xs ≡ m → inner_first R i (map (node_of text) xs) ≡ true
      → inner_first R (i + m) (map (node_of text) ys) ≡ true
      → inner_first R i (map (node_of text) (xs ++ ys)) ≡ true
  first-append R i m [] ys e h k = let j : i + m ≡ i = omega arith in subst (λ z. inner_first R z (map (node_of text) ys) ≡ true) j k
  first-append R i m (x ∷ xs) ys e h k =
      let j : i + m ≡ suc i + length xs = omega arith in
      let c = children (node_of text x) in
      both _ _ (left (parts_before R i c) (inner_first R (suc i) (map (node_of text) xs)) h)
      (first-append R (suc i) (length xs) xs ys refl (right (parts_before R i c) (inner_first R (suc i) (map (node_of text) xs)) h)
      (subst (λ z. inner_first R z (map (node_of text) ys) ≡ true) j k))
