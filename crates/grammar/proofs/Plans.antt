-- The plan of a sheet's nodes stands for the sheet.
use Rattle.std.proofs.Common.{◌≡◌, ℕ, zero, suc, ◌+◌, ◌<◌, ◌≤◌, Bool, true, false, cond, ltb, List, [], ◌∷◌, ◌++◌, map, length, Some, sym, refl, ap, ◌∙◌, subst, append_assoc, append-nil, arith}
use Rattle.std.specs.List.{slice_get}
use Rattle.std.proofs.lemmas.Option.{slice_get_past}
use Rattle.std.proofs.lemmas.Bool.{lt-ltb, le-ltb}
use Rattle.language.specs.Bindings.{spelled_in}
use Rattle.language.specs.Tree as language
use Rattle.language.specs.Tree.{Part, node_at, TypeStands, Stands, BodyStands, ModulesStand, roots_of, ascending, all_behind, none_between}
use Rattle.language.specs.Tree.{inner_first, SheetStands}
use Rattle.grammar.specs.declared.tree.Item.TheVariants as item
use Rattle.grammar.specs.declared.tree.Node.{Node}
use Rattle.grammar.specs.declared.tree.Node.TheVariants as node
use Rattle.grammar.specs.Syntax.{WrittenType, Exp, Declaration, Definition, Module, Sheet, inner_t, inner_e, inner_d, inner_f, inner_m, places}
use Rattle.grammar.specs.Syntax as is
use Rattle.grammar.specs.Plain.{plain_t, plain_e, plain_f, plain_m, plain}
use Rattle.grammar.specs.Table.{span_of, nodes_t, nodes_e, nodes_d, nodes_f, nodes_m, nodes_of, nodes_s, SpelledT, SpelledE, SpelledF, SpelledM}
use Rattle.grammar.specs.Table.{SpelledS, Every}
use Rattle.grammar.specs.Plan.{node_of, tasks_of, plan_of}
use Rattle.grammar.specs.Read.{close_of}
use Rattle.grammar.proofs.Laid.{Stand, stand-append, stand-put, length-nodes_t, length-nodes_e, length-nodes_d, length-nodes_f, length-nodes_m}
use Rattle.grammar.proofs.Laid.{length-nodes_of}
use Rattle.grammar.specs.Laws.{PlanStands, ReadHolds, Holds}
use Rattle.grammar.specs.Reading.{Out, bad, good, reading}
use Rattle.grammar.specs.Table.{sheet_at}
use Rattle.grammar.specs.Read.{nodes_read}
use Rattle.grammar.proofs.Exactly.{exactly}
use Rattle.grammar.proofs.Spelling.{reads-spelled}
use Rattle.grammar.proofs.Laid.{sheet-laid, length-nodes_s}
use Rattle.grammar.proofs.Answered.{at_length}
use Rattle.grammar.proofs.PlanParts.{exp-parts, type-parts, calm, ordered, types-ordered, first-append}

-- ROOTS, in the order of their places

-- the numbers ascend, from lo on
abbrev Ascend : ℕ → List Part → Type 0
Ascend lo [] = Unit {0}
Ascend lo (q ∷ qs) = (lo ≤ q) × Ascend (suc q) qs

ascend-weaken : (lo lo' : ℕ) (qs : List Part) → lo' ≤ lo → Ascend lo qs → Ascend lo' qs
ascend-weaken lo lo' [] b h = tt
ascend-weaken lo lo' (q ∷ qs) b h = (omega (arith, h.0), h.1)

ascend-behind : (j lo : ℕ) (qs : List Part) → j < lo → Ascend lo qs → all_behind j qs ≡ true
ascend-behind j lo [] b h = refl
ascend-behind j lo (q ∷ qs) b h = rw (lt-ltb j q (omega (arith, h.0)), ascend-behind j (suc q) qs (omega (arith, h.0)) h.1)

ascends : (lo : ℕ) (qs : List Part) → Ascend lo qs → ascending qs ≡ true
ascends lo [] h = refl
ascends lo (q ∷ qs) h = rw (ascend-behind q (suc q) qs (omega arith) h.1, ascends (suc q) qs h.1)

-- no root stands before lo
ascend-none : (k j lo : ℕ) (qs : List Part) → j ≤ lo → Ascend lo qs → none_between k j qs ≡ true
ascend-none k j lo [] b h = refl
ascend-none k j lo (q ∷ qs) b h = rw (le-ltb q j (omega (arith, h.0)), ascend-none k j (suc q) qs (omega (arith, h.0)) h.1)

module _ (text : List ℕ) where
  -- NODES BY PLACE
  node-at : (ns : List Node) (j : ℕ) (n : Node) → slice_get ns j ≡ Some n → node_at (map (node_of text) ns) j ≡ node_of text n
  node-at [] j n e = let p = slice_get_past {X = Node} [] j (omega arith) in let z : ◌≡◌ {A = ℕ} 0 1 = cc in absurd (omega arith)
  node-at (x ∷ ns) zero n e = let p : x ≡ n = cc in ap (node_of text) p
  node-at (x ∷ ns) (suc j) n e = node-at ns j n e

  at_place : (ns : List Node) (i j : ℕ) (n : Node) (m : language.Node) → i ≡ j → slice_get ns j ≡ Some n → node_of text n ≡ m
      → node_at (map (node_of text) ns) i ≡ m
  at_place ns i j n m e h k = ap (node_at (map (node_of text) ns)) e ∙ (node-at ns j n h ∙ k)

  type-plan : (t : WrittenType) (u : ℕ) (ns : List Node) → SpelledT text t → Stand ns u (nodes_t u t)
      → TypeStands (map (node_of text) ns) (u + inner_t t) (plain_t t)
  type-plan (is.int_type at) u ns sp h = at_place ns (u + 0) u _ _ (omega arith) h.0 refl
  type-plan (is.bool_type at) u ns sp h = at_place ns (u + 0) u _ _ (omega arith) h.0 refl
  type-plan (is.named_type t) u ns sp h = at_place ns (u + 0) u _ _ (omega arith) h.0
      (ap (λ z. language.type_node (language.named_type_node z)) sp)
  type-plan (is.qualified_type at m t) u ns sp h = at_place ns (u + 0) u _ _ (omega arith) h.0 (λ i. language.type_node
      (language.qualified_type_node (sp.0 i) (sp.1 i)))
  type-plan (is.arrow_type at a b) u ns sp h =
      let v = u + (inner_t a + 1) in
      let s = stand-append ns u (inner_t a + 1) (nodes_t u a) _ (length-nodes_t u a) h in
      let t = stand-append ns v (inner_t b + 1) (nodes_t v b) _ (length-nodes_t v b) s.1 in (
        u + inner_t a,
        v + inner_t b,
        at_place ns (u + inner_t (is.arrow_type at a b)) (v + (inner_t b + 1)) _ _ (omega arith) t.1.0 refl,
        type-plan a u ns sp.0 s.0,
        type-plan b v ns sp.1 t.0,
      )

  exp-plan : (e : Exp) (u : ℕ) (ns : List Node) → SpelledE text e → Stand ns u (nodes_e u e)
      → Stands (map (node_of text) ns) (u + inner_e e) (plain_e e)
  exp-plan (is.number at v) u ns sp h = at_place ns (u + 0) u _ _ (omega arith) h.0 refl
  exp-plan (is.boolean at b) u ns sp h = at_place ns (u + 0) u _ _ (omega arith) h.0 refl
  exp-plan (is.variable x) u ns sp h = at_place ns (u + 0) u _ _ (omega arith) h.0 (ap language.variable_node sp)
  exp-plan (is.qualified at m x) u ns sp h = at_place ns (u + 0) u _ _ (omega arith) h.0 (λ i. language.qualified_node (sp.0 i)
      (sp.1 i))
  exp-plan (is.is_zero at a) u ns sp h =
      let s = stand-append ns u (inner_e a + 1) (nodes_e u a) _ (length-nodes_e u a) h in (
        u + inner_e a,
        at_place ns (u + inner_e (is.is_zero at a)) (u + (inner_e a + 1)) _ _ (omega arith) s.1.0 refl,
        exp-plan a u ns sp
            s.0,
      )
  exp-plan (is.apply at a b) u ns sp h =
      let v = u + (inner_e a + 1) in
      let s = stand-append ns u (inner_e a + 1) (nodes_e u a) _ (length-nodes_e u a) h in
      let t = stand-append ns v (inner_e b + 1) (nodes_e v b) _ (length-nodes_e v b) s.1 in (
        u + inner_e a,
        v + inner_e b,
        at_place ns (u + inner_e (is.apply at a b)) (v + (inner_e b + 1)) _ _ (omega arith) t.1.0 refl,
        exp-plan a u ns sp.0 s.0,
        exp-plan b v ns sp.1 t.0,
      )
  exp-plan (is.proc at x y e) u ns sp h =
      let v = u + (inner_t y + 1) in
      let s = stand-append ns u (inner_t y + 1) (nodes_t u y) _ (length-nodes_t u y) h in
      let t = stand-append ns v (inner_e e + 1) (nodes_e v e) _ (length-nodes_e v e) s.1 in (
        u + inner_t y,
        v + inner_e e,
        at_place ns (u + inner_e (is.proc at x y e)) (v + (inner_e e + 1)) _ _ (omega arith) t.1.0
            (ap (λ z. language.proc_node z (u + inner_t y) (v + inner_e e)) sp.0),
        type-plan y u ns sp.1 s.0,
        exp-plan e v ns sp.2 t.0,
      )
  exp-plan (is.let_in at x a e) u ns sp h =
      let v = u + (inner_e a + 1) in
      let s = stand-append ns u (inner_e a + 1) (nodes_e u a) _ (length-nodes_e u a) h in
      let t = stand-append ns v (inner_e e + 1) (nodes_e v e) _ (length-nodes_e v e) s.1 in (
        u + inner_e a,
        v + inner_e e,
        at_place ns (u + inner_e (is.let_in at x a e)) (v + (inner_e e + 1)) _ _ (omega arith) t.1.0
            (ap (λ z. language.let_node z (u + inner_e a) (v + inner_e e)) sp.0),
        exp-plan a u ns sp.1 s.0,
        exp-plan e v ns sp.2 t.0,
      )
  exp-plan (is.conditional at a b c) u ns sp h =
      let v = u + (inner_e a + 1) in
      let w = v + (inner_e b + 1) in
      let s = stand-append ns u (inner_e a + 1) (nodes_e u a) _ (length-nodes_e u a) h in
      let t = stand-append ns v (inner_e b + 1) (nodes_e v b) _ (length-nodes_e v b) s.1 in
      let r = stand-append ns w (inner_e c + 1) (nodes_e w c) _ (length-nodes_e w c) t.1 in (
        u + inner_e a,
        v + inner_e b,
        w + inner_e c,
        at_place ns (u + inner_e (is.conditional at a b c)) (w + (inner_e c + 1)) _ _ (omega arith) r.1.0 refl,
        exp-plan a u ns sp.0 s.0,
        exp-plan b v ns sp.1 t.0,
        exp-plan c w ns sp.2 r.0,
      )
  exp-plan (is.letrec at y f x z b e) u ns sp h =
      let v = u + (inner_t y + 1) in
      let w = v + (inner_t z + 1) in
      let q = w + (inner_e b + 1) in
      let s = stand-append ns u (inner_t y + 1) (nodes_t u y) _ (length-nodes_t u y) h in
      let t = stand-append ns v (inner_t z + 1) (nodes_t v z) _ (length-nodes_t v z) s.1 in
      let r = stand-append ns w (inner_e b + 1) (nodes_e w b) _ (length-nodes_e w b) t.1 in
      let o = stand-append ns q (inner_e e + 1) (nodes_e q e) _ (length-nodes_e q e) r.1 in (
        u + inner_t y,
        v + inner_t z,
        w + inner_e b,
        q + inner_e e,
        at_place ns (u + inner_e (is.letrec at y f x z b e)) (q + (inner_e e + 1)) _ _ (omega arith) o.1.0 (λ i. language.letrec_node
            (u + inner_t y) (sp.0 i) (sp.1 i) (v + inner_t z) (w + inner_e b) (q + inner_e e)),
        type-plan y u ns sp.2 s.0,
        type-plan z v ns sp.3 t.0,
        exp-plan b w ns sp.4 r.0,
        exp-plan e q ns sp.5 o.0,
      )
  exp-plan (is.binary at o a b) u ns sp h =
      let v = u + (inner_e a + 1) in
      let s = stand-append ns u (inner_e a + 1) (nodes_e u a) _ (length-nodes_e u a) h in
      let t = stand-append ns v (inner_e b + 1) (nodes_e v b) _ (length-nodes_e v b) s.1 in (
        u + inner_e a,
        v + inner_e b,
        at_place ns (u + inner_e (is.binary at o a b)) (v + (inner_e b + 1)) _ _ (omega arith) t.1.0 refl,
        exp-plan a u ns sp.0 s.0,
        exp-plan b v ns sp.1 t.0,
      )

  -- TASKS
  no-task : (e : Exp) (u : ℕ) → tasks_of text (nodes_e u e) ≡ []
  unfolding tasks_of
  no-task e u = ap (tasks_of text) (sym (append-nil (nodes_e u e))) ∙ calm text u u (nodes_e u e) [] (exp-parts text e u)

  tasks-D : (u : ℕ) (d : Declaration) (r : List Node) → tasks_of text (nodes_d u d ++ r) ≡ tasks_of text r
  unfolding tasks_of
  tasks-D u (is.opaque_type at t) r = refl
  tasks-D u (is.transparent_type at t a) r = ap (tasks_of text) (append_assoc (nodes_t u a) _ r)
      ∙ calm text u u (nodes_t u a) _ (type-parts text a u u u)
  tasks-D u (is.value_of_type x a) r = ap (tasks_of text) (append_assoc (nodes_t u a) _ r)
      ∙ calm text u u (nodes_t u a) _ (type-parts text a u u u)

  tasks-Ds : (u : ℕ) (ds : List Declaration) (r : List Node) → tasks_of text (nodes_of inner_d nodes_d u ds ++ r) ≡ tasks_of text r
  tasks-Ds u [] r = refl
  tasks-Ds u (d ∷ ds) r =
      let v = u + (inner_d d + 1) in
      ap (tasks_of text) (append_assoc (nodes_d u d) (nodes_of inner_d nodes_d v ds) r) ∙ (tasks-D u d (nodes_of inner_d nodes_d v ds ++ r)
      ∙ tasks-Ds v ds r)

  tasks-type_is : (u at : ℕ) (t : is.Name) (a : WrittenType) (r : List Node) → tasks_of text (nodes_f u (is.type_is at t a) ++ r)
      ≡ tasks_of text r
  unfolding tasks_of
  tasks-type_is u at t a r = ap (tasks_of text) (append_assoc (nodes_t u a) _ r) ∙ calm text u u (nodes_t u a) _ (type-parts text a u u u)

  tasks-value_is : (u : ℕ) (x : is.Name) (e : Exp) (r : List Node) → tasks_of text (nodes_f u (is.value_is x e) ++ r)
      ≡ language.define (spelled_in text (span_of x)) (u + inner_e e) ∷ tasks_of text r
  unfolding tasks_of
  tasks-value_is u x e r = ap (tasks_of text) (append_assoc (nodes_e u e) _ r) ∙ calm text u u (nodes_e u e) _ (exp-parts text e u)

  body-plan : (ns : List Node) (fs : List Definition) (u : ℕ) (r : List Node) → Every (SpelledF text) fs
      → Stand ns u (nodes_of inner_f nodes_f u fs)
      → BodyStands (map (node_of text) ns) (tasks_of text r) (map plain_f fs) (tasks_of text (nodes_of inner_f nodes_f u fs ++ r))
  body-plan ns [] u r sp h = language.b_none
  body-plan ns (is.type_is at t a ∷ fs) u r sp h =
      let d = is.type_is at t a in
      let v = u + (inner_f d + 1) in
      let xs = nodes_of inner_f nodes_f v fs in
      let s = stand-append ns u (inner_f d + 1) (nodes_f u d) xs (length-nodes_f u d) h in
      let e : tasks_of text ((nodes_f u d ++ xs) ++ r) ≡ tasks_of text (xs ++ r) = ap (tasks_of text) (append_assoc (nodes_f u d) xs r)
      ∙ tasks-type_is u at t a (xs ++ r) in
      subst (BodyStands (map (node_of text) ns) (tasks_of text r) (map plain_f (d ∷ fs))) (sym e)
      (language.b_skip (body-plan ns fs v r sp.1 s.1))
  body-plan ns (is.value_is x a ∷ fs) u r sp h =
      let d = is.value_is x a in
      let v = u + (inner_f d + 1) in
      let xs = nodes_of inner_f nodes_f v fs in
      let s = stand-append ns u (inner_f d + 1) (nodes_f u d) xs (length-nodes_f u d) h in
      let t = stand-append ns u (inner_e a + 1) (nodes_e u a) _ (length-nodes_e u a) s.0 in
      let e : tasks_of text ((nodes_f u d ++ xs) ++ r) ≡ language.define x.bytes (u + inner_e a) ∷ tasks_of text (xs ++ r) =
      ap (tasks_of text) (append_assoc (nodes_f u d) xs r) ∙ (tasks-value_is u x a (xs ++ r)
      ∙ ap (λ z. language.define z (u + inner_e a) ∷ tasks_of text (xs ++ r)) sp.0.0) in
      subst (BodyStands (map (node_of text) ns) (tasks_of text r) (map plain_f (d ∷ fs))) (sym e)
      (language.b_task (exp-plan a u ns sp.0.1 t.0) (body-plan ns fs v r sp.1 s.1))

  -- the node of a module, behind its declarations and definitions
  tasks-M : (u : ℕ) (m : Module) (r : List Node)
      → tasks_of text (nodes_m u m ++ r) ≡ tasks_of text (nodes_of inner_f nodes_f (u + places inner_d m.interface) m.body ++
      (node.Item (item.Module m.at (span_of m.name)) ∷ r))
  tasks-M u m r =
      let x = node.Item (item.Module m.at (span_of m.name)) in
      let xs = nodes_of inner_d nodes_d u m.interface in
      let ys = nodes_of inner_f nodes_f (u + places inner_d m.interface) m.body in
      ap (tasks_of text) (append_assoc xs (ys ++ (x ∷ [])) r ∙ ap (λ z. xs ++ z) (append_assoc ys (x ∷ []) r))
      ∙ tasks-Ds u m.interface (ys ++ (x ∷ r))

  tasks-end : (m : Module) (r : List Node) → SpelledM text m → tasks_of text (node.Item (item.Module m.at (span_of m.name)) ∷ r)
      ≡ language.end_module m.name.bytes ∷ tasks_of text r
  unfolding tasks_of
  tasks-end m r sp = ap (λ z. language.end_module z ∷ tasks_of text r) sp.0

  modules-plan : (ns : List Node) (ms : List Module) (u : ℕ) (r : List Node) → tasks_of text r ≡ [] → Every (SpelledM text) ms
      → Stand ns u (nodes_of inner_m nodes_m u ms)
      → ModulesStand (map (node_of text) ns) (map plain_m ms) (tasks_of text (nodes_of inner_m nodes_m u ms ++ r))
  modules-plan ns [] u r e sp h = subst (ModulesStand (map (node_of text) ns) []) (sym e) language.m_none
  modules-plan ns (m ∷ ms) u r e sp h =
      let ds = m.interface in
      let fs = m.body in
      let v = u + (inner_m m + 1) in
      let w = u + places inner_d ds in
      let x = node.Item (item.Module m.at (span_of m.name)) in
      let rest = nodes_of inner_m nodes_m v ms in
      let s = stand-append ns u (inner_m m + 1) (nodes_m u m) rest (length-nodes_m u m) h in
      let t = stand-append ns u (places inner_d ds) (nodes_of inner_d nodes_d u ds) _ (length-nodes_of inner_d nodes_d length-nodes_d u ds)
      s.0 in
      let o = stand-append ns w (places inner_f fs) (nodes_of inner_f nodes_f w fs) _ (length-nodes_of inner_f nodes_f length-nodes_f w fs)
      t.1 in
      let i : tasks_of text ((nodes_m u m ++ rest) ++ r)
      ≡ tasks_of text (nodes_of inner_f nodes_f w fs ++ (x ∷ (rest ++ r))) = ap (tasks_of text) (append_assoc (nodes_m u m) rest r)
      ∙ tasks-M u m (rest ++ r) in
      let b = body-plan ns fs w (x ∷ (rest ++ r)) sp.0.2 o.0 in
      let c = subst (λ z. BodyStands (map (node_of text) ns) z (map plain_f fs)
      (tasks_of text (nodes_of inner_f nodes_f w fs ++ (x ∷ (rest ++ r))))) (tasks-end m (rest ++ r) sp.0) b in
      subst (ModulesStand (map (node_of text) ns) (map plain_m (m ∷ ms))) (sym i) (language.m_more (modules-plan ns ms v r e sp.1
      s.1) c)

  -- THE ORDER OF PARTS: R are the roots of the whole, `close` the last of them
  module _ (R : List Part) (close : Part) where
    abbrev roots : List Node → List Part
    roots ns = roots_of (tasks_of text ns) close

    -- from u on, the roots of the whole are these
    abbrev Same : ℕ → List Part → Type 0
    Same u qs = (k j : ℕ) → u ≤ k → none_between k j R ≡ none_between k j qs

    record Good (u : ℕ) (ns : List Node) : Type 0 where
      pub ascend : Ascend u (roots ns)
      pub first : Same u (roots ns) → inner_first R u (map (node_of text) ns) ≡ true

    -- nodes that are no tasks, before others
    good-calm : (u m : ℕ) (xs r : List Node) → length xs ≡ m → tasks_of text (xs ++ r) ≡ tasks_of text r
        → inner_first R u (map (node_of text) xs) ≡ true → Good (u + m) r → Good u (xs ++ r)
    good-calm u m xs r e t h g =
        record {
          ascend = subst (λ z. Ascend u (roots_of z close)) (sym t) (ascend-weaken (u + m) u (roots r) (omega arith) g.ascend);
          first = λ s. first-append text R u m xs r e h (g.first (λ k j b. subst (λ z. none_between k j R
              ≡ none_between k j (roots_of z close)) t (s k j (omega arith))));
        }

    good-type : (t : WrittenType) (u : ℕ) (r : List Node) → Good (u + (inner_t t + 1)) r → Good u (nodes_t u t ++ r)
    good-type t u r g = good-calm u (inner_t t + 1) (nodes_t u t) r (length-nodes_t u t) (calm text u u (nodes_t u t) r
        (type-parts text t u u u)) (types-ordered text R t u u) g

    -- an item that is no task
    good-item : (u : ℕ) (n : Node) (r : List Node) → tasks_of text (n ∷ r) ≡ tasks_of text r → node_of text n ≡ language.no_node
        → Good (u + 1) r → Good u (n ∷ r)
    good-item u n r t e g = good-calm u 1 (n ∷ []) r refl t (rw e) g

    root-last : (q j : ℕ) → cond (ltb q q) (ltb q j) true ≡ true
    root-last q j = rw (le-ltb q q (omega arith))

    root-passed : (q k j : ℕ) → q < k → cond (ltb q j) (ltb q k) true ≡ true
    root-passed q k j b = go (ltb q j)
      where
        go : (x : Bool) → cond x (ltb q k) true ≡ true
        go true = lt-ltb q k b
        go false = refl

    -- an expression that is a root, with what follows
    root-first : (e : Exp) (u : ℕ) (qs : List Part) → Ascend (suc (u + inner_e e)) qs → Same u ((u + inner_e e) ∷ qs)
        → inner_first R u (map (node_of text) (nodes_e u e)) ≡ true
    root-first e u qs a s =
        let q = u + inner_e e in
        let z : none_between u q R ≡ true = s u q (omega arith) ∙ rw (root-last q u, ascend-none u q (suc q) qs (omega arith) a) in
        ordered text R u q z u (nodes_e u e) (exp-parts text e u) (omega (arith, length-nodes_e u e))

    good-value : (x : is.Name) (e : Exp) (u : ℕ) (r : List Node) → Good (u + (inner_f (is.value_is x e) + 1)) r
        → Good u (nodes_f u (is.value_is x e) ++ r)
    good-value x e u r g =
        let q = u + inner_e e in
        let d = is.value_is x e in
        let t = tasks-value_is u x e r in
        let a : Ascend (suc q) (roots r) = ascend-weaken (u + (inner_f d + 1)) (suc q) (roots r) (omega arith) g.ascend in
        record {
          ascend = subst (λ z. Ascend u (roots_of z close)) (sym t) (omega arith, a);
          first = λ s.
              let s1 : Same u (q ∷ roots r) = λ k j b. subst (λ z. none_between k j R ≡ none_between k j (roots_of z close)) t (s k j b) in
              let s2 : Same (u + (inner_f d + 1)) (roots r) = λ k j b. s1 k j (omega arith) ∙ rw (root-passed q k j (omega arith)) in
              let y = node.Item (item.ValueIs (span_of x) q) in
              let f : inner_first R u (map (node_of text) (nodes_e u e ++ (y ∷ [])))
              ≡ true = first-append text R u (inner_e e + 1) (nodes_e u e) (y ∷ []) (length-nodes_e u e)
              (root-first e u (roots r) a s1) refl in
              first-append text R u (inner_f d + 1) (nodes_f u d) r (length-nodes_f u d) f (g.first s2);
        }

    good-closing : (e : Exp) (u : ℕ) → close ≡ u + inner_e e → Good u (nodes_e u e)
    good-closing e u c =
        let t : tasks_of text (nodes_e u e) ≡ [] = no-task e u in
        record {
          ascend = subst (λ z. Ascend u (roots_of z close)) (sym t) (omega arith, tt);
          first = λ s. root-first e u [] tt (λ k j b. s k j b ∙ (ap (λ z. none_between k j (roots_of z close)) t
              ∙ ap (λ z. none_between k j (z ∷ [])) c));
        }

    -- a type, then an item that is no task
    behind-type : (a : WrittenType) (u : ℕ) (n : Node) (r : List Node) → tasks_of text (n ∷ r) ≡ tasks_of text r → node_of text n
        ≡ language.no_node → Good (u + ((inner_t a + 1) + 1)) r → Good u ((nodes_t u a ++ (n ∷ [])) ++ r)
    behind-type a u n r t e g =
        let v = u + (inner_t a + 1) in
        let i : v + 1 ≡ u + ((inner_t a + 1) + 1) = omega arith in
        subst (Good u) (sym (append_assoc (nodes_t u a) (n ∷ []) r)) (good-type a u (n ∷ r)
        (good-item v n r t e (subst (λ z. Good z r) (sym i) g)))

    good-D : (d : Declaration) (u : ℕ) (r : List Node) → Good (u + (inner_d d + 1)) r → Good u (nodes_d u d ++ r)
    unfolding tasks_of
    good-D (is.opaque_type at t) u r g = good-item u _ r refl refl g
    good-D (is.transparent_type at t a) u r g = behind-type a u _ r refl refl g
    good-D (is.value_of_type x a) u r g = behind-type a u _ r refl refl g

    good-F : (d : Definition) (u : ℕ) (r : List Node) → Good (u + (inner_f d + 1)) r → Good u (nodes_f u d ++ r)
    unfolding tasks_of
    good-F (is.type_is at t a) u r g = behind-type a u _ r refl refl g
    good-F (is.value_is x e) u r g = good-value x e u r g

    good-all : {A : Type 0} (inner : A → ℕ) (nodes : ℕ → A → List Node) → ((a : A) (u : ℕ) (r : List Node) → Good (u + (inner a + 1)) r
        → Good u (nodes u a ++ r))
        → (l : List A) (u : ℕ) (r : List Node) → Good (u + places inner l) r → Good u (nodes_of inner nodes u l ++ r)
    good-all inner nodes f [] u r g = let i : u + 0 ≡ u = omega arith in subst (λ z. Good z r) i g
    good-all inner nodes f (a ∷ l) u r g =
        let v = u + (inner a + 1) in
        let i : u + ((inner a + 1) + places inner l) ≡ v + places inner l = omega arith in
        subst (Good u) (sym (append_assoc (nodes u a) (nodes_of inner nodes v l) r)) (f a u (nodes_of inner nodes v l ++ r)
        (good-all inner nodes f l v r (subst (λ z. Good z r) i g)))

    -- the node that ends a module has no root
    good-end : (u : ℕ) (m : Module) (r : List Node) → Good (u + 1) r → Good u (node.Item (item.Module m.at (span_of m.name)) ∷ r)
    unfolding tasks_of
    good-end u m r g =
        record {
          ascend = ascend-weaken (u + 1) u (roots r) (omega arith) g.ascend;
          first = λ s. first-append text R u 1 (node.Item (item.Module m.at (span_of m.name)) ∷ []) r refl refl
              (g.first (λ k j b. s k j (omega arith)));
        }

    good-M : (m : Module) (u : ℕ) (r : List Node) → Good (u + (inner_m m + 1)) r → Good u (nodes_m u m ++ r)
    good-M m u r g =
        let ds = m.interface in
        let fs = m.body in
        let w = u + places inner_d ds in
        let z = w + places inner_f fs in
        let x = node.Item (item.Module m.at (span_of m.name)) in
        let xs = nodes_of inner_d nodes_d u ds in
        let ys = nodes_of inner_f nodes_f w fs in
        let i : z + 1 ≡ u + (inner_m m + 1) = omega arith in
        let e : (xs ++ (ys ++ (x ∷ []))) ++ r ≡ xs ++ (ys ++ (x ∷ r)) = append_assoc xs (ys ++ (x ∷ [])) r
        ∙ ap (λ k. xs ++ k) (append_assoc ys (x ∷ []) r) in
        subst (Good u) (sym e) (good-all inner_d nodes_d good-D ds u (ys ++ (x ∷ r)) (good-all inner_f nodes_f good-F fs w (x ∷ r)
        (good-end z m r (subst (λ k. Good k r) (sym i) g))))

    good-S : (s : Sheet) → close ≡ close_of s → Good 0 (nodes_s s)
    good-S s c =
        let n = places inner_m s.modules in
        let i : 0 + n ≡ n = omega arith in
        good-all inner_m nodes_m good-M s.modules 0 (nodes_e n s.closing) (subst (λ z. Good z (nodes_e n s.closing)) (sym i)
        (good-closing s.closing n c))

  pub plan-of : (s : Sheet) → SpelledS text s → SheetStands (plan_of text (nodes_s s) (close_of s)) (plain s)
  plan-of s sp =
      let ms = s.modules in
      let n = places inner_m ms in
      let ns = nodes_s s in
      let tail = nodes_e n s.closing in
      let whole : Stand ns 0 ns = subst (λ z. Stand z 0 ns) (append-nil ns) (stand-put [] ns []) in
      let st = stand-append ns 0 n (nodes_of inner_m nodes_m 0 ms) tail (length-nodes_of inner_m nodes_m length-nodes_m 0 ms) whole in
      let i : 0 + n ≡ n = omega arith in
      let g = good-S (roots_of (tasks_of text ns) (close_of s)) (close_of s) s refl in
      record {
        modules_stand = modules-plan ns ms 0 tail (no-task s.closing n) sp.0 st.0;
        closing_stands = exp-plan s.closing n ns sp.1 (subst (λ z. Stand ns z tail) i st.1);
        roots_ascend = ascends 0 (roots_of (tasks_of text ns) (close_of s)) g.ascend;
        inner_parts_first = g.first (λ k j b. refl);
      }

pub plan-stands : PlanStands
plan-stands n text s e h = plan-of text s (reads-spelled n text s e h)

pub read-holds : ReadHolds
read-holds text tree close h = go (reading 65535 text) refl h.0
  where
    go : (o : Out Sheet) → reading 65535 text ≡ o → tree ≡ nodes_read o → Holds text tree close
    go (bad k e) i t = let l = h.1 in absurd (omega (arith, ap length t))
    go (good s e) i t =
        let l = (exactly 65535 text s e).0 i in
        let c : close ≡ close_of s = omega (arith, ap length t, h.1, length-nodes_s s) in
        let p : SheetStands (plan_of text tree close) (plain s) = subst (λ z. SheetStands (plan_of text tree z) (plain s)) (sym c)
        (subst (λ z. SheetStands (plan_of text z (close_of s)) (plain s)) (sym t) (plan-stands 65535 text s e i)) in
        let a : sheet_at text (nodes_s s) (close_of s) ≡ Some s = subst (λ z. sheet_at text z (close_of s)
        ≡ Some s) (append-nil (nodes_s s)) (sheet-laid text s 0 l.nests (reads-spelled 65535 text s e i)) in
        record {
          sheet = s;
          lawful = at_length 65535 text s e l;
          nodes = t;
          stands = subst (λ z. sheet_at text tree z
              ≡ Some s) (sym c) (subst (λ z. sheet_at text z (close_of s) ≡ Some s) (sym t) a);
          plan = p;
        }
