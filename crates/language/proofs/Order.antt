-- On a tree whose inner parts stand first, a part sees what the expression sees that it belongs to.
use Rattle.std.proofs.Common.{◌≡◌, ℕ, zero, suc, ◌+◌, ◌<◌, ◌≤◌, Bool, true, false, cond, ◌&&◌, ltb, leb, List, [], ◌∷◌, get_or, refl, arith, le→leb, ltb→lt, leb→le}
use mathlib.Core.List.{Memᴰ}
use mathlib.Core.Option.{Option, none, some}
use lib.Dec.{nleb→lt}
use Rattle.language.specs.Typing.{Environment}
use Rattle.language.specs.Tree.{
  Part,
  Node,
  no_node,
  node_at,
  children,
  Task,
  define,
  end_module,
  roots_of,
  all_behind,
  ascending,
  none_between,
  parts_before,
  inner_first,
}
use Rattle.language.specs.Points.{point, points_of, environment_at, PartsSee}
use Rattle.language.proofs.Same.{both_true, T_true}

lt_of : (j q : ℕ) → ltb j q ≡ true → j < q
lt_of j q h = ltb→lt j q (rw h tt)

le_of : (j q : ℕ) → leb j q ≡ true → j ≤ q
le_of j q h = leb→le j q (rw h tt)

leb-is : (j q : ℕ) → j ≤ q → leb j q ≡ true
leb-is j q h = T_true (leb j q) (le→leb j q h)

not-leb : (j q : ℕ) → q < j → leb j q ≡ false
not-leb j q h = go (leb j q) refl
  where
    go : (b : Bool) → leb j q ≡ b → b ≡ false
    go true e = let k : j ≤ q = le_of j q e in absurd (omega arith)
    go false e = refl

ltb-is : (j q : ℕ) → j < q → ltb j q ≡ true
ltb-is j q h = leb-is (suc j) q h

lt-of-not : (j q : ℕ) → leb j q ≡ false → q < j
lt-of-not j q h = nleb→lt j q (rw h tt)

-- one more root before: where none stands between k and j, both see the same
one_more : (q j k : Part) (a e : Environment) (at_j at-k : Option Environment) → k < j → cond (ltb q j) (ltb q k) true ≡ true →
    (at_j ≡ some e → at-k ≡ some e) → cond (leb j q) (some a) at_j ≡ some e → cond (leb k q) (some a) at-k ≡ some e
one_more q j k a e at_j at-k h b f g = go (leb j q) refl g
  where
    go : (t : Bool) → leb j q ≡ t → cond t (some a) at_j ≡ some e → cond (leb k q) (some a) at-k ≡ some e
    go true m u = let le : j ≤ q = le_of j q m in rw (leb-is k q (omega arith)) u
    go false m u =
        let lt : q < j = lt-of-not j q m in
        let c : ltb q k ≡ true = rw (ltb-is q j lt) at b in
        rw (not-leb k q (lt_of q k c)) (f u)

part-sees : (tasks : List Task) (close : Part) (es : List Environment) (j k : Part) (e : Environment) → k < j →
    none_between k j (roots_of tasks close) ≡ true → environment_at (points_of tasks close es) j ≡ some e →
    environment_at (points_of tasks close es) k ≡ some e
part-sees [] close [] j k e h b f = cc
part-sees [] close (a ∷ es) j k e h b f =
    one_more close j k a e none none h (both_true (cond (ltb close j) (ltb close k) true) true b).0 (λ u. u) f
part-sees (define x q ∷ ts) close [] j k e h b f = cc
part-sees (define x q ∷ ts) close (a ∷ es) j k e h b f =
    let (c, d) = both_true (cond (ltb q j) (ltb q k) true) (none_between k j (roots_of ts close)) b in
    one_more q j k a e (environment_at (points_of ts close es) j) (environment_at (points_of ts close es) k) h c
    (part-sees ts close es j k e h d) f
part-sees (end_module m ∷ ts) close es j k e h b f = part-sees ts close es j k e h b f

part-before : (roots : List Part) (j k : Part) (ks : List Part) → parts_before roots j ks ≡ true → Memᴰ k ks → (k < j) ×
    (none_between k j roots ≡ true)
part-before roots j k [] h m = elim m [ ]
part-before roots j k (i ∷ ks) h (Memᴰ.head q) =
    let (a, b) = both_true (ltb i j && none_between i j roots) (parts_before roots j ks) h in
    let (c, d) = both_true (ltb i j) (none_between i j roots) a in
    rw q (lt_of i j c, d)
part-before roots j k (i ∷ ks) h (Memᴰ.tail m) =
    part-before roots j k ks (both_true (ltb i j && none_between i j roots) (parts_before roots j ks) h).1 m

node-before : (roots : List Part) (i : Part) (tree : List Node) (j : ℕ) → inner_first roots i tree ≡ true →
    parts_before roots (i + j) (children (get_or tree j no_node)) ≡ true
node-before roots i [] j h = refl
node-before roots i (n ∷ ns) zero h =
    let z : i + 0 ≡ i = omega arith in
    rw z (both_true (parts_before roots i (children n)) (inner_first roots (suc i) ns) h).0
node-before roots i (n ∷ ns) (suc j) h =
    let z : i + suc j ≡ suc i + j = omega arith in
    rw z (node-before roots (suc i) ns j (both_true (parts_before roots i (children n)) (inner_first roots (suc i) ns) h).1)

-- each part belongs to the same expression as the parts that it has
pub parts-see : (tree : List Node) (tasks : List Task) (close : Part) (es : List Environment) →
    inner_first (roots_of tasks close) 0 tree ≡ true → (j k : Part) (e : Environment) → Memᴰ k (children (node_at tree j)) →
    environment_at (points_of tasks close es) j ≡ some e → environment_at (points_of tasks close es) k ≡ some e
parts-see tree tasks close es h j k e m f =
    let z : 0 + j ≡ j = omega arith in
    let (a, b) = part-before (roots_of tasks close) j k (children (node_at tree j))
    (rw z at (node-before (roots_of tasks close) 0 tree j h)) m in
    part-sees tasks close es j k e a b f

behind-all : (q : Part) (tasks : List Task) (close : Part) (es : List Environment) (j : Part) (e : Environment) →
    all_behind q (roots_of tasks close) ≡ true → Memᴰ (point j e) (points_of tasks close es) → q < j
behind-all q [] close [] j e h m = elim m [ ]
behind-all q [] close (a ∷ es) j e h (Memᴰ.tail m) = elim m [ ]
behind-all q (define x i ∷ ts) close [] j e h m = elim m [ ]
behind-all q [] close (a ∷ es) j e h (Memᴰ.head m) =
    let z : j ≡ close = cc in rw z (lt_of q close (both_true (ltb q close) true h).0)
behind-all q (define x i ∷ ts) close (a ∷ es) j e h (Memᴰ.head m) =
    let z : j ≡ i = cc in rw z (lt_of q i (both_true (ltb q i) (all_behind q (roots_of ts close)) h).0)
behind-all q (define x i ∷ ts) close (a ∷ es) j e h (Memᴰ.tail m) =
    behind-all q ts close es j e (both_true (ltb q i) (all_behind q (roots_of ts close)) h).1 m
behind-all q (end_module n ∷ ts) close es j e h m = behind-all q ts close es j e h m

-- a definition's expression or the closing one sees what it is listed with
pub root-sees : (tasks : List Task) (close : Part) (es : List Environment) → ascending (roots_of tasks close) ≡ true →
    (j : Part) (e : Environment) → Memᴰ (point j e) (points_of tasks close es) → environment_at (points_of tasks close es) j ≡ some e
root-sees [] close [] h j e m = elim m [ ]
root-sees [] close (a ∷ es) h j e (Memᴰ.tail m) = elim m [ ]
root-sees (define x q ∷ ts) close [] h j e m = elim m [ ]
root-sees [] close (a ∷ es) h j e (Memᴰ.head m) =
    let z : close ≡ j = cc in let y : a ≡ e = cc in rw (z, leb-is j j (omega arith), y) refl
root-sees (define x q ∷ ts) close (a ∷ es) h j e (Memᴰ.head m) =
    let z : q ≡ j = cc in let y : a ≡ e = cc in rw (z, leb-is j j (omega arith), y) refl
root-sees (define x q ∷ ts) close (a ∷ es) h j e (Memᴰ.tail m) =
    let (b, c) = both_true (all_behind q (roots_of ts close)) (ascending (roots_of ts close)) h in
    rw (not-leb j q (behind-all q ts close es j e b m)) (root-sees ts close es c j e m)
root-sees (end_module n ∷ ts) close es h j e m = root-sees ts close es h j e m

pub all-parts-see : PartsSee
all-parts-see plan sheet st es =
    (root-sees plan.tasks plan.close es st.roots_ascend, parts-see plan.tree plan.tasks plan.close es st.inner_parts_first)
