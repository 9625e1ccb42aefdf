-- The same words derive one thing at most, and of two derivable beginnings of one word list neither is longer.
use Rattle.std.proofs.Common.{◌≡◌, ℕ, zero, suc, ◌+◌, ◌≤◌, max, List, [], ◌∷◌, ◌++◌, length, drop, sym, refl, ap, ◌∙◌, subst, arith}
use mathlib.Core.List.{nil≢cons, head-eq_of_cons-eq, tail-eq_of_cons-eq}
use Rattle.grammar.specs.Syntax.{places}
use Rattle.grammar.specs.Productions.{Word, Sort, Part, inner, Symbol, one, part, parts, Values, rest}
use Rattle.grammar.specs.Reading.{Out, bad, good, Step, end, word, Source, read_part}
use Rattle.grammar.specs.Derives.{Along, Many, InOrder, Derives}
use Rattle.grammar.proofs.Complete.{many-complete, derives-opens, part-complete}

-- MORE LEVELS
pub many-map : {A : Type 0} (D F : List Word → A → Type 0) → ((ws : List Word) (a : A) → D ws a → F ws a) → (ws : List Word) (r : List A)
    → Many D ws r → Many F ws r
many-map D F f ws [] m = m
many-map D F f ws (a ∷ r) m = (m.0, m.1, m.2, f m.0 a m.3, many-map D F f m.1 r m.4)

pub in_order-map : (D F : (s : Sort) → List Word → Part s → Type 0) → ((s : Sort) (ws : List Word) (a : Part s) → D s ws a → F s ws a)
    → (ss : List Symbol) (ws : List Word) (v : Values ss) → InOrder D ss ws v → InOrder F ss ws v
in_order-map D F f [] ws v i = i
in_order-map D F f (one m ∷ ss) ws v i = (i.0, i.1, i.2, i.3, in_order-map D F f ss i.1 v.1 i.4)
in_order-map D F f (part s ∷ ss) ws v i = (i.0, i.1, i.2, f s i.0 v.0 i.3, in_order-map D F f ss i.1 v.1 i.4)
in_order-map D F f (parts s ∷ ss) ws v i = (
  i.0,
  i.1,
  i.2,
  many-map (D s) (F s) (f s) i.0 v.0 i.3,
  in_order-map D F f ss i.1
      v.1 i.4,
)

pub derives-more : (l k : ℕ) → l ≤ k → (s : Sort) (ws : List Word) (a : Part s) → Derives l s ws a → Derives k s ws a
unfolding Derives
derives-more zero k b s ws a d = absurd d
derives-more (suc l) zero b s ws a d = absurd (omega arith)
derives-more (suc l) (suc k) b s ws a d =
    record {
      form = d.form;
      has = d.has;
      values = d.values;
      head = d.head;
      behind = d.behind;
      all = d.all;
      begins = d.begins;
      goes = in_order-map (Derives l) (Derives k) (derives-more l k (omega arith)) (rest s d.form) d.behind d.values d.goes;
      gives = d.gives;
    }

-- A LIST OF WORDS AS A SOURCE
abbrev pick : List Word → ℕ → Step
pick [] p = end p
pick (w ∷ ws) p = word w (p + 1)

abbrev pub listed : List Word → Source
listed ws p = pick (drop p ws) p

drop-next : (ws : List Word) (p : ℕ) (x : Word) (r : List Word) → drop p ws ≡ x ∷ r → drop (p + 1) ws ≡ r
drop-next ws zero x r e = rw e
drop-next [] (suc p) x r e = absurd (nil≢cons e)
drop-next (y ∷ ws) (suc p) x r e = let i : suc p + 1 ≡ suc (p + 1) = omega arith in rw i (drop-next ws p x r e)

pub along-listed : (ws xs ys : List Word) (p : ℕ) → drop p ws ≡ xs ++ ys → Along (listed ws) p (p + length xs) xs
along-listed ws [] ys p e = omega arith
along-listed ws (x ∷ xs) ys p e =
    let i : p + suc (length xs) ≡ (p + 1) + length xs = omega arith in
    (p + 1, rw e, rw i (along-listed ws xs ys (p + 1) (drop-next ws p x (xs ++ ys) e)))

pub all_listed : (xs ys : List Word) → Along (listed (xs ++ ys)) 0 (length xs) xs
all_listed xs ys = let i : 0 + length xs ≡ length xs = omega arith in rw i at (along-listed (xs ++ ys) xs ys 0 refl)

-- ONE READING
thing : {A : Type 0} → A → Out A → A
thing a (bad k e) = a
thing a (good b q) = b

behind : {A : Type 0} → Out A → ℕ
behind (bad k e) = 0
behind (good b q) = q

pub good-thing : {A : Type 0} (a b : A) (p q : ℕ) → good a p ≡ good b q → a ≡ b
unfolding thing
good-thing a b p q e = ap (thing a) e

pub good-behind : {A : Type 0} (a b : A) (p q : ℕ) → good a p ≡ good b q → p ≡ q
unfolding behind
good-behind a b p q e = ap behind e

pub same_length : (xs ys r s : List Word) → length xs ≡ length ys → xs ++ r ≡ ys ++ s → xs ≡ ys
same_length [] [] r s l e = refl
same_length [] (y ∷ ys) r s l e = absurd (omega arith)
same_length (x ∷ xs) [] r s l e = absurd (omega arith)
same_length (x ∷ xs) (y ∷ ys) r s l e =
    let h : x ≡ y = head-eq_of_cons-eq e in
    let t : xs ≡ ys = same_length xs ys r s (omega arith) (tail-eq_of_cons-eq e) in
    rw (h, t)

module _ (s : Sort) (xs ys r t : List Word) (e : xs ++ r ≡ ys ++ t) where
  pub part-once : (l k : ℕ) (a b : Part s) → Derives l s xs a → Derives k s ys b → (xs ≡ ys) × (a ≡ b)
  part-once l k a b d f =
      let n = inner s a + inner s b + 1 in
      let i = part-complete (max l k) (listed (xs ++ r)) n s 0 0 (length xs) xs a (derives-more l (max l k) (omega arith) s xs a d)
      (all_listed xs r) (omega arith) in
      let j = part-complete (max l k) (listed (xs ++ r)) n s 0 0 (length ys) ys b (derives-more k (max l k) (omega arith) s ys b f)
      (subst (λ z. Along (listed z) 0 (length ys) ys) (sym e) (all_listed ys t)) (omega arith) in
      let g : good a (length xs) ≡ good b (length ys) = sym i ∙ j in
      (same_length xs ys r t (good-behind a b (length xs) (length ys) g) e, good-thing a b (length xs) (length ys) g)

  pub many-once : (l k : ℕ) (a b : List (Part s)) → Many (Derives l s) xs a → Many (Derives k s) ys b → (xs ≡ ys) × (a ≡ b)
  many-once l k a b d f =
      let n = places (inner s) a + places (inner s) b + 1 in
      let m = max l k in
      let whole = part-complete m (listed (xs ++ r)) n s in
      let rd = read_part m (listed (xs ++ r)) n s in
      let i = many-complete (Derives m s) (listed (xs ++ r)) n (inner s) rd (derives-opens m s) whole a n 0 0 (length xs) xs
      (many-map (Derives l s) (Derives m s) (derives-more l m (omega arith) s) xs a d) (all_listed xs r) (omega arith) (omega arith) in
      let j = many-complete (Derives m s) (listed (xs ++ r)) n (inner s) rd (derives-opens m s) whole b n 0 0 (length ys) ys
      (many-map (Derives k s) (Derives m s) (derives-more k m (omega arith) s) ys b f)
      (subst (λ z. Along (listed z) 0 (length ys) ys) (sym e) (all_listed ys t)) (omega arith) (omega arith) in
      let g : good a (length xs) ≡ good b (length ys) = sym i ∙ j in
      (same_length xs ys r t (good-behind a b (length xs) (length ys) g) e, good-thing a b (length xs) (length ys) g)
