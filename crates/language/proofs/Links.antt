-- As many links as there are places are enough: a search that follows more finds no more.
use Rattle.std.proofs.Common.{◌≡◌, ℕ, zero, suc, ◌<◌, ◌≤◌, Bool, true, false, cond, eqb, ◌≢◌, ◌⊎◌, List, [], ◌∷◌, length, sym, refl, ap, ◌∙◌, inl, inr, arith, eqb→eq}
use mathlib.Core.List.{Memᴰ}
use mathlib.Core.Option.{Option, none, some}
use native.Mathlib.Decide.{dec_le}
use lib.Dec.{eqb_refl}
use Rattle.words.specs.Names.{Name, same_name}
use Rattle.language.specs.Names.{lookup}
use Rattle.language.specs.Scopes.{Scope, table_limit, Linked, linked, follow, chain, nearest_in}
use Rattle.language.specs.Machine.{Value, Cell, blank_cell, value_cell, letrec_cell, cell_at, held, held_at, LinksEnough}
use Rattle.language.proofs.Same.{T_true}
use Rattle.language.proofs.Moves.{cell-in-range, value-is-not-blank, letrec-is-not-blank}

-- the list without i, one shorter
abbrev Less : ℕ → List ℕ → Type 0
Less i ps = (qs : List ℕ) × (length ps ≡ suc (length qs)) × ((k : ℕ) → k ≢ i → Memᴰ k ps → Memᴰ k qs)

take_out : (i : ℕ) (ps : List ℕ) → Memᴰ i ps → Less i ps
take_out i [] m = elim m [ ]
take_out i (p ∷ ps) (Memᴰ.head q) = (ps, refl, λ k ne m. go k ne m)
  where
    go : (k : ℕ) → k ≢ i → Memᴰ k (p ∷ ps) → Memᴰ k ps
    go k ne (Memᴰ.head r) = absurd (ne (r ∙ sym q))
    go k ne (Memᴰ.tail m) = m
take_out i (p ∷ ps) (Memᴰ.tail m) =
    let (qs, l, f) = take_out i ps m in (p ∷ qs, ap suc l, λ k ne n. go qs f k ne n)
  where
    go : (qs : List ℕ) → ((k : ℕ) → k ≢ i → Memᴰ k ps → Memᴰ k qs) → (k : ℕ) → k ≢ i → Memᴰ k (p ∷ ps) →
        Memᴰ k (p ∷ qs)
    go qs f k ne (Memᴰ.head r) = Memᴰ.head r
    go qs f k ne (Memᴰ.tail m) = Memᴰ.tail (f k ne m)

-- the places below n
abbrev below : ℕ → List ℕ
below zero = []
below (suc n) = n ∷ below n

below_length : (n : ℕ) → length (below n) ≡ n
below_length zero = refl
below_length (suc n) = ap suc (below_length n)

below-has : (n k : ℕ) → k < n → Memᴰ k (below n)
below-has zero k h = absurd (omega arith)
below-has (suc n) k h = elim (dec_le n k) [ yes l ↦ Memᴰ.head (omega arith) | no l ↦ Memᴰ.tail (below-has n k (omega arith)) ]

module _ {A : Type 0} (x : Name) where
  -- what a search finds that follows so many links
  abbrev found : (ℕ → Option (Linked A)) → ℕ → Scope → Option A
  found h n s = lookup (chain h n s) x

  -- the table without place i
  abbrev remove : (ℕ → Option (Linked A)) → ℕ → ℕ → Option (Linked A)
  remove h i k = cond (eqb k i) none (h k)

  -- ── a search that finds avoids place i, or comes through it ──

  abbrev Passed : (ℕ → Option (Linked A)) → ℕ → ℕ → Scope → A → Type 0
  Passed h i n s v = (found (remove h i) n s ≡ some v) ⊎ ((k : ℕ) × (k ≤ n) × (found h k (suc i) ≡ some v))

  pass_on : (h : ℕ → Option (Linked A)) (i n : ℕ) (o : Scope) (v : A) → Passed h i n o v →
      (lookup (chain (remove h i) n o) x ≡ some v) ⊎ ((k : ℕ) × (k ≤ suc n) × (found h k (suc i) ≡ some v))
  pass_on h i n o v (inl r) = inl r
  pass_on h i n o v (inr (k, l, f)) = inr (k, omega arith, f)

  pass_step : (h : ℕ → Option (Linked A)) (i n j : ℕ) (v : A) (b : Bool) → eqb j i ≡ b → (m : Option (Linked A)) → h j ≡ m →
      ((o : Scope) → found h n o ≡ some v → Passed h i n o v) → lookup (follow m (chain h n)) x ≡ some v →
      (lookup (follow (cond b none m) (chain (remove h i) n)) x ≡ some v) ⊎ ((k : ℕ) × (k ≤ suc n) × (found h k (suc i) ≡ some v))
  pass_step h i n j v true e m q rec f =
      let same : j ≡ i = eqb→eq j i (rw e tt) in
      let here : h i ≡ m = rw same at q in
      inr (suc n, omega arith, rw here f)
  pass_step h i n j v false e none q rec f = let z : ◌≡◌ {A = ℕ} 0 1 = cc in absurd (omega arith)
  pass_step h i n j v false e (some (linked y a o)) q rec f = go (same_name y x) refl f
    where
      go : (t : Bool) → same_name y x ≡ t → cond t (some a) (lookup (chain h n o) x) ≡ some v →
          (cond t (some a) (lookup (chain (remove h i) n o) x) ≡ some v) ⊎ ((k : ℕ) × (k ≤ suc n) × (found h k (suc i) ≡ some v))
      go true t g = inl g
      go false t g = pass_on h i n o v (rec o g)

  pass : (h : ℕ → Option (Linked A)) (i n : ℕ) (s : Scope) (v : A) → found h n s ≡ some v → Passed h i n s v
  pass h i zero s v f = let z : ◌≡◌ {A = ℕ} 0 1 = cc in absurd (omega arith)
  pass h i (suc n) zero v f = let z : ◌≡◌ {A = ℕ} 0 1 = cc in absurd (omega arith)
  pass h i (suc n) (suc j) v f = pass_step h i n j v (eqb j i) refl (h j) refl (λ o g. pass h i n o v g) f

  -- ── what is found without a place is found with it, and with more links too ──

  with-step : (h : ℕ → Option (Linked A)) (i n : ℕ) (v : A) (b : Bool) (m : Option (Linked A)) →
      ((o : Scope) → found (remove h i) n o ≡ some v → found h n o ≡ some v) →
      lookup (follow (cond b none m) (chain (remove h i) n)) x ≡ some v → lookup (follow m (chain h n)) x ≡ some v
  with-step h i n v true m rec f = cc
  with-step h i n v false none rec f = cc
  with-step h i n v false (some (linked y a o)) rec f = go (same_name y x) f
    where
      go : (t : Bool) → cond t (some a) (lookup (chain (remove h i) n o) x) ≡ some v → cond t (some a) (lookup (chain h n o) x) ≡ some v
      go true g = g
      go false g = rec o g

  with-place : (h : ℕ → Option (Linked A)) (i n : ℕ) (s : Scope) (v : A) → found (remove h i) n s ≡ some v → found h n s ≡ some v
  with-place h i zero s v f = f
  with-place h i (suc n) zero v f = f
  with-place h i (suc n) (suc j) v f = with-step h i n v (eqb j i) (h j) (λ o g. with-place h i n o v g) f

  more-step : (h : ℕ → Option (Linked A)) (n k : ℕ) (v : A) (m : Option (Linked A)) →
      ((o : Scope) → found h n o ≡ some v → found h k o ≡ some v) → lookup (follow m (chain h n)) x ≡ some v →
      lookup (follow m (chain h k)) x ≡ some v
  more-step h n k v none rec f = f
  more-step h n k v (some (linked y a o)) rec f = go (same_name y x) f
    where
      go : (t : Bool) → cond t (some a) (lookup (chain h n o) x) ≡ some v → cond t (some a) (lookup (chain h k o) x) ≡ some v
      go true g = g
      go false g = rec o g

  more-links : (h : ℕ → Option (Linked A)) (n k : ℕ) (s : Scope) (v : A) → n ≤ k → found h n s ≡ some v → found h k s ≡ some v
  more-links h zero k s v l f = cc
  more-links h (suc n) zero s v l f = absurd (omega arith)
  more-links h (suc n) (suc k) zero v l f = f
  more-links h (suc n) (suc k) (suc j) v l f = more-step h n k v (h j) (λ o g. more-links h n k o v (omega arith) g) f

  -- ── places ──

  -- what is held is held at these places
  abbrev Only : (ℕ → Option (Linked A)) → List ℕ → Type 0
  Only h ps = (k : ℕ) (l : Linked A) → h k ≡ some l → Memᴰ k ps

  only-less : (h : ℕ → Option (Linked A)) (i : ℕ) (ps qs : List ℕ) → Only h ps → ((k : ℕ) → k ≢ i → Memᴰ k ps → Memᴰ k qs) →
      Only (remove h i) qs
  only-less h i ps qs f g k l q = go (eqb k i) refl q
    where
      go : (b : Bool) → eqb k i ≡ b → cond b none (h k) ≡ some l → Memᴰ k qs
      go true e r = let z : ◌≡◌ {A = ℕ} 0 1 = cc in absurd (omega arith)
      go false e r = g k (λ same. apart same e) (f k l r)
        where
          apart : k ≡ i → eqb k i ≡ false → ⊥
          apart same e = let t : eqb i i ≡ true = T_true (eqb i i) (eqb_refl i) in let u : eqb k i ≡ true = rw same t in
              let z : ◌≡◌ {A = ℕ} 0 1 = cc in omega arith

  -- ── enough ──

  -- ps has the places; b bounds the links
  enough-step : (h : ℕ → Option (Linked A)) (ps : List ℕ) (n i : ℕ) (v : A) (m : Option (Linked A)) → h i ≡ m → Only h ps →
      ((qs : List ℕ) (h' : ℕ → Option (Linked A)) → length ps ≡ suc (length qs) → Only h' qs → (k : ℕ) (s : Scope) →
      found h' k s ≡ some v → found h' (length qs) s ≡ some v) →
      ((k : ℕ) → k ≤ n → found h k (suc i) ≡ some v → found h (length ps) (suc i) ≡ some v) → lookup (follow m (chain h n)) x ≡ some v →
      found h (length ps) (suc i) ≡ some v
  enough-step h ps n i v none q on fewer shorter f = cc
  enough-step h ps n i v (some (linked y a o)) q on fewer shorter f =
      let (qs, l, g) = take_out i ps (on i (linked y a o) q) in
      go (same_name y x) refl f qs l g
    where
      go : (t : Bool) → same_name y x ≡ t → cond t (some a) (lookup (chain h n o) x) ≡ some v → (qs : List ℕ) →
          length ps ≡ suc (length qs) → ((k : ℕ) → k ≢ i → Memᴰ k ps → Memᴰ k qs) → found h (length ps) (suc i) ≡ some v
      go true t f qs l g = rw (l, q, t) f
      go false t f qs l g = next (pass h i n o v f)
        where
          next : Passed h i n o v → found h (length ps) (suc i) ≡ some v
          next (inl r) = rw (l, q, t) (with-place h i (length qs) o v (fewer qs (remove h i) l (only-less h i ps qs on g) n o r))
          next (inr (k, le, r)) = shorter k le r

  enough : (c : ℕ) (ps : List ℕ) (h : ℕ → Option (Linked A)) → length ps ≡ c → Only h ps → (b n : ℕ) → n ≤ b → (s : Scope) (v : A) →
      found h n s ≡ some v → found h (length ps) s ≡ some v
  enough c ps h lc on b zero l s v f = let z : ◌≡◌ {A = ℕ} 0 1 = cc in absurd (omega arith)
  enough c ps h lc on b (suc n) l zero v f = let z : ◌≡◌ {A = ℕ} 0 1 = cc in absurd (omega arith)
  enough c ps h lc on zero (suc n) l (suc i) v f = absurd (omega arith)
  enough zero ps h lc on (suc b) (suc n) l (suc i) v f =
      enough-step h ps n i v (h i) refl on (λ qs h' e on' k s r. absurd (omega arith))
      (λ k le r. enough zero ps h lc on b k (omega arith) (suc i) v r) f
  enough (suc c) ps h lc on (suc b) (suc n) l (suc i) v f =
      enough-step h ps n i v (h i) refl on (λ qs h' e on' k s r. enough c qs h' (omega arith) on' k k (omega arith) s v r)
      (λ k le r. enough (suc c) ps h lc on b k (omega arith) (suc i) v r) f

  -- with places below c alone, c links are enough
  pub enough-links : (c n : ℕ) (h : ℕ → Option (Linked A)) → ((k : ℕ) (l : Linked A) → h k ≡ some l → k < c) → c ≤ n → (s : Scope) →
      found h n s ≡ found h c s
  enough-links c n h f le s = go (found h n s) refl (found h c s) refl
    where
      down : (v : A) → found h n s ≡ some v → found h c s ≡ some v
      down v q = rw (below_length c) at
          (enough c (below c) h (below_length c) (λ k l e. below-has c k (f k l e)) n n (omega arith) s v q)

      go : (a : Option A) → found h n s ≡ a → (b : Option A) → found h c s ≡ b → a ≡ b
      go none p none q = refl
      go none p (some v) q = let r : found h n s ≡ some v = more-links h c n s v le q in cc
      go (some v) p b q = let r : found h c s ≡ some v = down v p in cc

cell-held : (cs : List Cell) (k : ℕ) (c : Cell) → cell_at cs k ≡ c → (l : Linked Value) → held c k ≡ some l → k < length cs
cell-held cs k blank_cell q l h = let z : ◌≡◌ {A = ℕ} 0 1 = cc in absurd (omega arith)
cell-held cs k (value_cell x v o) q l h = cell-in-range cs k (value_cell x v o) q (value-is-not-blank x v o)
cell-held cs k (letrec_cell f j o) q l h = cell-in-range cs k (letrec_cell f j o) q (letrec-is-not-blank f j o)

pub links-enough : LinksEnough
unfolding nearest_in
links-enough cs n short le s x =
    enough-links x table_limit n (held_at cs)
    (λ k l h. let r : k < length cs = cell-held cs k (cell_at cs k) refl l h in omega arith) le s
