-- Numbers of types and the types that they tell.
use Rattle.std.proofs.Common.{◌≡◌, ℕ, zero, suc, ◌+◌, ◌<◌, ◌≤◌, min, max, true, false, cond, eqb, ltb, leb, ◌⊎◌, List, [], ◌∷◌, ◌++◌, length, take, drop, set, Some, None, Option, sym, refl, ap, ◌∙◌, subst, inl, inr, ⊎_elim, zero-add, arith, length-append, length-set}
use Rattle.std.specs.List.{slice_get}
use Rattle.std.proofs.lemmas.List.{take_more_set}
use Rattle.std.proofs.lemmas.Bool.{true≢false, eq-eqb, ne_eqb, cases_eq, cases_Bool, cases_lt, ltb-true, lt-ltb, le-ltb, le-leb, lt-leb}
use Rattle.std.proofs.iter.runs.Lists.{slice_get_within, nth_left, nth_seam}
use Rattle.language.specs.declared.spans.Span.{Span}
use Rattle.language.specs.Bindings.{spelled_in}
use Rattle.language.specs.Typing.{ExpandedType, hidden, ◌⇒◌}
use Rattle.language.specs.TypeOf.{same_type}
use Rattle.language.proofs.Agrees.{same-type-refl, same-type-is}
use Rattle.rules.specs.declared.faults.CheckFault.TheVariants.{TooDeep, TypesFull}
use Rattle.rules.specs.Forms.{bad, good}
use Rattle.rules.specs.Rules.{depth, depth_limit, member, entering}
use Rattle.rules.specs.Rules as rules
use Rattle.typing.specs.declared.types.TypeEntry.{TypeEntry}
use Rattle.typing.specs.declared.types.TypeEntry.TheVariants as entry
use Rattle.typing.specs.Tables.{State, or, entry_at, depth_of, sides_of, is_arrow, is_hidden, alike, type_place, found_n, adding, deeper, arrow_n, hide_n}
use Rattle.typing.specs.Stands.{Row, row_int, row_bool, row_hidden, row_arrow, Rows, rows_none, rows_more, Distinct, Stands}
use Rattle.typing.proofs.Alike.{More, Tells, Alike, alike-bad, alike-good, next-refl, want-alike, Both, neither, each}

-- the two tests of depth
depth-test : (n : ℕ) → ltb n 32 ≡ leb (n + 1) 32
depth-test n = ⊎_elim (λ (h : n < 32). lt-ltb n 32 h ∙ sym (le-leb (n + 1) 32 (omega arith)))
    (λ (h : 32 ≤ n). le-ltb n 32 h ∙ sym (lt-leb (n + 1) 32 (omega arith))) (cases_lt n 32)

-- numbers are equal exactly where the types are
pub same-tells : (ts : List ExpandedType) (i j : ℕ) (a b : ExpandedType) → Distinct ts → slice_get ts i ≡ Some a → slice_get ts j ≡ Some b → eqb i j ≡ same_type a b
same-tells ts i j a b d p q =
    ⊎_elim (λ (e : i ≡ j). let x : a ≡ b = cc in eq-eqb i j e ∙ sym (subst (λ z. same_type a z ≡ true) x (same-type-refl a)))
    (λ (n : i ≡ j → ⊥). ne_eqb i j n ∙ ⊎_elim (λ t. absurd (n (d i j a p (subst (λ z. slice_get ts j ≡ Some z) (sym (same-type-is a b t)) q)))) (λ f. sym f) (cases_Bool (same_type a b)))
    (cases_eq i j)

-- the search for the type t of the entry x: it is not there; or it is there, at the place n
abbrev Absent : List ℕ → TypeEntry → ℕ → ExpandedType → List TypeEntry → List ExpandedType → Type 0
Absent text x k t es ts = (type_place text x k es ≡ None) × (member t ts ≡ false)

abbrev Present : List ℕ → TypeEntry → ℕ → ExpandedType → List TypeEntry → List ExpandedType → Type 0
Present text x k t es ts = (n : ℕ) × (type_place text x k es ≡ Some (k + n)) × (member t ts ≡ true) × (slice_get ts n ≡ Some t)

module _ (text : List ℕ) where
  row-depth : {ts : List ExpandedType} {e : TypeEntry} {a : ExpandedType} → Row text ts e a → depth_of e ≡ depth a
  row-depth row_int = refl
  row-depth row_bool = refl
  row-depth (row_hidden p q) = refl
  row-depth (row_arrow p q r) = r

  row-sides : {ts : List ExpandedType} {e : TypeEntry} {a : ExpandedType} → Row text ts e a → Both (λ (k : ℕ × ℕ) (x : ExpandedType × ExpandedType). (slice_get ts k.0 ≡ Some x.0) × (slice_get ts k.1 ≡ Some x.1)) (sides_of e) (rules.sides_of a)
  row-sides row_int = neither
  row-sides row_bool = neither
  row-sides (row_hidden p q) = neither
  row-sides (row_arrow p q r) = each (p, q)

  row_same : {ts : List ExpandedType} {e : TypeEntry} {t : ExpandedType} (i j : ℕ) (a b : ExpandedType) → Distinct ts → slice_get ts i ≡ Some a → slice_get ts j ≡ Some b → Row text ts e t → is_arrow i j e ≡ same_type t (a ⇒ b)
  row_same i j a b d p q row_int = refl
  row_same i j a b d p q row_bool = refl
  row_same i j a b d p q (row_hidden x y) = refl
  row_same {ts} i j a b d p q (row_arrow {i = k} {j = l} {a = x} {b = y} v w z) = rw (same-tells ts k i x a d v p, same-tells ts l j y b d w q)

  hidden-same : {ts : List ExpandedType} {e : TypeEntry} {t : ExpandedType} (m x : Span) → Row text ts e t →
      is_hidden text m x e ≡ same_type t (hidden (spelled_in text m) (spelled_in text x))
  hidden-same m x row_int = refl
  hidden-same m x row_bool = refl
  hidden-same m x (row_hidden p q) = rw (p, q)
  hidden-same m x (row_arrow v w z) = refl

  row_at : {us : List ExpandedType} {es : List TypeEntry} {ts : List ExpandedType} → Rows text us es ts → (i : ℕ) (a : ExpandedType) → slice_get ts i ≡ Some a → Row text us (or entry.Blank (slice_get es i)) a
  row_at rows_none i a e = let z : ◌≡◌ {A = ℕ} 0 1 = cc in absurd (omega arith)
  row_at {us} (rows_more {e = e} {a = b} r rs) zero a p = let x : b ≡ a = cc in subst (λ z. Row text us e z) x r
  row_at (rows_more r rs) (suc i) a p = row_at rs i a p

  row_more : {ts us : List ExpandedType} {e : TypeEntry} {a : ExpandedType} → More ts us → Row text ts e a → Row text us e a
  row_more m row_int = row_int
  row_more m row_bool = row_bool
  row_more m (row_hidden p q) = row_hidden p q
  row_more m (row_arrow p q r) = row_arrow (m _ _ p) (m _ _ q) r

  rows-push : {ts us : List ExpandedType} {es : List TypeEntry} {us' : List ExpandedType} {e : TypeEntry} {a : ExpandedType} → More ts us → Rows text ts es us' → Row text us e a → Rows text us (es ++ e ∷ []) (us' ++ a ∷ [])
  rows-push m rows_none r = rows_more r rows_none
  rows-push m (rows_more x rs) r = rows_more (row_more m x) (rows-push m rs r)

  -- the search for a type's number and for the type
  found : {us : List ExpandedType} {es : List TypeEntry} {ts : List ExpandedType} (x : TypeEntry) (t : ExpandedType) (k : ℕ) →
      ((e : TypeEntry) (u : ExpandedType) → Row text us e u → alike text x e ≡ same_type u t) → Rows text us es ts →
      Absent text x k t es ts ⊎ Present text x k t es ts
  found x t k same rows_none = inl (refl, refl)
  found x t k same (rows_more {e = e} {a = u} r rs) =
      let s = same e u r in
      ⊎_elim (λ (h : same_type u t ≡ true). inr (0, rw (s, h) (ap Some (let z : k ≡ k + 0 = omega arith in z)), rw h, ap Some (same-type-is u t h)))
      (λ (h : same_type u t ≡ false). ⊎_elim
      (λ n. inl (rw (s, h) n.0, rw h n.1))
      (λ y. inr (suc y.0, rw (s, h) (y.1 ∙ ap Some (let z : k + 1 + y.0 ≡ k + suc y.0 = omega arith in z)), rw h y.2, y.3))
      (found x t (k + 1) same rs))
      (cases_Bool (same_type u t))

nth-take : {A : Type 0} (n : ℕ) (xs : List A) (i : ℕ) → i < n → slice_get (take n xs) i ≡ slice_get xs i
nth-take zero xs i h = absurd (omega arith)
nth-take (suc n) [] i h = refl
nth-take (suc n) (x ∷ xs) zero h = refl
nth-take (suc n) (x ∷ xs) (suc i) h = nth-take n xs i (omega arith)

seam : (ts : List ExpandedType) (t : ExpandedType) (i : ℕ) (a : ExpandedType) → slice_get (ts ++ t ∷ []) i ≡ Some a → (slice_get ts i ≡ Some a) ⊎ ((i ≡ length ts) × (t ≡ a))
seam [] t zero a e = let x : t ≡ a = cc in inr (refl, x)
seam [] t (suc i) a e = let z : ◌≡◌ {A = ℕ} 0 1 = cc in absurd (omega arith)
seam (x ∷ ts) t zero a e = inl e
seam (x ∷ ts) t (suc i) a e = ⊎_elim inl (λ p. inr (ap suc p.0, p.1)) (seam ts t i a e)

pub member-at : (ts : List ExpandedType) (i : ℕ) (a : ExpandedType) → slice_get ts i ≡ Some a → member a ts ≡ true
member-at [] i a e = let z : ◌≡◌ {A = ℕ} 0 1 = cc in absurd (omega arith)
member-at (x ∷ ts) zero a e = let p : x ≡ a = cc in rw (p, same-type-refl a)
member-at (x ∷ ts) (suc i) a e = elim (same_type x a) as (λ b. cond b true (member a ts) ≡ true) [ true ↦ refl | false ↦ member-at ts i a e ]

drop-more-set : {A : Type 0} (xs : List A) (n : ℕ) (v : A) → drop (n + 1) (set xs n v) ≡ drop (n + 1) xs
drop-more-set [] n v = refl
drop-more-set (x ∷ xs) zero v = refl
drop-more-set (x ∷ xs) (suc n) v = let e : suc n + 1 ≡ suc (n + 1) = omega arith in rw e (drop-more-set xs n v)

drop-next : {A : Type 0} (n : ℕ) (xs : List A) → drop (n + 1) xs ≡ drop 1 (drop n xs)
drop-next zero xs = refl
drop-next (suc n) [] = let e : suc n + 1 ≡ suc (n + 1) = omega arith in rw e refl
drop-next (suc n) (x ∷ xs) = let e : suc n + 1 ≡ suc (n + 1) = omega arith in rw e (drop-next n xs)

rest-on : {A : Type 0} (n : ℕ) (xs ys : List A) → drop n xs ≡ drop n ys → drop (n + 1) xs ≡ drop (n + 1) ys
rest-on n xs ys e = drop-next n xs ∙ (ap (drop 1) e ∙ sym (drop-next n ys))

pub more-push : (ts : List ExpandedType) (t : ExpandedType) → More ts (ts ++ t ∷ [])
more-push ts t i a e = nth_left ts (t ∷ []) i (slice_get_within ts i a e) ∙ e

distinct_push : (ts : List ExpandedType) (t : ExpandedType) → Distinct ts → member t ts ≡ false → Distinct (ts ++ t ∷ [])
distinct_push ts t d m i j a p q =
    ⊎_elim (λ p. ⊎_elim (λ q. d i j a p q) (λ q. absurd (true≢false (sym (member-at ts i t (subst (λ z. slice_get ts i ≡ Some z) (sym q.1) p)) ∙ m))) (seam ts t j a q))
    (λ p. ⊎_elim (λ q. absurd (true≢false (sym (member-at ts j t (subst (λ z. slice_get ts j ≡ Some z) (sym p.1) q)) ∙ m))) (λ q. p.0 ∙ sym q.0) (seam ts t j a q))
    (seam ts t i a p)

module _ (text : List ℕ) (tp sp : ℕ) (base : List TypeEntry) where
  pub entry_row : (s : State) (ts : List ExpandedType) (i : ℕ) (a : ExpandedType) → Stands text tp sp base s ts → slice_get ts i ≡ Some a → Row text ts (entry_at s.types i) a
  entry_row s ts i a h e =
      subst (λ o. Row text ts (or entry.Blank o) a) (nth-take (length ts) s.types i (slice_get_within ts i a e)) (row_at text h.rows i a e)

  pub entry-sides : (s : State) (ts : List ExpandedType) (i : ℕ) (a : ExpandedType) → Stands text tp sp base s ts → slice_get ts i ≡ Some a →
      Both (λ (k : ℕ × ℕ) (x : ExpandedType × ExpandedType). (slice_get ts k.0 ≡ Some x.0) × (slice_get ts k.1 ≡ Some x.1)) (sides_of (entry_at s.types i)) (rules.sides_of a)
  entry-sides s ts i a h e = row-sides text (entry_row s ts i a h e)

  deeper-is : (s : State) (ts : List ExpandedType) (i j : ℕ) (a b : ExpandedType) → Stands text tp sp base s ts → slice_get ts i ≡ Some a → slice_get ts j ≡ Some b → deeper s i j ≡ max (depth a) (depth b)
  deeper-is s ts i j a b h p q = rw (row-depth text (entry_row s ts i a h p), row-depth text (entry_row s ts j b h q))

  -- one type more
  pushed : (s : State) (ts : List ExpandedType) (x : TypeEntry) (t : ExpandedType) → Stands text tp sp base s ts → Row text ts x t → member t ts ≡ false → length ts < length s.types →
      Stands text tp sp base (record { types = set s.types s.count x; count = s.count + 1; slots = s.slots }) (ts ++ t ∷ [])
  pushed s ts x t h r m l =
      let n : length (ts ++ t ∷ []) ≡ length ts + 1 = length-append ts (t ∷ []) in
      record {
        count = ap (λ k. k + 1) h.count ∙ sym n;
        fits = rw (n, length-set s.types s.count x) (omega arith);
        types_long = rw (length-set s.types s.count x) h.types_long;
        slots_long = h.slots_long;
        rows = rw (n, h.count, take_more_set s.types (length ts) x l) (rows-push text (more-push ts t) h.rows (row_more text (more-push ts t) r));
        rest = rw (n, h.count, drop-more-set s.types (length ts) x) (rest-on (length ts) s.types base h.rest);
        distinct = distinct_push ts t h.distinct m;
      }

  -- one type more, not there yet and not too deep
  pub adding-alike : (at u : ℕ) (s : State) (ts : List ExpandedType) (x : TypeEntry) (t : ExpandedType) → Stands text tp sp base s ts →
      Row text ts x t → member t ts ≡ false → leb (depth t) depth_limit ≡ true →
      Alike text tp sp base Tells u s ts (adding at x s) (entering tp at t ts)
  unfolding adding entering
  adding-alike at u s ts x t h r m d =
      rw (m, d) (want-alike text tp sp base (ltb s.count (min (length s.types) 65535)) (ltb (length ts) tp) (TypesFull at) (TypesFull at) _ _
      (rw (h.count, h.types_long)) refl
      (λ e. let l = ltb-true s.count (min (length s.types) 65535) e in
      alike-good (record { stands = pushed s ts x t h r m (omega (arith, h.count)); more = more-push ts t; front = refl })
      (subst (λ k. slice_get (ts ++ t ∷ []) k ≡ Some t) (sym h.count) (nth_seam ts t))))

  -- a type that is too deep
  deep-alike : (at u : ℕ) (s : State) (ts : List ExpandedType) (t : ExpandedType) → member t ts ≡ false → leb (depth t) depth_limit ≡ false →
      Alike text tp sp base Tells u s ts (bad (TooDeep at)) (entering tp at t ts)
  unfolding entering
  deep-alike at u s ts t m d = rw (m, d) alike-bad

  -- a type that is there
  pub there-alike : (at u n : ℕ) (s : State) (ts : List ExpandedType) (t : ExpandedType) → Stands text tp sp base s ts → member t ts ≡ true →
      slice_get ts n ≡ Some t → Alike text tp sp base Tells u s ts (good n s) (entering tp at t ts)
  unfolding entering
  there-alike at u n s ts t h m e = rw m (alike-good (next-refl text tp sp base u s ts h) e)

  -- the search on the tables
  searched : (s : State) (ts : List ExpandedType) (x : TypeEntry) (o : Option ℕ) → Stands text tp sp base s ts →
      type_place text x 0 (take (length ts) s.types) ≡ o → found_n text x s ≡ o
  unfolding found_n
  searched s ts x o h e = ap (λ (k : ℕ). type_place text x 0 (take k s.types)) h.count ∙ e

  -- the arrow between two types, which are told by i and j
  pub arrow-alike : (at i j : ℕ) (a b : ExpandedType) (u : ℕ) (s : State) (ts : List ExpandedType) → Stands text tp sp base s ts →
      slice_get ts i ≡ Some a → slice_get ts j ≡ Some b → Alike text tp sp base Tells u s ts (arrow_n text at i j s) (entering tp at (a ⇒ b) ts)
  unfolding arrow_n
  arrow-alike at i j a b u s ts h p q =
      let d = deeper-is s ts i j a b h p q in
      ⊎_elim
      (λ (n : Absent text (entry.Arrow i j 0) 0 (a ⇒ b) (take (length ts) s.types) ts).
      rw (searched s ts (entry.Arrow i j 0) None h n.0, d)
      (⊎_elim
      (λ (k : leb (depth (a ⇒ b)) 32 ≡ true). rw (depth-test (max (depth a) (depth b)), k)
      (adding-alike at u s ts (entry.Arrow i j (max (depth a) (depth b) + 1)) (a ⇒ b) h (row_arrow p q refl) n.1 k))
      (λ (k : leb (depth (a ⇒ b)) 32 ≡ false). rw (depth-test (max (depth a) (depth b)), k) (deep-alike at u s ts (a ⇒ b) n.1 k))
      (cases_Bool (leb (depth (a ⇒ b)) 32))))
      (λ (y : Present text (entry.Arrow i j 0) 0 (a ⇒ b) (take (length ts) s.types) ts).
      rw (searched s ts (entry.Arrow i j 0) (Some y.0) h (y.1 ∙ ap Some (zero-add y.0)))
      (there-alike at u y.0 s ts (a ⇒ b) h y.2 y.3))
      (found text (entry.Arrow i j 0) (a ⇒ b) 0 (λ e t r. row_same text i j a b h.distinct p q r) h.rows)

  -- a hidden type
  pub hide-alike : (at : ℕ) (m x : Span) (u : ℕ) (s : State) (ts : List ExpandedType) → Stands text tp sp base s ts →
      Alike text tp sp base Tells u s ts (hide_n text at m x s) (entering tp at (hidden (spelled_in text m) (spelled_in text x)) ts)
  unfolding hide_n
  hide-alike at m x u s ts h =
      let t = hidden (spelled_in text m) (spelled_in text x) in
      ⊎_elim
      (λ (n : Absent text (entry.Hidden m x) 0 t (take (length ts) s.types) ts).
      rw (searched s ts (entry.Hidden m x) None h n.0)
      (adding-alike at u s ts (entry.Hidden m x) t h (row_hidden refl refl) n.1 refl))
      (λ (y : Present text (entry.Hidden m x) 0 t (take (length ts) s.types) ts).
      rw (searched s ts (entry.Hidden m x) (Some y.0) h (y.1 ∙ ap Some (zero-add y.0))) (there-alike at u y.0 s ts t h y.2 y.3))
      (found text (entry.Hidden m x) t 0 (λ e u r. hidden-same text m x r) h.rows)
