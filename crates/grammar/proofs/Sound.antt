-- What is read is derived by the words that were read.
use Rattle.std.proofs.Common.{◌≡◌, ℕ, zero, suc, ◌+◌, ◌<◌, ◌≤◌, Bool, true, false, cond, ltb, List, [], ◌∷◌, ◌++◌, sym, refl, ap, subst, arith}
use mathlib.Core.Option.{Option, none, some}
use Rattle.std.proofs.lemmas.Bool.{ltb-true}
use Rattle.words.specs.declared.marks.Mark.TheVariants as mk
use Rattle.grammar.specs.Syntax.{Exp, Sheet, inner_m, places}
use Rattle.grammar.specs.Syntax as is
use Rattle.grammar.specs.Productions.{Word, place_of, Single, Held, takes, Sort, a_type, an_exp, a_declaration, a_definition, a_module, Part}
use Rattle.grammar.specs.Productions.{inner, Symbol, one, part, parts, Values, Form, first, rest, build, Opening, chosen, chosen_of}
use Rattle.grammar.specs.Productions.{first_of, forms, size_v}
use Rattle.grammar.specs.Productions as pr
use Rattle.grammar.specs.Reading.{Out, bad, good, bind, Step, end, word, fault, Source, single, single_of, held, opened, opening_of, closes}
use Rattle.grammar.specs.Reading.{room, many, many_of, in_order, formed, read_part, levels, ended, closed, begins_module, or_else, sheet_from}
use Rattle.grammar.specs.Derives.{Along, Spells, Many, InOrder, Derives, DerivesSheet}

-- P of what was read and the place behind it, if anything was
abbrev pub Of : {A : Type 0} → (A → ℕ → Type 0) → Out A → Type 0
Of P (bad k at) = Unit {0}
Of P (good a q) = P a q

pub of-bind : {A B : Type 0} (P : A → ℕ → Type 0) (Q : B → ℕ → Type 0) (o : Out A) (k : A → ℕ → Out B) → Of P o
    → ((a : A) (q : ℕ) → P a q → Of Q (k a q)) → Of Q (bind o k)
of-bind P Q (bad n at) k h g = tt
of-bind P Q (good a q) k h g = g a q h

pub of_room : {A : Type 0} (P : A → ℕ → Type 0) (n u at : ℕ) (a : A) (q : ℕ) → (u < n → P a q) → Of P (room n u at a q)
of_room P n u at a q g = go (ltb u n) refl
  where
    go : (b : Bool) → ltb u n ≡ b → Of P (cond b (good a q) (bad 21 at))
    go true e = g (ltb-true u n e)
    go false e = tt

pub along-append : (next : Source) (p m q : ℕ) (xs ys : List Word) → Along next p m xs → Along next m q ys → Along next p q (xs ++ ys)
along-append next p m q [] ys h k = subst (λ z. Along next z q ys) (sym h) k
along-append next p m q (x ∷ xs) ys h k = (h.0, h.1, along-append next h.0 m q xs ys h.2 k)

-- the places of the parts of a part
pub inner-build : (s : Sort) (at : ℕ) (f : Form s) (h : Held (first s f)) (v : Values (rest s f)) → inner s (build s at f h v)
    ≡ size_v (rest s f) v
inner-build a_type at pr.t_int h v = refl
inner-build a_type at pr.t_bool h v = refl
inner-build a_type at pr.t_name h v = refl
inner-build a_type at pr.t_from h v = refl
inner-build a_type at pr.t_arrow h v = omega arith
inner-build an_exp at pr.e_number h v = refl
inner-build an_exp at pr.e_true h v = refl
inner-build an_exp at pr.e_false h v = refl
inner-build an_exp at pr.e_name h v = refl
inner-build an_exp at pr.e_from h v = refl
inner-build an_exp at pr.e_zero h v = omega arith
inner-build an_exp at pr.e_apply h v = omega arith
inner-build an_exp at pr.e_proc h v = omega arith
inner-build an_exp at pr.e_let h v = omega arith
inner-build an_exp at pr.e_if h v = omega arith
inner-build an_exp at pr.e_letrec h v = omega arith
inner-build an_exp at (pr.e_op o) h v = omega arith
inner-build a_declaration at pr.d_opaque h v = refl
inner-build a_declaration at pr.d_transparent h v = omega arith
inner-build a_declaration at pr.d_value h v = omega arith
inner-build a_definition at pr.f_type h v = omega arith
inner-build a_definition at pr.f_value h v = omega arith
inner-build a_module at pr.m_module h v = omega arith

pub get : {A : Type 0} → A → Option A → A
get a none = a
get a (some b) = b

pub some_inj : {A : Type 0} (a b : A) → some a ≡ some b → a ≡ b
unfolding get
some_inj a b e = ap (get a) e

-- a form that is chosen begins by the word
chosen_of-takes : (s : Sort) (fs : List (Form s)) (w : Word) (o : Opening s) → chosen_of s fs w ≡ some o → takes (first s o.0) w
    ≡ some o.1
chosen_of-takes s [] w o e = let z : ◌≡◌ {A = ℕ} 0 1 = cc in absurd (omega arith)
chosen_of-takes s (f ∷ fs) w o e = go (takes (first s f) w) refl e (chosen_of-takes s fs w o)
  where
    go : (t : Option (Held (first s f))) → takes (first s f) w ≡ t → first_of t (λ h. (f, h)) (chosen_of s fs w) ≡ some o
        → (chosen_of s fs w ≡ some o → takes (first s o.0) w ≡ some o.1) → takes (first s o.0) w ≡ some o.1
    go none i e ih = ih e
    go (some h) i e ih =
        let c : Opening s = (f, h) in
        subst (λ (z : Opening s). takes (first s z.0) w ≡ some z.1) (some_inj c o e) i

pub chosen-takes : (s : Sort) (w : Word) (o : Opening s) → chosen s w ≡ some o → takes (first s o.0) w ≡ some o.1
unfolding chosen
chosen-takes s w o e = chosen_of-takes s (forms s) w o e

-- one word
abbrev Took : Source → ℕ → (m : Single) → Held m → ℕ → Type 0
Took next p m h q = (w : Word) × (next p ≡ word w q) × (takes m w ≡ some h)

pub single-sound : (m : Single) (next : Source) (p : ℕ) → Of (Took next p m) (single m next p)
unfolding single
single-sound m next p = go (next p) refl
  where
    put : (w : Word) (q : ℕ) → next p ≡ word w q → (o : Option (Held m)) → takes m w ≡ o → Of (Took next p m) (held o (place_of w) q)
    put w q e none i = tt
    put w q e (some h) i = (w, e, i)

    go : (st : Step) → next p ≡ st → Of (Took next p m) (single_of m st)
    go (end e) i = tt
    go (fault k e) i = tt
    go (word w q) i = put w q i (takes m w) refl

-- the beginning of a part
pub opening-sound : {B : Type 0} (Q : B → ℕ → Type 0) (s : Sort) (next : Source) (p : ℕ) (k : Opening s → ℕ → ℕ → Out B)
    → ((w : Word) (q : ℕ) (o : Opening s) → next p ≡ word w q → takes (first s o.0) w ≡ some o.1 → Of Q (k o (place_of w) q))
    → Of Q (opening_of s (next p) k)
opening-sound {B} Q s next p k g = go (next p) refl
  where
    put : (w : Word) (q : ℕ) → next p ≡ word w q → (o : Option (Opening s)) → chosen s w ≡ o
        → Of Q (opened o (place_of w) (λ o. k o (place_of w) q))
    put w q e none i = tt
    put w q e (some o) i = g w q o e (chosen-takes s w o i)

    go : (st : Step) → next p ≡ st → Of Q (opening_of s st k)
    go (end e) i = tt
    go (fault n e) i = tt
    go (word w q) i = put w q i (chosen s w) refl

-- the `]` that closes a list
pub closes-sound : (st : Step) (q : ℕ) → closes st ≡ some q → (at : ℕ) × (st ≡ word (pr.mark at mk.End) q)
closes-sound (end e) q i = absurd (let z : ◌≡◌ {A = ℕ} 0 1 = cc in omega arith)
closes-sound (fault k e) q i = absurd (let z : ◌≡◌ {A = ℕ} 0 1 = cc in omega arith)
closes-sound (word (pr.name x) m) q i = absurd (let z : ◌≡◌ {A = ℕ} 0 1 = cc in omega arith)
closes-sound (word (pr.number at v) m) q i = absurd (let z : ◌≡◌ {A = ℕ} 0 1 = cc in omega arith)
closes-sound (word (pr.key at k) m) q i = absurd (let z : ◌≡◌ {A = ℕ} 0 1 = cc in omega arith)
closes-sound (word (pr.mark at mk.End) m) q i = (at, ap (word (pr.mark at mk.End)) (some_inj m q i))
closes-sound (word (pr.mark at mk.Open) m) q i = absurd (let z : ◌≡◌ {A = ℕ} 0 1 = cc in omega arith)
closes-sound (word (pr.mark at mk.Shut) m) q i = absurd (let z : ◌≡◌ {A = ℕ} 0 1 = cc in omega arith)
closes-sound (word (pr.mark at mk.Begin) m) q i = absurd (let z : ◌≡◌ {A = ℕ} 0 1 = cc in omega arith)
closes-sound (word (pr.mark at mk.Comma) m) q i = absurd (let z : ◌≡◌ {A = ℕ} 0 1 = cc in omega arith)
closes-sound (word (pr.mark at mk.Colon) m) q i = absurd (let z : ◌≡◌ {A = ℕ} 0 1 = cc in omega arith)
closes-sound (word (pr.mark at mk.Equal) m) q i = absurd (let z : ◌≡◌ {A = ℕ} 0 1 = cc in omega arith)
closes-sound (word (pr.mark at mk.Arrow) m) q i = absurd (let z : ◌≡◌ {A = ℕ} 0 1 = cc in omega arith)
closes-sound (word (pr.mark at mk.Plus) m) q i = absurd (let z : ◌≡◌ {A = ℕ} 0 1 = cc in omega arith)
closes-sound (word (pr.mark at mk.Minus) m) q i = absurd (let z : ◌≡◌ {A = ℕ} 0 1 = cc in omega arith)
closes-sound (word (pr.mark at mk.Times) m) q i = absurd (let z : ◌≡◌ {A = ℕ} 0 1 = cc in omega arith)
closes-sound (word (pr.mark at mk.Over) m) q i = absurd (let z : ◌≡◌ {A = ℕ} 0 1 = cc in omega arith)

-- words that were read, and what they derive
abbrev Got : {A : Type 0} → (List Word → A → Type 0) → Source → ℕ → A → ℕ → Type 0
Got D next p a q = (ws : List Word) × Along next p q ws × D ws a

pub many-sound : {A : Type 0} (D : List Word → A → Type 0) (next : Source) (size : A → ℕ) (rd : ℕ → ℕ → Out A)
    → ((u p : ℕ) → Of (Got D next p) (rd u p))
    → (fuel u p : ℕ) → Of (Got (Many D) next p) (many fuel size rd next u p)
unfolding many
many-sound {A} D next size rd sound zero u p = tt
many-sound {A} D next size rd sound (suc fuel) u p = go (closes (next p)) refl _
    (of-bind (Got D next p) (Got (Many D) next p) (rd u p) _ (sound u p) (λ a q g.
    of-bind (Got (Many D) next q) (Got (Many D) next p) (many fuel size rd next (u + (size a + 1)) q) _
    (many-sound D next size rd sound fuel (u + (size a + 1)) q) (λ r z h.
    (g.0 ++ h.0, along-append next p q z g.0 h.0 g.1 h.1, (g.0, h.0, refl, g.2, h.2)))))
  where
    go : (c : Option ℕ) → closes (next p) ≡ c → (o : Out (List A)) → Of (Got (Many D) next p) o → Of (Got (Many D) next p) (many_of c o)
    go none i o h = h
    go (some q) i o h = let c = closes-sound (next p) q i in (pr.mark c.0 mk.End ∷ [], (q, c.1, refl), (c.0, refl))

module _ (D : (s : Sort) → List Word → Part s → Type 0) (next : Source) (n : ℕ) (rd : (s : Sort) → ℕ → ℕ
    → Out (Part s)) (sound : (s : Sort) (u p : ℕ) → Of (Got (D s) next p) (rd s u p)) where
  in_order-sound : {B : Type 0} (Q : B → ℕ → Type 0) (ss : List Symbol) (u p : ℕ) (k : Values ss → ℕ → ℕ → Out B)
      → ((v : Values ss) (q : ℕ) (ws : List Word) → Along next p q ws → InOrder D ss ws v → Of Q (k v (u + size_v ss v) q))
      → Of Q (in_order next n rd ss u p k)
  in_order-sound Q [] u p k g = rw (← e0) (g tt p [] refl refl)
    where
      e0 : u + 0 ≡ u
      e0 = omega arith
  in_order-sound Q (one m ∷ ss) u p k g =
      of-bind (Took next p m) Q (single m next p) _ (single-sound m next p) (λ h q t.
      in_order-sound Q ss u q (λ v. k (h, v)) (λ v z ws a i.
      g (h, v) z (t.0 ∷ ws) (q, t.1, a) (t.0, ws, refl, t.2, i)))
  in_order-sound Q (part s ∷ ss) u p k g =
      of-bind (Got (D s) next p) Q (rd s u p) _ (sound s u p) (λ a q t.
      in_order-sound Q ss (u + (inner s a + 1)) q (λ v. k (a, v)) (λ v z ws b i.
      let e : u + ((inner s a + 1) + size_v ss v) ≡ (u + (inner s a + 1)) + size_v ss v = omega arith in
      rw (← e) (g (a, v) z (t.0 ++ ws) (along-append next p q z t.0 ws t.1 b) (t.0, ws, refl, t.2, i))))
  in_order-sound Q (parts s ∷ ss) u p k g =
      of-bind (Got (Many (D s)) next p) Q (many (suc n) (inner s) (rd s) next u p) _ (many-sound (D s) next (inner s) (rd s) (sound s)
      (suc n) u p) (λ r q t.
      in_order-sound Q ss (u + places (inner s) r) q (λ v. k (r, v)) (λ v z ws b i.
      let e : u + (places (inner s) r + size_v ss v) ≡ (u + places (inner s) r) + size_v ss v = omega arith in
      rw (← e) (g (r, v) z (t.0 ++ ws) (along-append next p q z t.0 ws t.1 b) (t.0, ws, refl, t.2, i))))

-- A part that was read: its words, and that it found its place.
abbrev pub PartRead : Source → ℕ → ℕ → (s : Sort) → ℕ → ℕ → Part s → ℕ → Type 0
PartRead next n l s u p a q = (ws : List Word) × Along next p q ws × Derives l s ws a × (u + inner s a < n)

weaken : (next : Source) (n l : ℕ) (s : Sort) (u p : ℕ) (o : Out (Part s)) → Of (PartRead next n l s u p) o
    → Of (Got (Derives l s) next p) o
weaken next n l s u p (bad k at) h = tt
weaken next n l s u p (good a q) h = (h.0, h.1, h.2)

pub part_sound : (l : ℕ) (next : Source) (n : ℕ) (s : Sort) (u p : ℕ) → Of (PartRead next n l s u p) (read_part l next n s u p)
unfolding read_part Derives
part_sound zero next n s u p = opening-sound (PartRead next n zero s u p) s next p (λ o at q. bad 6 at) (λ w q o e t. tt)
part_sound (suc l) next n s u p =
    opening-sound (PartRead next n (suc l) s u p) s next p (formed next n (read_part l next n) s u) (λ w m o e t.
    in_order-sound (Derives l) next n (read_part l next n) (λ s u p. weaken next n l s u p (read_part l next n s u p)
    (part_sound l next n s u p)) (PartRead next n (suc l) s u p) (rest s o.0) u m _ (λ v q ws a i.
    of_room (PartRead next n (suc l) s u p) n (u + size_v (rest s o.0) v) (place_of w) (build s (place_of w) o.0 o.1 v) q (λ r. (
      w ∷ ws,
      (m, e, a),
      record { form = o.0; has = o.1; values = v; head = w; behind = ws; all = refl; begins = t; goes = i; gives = refl },
      rw (inner-build s (place_of w) o.0 o.1 v) r,
    ))))

-- A sheet that was read from the place p on, its parts laid from the place u on.
abbrev pub SheetRead : Source → ℕ → ℕ → ℕ → ℕ → Sheet → ℕ → Type 0
SheetRead next n modules u p s e = (ws : List Word) × Spells next p ws e × DerivesSheet levels ws s.modules s.closing
    × (u + is.size s ≤ n) × (is.count s.modules ≤ modules)

closed-sound : (modules : ℕ) (next : Source) (n u p : ℕ) → Of (SheetRead next n modules u p) (closed next n u p)
closed-sound modules next n u p =
    of-bind (PartRead next n levels an_exp u p) (SheetRead next n modules u p) (read_part levels next n an_exp u p) _
    (part_sound levels next n an_exp u p) (λ e q h. go e q h (next q) refl)
  where
    go : (e : Exp) (q : ℕ) → PartRead next n levels an_exp u p e q → (st : Step) → next q ≡ st
        → Of (SheetRead next n modules u p) (ended st (record { modules = []; closing = e }))
    go e q h (end z) i = (h.0, (q, h.1, i), h.2, omega (arith, h.3), omega arith)
    go e q h (fault k z) i = tt
    go e q h (word w z) i = tt

pub sheet-sound : (modules : ℕ) (next : Source) (n u p : ℕ) → Of (SheetRead next n modules u p) (sheet_from modules next n u p)
unfolding sheet_from
sheet-sound zero next n u p = go (begins_module (next p))
  where
    go : (o : Option ℕ) → Of (SheetRead next n zero u p) (or_else o (λ at. bad 7 at) (closed next n u p))
    go none = closed-sound zero next n u p
    go (some at) = tt
sheet-sound (suc modules) next n u p =
    go (begins_module (next p)) _
    (of-bind (PartRead next n (suc (suc levels)) a_module u p) (SheetRead next n (suc modules) u p)
    (read_part (suc (suc levels)) next n a_module u p) _ (part_sound (suc (suc levels)) next n a_module u p) (λ m q h.
    of-bind (SheetRead next n modules (u + (inner_m m + 1)) q) (SheetRead next n (suc modules) u p) (sheet_from modules next n
    (u + (inner_m m + 1)) q) _ (sheet-sound modules next n (u + (inner_m m + 1)) q) (λ s z g. (
      h.0 ++ g.0,
      (g.1.0, along-append next p q g.1.0 h.0 g.0 h.1 g.1.1, g.1.2),
      (h.0, g.0, refl, h.2, g.2),
      omega (arith, g.3),
      omega (arith, g.4),
    ))))
  where
    go : (o : Option ℕ) (t : Out Sheet) → Of (SheetRead next n (suc modules) u p) t
        → Of (SheetRead next n (suc modules) u p) (or_else o (λ at. t) (closed next n u p))
    go none t h = closed-sound (suc modules) next n u p
    go (some at) t h = h
