-- A word refused with 5 is one with which nothing goes on, and the words before it are the beginning of something.
use Rattle.std.proofs.Common.{◌≡◌, ℕ, zero, suc, ◌+◌, ◌≤◌, max, Bool, true, false, cond, ltb, List, [], ◌∷◌, ◌++◌, pos, sym, refl, ap, ◌∙◌, subst, append_assoc, arith}
use mathlib.Core.List.{cons≢nil, head-eq_of_cons-eq, tail-eq_of_cons-eq, append_cancel_left}
use mathlib.Core.Option.{Option, none, some}
use Rattle.words.specs.declared.keywords.Keyword.TheVariants as kw
use Rattle.words.specs.declared.marks.Mark.TheVariants as mk
use Rattle.grammar.specs.Syntax.{Name, Module, places}
use Rattle.grammar.specs.Syntax as is
use Rattle.grammar.specs.Productions.{Word, place_of, Single, «the», sign, a_name, a_number, Held, takes, Sort, a_type, an_exp, a_declaration}
use Rattle.grammar.specs.Productions.{a_definition, a_module, Part, inner, Symbol, one, part, parts, Values, first, rest, build, Opening}
use Rattle.grammar.specs.Productions.{chosen}
use Rattle.grammar.specs.Productions as pr
use Rattle.grammar.specs.Reading.{Out, bad, good, bind, Step, end, word, fault, Source, single, single_of, held, opened, opening_of, closes}
use Rattle.grammar.specs.Reading.{room, many, many_of, in_order, formed, read_part}
use Rattle.grammar.specs.Derives.{Along, Many, InOrder, Derives}
use Rattle.grammar.specs.Grammar as g
use Rattle.grammar.specs.Laws.{Stops}
use Rattle.grammar.proofs.Sound.{Of, some_inj, along-append, chosen-takes, single-sound, many-sound, part_sound, PartRead}
use Rattle.grammar.proofs.Begins.{none-some, chosen-whole, no-close}
use Rattle.grammar.proofs.Same.{takes-from, type-derives, exp-derives, declaration-derives, definition-derives, module-derives}
use Rattle.grammar.proofs.Once.{derives-more, in_order-map, many-map, part-once, many-once}

-- LANGUAGES: which word lists are a part, a list of parts, one symbol, symbols in order
abbrev pub Lang : Sort → List Word → Type 0
Lang s ws = (a : Part s) × (l : ℕ) × Derives l s ws a

abbrev pub LangM : Sort → List Word → Type 0
LangM s ws = (r : List (Part s)) × (l : ℕ) × Many (Derives l s) ws r

abbrev pub Lang1 : Single → List Word → Type 0
Lang1 m ws = (w : Word) × (h : Held m) × (ws ≡ w ∷ []) × (takes m w ≡ some h)

abbrev pub LangY : Symbol → List Word → Type 0
LangY (one m) = Lang1 m
LangY (part s) = Lang s
LangY (parts s) = LangM s

abbrev pub LangV : List Symbol → List Word → Type 0
LangV [] ws = ws ≡ []
LangV (y ∷ ss) ws = (xs : List Word) × (ys : List Word) × (ws ≡ xs ++ ys) × LangY y xs × LangV ss ys

-- no member is a beginning of zs
abbrev pub Fails : (List Word → Type 0) → List Word → Type 0
Fails L zs = (xs r : List Word) → L xs → xs ++ r ≡ zs → ⊥

-- of two members that begin one word list neither is longer
abbrev Once : (List Word → Type 0) → Type 0
Once L = (xs ys r t : List Word) → xs ++ r ≡ ys ++ t → L xs → L ys → xs ≡ ys

once-y : (y : Symbol) → Once (LangY y)
once-y (one m) xs ys r t e p q =
    let i : (p.0 ∷ []) ++ r ≡ (q.0 ∷ []) ++ t = sym (ap (λ z. z ++ r) p.2) ∙ (e ∙ ap (λ z. z ++ t) q.2) in
    p.2 ∙ (ap (λ z. z ∷ []) (head-eq_of_cons-eq i) ∙ sym q.2)
once-y (part s) xs ys r t e p q = (part-once s xs ys r t e p.1 q.1 p.0 q.0 p.2 q.2).0
once-y (parts s) xs ys r t e p q = (many-once s xs ys r t e p.1 q.1 p.0 q.0 p.2 q.2).0

-- from a derivation to the language, and back
lang_v-of : (l : ℕ) (ss : List Symbol) (ws : List Word) (v : Values ss) → InOrder (Derives l) ss ws v → LangV ss ws
lang_v-of l [] ws v i = i
lang_v-of l (one m ∷ ss) ws v i = (i.0 ∷ [], i.1, i.2, (i.0, v.0, refl, i.3), lang_v-of l ss i.1 v.1 i.4)
lang_v-of l (part s ∷ ss) ws v i = (i.0, i.1, i.2, (v.0, l, i.3), lang_v-of l ss i.1 v.1 i.4)
lang_v-of l (parts s ∷ ss) ws v i = (i.0, i.1, i.2, (v.0, l, i.3), lang_v-of l ss i.1 v.1 i.4)

more-many : (l k : ℕ) → l ≤ k → (s : Sort) (ws : List Word) (r : List (Part s)) → Many (Derives l s) ws r → Many (Derives k s) ws r
more-many l k b s ws r m = many-map (Derives l s) (Derives k s) (derives-more l k b s) ws r m

more-order : (l k : ℕ) → l ≤ k → (ss : List Symbol) (ws : List Word) (v : Values ss) → InOrder (Derives l) ss ws v
    → InOrder (Derives k) ss ws v
more-order l k b ss ws v i = in_order-map (Derives l) (Derives k) (derives-more l k b) ss ws v i

of-lang_v : (ss : List Symbol) (ws : List Word) → LangV ss ws → (v : Values ss) × (l : ℕ) × InOrder (Derives l) ss ws v
of-lang_v [] ws i = (tt, 0, i)
of-lang_v (one m ∷ ss) ws i =
    let t = of-lang_v ss i.1 i.4 in
    ((i.3.1, t.0), t.1, (i.3.0, i.1, i.2 ∙ ap (λ z. z ++ i.1) i.3.2, i.3.3, t.2))
of-lang_v (part s ∷ ss) ws i =
    let t = of-lang_v ss i.1 i.4 in
    let k = max i.3.1 t.1 in (
      (i.3.0, t.0),
      k,
      (
        i.0,
        i.1,
        i.2,
        derives-more i.3.1 k (omega arith) s i.0 i.3.0 i.3.2,
        more-order t.1 k
            (omega arith) ss i.1 t.0 t.2,
      ),
    )
of-lang_v (parts s ∷ ss) ws i =
    let t = of-lang_v ss i.1 i.4 in
    let k = max i.3.1 t.1 in (
      (i.3.0, t.0),
      k,
      (
        i.0,
        i.1,
        i.2,
        more-many i.3.1 k (omega arith) s i.0 i.3.0 i.3.2,
        more-order t.1 k
            (omega arith) ss i.1 t.0 t.2,
      ),
    )

-- SAMPLES: each symbol has a member
abbrev a_word : Name
a_word = record { place = 0; bytes = 120 ∷ [] }

pub sample_s : (s : Sort) → (ws : List Word) × Lang s ws
sample_s a_type = (pr.key 0 kw.Int ∷ [], (is.int_type 0, 1, type-derives _ _ (g.int_type 0) 1 (omega arith)))
sample_s an_exp = (pr.key 0 kw.True ∷ [], (is.boolean 0 true, 1, exp-derives _ _ (g.true_word 0) 1 (omega arith)))
sample_s a_declaration = (
  pr.key 0 kw.Opaque ∷ pr.name a_word ∷ [],
  (
    is.opaque_type 0 a_word,
    1,
    declaration-derives 0 _ _
        (g.opaque_type 0 a_word) (omega arith),
  ),
)
sample_s a_definition = (
  pr.key 0 kw.«Type» ∷ pr.name a_word ∷ pr.mark 0 mk.Equal ∷ (pr.key 0 kw.Int ∷ []),
  (is.type_is 0 a_word (is.int_type 0), 2, definition-derives 1 _ _ (g.type_is 0 0 a_word (g.int_type 0)) (omega arith)),
)
sample_s a_module = (
  pr.key 0 kw.Module ∷ pr.name a_word ∷ pr.key 0 kw.Interface ∷ pr.mark 0 mk.Begin ∷
      ([] ++ (pr.mark 0 mk.End ∷ pr.key 0 kw.Body ∷ pr.mark 0 mk.Begin ∷ ([] ++ (pr.mark 0 mk.End ∷ [])))),
  (
    record { at = 0; name = a_word; interface = []; body = [] },
    2,
    module-derives 0 _ _ (g.module_of 0 0 0 0 0 0 0 a_word g.no_more g.no_more)
        (omega arith),
  ),
)

sample_y : (y : Symbol) → (ws : List Word) × LangY y ws
sample_y (one («the» k)) = (pr.key 0 k ∷ [], (pr.key 0 k, tt, refl, takes-from («the» k) tt 0))
sample_y (one (sign m)) = (pr.mark 0 m ∷ [], (pr.mark 0 m, tt, refl, takes-from (sign m) tt 0))
sample_y (one a_name) = (pr.name a_word ∷ [], (pr.name a_word, a_word, refl, refl))
sample_y (one a_number) = (pr.number 0 (pos 0) ∷ [], (pr.number 0 (pos 0), pos 0, refl, refl))
sample_y (part s) = sample_s s
sample_y (parts s) = (pr.mark 0 mk.End ∷ [], ([], 0, (0, refl)))

sample_v : (ss : List Symbol) → (ws : List Word) × LangV ss ws
sample_v [] = ([], refl)
sample_v (y ∷ ss) = let t = sample_y y in let u = sample_v ss in (t.0 ++ u.0, (t.0, u.0, refl, t.1, u.1))

-- WHERE READING IS STUCK

-- zs begins by what the source has at p
abbrev pub Starts : Source → ℕ → List Word → Type 0
Starts next p [] = Unit {0}
Starts next p (w ∷ vs) = (m : ℕ) × (next p ≡ word w m)

-- what may follow a step
abbrev pub Follows : Step → List Word → Type 0
Follows (end z) us = us ≡ []
Follows (fault k z) us = ⊥
Follows (word w m) us = (vs : List Word) × (us ≡ w ∷ vs)

-- Stuck at e: some words were read, they begin a member of L, and F of them with whatever may follow.
abbrev pub Stuck : Source → (List Word → Type 0) → (List Word → Type 0) → ℕ → ℕ → Type 0
Stuck next L F p e = (ws : List Word) × (q : ℕ) × Along next p q ws × ((vs : List Word) × L (ws ++ vs))
    × Stops (next q) e (λ us. F (ws ++ us))

pub stops-map : (st : Step) (e : ℕ) (F G : List Word → Type 0) → ((us : List Word) → Follows st us → F us → G us) → Stops st e F
    → Stops st e G
stops-map (end z) e F G f s = (s.0, f [] refl s.1)
stops-map (word w m) e F G f s = (s.0, λ vs. f (w ∷ vs) (vs, refl) (s.1 vs))
stops-map (fault k z) e F G f s = absurd s

starts-here : (next : Source) (q : ℕ) (st : Step) → next q ≡ st → (us : List Word) → Follows st us → Starts next q us
starts-here next q (end z) i us f = subst (Starts next q) (sym f) tt
starts-here next q (fault k z) i us f = absurd f
starts-here next q (word w m) i us f = subst (Starts next q) (sym f.1) (m, i)

starts : (next : Source) (p q : ℕ) (ws us : List Word) → Along next p q ws → Follows (next q) us → Starts next p (ws ++ us)
starts next p q [] us al f = subst (λ z. Starts next z us) (sym al) (starts-here next q (next q) refl us f)
starts next p q (w ∷ ws) us al f = (al.0, al.1)

-- a first part is stuck: so is the whole
stuck-first : (next : Source) (L₁ L F : List Word → Type 0) (p e : ℕ) → ((xs : List Word) → L₁ xs → (ys : List Word) × L (xs ++ ys))
    → ((zs : List Word) → Starts next p zs → Fails L₁ zs → F zs)
    → Stuck next L₁ (Fails L₁) p e → Stuck next L F p e
stuck-first next L₁ L F p e more lift s =
    let c = more (s.0 ++ s.3.0) s.3.1 in (
      s.0,
      s.1,
      s.2,
      (s.3.0 ++ c.0, subst L (append_assoc s.0 s.3.0 c.0) c.1),
      stops-map (next s.1) e (λ us. Fails L₁ (s.0 ++ us)) (λ us. F (s.0 ++ us)) (λ us f h. lift (s.0 ++ us)
          (starts next p s.1 s.0 us s.2 f) h) s.4,
    )

-- what comes behind a part is stuck: so is the whole
stuck-after : (next : Source) (L₂ F₂ L F : List Word → Type 0) (p q e : ℕ) (ws : List Word) → Along next p q ws
    → ((vs : List Word) → L₂ vs → L (ws ++ vs)) → ((zs : List Word) → F₂ zs → F (ws ++ zs))
    → Stuck next L₂ F₂ q e → Stuck next L F p e
stuck-after next L₂ F₂ L F p q e ws al into lift s = (
  ws ++ s.0,
  s.1,
  along-append next p q s.1 ws s.0 al s.2,
  (s.3.0, subst L (sym (append_assoc ws s.0 s.3.0)) (into (s.0 ++ s.3.0) s.3.1)),
  stops-map (next s.1) e (λ us. F₂ (s.0 ++ us)) (λ us. F ((ws ++ s.0) ++ us)) (λ us f h. subst F (sym (append_assoc ws s.0 us))
      (lift (s.0 ++ us) h)) s.4,
)

-- an outcome that is a refusal 5 is stuck
abbrev pub Five : {A : Type 0} → Source → (List Word → Type 0) → (List Word → Type 0) → ℕ → Out A → Type 0
Five next L F p (bad k e) = k ≡ 5 → Stuck next L F p e
Five next L F p (good a q) = Unit {0}

abbrev pub NotFive : {A : Type 0} → Out A → Type 0
NotFive (bad k e) = k ≡ 5 → ⊥
NotFive (good a q) = Unit {0}

five-not : {A : Type 0} (next : Source) (L F : List Word → Type 0) (p : ℕ) (o : Out A) → NotFive o → Five next L F p o
five-not next L F p (bad k e) h = λ i. absurd (h i)
five-not next L F p (good a q) h = tt

pub five-bind : {A B : Type 0} (next : Source) (L₁ L F : List Word → Type 0) (p : ℕ) (P : A → ℕ → Type 0) (o : Out A) (k : A → ℕ → Out B)
    → Five next L₁ (Fails L₁) p o → Of P o
    → ((xs : List Word) → L₁ xs → (ys : List Word) × L (xs ++ ys)) → ((zs : List Word) → Starts next p zs → Fails L₁ zs → F zs)
    → ((a : A) (q : ℕ) → P a q → Five next L F p (k a q)) → Five next L F p (bind o k)
five-bind next L₁ L F p P (bad n e) k h s more lift f = λ i. stuck-first next L₁ L F p e more lift (h i)
five-bind next L₁ L F p P (good a q) k h s more lift f = f a q s

pub five-after : {A : Type 0} (next : Source) (L₂ F₂ L F : List Word → Type 0) (p q : ℕ) (ws : List Word) → Along next p q ws
    → ((vs : List Word) → L₂ vs → L (ws ++ vs)) → ((zs : List Word) → F₂ zs → F (ws ++ zs))
    → (o : Out A) → Five next L₂ F₂ q o → Five next L F p o
five-after next L₂ F₂ L F p q ws al into lift (bad k e) h = λ i. stuck-after next L₂ F₂ L F p q e ws al into lift (h i)
five-after next L₂ F₂ L F p q ws al into lift (good a z) h = tt

pub five-done : {A B : Type 0} (next : Source) (L F : List Word → Type 0) (p : ℕ) (o : Out A) (f : A → B) → Five next L F p o
    → Five next L F p (bind o (λ a q. good (f a) q))
five-done next L F p (bad k e) f h = h
five-done next L F p (good a q) f h = tt

-- a refusal 5 here, at what stands at p: no member begins by it
five-here : (next : Source) (p : ℕ) (L : List Word → Type 0) (e : ℕ) → (vs : List Word) × L vs → Stops (next p) e (Fails L)
    → Stuck next L (Fails L) p e
five-here next p L e m s = ([], p, refl, m, s)

room-not : {A : Type 0} (n u at : ℕ) (a : A) (q : ℕ) → NotFive (room n u at a q)
room-not n u at a q = go (ltb u n)
  where
    go : (b : Bool) → NotFive (cond b (good a q) (bad 21 at))
    go true = tt
    go false = λ i. omega arith

-- the first word of a part chooses its form
pub lang-head : (s : Sort) (ws : List Word) → Lang s ws → (w : Word) × (ys : List Word) × (o : Opening s) × (ws ≡ w ∷ ys)
    × (chosen s w ≡ some o) × LangV (rest s o.0) ys
unfolding Derives
lang-head s ws h = go h.1 h.2
  where
    go : (l : ℕ) → Derives l s ws h.0 → (w : Word) × (ys : List Word) × (o : Opening s) × (ws ≡ w ∷ ys) × (chosen s w ≡ some o)
        × LangV (rest s o.0) ys
    go zero d = absurd d
    go (suc l) d = (
      d.head,
      d.behind,
      (d.form, d.has),
      d.all,
      chosen-whole s d.form d.has d.head d.begins,
      lang_v-of l
          (rest s d.form) d.behind d.values d.goes,
    )

part_of : (s : Sort) (w : Word) (o : Opening s) (vs : List Word) → takes (first s o.0) w ≡ some o.1 → LangV (rest s o.0) vs
    → Lang s (w ∷ vs)
unfolding Derives
part_of s w o vs t h =
    let v = of-lang_v (rest s o.0) vs h in (
      build s (place_of w) o.0 o.1 v.0,
      suc v.1,
      record {
        form = o.0;
        has = o.1;
        values = v.0;
        head = w;
        behind = vs;
        all = refl;
        begins = t;
        goes = v.2;
        gives = refl;
      },
    )

module _ (next : Source) (lawful : (p k e : ℕ) → next p ≡ fault k e → k ≡ 5 → ⊥) where
  single-five : (m : Single) (p : ℕ) → Five next (Lang1 m) (Fails (Lang1 m)) p (single m next p)
  unfolding single
  single-five m p = go (next p) refl
    where
      put : (w : Word) (q : ℕ) → next p ≡ word w q → (o : Option (Held m)) → takes m w ≡ o
          → Five next (Lang1 m) (Fails (Lang1 m)) p (held o (place_of w) q)
      put w q i (some h) t = tt
      put w q i none t = λ five.
          five-here next p (Lang1 m) (place_of w) (sample_y (one m))
          (subst (λ st. Stops st (place_of w) (Fails (Lang1 m))) (sym i) (
            refl,
            λ vs xs r h e.
                let j : (h.0 ∷ []) ++ r ≡ w ∷ vs = sym (ap (λ z. z ++ r) h.2) ∙ e in
                none-some h.1 (sym t ∙ (ap (takes m) (sym (head-eq_of_cons-eq j)) ∙ h.3)),
          ))

      go : (st : Step) → next p ≡ st → Five next (Lang1 m) (Fails (Lang1 m)) p (single_of m st)
      go (end z) i = λ five.
          five-here next p (Lang1 m) z (sample_y (one m))
          (subst (λ st. Stops st z (Fails (Lang1 m))) (sym i) (
            refl,
            λ xs r h e. let j : (h.0 ∷ []) ++ r
                ≡ [] = sym (ap (λ z. z ++ r) h.2) ∙ e in cons≢nil j,
          ))
      go (fault k z) i = λ five. absurd (lawful p k z i five)
      go (word w q) i = put w q i (takes m w) refl

  -- one symbol, then others
  seq-five : {A B : Type 0} (y : Symbol) (ss : List Symbol) (p : ℕ) (o : Out A) (k : A → ℕ → Out B)
      → Five next (LangY y) (Fails (LangY y)) p o
      → Of (λ a q. (ws : List Word) × Along next p q ws × LangY y ws) o
      → ((a : A) (q : ℕ) → Five next (LangV ss) (Fails (LangV ss)) q (k a q))
      → Five next (LangV (y ∷ ss)) (Fails (LangV (y ∷ ss))) p (bind o k)
  seq-five y ss p o k five sound f =
      five-bind next (LangY y) (LangV (y ∷ ss)) (Fails (LangV (y ∷ ss))) p (λ a q. (ws : List Word) × Along next p q ws
      × LangY y ws) o k five sound
      (λ xs h. let m = sample_v ss in (m.0, (xs, m.0, refl, h, m.1)))
      (λ zs st h xs r v e. h v.0 (v.1 ++ r) v.3 (sym (append_assoc v.0 v.1 r) ∙ (sym (ap (λ z. z ++ r) v.2) ∙ e)))
      (λ a q s. five-after next (LangV ss) (Fails (LangV ss)) (LangV (y ∷ ss)) (Fails (LangV (y ∷ ss))) p q s.0 s.1
      (λ vs h. (s.0, vs, refl, s.2, h))
      (λ zs h xs r v e.
      let j : v.0 ++ (v.1 ++ r) ≡ s.0 ++ zs = sym (append_assoc v.0 v.1 r) ∙ (sym (ap (λ z. z ++ r) v.2) ∙ e) in
      let i : v.0 ≡ s.0 = once-y y v.0 s.0 (v.1 ++ r) zs j v.3 s.2 in
      h v.1 r v.4 (append_cancel_left s.0 (v.1 ++ r) zs (sym (ap (λ z. z ++ (v.1 ++ r)) i) ∙ j)))
      (k a q) (f a q))

  of_map : {A : Type 0} (P Q : A → ℕ → Type 0) (o : Out A) → ((a : A) (q : ℕ) → P a q → Q a q) → Of P o → Of Q o
  of_map P Q (bad k e) f h = tt
  of_map P Q (good a q) f h = f a q h

  -- parts up to a `]`
  module _ (s : Sort) (l : ℕ) (size : Part s → ℕ) (rd : ℕ → ℕ → Out (Part s)) (five : (u p : ℕ)
      → Five next (Lang s) (Fails (Lang s)) p (rd u p))
      (sound : (u p : ℕ) → Of (λ a q. (ws : List Word) × Along next p q ws × Derives l s ws a) (rd u p)) where
    many-five : (fuel u p : ℕ) → Five next (LangM s) (Fails (LangM s)) p (many fuel size rd next u p)
    unfolding many
    many-five zero u p = λ i. absurd (omega arith)
    many-five (suc fuel) u p = go (closes (next p)) refl _
        (λ nc. five-bind next (Lang s) (LangM s) (Fails (LangM s)) p (λ a q. (ws : List Word) × Along next p q ws
        × Derives l s ws a) (rd u p) _ (five u p) (sound u p)
        (λ xs h. (pr.mark 0 mk.End ∷ [], (h.0 ∷ [], h.1, (xs, pr.mark 0 mk.End ∷ [], refl, h.2, (0, refl)))))
        (λ zs st h xs r m e. first-fails p nc zs st h xs r m.0 m.1 m.2 e)
        (λ a q t. five-after next (LangM s) (Fails (LangM s)) (LangM s) (Fails (LangM s)) p q t.0 t.1
        (λ vs h. (
          a ∷ h.0,
          max l h.1,
          (
            t.0,
            vs,
            refl,
            derives-more l (max l h.1) (omega arith) s t.0 a t.2,
            more-many
                h.1 (max l h.1) (omega arith) s vs h.0 h.2,
          ),
        ))
        (λ zs h xs r m e. later-fails t.0 a t.2 zs h xs r m.0 m.1 m.2 e)
        _ (five-done next (LangM s) (Fails (LangM s)) q (many fuel size rd next (u + (size a + 1)) q) (λ r. a ∷ r)
        (many-five fuel (u + (size a + 1)) q))))
      where
        first-fails : (p : ℕ) → closes (next p) ≡ none → (zs : List Word) → Starts next p zs → Fails (Lang s) zs
            → (xs r : List Word) (a : List (Part s)) (k : ℕ) → Many (Derives k s) xs a → xs ++ r ≡ zs → ⊥
        first-fails p nc zs st h xs r [] k m e =
            let i : (pr.mark m.0 mk.End ∷ []) ++ r ≡ zs = sym (ap (λ z. z ++ r) m.1) ∙ e in
            let j : Starts next p (pr.mark m.0 mk.End ∷ r) = subst (Starts next p) (sym i) st in
            none-some j.0 (sym nc ∙ ap closes j.1)
        first-fails p nc zs st h xs r (x ∷ a) k m e = h m.0 (m.1 ++ r) (x, k, m.3) (sym (append_assoc m.0 m.1 r)
            ∙ (sym (ap (λ z. z ++ r) m.2) ∙ e))

        later-fails : (ws : List Word) (a : Part s) → Derives l s ws a → (zs : List Word) → Fails (LangM s) zs
            → (xs r : List Word) (b : List (Part s)) (k : ℕ) → Many (Derives k s) xs b → xs ++ r ≡ ws ++ zs → ⊥
        later-fails ws a d zs h xs r [] k m e =
            let t = lang-head s ws (a, l, d) in
            let i : (pr.mark m.0 mk.End ∷ []) ++ r ≡ (t.0 ∷ t.1) ++ zs = sym (ap (λ z. z ++ r) m.1)
            ∙ (e ∙ ap (λ z. z ++ zs) t.3) in
            none-some t.2 (sym (no-close s m.0) ∙ (ap (chosen s) (head-eq_of_cons-eq i) ∙ t.4))
        later-fails ws a d zs h xs r (x ∷ b) k m e =
            let j : m.0 ++ (m.1 ++ r) ≡ ws ++ zs = sym (append_assoc m.0 m.1 r) ∙ (sym (ap (λ z. z ++ r) m.2) ∙ e) in
            let i : m.0 ≡ ws = (part-once s m.0 ws (m.1 ++ r) zs j k l x a m.3 d).0 in
            h m.1 r (b, k, m.4) (append_cancel_left ws (m.1 ++ r) zs (sym (ap (λ z. z ++ (m.1 ++ r)) i) ∙ j))

        go : (c : Option ℕ) → closes (next p) ≡ c → (o : Out (List (Part s))) → (closes (next p) ≡ none
            → Five next (LangM s) (Fails (LangM s)) p o) → Five next (LangM s) (Fails (LangM s)) p (many_of c o)
        go none i o f = f i
        go (some q) i o f = tt

  -- symbols in order
  module _ (l n : ℕ) (rd : (s : Sort) → ℕ → ℕ → Out (Part s)) (five : (s : Sort) (u p : ℕ)
      → Five next (Lang s) (Fails (Lang s)) p (rd s u p))
      (sound : (s : Sort) (u p : ℕ) → Of (λ a q. (ws : List Word) × Along next p q ws × Derives l s ws a) (rd s u p)) where
    in_order-five : {B : Type 0} (ss : List Symbol) (u p : ℕ) (k : Values ss → ℕ → ℕ → Out B) → ((v : Values ss) (u q : ℕ)
        → NotFive (k v u q)) → Five next (LangV ss) (Fails (LangV ss)) p (in_order next n rd ss u p k)
    in_order-five [] u p k f = five-not next (LangV []) (Fails (LangV [])) p (k tt u p) (f tt u p)
    in_order-five (one m ∷ ss) u p k f =
        seq-five (one m) ss p (single m next p) _ (single-five m p)
        (of_map (λ h q. (w : Word) × (next p ≡ word w q) × (takes m w ≡ some h)) (λ h q. (ws : List Word) × Along next p q ws
        × Lang1 m ws) (single m next p) (λ h q t. (t.0 ∷ [], (q, t.1, refl), (t.0, h, refl, t.2))) (single-sound m next p))
        (λ h q. in_order-five ss u q (λ v. k (h, v)) (λ v. f (h, v)))
    in_order-five (part s ∷ ss) u p k f =
        seq-five (part s) ss p (rd s u p) _ (five s u p)
        (of_map (λ a q. (ws : List Word) × Along next p q ws × Derives l s ws a) (λ a q. (ws : List Word) × Along next p q ws
        × Lang s ws) (rd s u p) (λ a q t. (t.0, t.1, (a, l, t.2))) (sound s u p))
        (λ a q. in_order-five ss (u + (inner s a + 1)) q (λ v. k (a, v)) (λ v. f (a, v)))
    in_order-five (parts s ∷ ss) u p k f =
        seq-five (parts s) ss p (many (suc n) (inner s) (rd s) next u p) _ (many-five s l (inner s) (rd s) (five s) (sound s) (suc n) u p)
        (of_map (λ a q. (ws : List Word) × Along next p q ws × Many (Derives l s) ws a) (λ a q. (ws : List Word) × Along next p q ws
        × LangM s ws) (many (suc n) (inner s) (rd s) next u p) (λ a q t. (t.0, t.1, (a, l, t.2))) (many-sound (Derives l s) next
        (inner s) (rd s) (sound s) (suc n) u p))
        (λ a q. in_order-five ss (u + places (inner s) a) q (λ v. k (a, v)) (λ v. f (a, v)))

  -- a part, by its first word
  opening-five : {B : Type 0} (s : Sort) (p : ℕ) (k : Opening s → ℕ → ℕ → Out B)
      → ((w : Word) (q : ℕ) (o : Opening s) → Five next (LangV (rest s o.0)) (Fails (LangV (rest s o.0))) q (k o (place_of w) q))
      → Five next (Lang s) (Fails (Lang s)) p (opening_of s (next p) k)
  opening-five {B} s p k f = go (next p) refl
    where
      nothing : (z : Word) (vs : List Word) → chosen s z ≡ none → (xs r : List Word) → Lang s xs → xs ++ r ≡ z ∷ vs → ⊥
      nothing z vs c xs r h e =
          let t = lang-head s xs h in
          let i : (t.0 ∷ t.1) ++ r ≡ z ∷ vs = sym (ap (λ z. z ++ r) t.3) ∙ e in
          none-some t.2 (sym c ∙ (ap (chosen s) (sym (head-eq_of_cons-eq i)) ∙ t.4))

      behind : (w : Word) (o : Opening s) → chosen s w ≡ some o → (zs : List Word) → Fails (LangV (rest s o.0)) zs
          → (xs r : List Word) → Lang s xs → xs ++ r ≡ w ∷ zs → ⊥
      behind w o c zs g xs r h e =
          let t = lang-head s xs h in
          let i : (t.0 ∷ t.1) ++ r ≡ w ∷ zs = sym (ap (λ z. z ++ r) t.3) ∙ e in
          let j : t.2 ≡ o = some_inj t.2 o (sym t.4 ∙ (ap (chosen s) (head-eq_of_cons-eq i) ∙ c)) in
          g t.1 r (subst (λ (o : Opening s). LangV (rest s o.0) t.1) j t.5) (tail-eq_of_cons-eq i)

      put : (w : Word) (q : ℕ) → next p ≡ word w q → (o : Option (Opening s)) → chosen s w ≡ o
          → Five next (Lang s) (Fails (Lang s)) p (opened o (place_of w) (λ o. k o (place_of w) q))
      put w q i none c = λ five. five-here next p (Lang s) (place_of w) (sample_s s) (subst (λ st. Stops st (place_of w) (Fails (Lang s)))
          (sym i) (refl, λ vs. nothing w vs c))
      put w q i (some o) c =
          five-after next (LangV (rest s o.0)) (Fails (LangV (rest s o.0))) (Lang s) (Fails (Lang s)) p q (w ∷ []) (q, i, refl)
          (λ vs h. part_of s w o vs (chosen-takes s w o c) h) (λ zs g. behind w o c zs g) (k o (place_of w) q) (f w q o)

      go : (st : Step) → next p ≡ st → Five next (Lang s) (Fails (Lang s)) p (opening_of s st k)
      go (end z) i = λ five. five-here next p (Lang s) z (sample_s s) (subst (λ st. Stops st z (Fails (Lang s))) (sym i)
          (refl, λ xs r h e. let t = lang-head s xs h in let j : (t.0 ∷ t.1) ++ r ≡ [] = sym (ap (λ z. z ++ r) t.3) ∙ e in cons≢nil j))
      go (fault m z) i = λ five. absurd (lawful p m z i five)
      go (word w q) i = put w q i (chosen s w) refl

  pub part-five : (l n : ℕ) (s : Sort) (u p : ℕ) → Five next (Lang s) (Fails (Lang s)) p (read_part l next n s u p)
  unfolding read_part
  part-five zero n s u p = opening-five s p (λ o at q. bad 6 at) (λ w q o i. absurd (omega arith))
  part-five (suc l) n s u p =
      opening-five s p (formed next n (read_part l next n) s u) (λ w q o.
      in_order-five l n (read_part l next n) (part-five l n)
      (λ s u p. of_map (PartRead next n l s u p) (λ a q. (ws : List Word) × Along next p q ws
      × Derives l s ws a) (read_part l next n s u p) (λ a q t. (t.0, t.1, t.2)) (part_sound l next n s u p))
      (rest s o.0) u q _ (λ v u z. room-not n u (place_of w) (build s (place_of w) o.0 o.1 v) z))
