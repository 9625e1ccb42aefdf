-- Matching: the check and the rules go together.
use Rattle.std.proofs.Common.{◌≡◌, ℕ, ◌≤◌, Bool, true, false, cond, ◌&&◌, List, [], ◌∷◌, ◌++◌, map, Some, None, Option, sym, refl, ap, ◌∙◌, subst, ap₂}
use mathlib.Core.Option.{Option as Maybe, none, some}
use Rattle.std.proofs.lemmas.Bool.{cond-true}
use Rattle.language.specs.Bindings.{option_of}
use Rattle.words.specs.Names.{Name, same_name}
use Rattle.language.specs.Names.{bind, lookup}
use Rattle.language.specs.Options.{◌then◌, need}
use Rattle.language.specs.Syntax as language
use Rattle.language.specs.Typing.{ExpandedType, hidden, Context, Interface, Interfaces, arrow_of, expand}
use Rattle.language.specs.TypeOf.{same_type, type_of}
use Rattle.language.specs.Modules.{seeing, Made, made_type, made_value}
use Rattle.language.specs.Check.{outward_of, agrees, matched}
use Rattle.language.proofs.Agrees.{then-cases, need-cases}
use Rattle.words.proofs.SameNames.{same_refl}
use Rattle.language.proofs.Same.{lookup-same}
use Rattle.grammar.specs.Syntax as placed
use Rattle.grammar.specs.Syntax.{WrittenType, Declaration}
use Rattle.grammar.specs.Plain.{plain_d, plain_t}
use Rattle.rules.specs.declared.faults.CheckFault.TheVariants.{Missing, Mismatch}
use Rattle.rules.specs.Forms.{Out, good, after, want, known, give}
use Rattle.rules.specs.ItemForms.{neither}
use Rattle.rules.specs.Rules.{Scope, seen_in, types_of, values_of, supplied_by, expanding}
use Rattle.rules.specs.Checking.{onto, match_all}
use Rattle.rules.specs.Needs.{formed_t, formed_inward, with_types}
use Rattle.rules.proofs.Apart.{fresh}
use Rattle.rules.proofs.Items.{defines}
use Rattle.rules.proofs.Parts.{expanding-runs}
use Rattle.rules.proofs.Runs.{Run, tied-none, run-first, run-give, run-want, run-as, run-assoc}

-- ── the first definition of a name and kind ──

abbrev found : Option (ExpandedType × List Made) → (ExpandedType → List Made → Bool) → Bool
found None f = false
found (Some d) f = f d.0 d.1

found-cond : (b : Bool) (a : ExpandedType) (ms : List Made) (o : Option (ExpandedType × List Made)) (f : ExpandedType → List Made → Bool) →
    cond b (f a ms) (found o f) ≡ found (cond b (Some (a, ms)) o) f
found-cond true a ms o f = refl
found-cond false a ms o f = refl

matched-opaque : (n : Interfaces) (s ts : Context) (t : Name) (ds : List language.Declaration) (ms : List Made) →
    matched n s ts (language.opaque_type t ∷ ds) ms ≡ found (supplied_by true t ms) (λ a left. matched n s (bind t a ∷ ts) ds left)
matched-opaque n s ts t ds [] = refl
matched-opaque n s ts t ds (made_type k a ∷ ms) = rw (matched-opaque n s ts t ds ms)
    (found-cond (same_name k t) a ms (supplied_by true t ms) (λ b left. matched n s (bind t b ∷ ts) ds left))
matched-opaque n s ts t ds (made_value k a ∷ ms) = matched-opaque n s ts t ds ms

matched-transparent : (n : Interfaces) (s ts : Context) (t : Name) (u : language.WrittenType) (ds : List language.Declaration)
    (ms : List Made) → matched n s ts (language.transparent_type t u ∷ ds) ms ≡
    found (supplied_by true t ms) (λ a left. agrees (expand (seeing ts n s) u) a && matched n s (bind t a ∷ ts) ds left)
matched-transparent n s ts t u ds [] = refl
matched-transparent n s ts t u ds (made_type k a ∷ ms) = rw (matched-transparent n s ts t u ds ms)
    (found-cond (same_name k t) a ms (supplied_by true t ms)
    (λ b left. agrees (expand (seeing ts n s) u) b && matched n s (bind t b ∷ ts) ds left))
matched-transparent n s ts t u ds (made_value k a ∷ ms) = matched-transparent n s ts t u ds ms

matched-value : (n : Interfaces) (s ts : Context) (x : Name) (u : language.WrittenType) (ds : List language.Declaration)
    (ms : List Made) → matched n s ts (language.value_of_type x u ∷ ds) ms ≡
    found (supplied_by false x ms) (λ a left. agrees (expand (seeing ts n s) u) a && matched n s ts ds left)
matched-value n s ts x u ds [] = refl
matched-value n s ts x u ds (made_type k a ∷ ms) = matched-value n s ts x u ds ms
matched-value n s ts x u ds (made_value k a ∷ ms) = rw (matched-value n s ts x u ds ms)
    (found-cond (same_name k x) a ms (supplied_by false x ms) (λ b left. agrees (expand (seeing ts n s) u) b && matched n s ts ds left))

-- ── reading inward: in the scope of the whole body, and with what the body made of the earlier type names ──

-- the types ts and us have the same for each type name of `seen`
abbrev Alike : Context → Context → Context → Type 0
Alike seen ts us = (t : Name) (a : ExpandedType) → lookup seen t ≡ some a → lookup ts t ≡ lookup us t

inward-alike : (n : Interfaces) (s seen ts us : Context) → Alike seen ts us → (u : language.WrittenType) (a : ExpandedType) →
    expand (seeing seen n s) u ≡ some a → expand (seeing ts n s) u ≡ expand (seeing us n s) u
inward-alike n s seen ts us h language.int_type a e = refl
inward-alike n s seen ts us h language.bool_type a e = refl
inward-alike n s seen ts us h (language.named_type t) a e = h t a e
inward-alike n s seen ts us h (language.qualified_type m t) a e = refl
inward-alike n s seen ts us h (language.arrow_type x y) a e = sides (expand (seeing seen n s) x) (expand (seeing seen n s) y) refl refl e
    (λ b. inward-alike n s seen ts us h x b) (λ b. inward-alike n s seen ts us h y b)
  where
    sides : (o p : Maybe ExpandedType) → expand (seeing seen n s) x ≡ o → expand (seeing seen n s) y ≡ p → arrow_of o p ≡ some a →
        ((b : ExpandedType) → expand (seeing seen n s) x ≡ some b → expand (seeing ts n s) x ≡ expand (seeing us n s) x) →
        ((b : ExpandedType) → expand (seeing seen n s) y ≡ some b → expand (seeing ts n s) y ≡ expand (seeing us n s) y) →
        arrow_of (expand (seeing ts n s) x) (expand (seeing ts n s) y) ≡ arrow_of (expand (seeing us n s) x) (expand (seeing us n s) y)
    sides none p f g q i j = cc
    sides (some b) none f g q i j = cc
    sides (some b) (some c) f g q i j = ap₂ arrow_of (i b f) (j c g)

-- each type that is left is what the body's scope has for its name
abbrev pub Held : Context → List Made → Type 0
Held us [] = Unit {0}
Held us (made_type t a ∷ ms) = (lookup us t ≡ some a) × Held us ms
Held us (made_value x a ∷ ms) = Held us ms

supplied-held : (us : Context) (t : Name) (ms : List Made) (a : ExpandedType) (left : List Made) → Held us ms →
    supplied_by true t ms ≡ Some (a, left) → (lookup us t ≡ some a) × Held us left
supplied-held us t [] a left h e = absurd (cc)
supplied-held us t (made_type k b ∷ ms) a left h e = go (same_name k t) refl e (supplied-held us t ms a left h.1)
  where
    go : (c : Bool) → same_name k t ≡ c → cond c (Some (b, ms)) (supplied_by true t ms) ≡ Some (a, left) →
        (supplied_by true t ms ≡ Some (a, left) → (lookup us t ≡ some a) × Held us left) → (lookup us t ≡ some a) × Held us left
    go true f q i =
        let p : ◌≡◌ {A = ExpandedType × List Made} (b, ms) (a, left) = cc in (
          sym (lookup-same us k t f) ∙ (h.0 ∙ ap (λ (d : ExpandedType × List Made). some d.0) p),
          subst (λ (d : ExpandedType × List Made). Held us d.1) p h.1,
        )
    go false f q i = i q
supplied-held us t (made_value k b ∷ ms) a left h e = supplied-held us t ms a left h e

-- a fresh name takes nothing from the others
held_more : (us : Context) (t : Name) (a : ExpandedType) (ms : List Made) → lookup us t ≡ none → Held us ms → Held (bind t a ∷ us) ms
held_more us t a [] f h = tt
held_more us t a (made_type k b ∷ ms) f h = (go (same_name t k) refl, held_more us t a ms f h.1)
  where
    go : (c : Bool) → same_name t k ≡ c → cond c (some a) (lookup us k) ≡ some b
    go true e = let q = lookup-same us t k e in let r = h.0 in cc
    go false e = h.0
held_more us t a (made_value k b ∷ ms) f h = held_more us t a ms f h

fresh-type : (names : List Made) (t : Name) → fresh names t ≡ true → lookup (types_of names) t ≡ none
fresh-type names t h = go (lookup (types_of names) t) refl h
  where
    go : (o : Maybe ExpandedType) → lookup (types_of names) t ≡ o → neither (option_of o) (option_of (lookup (values_of names) t)) ≡ true →
        lookup (types_of names) t ≡ none
    go none e q = e
    go (some a) e q = absurd (cc)

-- the names of a body are what its scope has for them
pub defines-held : (n : Interfaces) (s : Context) (names : List Made) (ds : List language.Definition) (k : List Made) →
    Held (types_of names) names → defines n s names ds ≡ some k → Held (types_of k) k
defines-held n s names [] k h e = let z : names ≡ k = cc in subst (λ (l : List Made). Held (types_of l) l) z h
defines-held n s names (language.type_is t u ∷ ds) k h e = need-cases (fresh names t) _ k e (λ f g.
    then-cases (expand (seeing (types_of names) n s) u) _ k g (λ a i j.
    defines-held n s (made_type t a ∷ names) ds k (
      cond-true (same_name t t) (some a) (lookup (types_of names) t) (same_refl t),
      held_more (types_of names) t a names
          (fresh-type names t f) h,
    ) j))
defines-held n s names (language.value_is x p ∷ ds) k h e = need-cases (fresh names x) _ k e (λ f g.
    then-cases (type_of (seeing (types_of names) n s) (values_of names) p) _ k g (λ a i j.
    defines-held n s (made_value x a ∷ names) ds k h j))

pub held-onto : (us : Context) (ms acc : List Made) → Held us ms → Held us acc → Held us (onto ms acc)
held-onto us [] acc h k = k
held-onto us (made_type t a ∷ ms) acc h k = held-onto us ms (made_type t a ∷ acc) h.1 (h.0, k)
held-onto us (made_value x a ∷ ms) acc h k = held-onto us ms (made_value x a ∷ acc) h k

value-held : (us : Context) (x : Name) (ms : List Made) (a : ExpandedType) (left : List Made) → Held us ms →
    supplied_by false x ms ≡ Some (a, left) → Held us left
value-held us x [] a left h e = absurd (cc)
value-held us x (made_type k b ∷ ms) a left h e = value-held us x ms a left h.1 e
value-held us x (made_value k b ∷ ms) a left h e = go (same_name k x) e (value-held us x ms a left h)
  where
    go : (c : Bool) → cond c (Some (b, ms)) (supplied_by false x ms) ≡ Some (a, left) →
        (supplied_by false x ms ≡ Some (a, left) → Held us left) → Held us left
    go true q i =
        let p : ◌≡◌ {A = ExpandedType × List Made} (b, ms) (a, left) = cc in
        subst (λ (d : ExpandedType × List Made). Held us d.1) p h
    go false q i = i q

-- ── matching ──

agrees-then : (o : Maybe ExpandedType) (a : ExpandedType) (b : Bool) →
    (o then λ c. need (same_type c a) (need b (some (tt {0})))) ≡ need (agrees o a && b) (some tt)
agrees-then none a b = refl
agrees-then (some c) a b = go (same_type c a)
  where
    go : (d : Bool) → need d (need b (some (tt {0}))) ≡ need (d && b) (some tt)
    go true = refl
    go false = refl

same-need-test : {b c : Bool} → c ≡ b → need b (some (tt {0})) ≡ need c (some tt)
same-need-test e = ap (λ (d : Bool). need d (some (tt {0}))) (sym e)

alike-more : (seen ts us : Context) (t : Name) (a b : ExpandedType) → Alike seen ts us → lookup us t ≡ some a →
    Alike (bind t b ∷ seen) (bind t a ∷ ts) us
alike-more seen ts us t a b h e x c f = go (same_name t x) refl f
  where
    go : (d : Bool) → same_name t x ≡ d → cond d (some b) (lookup seen x) ≡ some c → cond d (some a) (lookup ts x) ≡ lookup us x
    go true q r = sym e ∙ lookup-same us t x q
    go false q r = h x c r

-- nothing is left to be said
abbrev pub finish : List Made → List ExpandedType → Out (List ExpandedType) Unit
finish left ts = good tt ts

module _ (tp sp : ℕ) (body : Scope) (m : Name) where
  abbrev us : Context
  us = types_of body.names

  abbrev n : Interfaces
  n = body.modules

  abbrev s : Context
  s = body.stock

  -- a name that has to agree with its definition
  agree-runs : (o : Option (ExpandedType × List Made)) (w : WrittenType) (at : ℕ) (ds : List Declaration) (ts : List ExpandedType) (u : ℕ) →
      u ≤ sp → (e : Maybe ExpandedType) → expand (seen_in body) (plain_t w) ≡ e → (left : ExpandedType → List Made → Bool) →
      (ls : List ExpandedType) →
      ((d : ExpandedType × List Made) → o ≡ Some d →
      Run tp sp (after (match_all tp sp body ds d.1 (with_types ts (formed_t (seen_in body) (plain_t w)))) finish)
      (need (left d.0 d.1) (some tt)) (with_types ts (formed_t (seen_in body) (plain_t w))) u ls 0) →
      Run tp sp (after (after (after (known o (Missing at) ts) (λ d s. after (expanding tp sp w body s) (λ a s.
      after (want (same_type a d.0) (Mismatch at) s) (λ _. give d.1)))) (match_all tp sp body ds)) finish)
      (need (found o (λ a l. agrees e a && left a l)) (some tt)) ts u (formed_t (seen_in body) (plain_t w) ++ ls) 0
  agree-runs None w at ds ts u h e q left ls k = record { tied = tied-none (Missing at) refl refl }
  agree-runs (Some d) w at ds ts u h e q left ls k = rw (sym q)
      (run-assoc tp sp (after (expanding tp sp w body ts) (λ a s. after (want (same_type a d.0) (Mismatch at) s) (λ _. give d.1)))
      (match_all tp sp body ds) finish
      (run-assoc tp sp (expanding tp sp w body ts) (λ a s. after (want (same_type a d.0) (Mismatch at) s) (λ _. give d.1))
      (λ l s. after (match_all tp sp body ds l s) finish)
      (run-as tp sp (agrees-then (expand (seen_in body) (plain_t w)) d.0 (left d.0 d.1))
      (run-first tp sp (λ a s. after (after (want (same_type a d.0) (Mismatch at) s) (λ _. give d.1))
      (λ l s. after (match_all tp sp body ds l s) finish)) _ (expanding-runs tp sp w body ts u h) (λ a f.
      run-assoc tp sp (want (same_type a d.0) (Mismatch at) (with_types ts (formed_t (seen_in body) (plain_t w)))) (λ _. give d.1)
      (λ l s. after (match_all tp sp body ds l s) finish)
      (run-want tp sp (same_type a d.0) (Mismatch at) (λ _ s. after (match_all tp sp body ds d.1 s) finish) _ _ _ _ _
      (λ _. k d refl)))))))

  pub match-runs : (ds : List Declaration) (left : List Made) (ts : List ExpandedType) (u : ℕ) → u ≤ sp → (seen vs acc : Context) →
      Alike seen acc us → Held us left → (i : Interface) → outward_of n s m seen vs (map plain_d ds) ≡ some i →
      Run tp sp (after (match_all tp sp body ds left ts) finish) (need (matched n s acc (map plain_d ds) left) (some tt)) ts u
      (formed_inward (seen_in body) (map plain_d ds)) 0
  match-runs [] left ts u h seen vs acc alike held i o = run-give tp sp tt ts u h
  match-runs (placed.opaque_type at t ∷ ds) left ts u h seen vs acc alike held i o =
      run-as tp sp (same-need-test (matched-opaque n s acc t.bytes (map plain_d ds) left))
      (go (supplied_by true t.bytes left) refl
      (λ a l p q. match-runs ds l ts u h (bind t.bytes (hidden m t.bytes) ∷ seen) vs (bind t.bytes a ∷ acc)
      (alike-more seen acc us t.bytes a (hidden m t.bytes) alike p) q i o))
    where
      go : (o : Option (ExpandedType × List Made)) → supplied_by true t.bytes left ≡ o →
          ((a : ExpandedType) (l : List Made) → lookup us t.bytes ≡ some a → Held us l →
          Run tp sp (after (match_all tp sp body ds l ts) finish)
          (need (matched n s (bind t.bytes a ∷ acc) (map plain_d ds) l) (some tt)) ts u (formed_inward (seen_in body) (map plain_d ds)) 0) →
          Run tp sp (after (after (after (known o (Missing t.place) ts) (λ d. give d.1)) (match_all tp sp body ds)) finish)
          (need (found o (λ a l. matched n s (bind t.bytes a ∷ acc) (map plain_d ds) l)) (some tt)) ts u
          (formed_inward (seen_in body) (map plain_d ds)) 0
      go None e k = record { tied = tied-none (Missing t.place) refl refl }
      go (Some d) e k = let (p, q) = supplied-held us t.bytes left d.0 d.1 held e in k d.0 d.1 p q
  match-runs (placed.transparent_type at t w ∷ ds) left ts u h seen vs acc alike held i o =
      then-cases (expand (seeing seen n s) (plain_t w)) (λ a. outward_of n s m (bind t.bytes a ∷ seen) vs (map plain_d ds)) i o (λ b e f.
      run-as tp sp (same-need-test (matched-transparent n s acc t.bytes (plain_t w) (map plain_d ds) left))
      (agree-runs (supplied_by true t.bytes left) w t.place ds ts u h (expand (seeing acc n s) (plain_t w))
      (sym (inward-alike n s seen acc us alike (plain_t w) b e)) (λ a l. matched n s (bind t.bytes a ∷ acc) (map plain_d ds) l)
      (formed_inward (seen_in body) (map plain_d ds)) (λ d q.
      let (p, r) = supplied-held us t.bytes left d.0 d.1 held q in
      match-runs ds d.1 _ u h (bind t.bytes b ∷ seen) vs (bind t.bytes d.0 ∷ acc)
      (alike-more seen acc us t.bytes d.0 b alike p) r i f)))
  match-runs (placed.value_of_type x w ∷ ds) left ts u h seen vs acc alike held i o =
      then-cases (expand (seeing seen n s) (plain_t w)) (λ a. outward_of n s m seen (bind x.bytes a ∷ vs) (map plain_d ds)) i o (λ b e f.
      run-as tp sp (same-need-test (matched-value n s acc x.bytes (plain_t w) (map plain_d ds) left))
      (agree-runs (supplied_by false x.bytes left) w x.place ds ts u h (expand (seeing acc n s) (plain_t w))
      (sym (inward-alike n s seen acc us alike (plain_t w) b e)) (λ a l. matched n s acc (map plain_d ds) l)
      (formed_inward (seen_in body) (map plain_d ds)) (λ d q.
      match-runs ds d.1 _ u h seen (bind x.bytes b ∷ vs) acc alike
      (value-held us x.bytes left d.0 d.1 held q) i f)))
