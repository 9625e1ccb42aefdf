-- Names in the scope table and names in scope.
use Rattle.std.proofs.Common.{◌≡◌, ℕ, zero, suc, ◌+◌, ◌<◌, ◌≤◌, min, Bool, true, false, cond, ltb, List, [], ◌∷◌, length, take, set, Some, None, Option, sym, refl, ap, ◌∙◌, subst, add-one, arith, length-set}
use mathlib.Core.Option.{Option as Maybe, none, some}
use lib.ListN.{get_elem?}
use Rattle.std.specs.List.{slice_get, find}
use Rattle.std.specs.Option.{option_map}
use Rattle.std.proofs.lemmas.List.{take-set}
use Rattle.std.proofs.lemmas.Bool.{ltb-true}
use Rattle.words.specs.Names.{Name, same_name}
use Rattle.language.specs.declared.spans.Span.{Span}
use Rattle.language.specs.declared.bindings.Binding.{Binding}
use Rattle.language.specs.Names as names
use Rattle.language.specs.Names.{bind, lookup, pantry_name}
use Rattle.language.specs.Scopes.{chain, nearest_in}
use Rattle.language.specs.Bindings.{part_of, spelled_in, bindings_in, option_of}
use Rattle.language.specs.Typing as typing
use Rattle.language.specs.Typing.{ExpandedType, Context, Interfaces, type_declared, value_declared, taken}
use Rattle.language.specs.Modules.{Made, made_type, made_value}
use Rattle.grammar.specs.Table.{name_in}
use Rattle.rules.specs.declared.faults.CheckFault.TheVariants.{ScopeFull}
use Rattle.rules.specs.Rules as rules
use Rattle.rules.specs.Rules.{types_of, values_of, seen_in, taking}
use Rattle.rules.specs.Checking.{interface_of}
use Rattle.typing.specs.declared.types.Slot.{Slot}
use Rattle.typing.specs.declared.types.Slot.TheVariants as slot
use Rattle.typing.specs.declared.types.Scope.{Scope}
use Rattle.typing.specs.declared.types.Interface.{Interface}
use Rattle.typing.specs.declared.types.Known.{Known}
use Rattle.typing.specs.declared.types.Given.{Given}
use Rattle.typing.specs.declared.types.TypeEntry.{TypeEntry}
use Rattle.typing.specs.Slots.{held_slot}
use Rattle.typing.specs.Tables as table
use Rattle.typing.specs.Tables.{State, binding, bound, enter_n, enter_type_n, nearest_n, interface_n, in_interface, declared_n, entry_n, taken_n}
use Rattle.typing.specs.Stands.{Stands, Holding, no_name, type_name, value_name, Declares, declares, AllDeclare, none_declares, one_declares, Stocks, stocks_none, stocks_one, Scoped}
use Rattle.typing.proofs.Alike.{More, Next, Alike, alike-good, want-within, Both, neither, each}

-- a number and the type that it tells
abbrev pub Told : List ExpandedType → ℕ → ExpandedType → Type 0
Told ts k a = slice_get ts k ≡ Some a

-- the first places of a table
elem-take : {A : Type 0} (n : ℕ) (xs : List A) (i : ℕ) → i < n → get_elem? (take n xs) i ≡ get_elem? xs i
elem-take zero xs i h = absurd (omega arith)
elem-take (suc n) [] i h = refl
elem-take (suc n) (x ∷ xs) zero h = refl
elem-take (suc n) (x ∷ xs) (suc i) h = elem-take n xs i (omega arith)

pub elem-front : {A : Type 0} (n : ℕ) (xs ys : List A) (i : ℕ) → i < n → take n ys ≡ take n xs → get_elem? ys i ≡ get_elem? xs i
elem-front n xs ys i h e = sym (elem-take n ys i h) ∙ (ap (λ zs. get_elem? zs i) e ∙ elem-take n xs i h)

elem-set : {A : Type 0} (xs : List A) (n : ℕ) (v : A) → n < length xs → get_elem? (set xs n v) n ≡ some v
elem-set [] n v h = absurd (omega arith)
elem-set (x ∷ xs) zero v h = refl
elem-set (x ∷ xs) (suc n) v h = elem-set xs n v (omega arith)

module _ {text : List ℕ} {ts : List ExpandedType} {slots : List Slot} {first : ℕ} where
  -- links lead to places in use
  pub types-low : {u t v : ℕ} {ms : List Made} → Holding text ts slots first u t v ms → t ≤ u
  types-low no_name = omega arith
  types-low (type_name p q r o h) = omega arith
  types-low (value_name p q r o h) = omega (arith, types-low h)

  pub values_low : {u t v : ℕ} {ms : List Made} → Holding text ts slots first u t v ms → v ≤ u
  values_low no_name = omega arith
  values_low (type_name p q r o h) = omega (arith, values_low h)
  values_low (value_name p q r o h) = omega arith

  -- what is held stays so while the places in use and the types stay
  pub holding-kept : {u t v : ℕ} {ms : List Made} (n : ℕ) (us : List ExpandedType) (rs : List Slot) → u ≤ n → take n rs ≡ take n slots → More ts us →
      Holding text ts slots first u t v ms → Holding text us rs first u t v ms
  holding-kept n us rs l e m no_name = no_name
  holding-kept n us rs l e m (type_name {u = u} p q r o h) =
      type_name (elem-front n slots rs u (omega arith) e ∙ p) q (m _ _ r) o (holding-kept n us rs (omega arith) e m h)
  holding-kept n us rs l e m (value_name {u = u} p q r o h) =
      value_name (elem-front n slots rs u (omega arith) e ∙ p) q (m _ _ r) o (holding-kept n us rs (omega arith) e m h)

-- the answer of a search that follows at most n links
abbrev answer : List ℕ → List Slot → ℕ → ℕ → Name → Option ℕ
answer text slots n link x = option_of (lookup (chain (bindings_in held_slot text slots) n link) x)

at-end : (text : List ℕ) (slots : List Slot) (n : ℕ) (x : Name) → answer text slots n 0 x ≡ None
at-end text slots zero x = refl
at-end text slots (suc n) x = refl

-- the binding at place u is the first one from the link that leads there
at_name : (text : List ℕ) (slots : List Slot) (n u : ℕ) (y : Slot) (b : Binding ℕ) (x : Name) → held_slot (suc u) y ≡ Some b → get_elem? slots u ≡ some y →
    answer text slots (suc n) (suc u) x ≡ option_of (cond (same_name (spelled_in text b.name) x) (some b.value)
    (lookup (chain (bindings_in held_slot text slots) n b.outer) x))
at_name text slots n u y b x e p = rw (p, e)

nearer : {R : ℕ → ExpandedType → Type 0} (c : Bool) (k : ℕ) (a : ExpandedType) (o : Maybe ℕ) (p : Maybe ExpandedType) → R k a →
    Both R (option_of o) (option_of p) → Both R (option_of (cond c (some k) o)) (option_of (cond c (some a) p))
nearer true k a o p r h = each r
nearer false k a o p r h = h

module _ {text : List ℕ} {ts : List ExpandedType} {slots : List Slot} {first : ℕ} where
  pub types-both : {u t v : ℕ} {ms : List Made} (n : ℕ) (x : Name) → t ≤ n → Holding text ts slots first u t v ms →
      Both (Told ts) (answer text slots n t x) (option_of (lookup (types_of ms) x))
  types-both n x l no_name = rw (at-end text slots n x) neither
  types-both zero x l (type_name p q r o h) = absurd (omega arith)
  types-both (suc n) x l (type_name {u = u} {b = b} {x = y} {a = a} p q r o h) =
      rw (at_name text slots n u (slot.OfType b) b x refl p, q, o)
      (nearer (same_name y x) b.value a _ _ r (types-both n x (omega (arith, types-low h)) h))
  types-both n x l (value_name p q r o h) = types-both n x l h

  pub values-both : {u t v : ℕ} {ms : List Made} (n : ℕ) (x : Name) → v ≤ n → Holding text ts slots first u t v ms →
      Both (Told ts) (answer text slots n v x) (option_of (lookup (values_of ms) x))
  values-both n x l no_name = rw (at-end text slots n x) neither
  values-both n x l (type_name p q r o h) = values-both n x l h
  values-both zero x l (value_name p q r o h) = absurd (omega arith)
  values-both (suc n) x l (value_name {u = u} {b = b} {x = y} {a = a} p q r o h) =
      rw (at_name text slots n u (slot.OfValue b) b x refl p, q, o)
      (nearer (same_name y x) b.value a _ _ r (values-both n x (omega (arith, values_low h)) h))

module _ (text : List ℕ) (ts : List ExpandedType) (s : State) (first : ℕ) where
  -- the nearest binding, where at most 65,535 places are in use
  pub look-type : {u t v : ℕ} {ms : List Made} (x : Span) → u ≤ 65535 → Holding text ts s.slots first u t v ms →
      Both (Told ts) (nearest_n text t x s) (option_of (lookup (types_of ms) (name_in text x).bytes))
  unfolding nearest_n nearest_in part_of
  look-type x l h = types-both 65535 (name_in text x).bytes (omega (arith, types-low h)) h

  pub look-value : {u t v : ℕ} {ms : List Made} (x : Span) → u ≤ 65535 → Holding text ts s.slots first u t v ms →
      Both (Told ts) (nearest_n text v x s) (option_of (lookup (values_of ms) (name_in text x).bytes))
  unfolding nearest_n nearest_in part_of
  look-value x l h = values-both 65535 (name_in text x).bytes (omega (arith, values_low h)) h

module _ (text : List ℕ) where
  declares-kept : (ts us : List ExpandedType) (ss rs : List Slot) (n m : ℕ) {i : Interface} {j : names.Binding typing.Interface} → n ≤ m →
      take n rs ≡ take n ss → More ts us → Declares text ts ss n i j → Declares text us rs m i j
  declares-kept ts us ss rs n m l e more (declares q k h) = declares q (omega arith) (holding-kept n us rs k e more h)

  pub all-kept : (ts us : List ExpandedType) (ss rs : List Slot) (n m : ℕ) {is : List Interface} {js : Interfaces} → n ≤ m →
      take n rs ≡ take n ss → More ts us → AllDeclare text ts ss n is js → AllDeclare text us rs m is js
  all-kept ts us ss rs n m l e more none_declares = none_declares
  all-kept ts us ss rs n m l e more (one_declares h hs) =
      one_declares (declares-kept ts us ss rs n m l e more h) (all-kept ts us ss rs n m l e more hs)

  -- the interface of a name
  pub data BothDeclare (ts : List ExpandedType) (ss : List Slot) (n : ℕ) : Option Interface → Maybe typing.Interface → Type 0 where
    neither-declares : BothDeclare ts ss n None none
    both-declare : {i : Interface} {ms : List Made} {first used : ℕ} → used ≤ n → Holding text ts ss first used i.types i.values ms →
        BothDeclare ts ss n (Some i) (some (interface_of ms))

  pub interface-both : (ts : List ExpandedType) (ss : List Slot) (n : ℕ) {is : List Interface} {js : Interfaces} (m : Name) →
      AllDeclare text ts ss n is js → BothDeclare ts ss n (interface_n text m is) (lookup js m)
  interface-both ts ss n m none_declares = neither-declares
  interface-both ts ss n {is = i ∷ is} {js = bind x k ∷ js} m (one_declares (declares {ms = ms} q l h) hs) =
      rw q (elim (same_name x m) as (λ c. BothDeclare ts ss n (cond c (Some i) (interface_n text m is)) (cond c (some (interface_of ms)) (lookup js m)))
      [ true ↦ both-declare l h | false ↦ interface-both ts ss n m hs ])

  in-types : (s : State) (ts : List ExpandedType) (n : ℕ) (x : Span) {o : Option Interface} {p : Maybe typing.Interface} → n ≤ 65535 →
      BothDeclare ts s.slots n o p →
      Both (Told ts) (in_interface text table.types_of x s o) (option_of (type_declared p (name_in text x).bytes))
  in-types s ts n x l neither-declares = neither
  in-types s ts n x l (both-declare {first = first} k h) = look-type text ts s first x (omega arith) h

  in-values : (s : State) (ts : List ExpandedType) (n : ℕ) (x : Span) {o : Option Interface} {p : Maybe typing.Interface} → n ≤ 65535 →
      BothDeclare ts s.slots n o p →
      Both (Told ts) (in_interface text table.values_of x s o) (option_of (value_declared p (name_in text x).bytes))
  in-values s ts n x l neither-declares = neither
  in-values s ts n x l (both-declare {first = first} k h) = look-value text ts s first x (omega arith) h

either : {A B : Type 0} {R : A → B → Type 0} (b : Bool) (o o' : Option A) (p p' : Maybe B) → Both R o (option_of p) → Both R o' (option_of p') →
    Both R (cond b o o') (option_of (cond b p p'))
either true o o' p p' h k = h
either false o o' p p' h k = k

-- the pantry's entries
pub stocks-kept : {ts us : List ExpandedType} {es : List Known} {c : Context} → More ts us → Stocks ts es c → Stocks us es c
stocks-kept m stocks_none = stocks_none
stocks-kept m (stocks_one e q h) = stocks_one e (m _ _ q) (stocks-kept m h)

entry-both : {ts : List ExpandedType} {es : List Known} {c : Context} (x : Name) → Stocks ts es c → Both (Told ts) (entry_n x es) (option_of (lookup c x))
entry-both x stocks_none = neither
entry-both {ts} x (stocks_one {e = e} {x = y} {a = a} {es = es} {c = c} p q h) =
    rw (← p) (elim (same_name e.name.now x) as (λ b. Both (Told ts) (option_map (λ (k : Known). k.of) (cond b (Some e) (find (λ k. same_name k.name.now x) es)))
    (option_of (cond b (some a) (lookup c x))))
    [ true ↦ each q | false ↦ entry-both x h ])

module _ (w : Given) (tp sp : ℕ) (base : List TypeEntry) (first : ℕ) where
  abbrev text : List ℕ
  text = w.text.now

  -- what is in scope stays so
  pub scoped-next : (s s' : State) (ts ts' : List ExpandedType) (g : Scope) (h : rules.Scope) → Next text tp sp base g.used s ts s' ts' →
      Scoped w first ts s.slots g h → Scoped w first ts' s'.slots g h
  scoped-next s s' ts ts' g h n c = record {
    int_is = n.more 0 _ c.int_is;
    bool_is = n.more 1 _ c.bool_is;
    used = c.used;
    low = c.low;
    stock = stocks-kept n.more c.stock;
    modules = all-kept text ts ts' s.slots s'.slots g.used g.used (omega arith) n.front n.more c.modules;
    names = holding-kept g.used ts' s'.slots (omega arith) n.front n.more c.names;
  }

  -- the four ways to look a name up
  pub type-named : (s : State) (ts : List ExpandedType) (g : Scope) (h : rules.Scope) (x : Span) → Scoped w first ts s.slots g h →
      Both (Told ts) (nearest_n text g.types x s) (option_of (lookup (types_of h.names) (name_in text x).bytes))
  type-named s ts g h x c = look-type text ts s first x c.low c.names

  pub value-named : (s : State) (ts : List ExpandedType) (g : Scope) (h : rules.Scope) (x : Span) → Scoped w first ts s.slots g h →
      Both (Told ts) (nearest_n text g.values x s) (option_of (lookup (values_of h.names) (name_in text x).bytes))
  value-named s ts g h x c = look-value text ts s first x c.low c.names

  pub type-taken : (s : State) (ts : List ExpandedType) (g : Scope) (h : rules.Scope) (m x : Span) → Scoped w first ts s.slots g h →
      Both (Told ts) (declared_n text w.interfaces.now table.types_of m x s)
      (option_of (type_declared (lookup h.modules (name_in text m).bytes) (name_in text x).bytes))
  unfolding declared_n part_of
  type-taken s ts g h m x c =
      in-types text s ts g.used x c.low (interface-both text ts s.slots g.used (name_in text m).bytes c.modules)

  value-declared : (s : State) (ts : List ExpandedType) (g : Scope) (h : rules.Scope) (m x : Span) → Scoped w first ts s.slots g h →
      Both (Told ts) (declared_n text w.interfaces.now table.values_of m x s)
      (option_of (value_declared (lookup h.modules (name_in text m).bytes) (name_in text x).bytes))
  unfolding declared_n part_of
  value-declared s ts g h m x c =
      in-values text s ts g.used x c.low (interface-both text ts s.slots g.used (name_in text m).bytes c.modules)

  pub value_taken : (s : State) (ts : List ExpandedType) (g : Scope) (h : rules.Scope) (m x : Span) → Scoped w first ts s.slots g h →
      Both (Told ts) (taken_n w m x s) (option_of (taken (seen_in h) (name_in text m).bytes (name_in text x).bytes))
  unfolding taken_n part_of
  value_taken s ts g h m x c =
      either (same_name pantry_name (name_in text m).bytes) _ _ _ _ (entry-both (name_in text x).bytes c.stock) (value-declared s ts g h m x c)

  -- a scope with one name more
  pub record Inner (u : ℕ) (s : State) (ts : List ExpandedType) (g : Scope) (h : rules.Scope) : Type 0 where
    pub scoped : Scoped w first ts s.slots g h
    pub outside : u ≤ g.used

  stands-slots : (s : State) (ts : List ExpandedType) (n : ℕ) (v : Slot) → Stands text tp sp base s ts →
      Stands text tp sp base (record { types = s.types; count = s.count; slots = set s.slots n v }) ts
  stands-slots s ts n v st = record {
    count = st.count;
    fits = st.fits;
    types_long = st.types_long;
    slots_long = rw (length-set s.slots n v) st.slots_long;
    rows = st.rows;
    rest = st.rest;
    distinct = st.distinct;
  }

  -- the next place of the scope table, with what is entered there
  module _ (at k : ℕ) (a : ExpandedType) (s : State) (ts : List ExpandedType) (g : Scope) (h : rules.Scope) (x : Span)
      (st : Stands text tp sp base s ts) (c : Scoped w first ts s.slots g h) (e : slice_get ts k ≡ Some a) where
    entered : (v : Slot) (made : Made) (g' : Scope) → g'.used ≡ g.used + 1 →
        (g.used < length s.slots → Holding text ts (set s.slots g.used v) first (g.used + 1) g'.types g'.values (made ∷ h.names)) →
        ltb g.used (min (length s.slots) 65535) ≡ true →
        Inner g.used (record { types = s.types; count = s.count; slots = set s.slots g.used v }) ts g'
        (rules.with_name made h)
    entered v made g' q holds t =
        let l : g.used < min (length s.slots) 65535 = ltb-true g.used (min (length s.slots) 65535) t in
        let f = take-set s.slots g.used v in
        record {
          scoped = record {
            int_is = c.int_is;
            bool_is = c.bool_is;
            stock = c.stock;
            used = q ∙ ap (λ n. n + 1) c.used;
            low = omega arith;
            modules = subst (λ (n : ℕ). AllDeclare text ts (set s.slots g.used v) n w.interfaces.now h.modules) (sym q)
                (all-kept text ts ts s.slots (set s.slots g.used v) g.used (g.used + 1) (omega arith) f (λ i b z. z) c.modules);
            names = subst (λ (n : ℕ). Holding text ts (set s.slots g.used v) first n g'.types g'.values (made ∷ h.names)) (sym q)
                (holds (omega arith));
          };
          outside = omega arith;
        }

    pub enter-alike : Alike text tp sp base (Inner g.used) g.used s ts (enter_n at g x k s)
        (taking sp at (made_value (name_in text x).bytes a) h ts)
    unfolding enter_n binding taking part_of
    enter-alike =
        let v = slot.OfValue (bound x k g.values) in
        let f = take-set s.slots g.used v in
        want-within text tp sp base (ltb g.used (min (length s.slots) 65535)) (ltb h.used sp) (ScopeFull at) (ScopeFull at) _ _ _
        (rw (c.used, st.slots_long)) refl
        (λ t. alike-good (record { stands = stands-slots s ts g.used v st; more = λ i b z. z; front = f })
        (entered v (made_value (name_in text x).bytes a) (record { used = g.used + 1; types = g.types; values = g.used + 1 }) refl
        (λ l. rw (add-one g.used) (value_name (elem-set s.slots g.used v l) refl e refl
        (holding-kept g.used ts (set s.slots g.used v) (omega arith) f (λ i b z. z) c.names))) t))

    pub enter-type-alike : Alike text tp sp base (Inner g.used) g.used s ts (enter_type_n at g x k s)
        (taking sp at (made_type (name_in text x).bytes a) h ts)
    unfolding enter_type_n binding taking part_of
    enter-type-alike =
        let v = slot.OfType (bound x k g.types) in
        let f = take-set s.slots g.used v in
        want-within text tp sp base (ltb g.used (min (length s.slots) 65535)) (ltb h.used sp) (ScopeFull at) (ScopeFull at) _ _ _
        (rw (c.used, st.slots_long)) refl
        (λ t. alike-good (record { stands = stands-slots s ts g.used v st; more = λ i b z. z; front = f })
        (entered v (made_type (name_in text x).bytes a) (record { used = g.used + 1; types = g.used + 1; values = g.values }) refl
        (λ l. rw (add-one g.used) (type_name (elem-set s.slots g.used v l) refl e refl
        (holding-kept g.used ts (set s.slots g.used v) (omega arith) f (λ i b z. z) c.names))) t))
