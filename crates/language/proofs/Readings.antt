-- Every typed sheet has a reading of its hidden types: a body's types mention hidden types of earlier modules alone.
use Rattle.std.proofs.Common.{◌≡◌, Bool, true, false, cond, not, ◌⊎◌, List, [], ◌∷◌, ◌++◌, map, sym, refl, ◌∙◌, subst, ap₂, inl, inr}
use mathlib.Core.Option.{Option, none, some}
use Rattle.words.specs.Names.{Name, same_name}
use Rattle.language.specs.Names.{Binding, bind, lookup, apart_from, distinct}
use Rattle.language.specs.Syntax.{WrittenType, int_type, bool_type, named_type, qualified_type, arrow_type, Declaration, Definition, Module}
use Rattle.language.specs.Typing.{ExpandedType, int, bool, hidden, ◌⇒◌, Context, Interface, type_declared, arrow_of, expand, Interfaces}
use Rattle.language.specs.Modules.{
  seeing,
  declared_name,
  Made,
  made_type,
  made_value,
  Outward,
  o_end,
  o_opaque,
  o_transparent,
  o_value,
  BodyTyped,
  b_end,
  b_type,
  b_value,
  Matches,
  m_end,
  m_skip,
  m_opaque,
  m_transparent,
  m_value,
  ModulesTyped,
  opaques_of,
  hides_of,
  y_none,
  y_module,
}
use Rattle.language.specs.Reading.{Reading, reveal, RevealsModule, Reveals, reveal_or, extend, reading_from, reading_of}
use Rattle.language.proofs.Grow.{lookup-append}
use Rattle.words.proofs.SameNames.{same_refl, same-flip}
use Rattle.language.proofs.Same.{both_true, not-true, lookup-same}
use Rattle.language.proofs.Sheet.{rest-distinct}

-- every hidden type in a is of a module in n
abbrev Known : Interfaces → ExpandedType → Type 0
Known n int = Unit {0}
Known n bool = Unit {0}
Known n (hidden m t) = (i : Interface) × (lookup n m ≡ some i)
Known n (a ⇒ b) = Known n a × Known n b

abbrev KnownCtx : Interfaces → Context → Type 0
KnownCtx n ts = (t : Name) (a : ExpandedType) → lookup ts t ≡ some a → Known n a

-- so are the types that the interfaces l declare
abbrev KnownTypes : Interfaces → Interfaces → Type 0
KnownTypes n l = (m : Name) (i : Interface) → lookup l m ≡ some i → KnownCtx n i.types

known_more : (n k : Interfaces) (a : ExpandedType) → Known n a → Known (n ++ k) a
known_more n k int h = tt
known_more n k bool h = tt
known_more n k (hidden m t) (i, q) = (i, lookup-append n k m i q)
known_more n k (a ⇒ b) (h, h') = (known_more n k a h, known_more n k b h')

known-cons : (n : Interfaces) (ts : Context) (t : Name) (a : ExpandedType) → Known n a → KnownCtx n ts → KnownCtx n (bind t a ∷ ts)
known-cons n ts t a k c u b = go (same_name t u)
  where
    go : (f : Bool) → cond f (some a) (lookup ts u) ≡ some b → Known n b
    go true h = let q : a ≡ b = cc in rw q at k
    go false h = c u b h

known-arrow : (n : Interfaces) (o p : Option ExpandedType) (c : ExpandedType) → ((a : ExpandedType) → o ≡ some a → Known n a) →
    ((a : ExpandedType) → p ≡ some a → Known n a) → arrow_of o p ≡ some c → Known n c
known-arrow n none p c f g h = let z : c ≡ int = cc in rw z tt
known-arrow n (some a) none c f g h = let z : c ≡ int = cc in rw z tt
known-arrow n (some a) (some b) c f g h = let z : c ≡ (a ⇒ b) = cc in rw z (f a refl, g b refl)

known-taken : (n : Interfaces) (o : Option Interface) (t : Name) (a : ExpandedType) →
    ((i : Interface) → o ≡ some i → KnownCtx n i.types) → type_declared o t ≡ some a → Known n a
known-taken n none t a f h = let z : a ≡ int = cc in rw z tt
known-taken n (some i) t a f h = f i refl t a h

known-expand : (n l : Interfaces) (s ts : Context) → KnownCtx n ts → KnownTypes n l → (u : WrittenType) (a : ExpandedType) →
    expand (seeing ts l s) u ≡ some a → Known n a
known-expand n l s ts c k int_type a h = let z : a ≡ int = cc in rw z tt
known-expand n l s ts c k bool_type a h = let z : a ≡ bool = cc in rw z tt
known-expand n l s ts c k (named_type t) a h = c t a h
known-expand n l s ts c k (qualified_type m t) a h = known-taken n (lookup l m) t a (k m) h
known-expand n l s ts c k (arrow_type u v) a h =
    known-arrow n (expand (seeing ts l s) u) (expand (seeing ts l s) v) a (known-expand n l s ts c k u) (known-expand n l s ts c k v) h

-- an interface's types
known-outward : {l : Interfaces} {s : Context} {m : Name} (n : Interfaces) (j : Interface) → lookup n m ≡ some j → KnownTypes n l →
    {ts vs : Context} {ds : List Declaration} {i : Interface} → KnownCtx n ts → Outward l s m ts vs ds i → KnownCtx n i.types
known-outward n j q k c o_end = c
known-outward {m = m} n j q k {ts = ts} c (o_opaque {t = t} o) = known-outward n j q k (known-cons n ts t (hidden m t) (j, q) c) o
known-outward {l} {s} n j q k {ts = ts} c (o_transparent {t = t} {u = u} {a = a} h o) =
    known-outward n j q k (known-cons n ts t a (known-expand n l s ts c k u a h) c) o
known-outward n j q k c (o_value h o) = known-outward n j q k c o

-- a body's types, and of these what it made of the opaque ones
abbrev MadeKnown : Interfaces → List Made → Type 0
MadeKnown n [] = Unit {0}
MadeKnown n (made_type t a ∷ ms) = Known n a × MadeKnown n ms
MadeKnown n (made_value x a ∷ ms) = MadeKnown n ms

known-body : {n : Interfaces} {s : Context} → KnownTypes n n → {ts g : Context} {ds : List Definition} {ms : List Made} → KnownCtx n ts →
    BodyTyped n s ts g ds ms → MadeKnown n ms
known-body k c b_end = tt
known-body {n} {s} k {ts = ts} c (b_type {t = t} {u = u} {a = a} h b) =
    let y : Known n a = known-expand n n s ts c k u a h in (y, known-body k (known-cons n ts t a y c) b)
known-body k c (b_value t b) = known-body k c b

abbrev EachKnown : Interfaces → Context → Type 0
EachKnown n [] = Unit {0}
EachKnown n (bind t a ∷ os) = Known n a × EachKnown n os

known-matched : {n : Interfaces} {s ts : Context} {ds : List Declaration} {ms : List Made} → MadeKnown n ms →
    (k : Matches n s ts ds ms) → EachKnown n (opaques_of k)
known-matched k m_end = tt
known-matched k (m_skip {k = made_type t a} h) = known-matched k.1 h
known-matched k (m_skip {k = made_value t a} h) = known-matched k h
known-matched k (m_opaque e h) = (k.0, known-matched k.1 h)
known-matched k (m_transparent e u h) = known-matched k.1 h
known-matched k (m_value e u h) = known-matched k h

-- ── the opaque names differ ──

abbrev title_of : Binding ExpandedType → Name
title_of (bind t a) = t

apart-matched : {n : Interfaces} {s ts : Context} {ds : List Declaration} {ms : List Made} (x : Name) (k : Matches n s ts ds ms) →
    apart_from x (map declared_name ds) ≡ true → apart_from x (map title_of (opaques_of k)) ≡ true
apart-matched x m_end h = refl
apart-matched x (m_skip m) h = apart-matched x m h
apart-matched x (m_opaque {t = t} {ds = ds} e m) h =
    let (p, q) = both_true (not (same_name t x)) (apart_from x (map declared_name ds)) h in rw (p, apart-matched x m q)
apart-matched x (m_transparent {t = t} {ds = ds} e u m) h =
    apart-matched x m (both_true (not (same_name t x)) (apart_from x (map declared_name ds)) h).1
apart-matched x (m_value {x = t} {ds = ds} e u m) h =
    apart-matched x m (both_true (not (same_name t x)) (apart_from x (map declared_name ds)) h).1

-- each of os is found in the list
abbrev Each : Context → Context → Type 0
Each l [] = Unit {0}
Each l (bind t a ∷ os) = (lookup l t ≡ some a) × Each l os

each-cons : (l : Context) (t : Name) (a : ExpandedType) (os : Context) → apart_from t (map title_of os) ≡ true → Each l os →
    Each (bind t a ∷ l) os
each-cons l t a [] h e = tt
each-cons l t a (bind u b ∷ os) h (q, e) =
    let (p, r) = both_true (not (same_name u t)) (apart_from t (map title_of os)) h in
    (rw (same-flip u t (not-true (same_name u t) p)) q, each-cons l t a os r e)

each-self : {n : Interfaces} {s ts : Context} {ds : List Declaration} {ms : List Made} (k : Matches n s ts ds ms) →
    distinct (map declared_name ds) ≡ true → Each (opaques_of k) (opaques_of k)
each-self m_end d = tt
each-self (m_skip m) d = each-self m d
each-self (m_opaque {t = t} {a = a} {ds = ds} e m) d =
    let (p, q) = both_true (apart_from t (map declared_name ds)) (distinct (map declared_name ds)) d in
    (rw (same_refl t) (refl {a = some a}), each-cons (opaques_of m) t a (opaques_of m) (apart-matched t m p) (each-self m q))
each-self (m_transparent {t = t} {ds = ds} e u m) d = each-self m (rest-distinct t (map declared_name ds) d)
each-self (m_value {x = t} {ds = ds} e u m) d = each-self m (rest-distinct t (map declared_name ds) d)

-- ── readings ──

-- a new module changes the reading of no type that mentions earlier ones alone
extend-known : (n : Interfaces) (ρ : Reading) (m : Name) (os : Context) → lookup n m ≡ none → (a : ExpandedType) → Known n a →
    reveal (extend ρ m os) a ≡ reveal ρ a
extend-known n ρ m os f int k = refl
extend-known n ρ m os f bool k = refl
extend-known n ρ m os f (hidden l t) (i, q) = go (same_name m l) refl
  where
    go : (b : Bool) → same_name m l ≡ b → cond b (reveal_or ρ (lookup os t) (hidden l t)) (ρ l t) ≡ ρ l t
    go true e = let r = lookup-same n m l e in cc
    go false e = refl
extend-known n ρ m os f (a ⇒ b) (k, k') = ap₂ ◌⇒◌ (extend-known n ρ m os f a k) (extend-known n ρ m os f b k')

lookup-last : (n : Interfaces) (m : Name) (i : Interface) → lookup n m ≡ none → lookup (n ++ (bind m i ∷ [])) m ≡ some i
lookup-last [] m i h = rw (same_refl m) refl
lookup-last (bind x j ∷ n) m i h = go (same_name x m) (lookup-last n m i) h
  where
    go : (b : Bool) → (lookup n m ≡ none → lookup (n ++ (bind m i ∷ [])) m ≡ some i) → cond b (some j) (lookup n m) ≡ none →
        cond b (some j) (lookup (n ++ (bind m i ∷ [])) m) ≡ some i
    go true r k = cc
    go false r k = r k

lookup-snoc : (n : Interfaces) (m k : Name) (i j : Interface) → lookup (n ++ (bind m i ∷ [])) k ≡ some j → (lookup n k ≡ some j) ⊎ (i ≡ j)
lookup-snoc [] m k i j h = go (same_name m k) none h
  where
    go : (b : Bool) (e : Option Interface) → cond b (some i) e ≡ some j → (e ≡ some j) ⊎ (i ≡ j)
    go true e h = inr cc
    go false e h = inl h
lookup-snoc (bind x y ∷ n) m k i j h = go (same_name x k) (lookup-snoc n m k i j) h
  where
    go : (b : Bool) → (lookup (n ++ (bind m i ∷ [])) k ≡ some j → (lookup n k ≡ some j) ⊎ (i ≡ j)) →
        cond b (some y) (lookup (n ++ (bind m i ∷ [])) k) ≡ some j → (cond b (some y) (lookup n k) ≡ some j) ⊎ (i ≡ j)
    go true r h = inl h
    go false r h = r h

-- the interfaces with one more
known-types : {n : Interfaces} {s : Context} {m : Name} {ds : List Declaration} {i : Interface} → lookup n m ≡ none → KnownTypes n n →
    Outward n s m [] [] ds i → KnownTypes (n ++ (bind m i ∷ [])) (n ++ (bind m i ∷ []))
known-types {n} {m = m} {i = i} f k o l j h = go (lookup-snoc n m l i j h)
  where
    up : KnownTypes (n ++ (bind m i ∷ [])) n
    up l j h t a q = known_more n (bind m i ∷ []) a (k l j h t a q)

    go : ((lookup n l ≡ some j) ⊎ (i ≡ j)) → KnownCtx (n ++ (bind m i ∷ [])) j.types
    go (inl q) = up l j q
    go (inr q) = subst (λ (x : Interface). KnownCtx (n ++ (bind m i ∷ [])) x.types) q
        (known-outward (n ++ (bind m i ∷ [])) i (lookup-last n m i f) up (λ t a h. let z : a ≡ int = cc in rw z tt) o)

-- what is known before the modules is read the same after them
later-reading : {s : Context} {n n' : Interfaces} {ms : List Module} (ρ : Reading) (t : ModulesTyped s n ms n') (a : ExpandedType) →
    Known n a → reveal (reading_from ρ (hides_of t)) a ≡ reveal ρ a
later-reading ρ y_none a k = refl
later-reading ρ (y_module {n = n} {m = m} {i = i} f g d o ac t) a k =
    later-reading (extend ρ m.name (opaques_of ac.matched)) t a (known_more n (bind m.name i ∷ []) a k) ∙
    extend-known n ρ m.name (opaques_of ac.matched) f a k

-- the module's opaque types
reads-os : (ρ σ : Reading) (m : Name) (l os : Context) (n : Interfaces) → ((a : ExpandedType) → Known n a → reveal σ a ≡ reveal ρ a) →
    ((t : Name) → σ m t ≡ extend ρ m l m t) → EachKnown n os → Each l os → RevealsModule σ m os
reads-os ρ σ m l [] n same at k e = tt
reads-os ρ σ m l (bind t a ∷ os) n same at (k, ks) (q, e) =
    (at t ∙ rw (same_refl m, q) (sym (same a k)), reads-os ρ σ m l os n same at ks e)

reads-sheet : {s : Context} {n n' : Interfaces} {ms : List Module} (ρ : Reading) → KnownTypes n n → (t : ModulesTyped s n ms n') →
    Reveals (reading_from ρ (hides_of t)) (hides_of t)
reads-sheet ρ k y_none = tt
reads-sheet ρ k (y_module {n = n} {m = m} {i = i} f g d o ac t) =
    let os : Context = opaques_of ac.matched in (
      reads-os ρ (reading_from (extend ρ m.name os) (hides_of t)) m.name os os n
          (λ a y. later-reading (extend ρ m.name os) t a (known_more n (bind m.name i ∷ []) a y) ∙
          extend-known n ρ m.name os f a y)
          (λ u. later-reading (extend ρ m.name os) t (hidden m.name u) (i, lookup-last n m.name i f))
          (known-matched (known-body k (λ u a h. let z : a ≡ int = cc in rw z tt) ac.typed) ac.matched)
          (each-self ac.matched d),
      reads-sheet (extend ρ m.name os) (known-types f k o) t,
    )

pub readable : {s : Context} {n' : Interfaces} {ms : List Module} (t : ModulesTyped s [] ms n') →
    Reveals (reading_of (hides_of t)) (hides_of t)
readable t = reads-sheet (λ m u. hidden m u) (λ m i h u a q. let z : a ≡ int = cc in rw z tt) t
