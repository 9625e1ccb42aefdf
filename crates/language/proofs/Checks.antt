-- The computed type of a sheet is the one that the rules give, and there is no other.
use Rattle.std.proofs.Common.{◌≡◌, ℕ, Bool, true, false, cond, not, List, [], ◌∷◌, ◌++◌, map, sym, refl, ap, arith}
use mathlib.Core.Option.{Option, none, some}
use Rattle.words.specs.Names.{Name, same_name}
use Rattle.language.specs.Names.{pantry_name, bind, lookup, apart_from, distinct}
use Rattle.language.specs.Syntax.{Declaration, opaque_type, transparent_type, value_of_type, Definition, type_is, value_is, Module, Sheet}
use Rattle.language.specs.Typing.{ExpandedType, hidden, Context, Interface, expand, stock_types, Interfaces}
use Rattle.language.specs.TypeOf.{type_of}
use Rattle.language.specs.Modules.{
  seeing,
  declared_name,
  Made,
  made_type,
  made_value,
  made_name,
  Outward,
  o_end,
  o_opaque,
  o_transparent,
  o_value,
  BodyTyped,
  b_end,
  b_type,
  b_value,
  Matches,
  m_end,
  m_skip,
  m_opaque,
  m_transparent,
  m_value,
  ModulesTyped,
  y_none,
  y_module,
  SheetTyped,
}
use Rattle.language.specs.Check.{outward_of, body_of, agrees, matched, is_none, modules_of, CheckAgrees, OneType, check_of}
use Rattle.language.specs.Pantry.{Stock}
use Rattle.language.specs.Safety.{Passes, passes_as, PassesComputed}
use Rattle.words.proofs.SameNames.{apart-same}
use Rattle.language.proofs.Same.{both_true, not-true}
use Rattle.language.proofs.Sheet.{rest-distinct}
use Rattle.language.proofs.Agrees.{same-type-refl, same-type-is, type-sound, type-complete, then-cases, need-cases}

outward-sound : (n : Interfaces) (s : Context) (m : Name) (ts vs : Context) (ds : List Declaration) (i : Interface) →
    outward_of n s m ts vs ds ≡ some i → Outward n s m ts vs ds i
outward-sound n s m ts vs [] i h = let z : record { types = ts; values = vs } ≡ i = cc in rw (sym z) o_end
outward-sound n s m ts vs (opaque_type t ∷ ds) i h = o_opaque (outward-sound n s m (bind t (hidden m t) ∷ ts) vs ds i h)
outward-sound n s m ts vs (transparent_type t u ∷ ds) i h =
    then-cases (expand (seeing ts n s) u) (λ a. outward_of n s m (bind t a ∷ ts) vs ds) i h
    (λ a e k. o_transparent e (outward-sound n s m (bind t a ∷ ts) vs ds i k))
outward-sound n s m ts vs (value_of_type x u ∷ ds) i h =
    then-cases (expand (seeing ts n s) u) (λ a. outward_of n s m ts (bind x a ∷ vs) ds) i h
    (λ a e k. o_value e (outward-sound n s m ts (bind x a ∷ vs) ds i k))

body-sound : (n : Interfaces) (s ts g : Context) (ds : List Definition) (ms : List Made) → body_of n s ts g ds ≡ some ms →
    BodyTyped n s ts g ds ms
body-sound n s ts g [] ms h = let z : [] ≡ ms = cc in rw (sym z) b_end
body-sound n s ts g (type_is t u ∷ ds) ms h =
    then-cases (expand (seeing ts n s) u) _ ms h (λ a e k. then-cases (body_of n s (bind t a ∷ ts) g ds) _ ms k (λ c f l.
    let z : made_type t a ∷ c ≡ ms = cc in rw (sym z) (b_type e (body-sound n s (bind t a ∷ ts) g ds c f))))
body-sound n s ts g (value_is x p ∷ ds) ms h =
    then-cases (type_of (seeing ts n s) g p) _ ms h (λ a e k. then-cases (body_of n s ts (bind x a ∷ g) ds) _ ms k (λ c f l.
    let z : made_value x a ∷ c ≡ ms = cc in
    rw (sym z) (b_value (type-sound (seeing ts n s) g p a e) (body-sound n s ts (bind x a ∷ g) ds c f))))

-- a test of two branches
either : {A : Type 0} (b x y : Bool) → cond b x y ≡ true → (b ≡ true → x ≡ true → A) → (y ≡ true → A) → A
either true x y h f g = f refl h
either false x y h f g = g h

agrees-is : (o : Option ExpandedType) (a : ExpandedType) → agrees o a ≡ true → o ≡ some a
agrees-is none a h = cc
agrees-is (some b) a h = ap {B = Option ExpandedType} some (same-type-is b a h)

match-sound : (n : Interfaces) (s ts : Context) (ds : List Declaration) (ms : List Made) → matched n s ts ds ms ≡ true →
    Matches n s ts ds ms
match-sound n s ts [] ms h = m_end
match-sound n s ts (d ∷ ds) [] h = let z : ◌≡◌ {A = ℕ} 0 1 = cc in absurd (omega arith)
match-sound n s ts (opaque_type t ∷ ds) (made_type k a ∷ ms) h =
    either (same_name k t) _ _ h (λ q i. m_opaque q (match-sound n s (bind t a ∷ ts) ds ms i))
    (λ i. m_skip (match-sound n s ts (opaque_type t ∷ ds) ms i))
match-sound n s ts (opaque_type t ∷ ds) (made_value k a ∷ ms) h = m_skip (match-sound n s ts (opaque_type t ∷ ds) ms h)
match-sound n s ts (transparent_type t u ∷ ds) (made_type k a ∷ ms) h =
    either (same_name k t) _ _ h
    (λ q i. let (e, j) = both_true (agrees (expand (seeing ts n s) u) a) (matched n s (bind t a ∷ ts) ds ms) i in
    m_transparent q (agrees-is (expand (seeing ts n s) u) a e) (match-sound n s (bind t a ∷ ts) ds ms j))
    (λ i. m_skip (match-sound n s ts (transparent_type t u ∷ ds) ms i))
match-sound n s ts (transparent_type t u ∷ ds) (made_value k a ∷ ms) h = m_skip (match-sound n s ts (transparent_type t u ∷ ds) ms h)
match-sound n s ts (value_of_type x u ∷ ds) (made_type k a ∷ ms) h = m_skip (match-sound n s ts (value_of_type x u ∷ ds) ms h)
match-sound n s ts (value_of_type x u ∷ ds) (made_value k a ∷ ms) h =
    either (same_name k x) _ _ h
    (λ q i. let (e, j) = both_true (agrees (expand (seeing ts n s) u) a) (matched n s ts ds ms) i in
    m_value q (agrees-is (expand (seeing ts n s) u) a e) (match-sound n s ts ds ms j))
    (λ i. m_skip (match-sound n s ts (value_of_type x u ∷ ds) ms i))

none_is : (o : Option Interface) → is_none o ≡ true → o ≡ none
none_is none h = refl
none_is (some i) h = cc

modules-sound : (s : Context) (n : Interfaces) (ms : List Module) (n' : Interfaces) → modules_of s n ms ≡ some n' →
    ModulesTyped s n ms n'
modules-sound s n [] n' h = let z : n ≡ n' = cc in rw (sym z) y_none
modules-sound s n (m ∷ ms) n' h =
    need-cases (is_none (lookup n m.name)) _ n' h (λ fresh h₁.
    need-cases (not (same_name pantry_name m.name)) _ n' h₁ (λ other h₂.
    need-cases (distinct (map declared_name m.interface)) _ n' h₂ (λ apart h₃.
    then-cases (outward_of n s m.name [] [] m.interface) _ n' h₃ (λ i o h₄.
    then-cases (body_of n s [] [] m.body) _ n' h₄ (λ b t h₅.
    need-cases (distinct (map made_name b)) _ n' h₅ (λ d h₆.
    need-cases (matched n s [] m.interface b) _ n' h₆ (λ k h₇.
    y_module (none_is (lookup n m.name) fresh) (not-true (same_name pantry_name m.name) other) apart
    (outward-sound n s m.name [] [] m.interface i o)
    (record { made = b; typed = body-sound n s [] [] m.body b t; apart = d; matched = match-sound n s [] m.interface b k })
    (modules-sound s (n ++ (bind m.name i ∷ [])) ms n' h₇))))))))

-- ── the other way round ──

outward-complete : {n : Interfaces} {s : Context} {m : Name} {ts vs : Context} {ds : List Declaration} {i : Interface} →
    Outward n s m ts vs ds i → outward_of n s m ts vs ds ≡ some i
outward-complete o_end = refl
outward-complete (o_opaque o) = outward-complete o
outward-complete (o_transparent h o) = rw h (outward-complete o)
outward-complete (o_value h o) = rw h (outward-complete o)

body-complete : {n : Interfaces} {s ts g : Context} {ds : List Definition} {ms : List Made} →
    BodyTyped n s ts g ds ms → body_of n s ts g ds ≡ some ms
body-complete b_end = refl
body-complete (b_type h b) = rw (h, body-complete b)
body-complete (b_value t b) = rw (type-complete t, body-complete b)

-- a made name that is apart from all others of the body is not the declared name, which is that of another
not-here : {n : Interfaces} {s ts : Context} {d : Declaration} {ds : List Declaration} {ms : List Made} (x : Name) →
    apart_from x (map made_name ms) ≡ true → Matches n s ts (d ∷ ds) ms → same_name x (declared_name d) ≡ false
not-here x h (m_skip {k = k} {ms = ms} m) = not-here x (both_true (not (same_name (made_name k) x)) (apart_from x (map made_name ms)) h).1 m
not-here x h (m_opaque {t = t} {t' = y} {ms = ms} e m) =
    apart-same y t x (not-true (same_name y x) (both_true (not (same_name y x)) (apart_from x (map made_name ms)) h).0) e
not-here x h (m_transparent {t = t} {t' = y} {ms = ms} e u m) =
    apart-same y t x (not-true (same_name y x) (both_true (not (same_name y x)) (apart_from x (map made_name ms)) h).0) e
not-here x h (m_value {x = t} {x' = y} {ms = ms} e u m) =
    apart-same y t x (not-true (same_name y x) (both_true (not (same_name y x)) (apart_from x (map made_name ms)) h).0) e

skip-complete : (n : Interfaces) (s ts : Context) (d : Declaration) (ds : List Declaration) (k : Made) (ms : List Made) →
    same_name (made_name k) (declared_name d) ≡ false → matched n s ts (d ∷ ds) ms ≡ true → matched n s ts (d ∷ ds) (k ∷ ms) ≡ true
skip-complete n s ts (opaque_type t) ds (made_type k a) ms h m = rw h m
skip-complete n s ts (opaque_type t) ds (made_value k a) ms h m = m
skip-complete n s ts (transparent_type t u) ds (made_type k a) ms h m = rw h m
skip-complete n s ts (transparent_type t u) ds (made_value k a) ms h m = m
skip-complete n s ts (value_of_type x u) ds (made_type k a) ms h m = m
skip-complete n s ts (value_of_type x u) ds (made_value k a) ms h m = rw h m

match-complete : {n : Interfaces} {s ts : Context} {ds : List Declaration} {ms : List Made} → distinct (map made_name ms) ≡ true →
    Matches n s ts ds ms → matched n s ts ds ms ≡ true
match-complete d m_end = refl
match-complete {n} {s} d (m_skip {ts = ts} {d = e} {ds = ds} {k = k} {ms = ms} m) =
    let (p, q) = both_true (apart_from (made_name k) (map made_name ms)) (distinct (map made_name ms)) d in
    skip-complete n s ts e ds k ms (not-here (made_name k) p m) (match-complete q m)
match-complete d (m_opaque {t' = y} {ms = ms} e m) = rw (e, match-complete (rest-distinct y (map made_name ms) d) m)
match-complete d (m_transparent {t' = y} {a = a} {ms = ms} e h m) =
    rw (e, h, same-type-refl a, match-complete (rest-distinct y (map made_name ms) d) m)
match-complete d (m_value {x' = y} {a = a} {ms = ms} e h m) =
    rw (e, h, same-type-refl a, match-complete (rest-distinct y (map made_name ms) d) m)

modules-complete : {s : Context} {n n' : Interfaces} {ms : List Module} → ModulesTyped s n ms n' → modules_of s n ms ≡ some n'
modules-complete y_none = refl
modules-complete (y_module {m = m} f g d o a t) =
    rw (f, g, d, outward-complete o, body-complete a.typed, a.apart, match-complete a.apart a.matched, modules-complete t)

pub check_sound : (s : Context) (sheet : Sheet) (r : ExpandedType) → check_of s sheet ≡ some r → SheetTyped s sheet r
check_sound s sheet r h = then-cases (modules_of s [] sheet.modules) _ r h (λ n e k.
    record {
      all = n;
      modules_typed = modules-sound s [] sheet.modules n e;
      closing_typed =
          type-sound (seeing [] n s) [] sheet.closing r k;
    })

pub check-complete : (s : Context) (sheet : Sheet) (r : ExpandedType) → SheetTyped s sheet r → check_of s sheet ≡ some r
check-complete s sheet r t = rw (modules-complete t.modules_typed) (type-complete t.closing_typed)

pub check-agrees : CheckAgrees
check-agrees s sheet r = (check_sound s sheet r, check-complete s sheet r)

passes-to : (p : Stock) (sheet : Sheet) (r : ExpandedType) → Passes p sheet r → passes_as p sheet r ≡ true
passes-to p sheet r t = rw (check-complete (stock_types p) sheet r t.typed) (same-type-refl r)

pub passes-computed : PassesComputed
passes-computed p sheet r =
    (λ h. record { typed = check_sound (stock_types p) sheet r (agrees-is (check_of (stock_types p) sheet) r h) }, passes-to p sheet r)

-- two types that were found are one
found-one : {o : Option ExpandedType} {a b : ExpandedType} → o ≡ some a → o ≡ some b → a ≡ b
found-one p q = cc

pub one_type : OneType
one_type = record {
  of_expression = λ e g p a b t u. found-one (type-complete t) (type-complete u);
  of_sheet = λ s sheet a b t u. found-one (check-complete s sheet a t) (check-complete s sheet b u);
}
