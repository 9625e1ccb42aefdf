-- Interfaces and bodies: the check and the rules go together.
use Rattle.std.proofs.Common.{◌≡◌, ℕ, suc, ◌+◌, ◌≤◌, max, Bool, true, false, ◌&&◌, List, [], ◌∷◌, ◌++◌, map, length, sym, refl, ap, ◌∙◌, arith}
use native.Mathlib.Nat.{zero-max}
use mathlib.Core.Option.{Option, none, some}
use Rattle.words.specs.Names.{Name}
use Rattle.language.specs.Names.{bind}
use Rattle.language.specs.Options.{◌then◌, need}
use Rattle.language.specs.Syntax as language
use Rattle.language.specs.Typing.{ExpandedType, hidden, Context, Interface, Interfaces, expand}
use Rattle.language.specs.TypeOf.{type_of}
use Rattle.language.specs.Modules.{seeing, declared_name, Made, made_type, made_value, made_name}
use Rattle.language.specs.Check.{outward_of, body_of}
use Rattle.grammar.specs.Syntax as placed
use Rattle.grammar.specs.Syntax.{Declaration, Definition}
use Rattle.grammar.specs.Plain.{plain_d, plain_f, plain_t, plain_e}
use Rattle.rules.specs.declared.faults.CheckFault.TheVariants.{Repeated}
use Rattle.rules.specs.Forms.{Out, after, want}
use Rattle.rules.specs.ItemForms.{opaque_f, type_is_f, value_is_f}
use Rattle.rules.specs.Rules.{Scope, seen_in, types_of, values_of, with_name, rules, item_rules, entering, taking, Check, expanding, typing}
use Rattle.rules.specs.Checking.{onto, interface_of, declare_all, define_all}
use Rattle.rules.specs.Needs.{formed_outward, formed_body, names_body, with_type, with_types}
use Rattle.rules.proofs.Apart.{fresh, fresh-apart, apart_in_order}
use Rattle.rules.proofs.Parts.{expanding-runs, typing-runs}
use Rattle.rules.proofs.Runs.{Run, run-max, run-give, run-want, run_enter, run-form, run-as, run-assoc, same-need}

-- ── the names that an interface and a body make, where each has to be fresh ──

-- the names of an interface, after those that its earlier declarations made
abbrev pub declares : Interfaces → Context → Name → List Made → List language.Declaration → Option (List Made)
declares n s m names [] = some names
declares n s m names (language.opaque_type t ∷ ds) = need (fresh names t) (declares n s m (made_type t (hidden m t) ∷ names) ds)
declares n s m names (language.transparent_type t u ∷ ds) =
    need (fresh names t) (expand (seeing (types_of names) n s) u then λ a. declares n s m (made_type t a ∷ names) ds)
declares n s m names (language.value_of_type x u ∷ ds) =
    need (fresh names x) (expand (seeing (types_of names) n s) u then λ a. declares n s m (made_value x a ∷ names) ds)

-- the names of a body
abbrev pub defines : Interfaces → Context → List Made → List language.Definition → Option (List Made)
defines n s names [] = some names
defines n s names (language.type_is t u ∷ ds) =
    need (fresh names t) (expand (seeing (types_of names) n s) u then λ a. defines n s (made_type t a ∷ names) ds)
defines n s names (language.value_is x p ∷ ds) =
    need (fresh names x) (type_of (seeing (types_of names) n s) (values_of names) p then λ a. defines n s (made_value x a ∷ names) ds)

-- the scope with these names, so many places further
abbrev pub scope_with : Scope → ℕ → List Made → Scope
scope_with g k names = record { used = g.used + k; modules = g.modules; stock = g.stock; names = names }

step-scope : (g : Scope) (k : ℕ) (o : Option (List Made)) →
    (o then λ names. some (record { used = g.used + 1 + k; modules = g.modules; stock = g.stock; names = names })) ≡
    (o then λ names. some (scope_with g (suc k) names))
step-scope g k none = refl
step-scope g k (some names) =
    let e : g.used + 1 + k ≡ g.used + suc k = omega arith in
    ap (λ (i : ℕ). some (record { used = i; modules = g.modules; stock = g.stock; names = names })) e

no_more : (g : Scope) → some g ≡ some (scope_with g 0 g.names)
no_more g = let e : g.used ≡ g.used + 0 = omega arith in
    ap (λ (i : ℕ). some (record { used = i; modules = g.modules; stock = g.stock; names = g.names })) e

pub need-then : {A B : Type 0} (b : Bool) (o : Option A) (f : A → Option B) → need b (o then f) ≡ (need b o then f)
need-then true o f = refl
need-then false o f = refl

pub then-then : {A B C : Type 0} (o : Option A) (q : A → Option B) (f : B → Option C) → (o then λ a. (q a then f)) ≡ ((o then q) then f)
then-then none q f = refl
then-then (some a) q f = refl

step_then : {A B C : Type 0} (b : Bool) (o : Option A) (q : A → Option B) (f : B → Option C) →
    need b (o then λ a. (q a then f)) ≡ (need b (o then q) then f)
step_then b o q f = ap (need b) (then-then o q f) ∙ need-then b (o then q) f

module _ (tp sp : ℕ) where
  opaque-runs : {B : Type 0} {ls : List ExpandedType} {n : ℕ} (at : ℕ) (m t : placed.Name) (g : Scope) (ts : List ExpandedType)
      (k : Scope → List ExpandedType → Out (List ExpandedType) B) (r : Option B) → g.used ≤ sp →
      (g.used + 1 ≤ sp → Run tp sp (k (with_name (made_type t.bytes (hidden m.bytes t.bytes)) g)
      (with_type ts (hidden m.bytes t.bytes))) r
      (with_type ts (hidden m.bytes t.bytes)) (g.used + 1) ls n) →
      Run tp sp (after (opaque_f (rules tp sp) (item_rules tp sp) at m t g ts) k) (need (fresh g.names t.bytes) r) ts g.used
      (hidden m.bytes t.bytes ∷ ls) (1 + n)
  opaque-runs at m t g ts k r h i = run-assoc tp sp (want (fresh g.names t.bytes) (Repeated t.place) ts)
      (λ _ s. after (entering tp at (hidden m.bytes t.bytes) s) (λ a. taking sp at (made_type t.bytes a) g)) k
      (run-want tp sp (fresh g.names t.bytes) (Repeated t.place)
      (λ _ s. after (after (entering tp at (hidden m.bytes t.bytes) s) (λ a. taking sp at (made_type t.bytes a) g)) k) _ _ _ _ _
      (λ _. run-assoc tp sp (entering tp at (hidden m.bytes t.bytes) ts) (λ a. taking sp at (made_type t.bytes a) g) k
      (run-form tp sp at (hidden m.bytes t.bytes) ts g.used (λ a s. after (taking sp at (made_type t.bytes a) g s) k) _ h
      (run_enter tp sp at (made_type t.bytes (hidden m.bytes t.bytes)) g _ k r i))))

  type_is-runs : {B : Type 0} {p : Option ExpandedType} {ks ls : List ExpandedType} {l n : ℕ} (at : ℕ) (x : placed.Name)
      (c : Scope → Check ExpandedType) (g : Scope) (ts : List ExpandedType)
      (k : Scope → List ExpandedType → Out (List ExpandedType) B) (r : ExpandedType → Option B) → Run tp sp (c g ts) p ts g.used ks l →
      ((a : ExpandedType) → p ≡ some a → g.used + 1 ≤ sp →
      Run tp sp (k (with_name (made_type x.bytes a) g) (with_types ts ks)) (r a) (with_types ts ks) (g.used + 1) ls n) →
      Run tp sp (after (type_is_f (rules tp sp) (item_rules tp sp) at x c g ts) k) (need (fresh g.names x.bytes) (p then r)) ts g.used
      (ks ++ ls) (max l (1 + n))
  type_is-runs at x c g ts k r h i = run-assoc tp sp (want (fresh g.names x.bytes) (Repeated x.place) ts)
      (λ _ s. after (c g s) (λ a. taking sp at (made_type x.bytes a) g)) k
      (run-want tp sp (fresh g.names x.bytes) (Repeated x.place)
      (λ _ s. after (after (c g s) (λ a. taking sp at (made_type x.bytes a) g)) k) _ _ _ _ _
      (λ _. run-assoc tp sp (c g ts) (λ a. taking sp at (made_type x.bytes a) g) k
      (run-max tp sp (λ a s. after (taking sp at (made_type x.bytes a) g s) k) r h
      (λ a e. run_enter tp sp at (made_type x.bytes a) g _ k (r a) (i a e)))))

  value_is-runs : {B : Type 0} {p : Option ExpandedType} {ks ls : List ExpandedType} {l n : ℕ} (at : ℕ) (x : placed.Name)
      (c : Scope → Check ExpandedType) (g : Scope) (ts : List ExpandedType)
      (k : Scope → List ExpandedType → Out (List ExpandedType) B) (r : ExpandedType → Option B) → Run tp sp (c g ts) p ts g.used ks l →
      ((a : ExpandedType) → p ≡ some a → g.used + 1 ≤ sp →
      Run tp sp (k (with_name (made_value x.bytes a) g) (with_types ts ks)) (r a) (with_types ts ks) (g.used + 1) ls n) →
      Run tp sp (after (value_is_f (rules tp sp) (item_rules tp sp) at x c g ts) k) (need (fresh g.names x.bytes) (p then r)) ts
      g.used
      (ks ++ ls) (max l (1 + n))
  value_is-runs at x c g ts k r h i = run-assoc tp sp (want (fresh g.names x.bytes) (Repeated x.place) ts)
      (λ _ s. after (c g s) (λ a. taking sp at (made_value x.bytes a) g)) k
      (run-want tp sp (fresh g.names x.bytes) (Repeated x.place)
      (λ _ s. after (after (c g s) (λ a. taking sp at (made_value x.bytes a) g)) k) _ _ _ _ _
      (λ _. run-assoc tp sp (c g ts) (λ a. taking sp at (made_value x.bytes a) g) k
      (run-max tp sp (λ a s. after (taking sp at (made_value x.bytes a) g s) k) r h
      (λ a e. run_enter tp sp at (made_value x.bytes a) g _ k (r a) (i a e)))))

  one_more : (n : ℕ) → 1 + n ≡ suc n
  one_more n = omega arith

  no_place : (n : ℕ) → max 0 (1 + n) ≡ suc n
  no_place n = omega arith

  pub declare_all-runs : (m : placed.Name) (ds : List Declaration) (g : Scope) (ts : List ExpandedType) → g.used ≤ sp →
      Run tp sp (declare_all tp sp m ds g ts)
      (declares g.modules g.stock m.bytes g.names (map plain_d ds) then λ names. some
      (scope_with g (length (map plain_d ds)) names))
      ts g.used (formed_outward g.modules g.stock m.bytes (types_of g.names) (map plain_d ds)) (length (map plain_d ds))
  declare_all-runs m [] g ts h = run-as tp sp (no_more g) (run-give tp sp g ts g.used h)
  declare_all-runs m (placed.opaque_type at t ∷ ds) g ts h =
      let made : Made = made_type t.bytes (hidden m.bytes t.bytes) in
      run-as tp sp (need-then (fresh g.names t.bytes) _ _)
      (same-need tp sp refl (one_more (length (map plain_d ds)))
      (opaque-runs at m t g ts (declare_all tp sp m ds) _ h (λ i.
      run-as tp sp (step-scope g (length (map plain_d ds)) (declares g.modules g.stock m.bytes (made ∷ g.names) (map plain_d ds)))
      (declare_all-runs m ds (with_name made g) _ i))))
  declare_all-runs m (placed.transparent_type at t u ∷ ds) g ts h =
      run-as tp sp (step_then (fresh g.names t.bytes) (expand (seen_in g) (plain_t u)) _ _)
      (same-need tp sp refl (no_place (length (map plain_d ds)))
      (type_is-runs at t (expanding tp sp u) g ts (declare_all tp sp m ds) _ (expanding-runs tp sp u g ts g.used h) (λ a e i. rw e
      (run-as tp sp (step-scope g (length (map plain_d ds))
      (declares g.modules g.stock m.bytes (made_type t.bytes a ∷ g.names) (map plain_d ds)))
      (declare_all-runs m ds (with_name (made_type t.bytes a) g) _ i)))))
  declare_all-runs m (placed.value_of_type x u ∷ ds) g ts h =
      run-as tp sp (step_then (fresh g.names x.bytes) (expand (seen_in g) (plain_t u)) _ _)
      (same-need tp sp refl (no_place (length (map plain_d ds)))
      (value_is-runs x.place x (expanding tp sp u) g ts (declare_all tp sp m ds) _ (expanding-runs tp sp u g ts g.used h) (λ a e i.
      (run-as tp sp (step-scope g (length (map plain_d ds))
      (declares g.modules g.stock m.bytes (made_value x.bytes a ∷ g.names) (map plain_d ds)))
      (declare_all-runs m ds (with_name (made_value x.bytes a) g) _ i)))))

  pub define_all-runs : (ds : List Definition) (g : Scope) (ts : List ExpandedType) → g.used ≤ sp →
      Run tp sp (define_all tp sp ds g ts)
      (defines g.modules g.stock g.names (map plain_f ds) then λ names. some (scope_with g (length (map plain_f ds)) names))
      ts g.used (formed_body g.modules g.stock (types_of g.names) (values_of g.names) (map plain_f ds))
      (names_body (map plain_f ds))
  define_all-runs [] g ts h = run-as tp sp (no_more g) (run-give tp sp g ts g.used h)
  define_all-runs (placed.type_is at t u ∷ ds) g ts h =
      run-as tp sp (step_then (fresh g.names t.bytes) (expand (seen_in g) (plain_t u)) _ _)
      (same-need tp sp refl (zero-max (1 + names_body (map plain_f ds)))
      (type_is-runs at t (expanding tp sp u) g ts (define_all tp sp ds) _ (expanding-runs tp sp u g ts g.used h) (λ a e i. rw e
      (run-as tp sp (step-scope g (length (map plain_f ds))
      (defines g.modules g.stock (made_type t.bytes a ∷ g.names) (map plain_f ds)))
      (define_all-runs ds (with_name (made_type t.bytes a) g) _ i)))))
  define_all-runs (placed.value_is x p ∷ ds) g ts h =
      run-as tp sp (step_then (fresh g.names x.bytes) (type_of (seen_in g) (values_of g.names) (plain_e p)) _ _)
      (value_is-runs x.place x (typing tp sp p) g ts (define_all tp sp ds) _ (typing-runs tp sp p g ts h) (λ a e i. rw e
      (run-as tp sp (step-scope g (length (map plain_f ds))
      (defines g.modules g.stock (made_value x.bytes a ∷ g.names) (map plain_f ds)))
      (define_all-runs ds (with_name (made_value x.bytes a) g) _ i))))

-- ── the names made are those that the rules give, and apart ──

pub need-and : {A : Type 0} (b c : Bool) (r : Option A) → need b (need c r) ≡ need (b && c) r
need-and true c r = refl
need-and false c r = refl

need-none : {A : Type 0} (b : Bool) → need {A = A} b none ≡ none
need-none true = refl
need-none false = refl

-- one declaration, whose name is fresh, and those behind it, whose names are apart from it and from the earlier ones
declares-step : {A B C D : Type 0} (names : List Made) (x : Name) (xs : List Name) (o : Option A) (q : A → Option C) (w : A → Option D)
    (k : C → Option B) (f : D → Option B) →
    ((a : A) → (q a then k) ≡ need (apart_in_order (x ∷ map made_name names) xs) (w a then f)) →
    (need (fresh names x) (o then q) then k) ≡ need (apart_in_order (map made_name names) (x ∷ xs)) ((o then w) then f)
declares-step names x xs none q w k f h = sym (need-then (fresh names x) none k) ∙ (need-none (fresh names x) ∙
    sym (need-none (apart_in_order (map made_name names) (x ∷ xs))))
declares-step names x xs (some a) q w k f h = sym (need-then (fresh names x) (q a) k) ∙ (ap (need (fresh names x)) (h a) ∙
    (need-and (fresh names x) (apart_in_order (x ∷ map made_name names) xs) (w a then f) ∙
    ap (λ (b : Bool). need (b && apart_in_order (x ∷ map made_name names) xs) (w a then f)) (fresh-apart names x)))

pub declares-is : {B : Type 0} (n : Interfaces) (s : Context) (m : Name) (names : List Made) (ds : List language.Declaration)
    (f : Interface → Option B) → (declares n s m names ds then λ k. f (interface_of k)) ≡
    need (apart_in_order (map made_name names) (map declared_name ds)) (outward_of n s m (types_of names) (values_of names) ds then f)
declares-is n s m names [] f = refl
declares-is n s m names (language.opaque_type t ∷ ds) f = declares-step names t (map declared_name ds) (some (tt {0}))
    (λ _. declares n s m (made_type t (hidden m t) ∷ names) ds)
    (λ _. outward_of n s m (bind t (hidden m t) ∷ types_of names) (values_of names) ds)
    (λ k. f (interface_of k)) f (λ _. declares-is n s m (made_type t (hidden m t) ∷ names) ds f)
declares-is n s m names (language.transparent_type t u ∷ ds) f =
    declares-step names t (map declared_name ds) (expand (seeing (types_of names) n s) u)
    (λ a. declares n s m (made_type t a ∷ names) ds) (λ a. outward_of n s m (bind t a ∷ types_of names) (values_of names) ds)
    (λ k. f (interface_of k)) f (λ a. declares-is n s m (made_type t a ∷ names) ds f)
declares-is n s m names (language.value_of_type x u ∷ ds) f =
    declares-step names x (map declared_name ds) (expand (seeing (types_of names) n s) u)
    (λ a. declares n s m (made_value x a ∷ names) ds) (λ a. outward_of n s m (types_of names) (bind x a ∷ values_of names) ds)
    (λ k. f (interface_of k)) f (λ a. declares-is n s m (made_value x a ∷ names) ds f)

-- one definition and those behind it
defines-step : {A : Type 0} (names : List Made) (x : Name) (o : Option A) (q w : A → Option (List Made)) (made : A → Made) →
    ((a : A) → made_name (made a) ≡ x) →
    ((a : A) → q a ≡ (w a then λ ms. need (apart_in_order (x ∷ map made_name names) (map made_name ms)) (some (onto ms (made a ∷ names))))) →
    need (fresh names x) (o then q) ≡ ((o then λ a. w a then λ ms. some (made a ∷ ms)) then λ ms.
    need (apart_in_order (map made_name names) (map made_name ms)) (some (onto ms names)))
defines-step names x none q w made e h = need-none (fresh names x)
defines-step names x (some a) q w made e h = ap (need (fresh names x)) (h a) ∙ go (w a)
  where
    go : (o : Option (List Made)) →
        need (fresh names x) (o then λ ms. need (apart_in_order (x ∷ map made_name names) (map made_name ms))
        (some (onto ms (made a ∷ names)))) ≡
        ((o then λ ms. some (made a ∷ ms)) then λ ms. need (apart_in_order (map made_name names) (map made_name ms)) (some (onto ms names)))
    go none = need-none (fresh names x)
    go (some ms) = need-and (fresh names x) (apart_in_order (x ∷ map made_name names) (map made_name ms)) (some (onto ms (made a ∷ names))) ∙
        (ap (λ (b : Bool). need (b && apart_in_order (x ∷ map made_name names) (map made_name ms)) (some (onto ms (made a ∷ names))))
        (fresh-apart names x) ∙
        ap (λ (y : Name). need (apart_in_order (map made_name names) (y ∷ map made_name ms)) (some (onto ms (made a ∷ names)))) (sym (e a)))

pub defines-is : (n : Interfaces) (s : Context) (names : List Made) (ds : List language.Definition) →
    defines n s names ds ≡ (body_of n s (types_of names) (values_of names) ds then λ ms.
    need (apart_in_order (map made_name names) (map made_name ms)) (some (onto ms names)))
defines-is n s names [] = refl
defines-is n s names (language.type_is t u ∷ ds) = defines-step names t (expand (seeing (types_of names) n s) u)
    (λ a. defines n s (made_type t a ∷ names) ds) (λ a. body_of n s (bind t a ∷ types_of names) (values_of names) ds) (made_type t) (λ a. refl)
    (λ a. defines-is n s (made_type t a ∷ names) ds)
defines-is n s names (language.value_is x p ∷ ds) = defines-step names x (type_of (seeing (types_of names) n s) (values_of names) p)
    (λ a. defines n s (made_value x a ∷ names) ds) (λ a. body_of n s (types_of names) (bind x a ∷ values_of names) ds) (made_value x) (λ a. refl)
    (λ a. defines-is n s (made_value x a ∷ names) ds)
