-- A hidden type is new at its declaration: what the table has of hidden types is declared by an earlier module, or earlier in this one.
use Rattle.std.proofs.Common.{◌≡◌, ℕ, ◌≤◌, Bool, true, false, cond, ◌&&◌, ◌||◌, List, [], ◌∷◌, ◌++◌, sym, refl, ◌∙◌, subst, arith}
use mathlib.Core.Option.{Option, none, some}
use Rattle.std.proofs.lemmas.Bool.{or_left, or_right}
use Rattle.words.specs.Names.{Name, same_name}
use Rattle.words.proofs.SameNames.{same_refl, same-sym}
use Rattle.language.specs.Names.{bind, lookup}
use Rattle.language.specs.Syntax as language
use Rattle.language.specs.Typing.{ExpandedType, int, bool, hidden, ◌⇒◌, Context, Environment, Interface, Interfaces, expand}
use Rattle.language.specs.TypeOf.{same_type, type_of}
use Rattle.language.specs.Modules.{Made, made_type, made_value}
use Rattle.language.proofs.Agrees.{same-type-is}
use Rattle.grammar.specs.Syntax as placed
use Rattle.grammar.specs.Plain.{plain_t, plain_e}
use Rattle.rules.specs.Forms.{good}
use Rattle.rules.specs.Rules.{member, Scope, seen_in, types_of, values_of, expanding, typing}
use Rattle.rules.specs.Checking.{interface_of}
use Rattle.rules.specs.Needs.{along, formed_t, formed_e, with_types}
use Rattle.rules.proofs.Parts.{expanding-runs, typing-runs}
use Rattle.rules.proofs.Runs.{run-good}

abbrev is_there : {A : Type 0} → Option A → Bool
is_there none = false
is_there (some a) = true

-- a hidden type is of one of the modules n, or of the module m and among the names
abbrev pub known : Interfaces → Name → List Made → ExpandedType → Bool
known n m names int = true
known n m names bool = true
known n m names (hidden k t) = is_there (lookup n k) || (same_name k m && is_there (lookup (types_of names) t))
known n m names (a ⇒ b) = true

abbrev pub Known : Interfaces → Name → List Made → List ExpandedType → Type 0
Known n m names [] = Unit {0}
Known n m names (a ∷ ts) = (known n m names a ≡ true) × Known n m names ts

-- where the module and the name are new, their hidden type is
pub hidden-new : (n : Interfaces) (m : Name) (names : List Made) (x : Name) (ts : List ExpandedType) → Known n m names ts →
    lookup n m ≡ none → lookup (types_of names) x ≡ none → member (hidden m x) ts ≡ false
hidden-new n m names x [] k e f = refl
hidden-new n m names x (b ∷ ts) k e f = go (same_type b (hidden m x)) refl (hidden-new n m names x ts k.1 e f)
  where
    unknown : known n m names (hidden m x) ≡ false
    unknown = rw (e, f) (no_other (same_name m m))
      where
        no_other : (b : Bool) → false || (b && false) ≡ false
        no_other true = refl
        no_other false = refl

    go : (c : Bool) → same_type b (hidden m x) ≡ c → member (hidden m x) ts ≡ false → cond c true (member (hidden m x) ts) ≡ false
    go true q h = let z : b ≡ hidden m x = same-type-is b (hidden m x) q in
        let y : known n m names (hidden m x) ≡ true = subst (λ (t : ExpandedType). known n m names t ≡ true) z k.0 in sym y ∙ unknown
    go false q h = h

-- ── what is known stays known ──

known-push : (n : Interfaces) (m : Name) (names : List Made) (ts : List ExpandedType) (a : ExpandedType) → Known n m names ts →
    known n m names a ≡ true → Known n m names (ts ++ a ∷ [])
known-push n m names [] a k e = (e, tt)
known-push n m names (b ∷ ts) a k e = (k.0, known-push n m names ts a k.1 e)

known-all : (n : Interfaces) (m : Name) (names : List Made) (ts more : List ExpandedType) → Known n m names ts → Known n m names more →
    Known n m names (with_types ts more)
known-all n m names ts [] k h = k
known-all n m names ts (a ∷ more) k h = go (member a ts) (λ l. known-all n m names l more)
  where
    go : (b : Bool) → ((l : List ExpandedType) → Known n m names l → Known n m names more → Known n m names (with_types l more)) →
        Known n m names (with_types (cond b ts (ts ++ a ∷ [])) more)
    go true f = f ts k h.1
    go false f = f (ts ++ a ∷ []) (known-push n m names ts a k h.0) h.1

known-append : (n : Interfaces) (m : Name) (names : List Made) (ks ls : List ExpandedType) → Known n m names ks → Known n m names ls →
    Known n m names (ks ++ ls)
known-append n m names [] ls h k = k
known-append n m names (a ∷ ks) ls h k = (h.0, known-append n m names ks ls h.1 k)

known-along : {A : Type 0} (n : Interfaces) (m : Name) (names : List Made) (o : Option A) (f : A → List ExpandedType) →
    ((a : A) → Known n m names (f a)) → Known n m names (along o f)
known-along n m names none f h = tt
known-along n m names (some a) f h = h a

-- written types and expressions form arrows only
formed_t-known : (n : Interfaces) (m : Name) (names : List Made) (e : Environment) (t : language.WrittenType) → Known n m names (formed_t e t)
formed_t-known n m names e language.int_type = tt
formed_t-known n m names e language.bool_type = tt
formed_t-known n m names e (language.named_type t) = tt
formed_t-known n m names e (language.qualified_type k t) = tt
formed_t-known n m names e (language.arrow_type a b) = known-append n m names _ _ (formed_t-known n m names e a)
    (known-append n m names _ _ (formed_t-known n m names e b)
    (known-along n m names (expand e a) _ (λ x. known-along n m names (expand e b) _ (λ y. (refl, tt)))))

formed_e-known : (n : Interfaces) (m : Name) (names : List Made) (e : Environment) (g : Context) (p : language.Exp) →
    Known n m names (formed_e e g p)
formed_e-known n m names e g (language.number z) = tt
formed_e-known n m names e g (language.boolean b) = tt
formed_e-known n m names e g (language.variable x) = tt
formed_e-known n m names e g (language.qualified k x) = tt
formed_e-known n m names e g (language.is_zero p) = formed_e-known n m names e g p
formed_e-known n m names e g (language.apply p q) =
    known-append n m names _ _ (formed_e-known n m names e g p) (formed_e-known n m names e g q)
formed_e-known n m names e g (language.proc x t p) = known-append n m names _ _ (formed_t-known n m names e t)
    (known-along n m names (expand e t) _ (λ a. known-append n m names _ _ (formed_e-known n m names e (bind x a ∷ g) p)
    (known-along n m names (type_of e (bind x a ∷ g) p) _ (λ b. (refl, tt)))))
formed_e-known n m names e g (language.let_in x p q) = known-append n m names _ _ (formed_e-known n m names e g p)
    (known-along n m names (type_of e g p) _ (λ a. formed_e-known n m names e (bind x a ∷ g) q))
formed_e-known n m names e g (language.conditional p q r) = known-append n m names _ _ (formed_e-known n m names e g p)
    (known-append n m names _ _ (formed_e-known n m names e g q) (formed_e-known n m names e g r))
formed_e-known n m names e g (language.letrec u f x t p q) = known-append n m names _ _ (formed_t-known n m names e u)
    (known-append n m names _ _ (formed_t-known n m names e t)
    (known-along n m names (expand e u) _ (λ b. known-along n m names (expand e t) _ (λ a. (
      refl,
      known-append n m names _ _ (formed_e-known n m names e (bind x a ∷ (bind f (a ⇒ b) ∷ g)) p)
          (formed_e-known n m names e (bind f (a ⇒ b) ∷ g) q),
    )))))
formed_e-known n m names e g (language.binary o p q) =
    known-append n m names _ _ (formed_e-known n m names e g p) (formed_e-known n m names e g q)

module _ (tp sp : ℕ) (n : Interfaces) (m : Name) (names : List Made) where
  pub expanding-known : (t : placed.WrittenType) (g : Scope) (ts : List ExpandedType) (a : ExpandedType) (us : List ExpandedType) →
      Known n m names ts → expanding tp sp t g ts ≡ good a us → Known n m names us
  expanding-known t g ts a us k e = subst (Known n m names) (sym (run-good tp sp (expanding-runs tp sp t g ts 0 (omega arith)) e))
      (known-all n m names ts _ k (formed_t-known n m names (seen_in g) (plain_t t)))

  pub typing-known : (p : placed.Exp) (g : Scope) (ts : List ExpandedType) (a : ExpandedType) (us : List ExpandedType) → g.used ≤ sp →
      Known n m names ts → typing tp sp p g ts ≡ good a us → Known n m names us
  typing-known p g ts a us h k e = subst (Known n m names) (sym (run-good tp sp (typing-runs tp sp p g ts h) e))
      (known-all n m names ts _ k (formed_e-known n m names (seen_in g) (values_of g.names) (plain_e p)))

-- with one name more
more-known : (n : Interfaces) (m : Name) (names : List Made) (x : Made) (a : ExpandedType) → known n m names a ≡ true →
    known n m (x ∷ names) a ≡ true
more-known n m names x int e = refl
more-known n m names x bool e = refl
more-known n m names (made_type y b) (hidden k t) e = go (same_name y t) (same_name k m) (is_there (lookup n k)) e
  where
    go : (c d i : Bool) → i || (d && is_there (lookup (types_of names) t)) ≡ true →
        i || (d && is_there (cond c (some b) (lookup (types_of names) t))) ≡ true
    go c d true q = refl
    go c false false q = q
    go true true false q = refl
    go false true false q = q
more-known n m names (made_value y b) (hidden k t) e = e
more-known n m names x (a ⇒ b) e = refl

pub name-known : (n : Interfaces) (m : Name) (names : List Made) (x : Made) (ts : List ExpandedType) → Known n m names ts →
    Known n m (x ∷ names) ts
name-known n m names x [] k = tt
name-known n m names x (a ∷ ts) k = (more-known n m names x a k.0, name-known n m names x ts k.1)

-- with the hidden type that `opaque t` declares
pub opaque-known : (n : Interfaces) (m : Name) (names : List Made) (t : Name) (ts : List ExpandedType) → Known n m names ts →
    Known n m (made_type t (hidden m t) ∷ names) (ts ++ hidden m t ∷ [])
opaque-known n m names t ts k = known-push n m (made_type t (hidden m t) ∷ names) ts (hidden m t)
    (name-known n m names (made_type t (hidden m t)) ts k)
    (or_right (is_there (lookup n m)) _ (rw (same_refl m, same_refl t)))

-- the interface of m, behind others, is found
found-last : (n : Interfaces) (m : Name) (i : Interface) (x : Name) → is_there (lookup n x) || same_name x m ≡ true →
    is_there (lookup (n ++ (bind m i ∷ [])) x) ≡ true
found-last [] m i x e = rw (same-sym x m e)
found-last (bind y j ∷ n) m i x e = go (same_name y x) e (found-last n m i x)
  where
    go : (c : Bool) → is_there (cond c (some j) (lookup n x)) || same_name x m ≡ true →
        (is_there (lookup n x) || same_name x m ≡ true → is_there (lookup (n ++ (bind m i ∷ [])) x) ≡ true) →
        is_there (cond c (some j) (lookup (n ++ (bind m i ∷ [])) x)) ≡ true
    go true q h = refl
    go false q h = h q

last-known : (n : Interfaces) (m : Name) (names : List Made) (next : Name) (a : ExpandedType) → known n m names a ≡ true →
    known (n ++ (bind m (interface_of names) ∷ [])) next [] a ≡ true
last-known n m names next int e = refl
last-known n m names next bool e = refl
last-known n m names next (hidden x t) e = or_left (is_there (lookup (n ++ (bind m (interface_of names) ∷ [])) x)) _
    (found-last n m (interface_of names) x (less (is_there (lookup n x)) (same_name x m) (is_there (lookup (types_of names) t)) e))
  where
    less : (b c d : Bool) → b || (c && d) ≡ true → b || c ≡ true
    less true c d q = refl
    less false true d q = refl
    less false false d q = q
last-known n m names next (a ⇒ b) e = refl

-- after the module, for whatever module is next
pub module-known : (n : Interfaces) (m : Name) (names : List Made) (next : Name) (ts : List ExpandedType) → Known n m names ts →
    Known (n ++ (bind m (interface_of names) ∷ [])) next [] ts
module-known n m names next [] k = tt
module-known n m names next (a ∷ ts) k = (last-known n m names next a k.0, module-known n m names next ts k.1)
