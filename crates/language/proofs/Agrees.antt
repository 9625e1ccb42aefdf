-- The computed type and the typing rules agree.
use Rattle.std.proofs.Common.{◌≡◌, ℕ, Bool, true, false, ◌∷◌, refl, ap, ◌∙◌, ap₂, arith}
use mathlib.Core.Option.{Option, none, some}
use Rattle.std.specs.Str.{bytes_eq}
use Rattle.language.specs.Names.{bind}
use Rattle.language.specs.Syntax.{Exp, number, boolean, variable, qualified, is_zero, apply, proc, let_in, conditional, letrec, binary}
use Rattle.language.specs.Typing.{
  ExpandedType,
  int,
  bool,
  hidden,
  ◌⇒◌,
  Context,
  Environment,
  expand,
  result_of,
  HasType,
  t_number,
  t_boolean,
  t_variable,
  t_qualified,
  t_zero,
  t_apply,
  t_proc,
  t_let,
  t_conditional,
  t_letrec,
  t_binary,
}
use Rattle.language.specs.TypeOf.{same_type, on_argument, type_of, TypeOfAgrees}
use Rattle.language.specs.Options.{◌then◌, need}
use Rattle.std.proofs.lemmas.Slice.Eq.{bytes_eq-Decides}
use Rattle.language.proofs.Same.{both_true}

-- ── the test of sameness ──

pub same-type-refl : (a : ExpandedType) → same_type a a ≡ true
same-type-refl int = refl
same-type-refl bool = refl
same-type-refl (hidden m t) = rw ((bytes_eq-Decides m m).1 refl, (bytes_eq-Decides t t).1 refl)
same-type-refl (a ⇒ b) = rw (same-type-refl a, same-type-refl b)

pub same-type-is : (a b : ExpandedType) → same_type a b ≡ true → a ≡ b
same-type-is int int h = refl
same-type-is int bool h = cc
same-type-is int (hidden m t) h = cc
same-type-is int (a ⇒ b) h = cc
same-type-is bool int h = cc
same-type-is bool bool h = refl
same-type-is bool (hidden m t) h = cc
same-type-is bool (a ⇒ b) h = cc
same-type-is (hidden m t) int h = cc
same-type-is (hidden m t) bool h = cc
same-type-is (hidden m t) (hidden m' t') h =
    let (p, q) = both_true (bytes_eq m m') (bytes_eq t t') h in
    ap₂ hidden ((bytes_eq-Decides m m').0 p) ((bytes_eq-Decides t t').0 q)
same-type-is (hidden m t) (a ⇒ b) h = cc
same-type-is (a ⇒ b) int h = cc
same-type-is (a ⇒ b) bool h = cc
same-type-is (a ⇒ b) (hidden m t) h = cc
same-type-is (a ⇒ b) (c ⇒ d) h =
    let (p, q) = both_true (same_type a c) (same_type b d) h in ap₂ ◌⇒◌ (same-type-is a c p) (same-type-is b d q)

-- ── what a result shows of the steps to it ──

-- A proof goes on with the parts as variables: to take them out by a `let` of a tuple would write the whole call at each of them.
pub then-cases : {A B C : Type 0} (o : Option A) (f : A → Option B) (b : B) → (o then f) ≡ some b →
    ((a : A) → o ≡ some a → f a ≡ some b → C) → C
then-cases none f b h k = let z : ◌≡◌ {A = ℕ} 0 1 = cc in absurd (omega arith)
then-cases (some a) f b h k = k a refl h

pub need-cases : {A C : Type 0} (t : Bool) (r : Option A) (b : A) → need t r ≡ some b → (t ≡ true → r ≡ some b → C) → C
need-cases true r b h k = k refl h
need-cases false r b h k = let z : ◌≡◌ {A = ℕ} 0 1 = cc in absurd (omega arith)

argument-some : (f a b : ExpandedType) → on_argument f a ≡ some b → f ≡ (a ⇒ b)
argument-some int a b h = cc
argument-some bool a b h = cc
argument-some (hidden m t) a b h = cc
argument-some (c ⇒ d) a b h = need-cases (same_type a c) (some d) b h (λ p q. let r : a ≡ c = same-type-is a c p in cc)

at-type : (o : Option ExpandedType) (a b : ExpandedType) → o ≡ some a → same_type a b ≡ true → o ≡ some b
at-type o a b q h = q ∙ ap {B = Option ExpandedType} some (same-type-is a b h)

pub type-sound : (e : Environment) (g : Context) (p : Exp) (a : ExpandedType) → type_of e g p ≡ some a → HasType e g p a
type-sound e g (number z) a h = let z : a ≡ int = cc in rw z t_number
type-sound e g (boolean b) a h = let z : a ≡ bool = cc in rw z t_boolean
type-sound e g (variable x) a h = t_variable h
type-sound e g (qualified m x) a h = t_qualified h
type-sound e g (is_zero p) a h =
    then-cases (type_of e g p) _ a h (λ c i k. need-cases (same_type c int) _ a k (λ t l.
    let z : a ≡ bool = cc in
    rw z (t_zero (type-sound e g p int (at-type (type_of e g p) c int i t)))))
type-sound e g (apply p q) b h =
    then-cases (type_of e g p) _ b h (λ f i k. then-cases (type_of e g q) _ b k (λ a j l.
    t_apply (type-sound e g p (a ⇒ b) (i ∙ ap {B = Option ExpandedType} some (argument-some f a b l))) (type-sound e g q a j)))
type-sound e g (proc x t p) c h =
    then-cases (expand e t) _ c h (λ a i k. then-cases (type_of e (bind x a ∷ g) p) _ c k (λ b j l.
    let z : c ≡ (a ⇒ b) = cc in
    rw z (t_proc i (type-sound e (bind x a ∷ g) p b j))))
type-sound e g (let_in x p q) b h =
    then-cases (type_of e g p) _ b h (λ a i k. t_let (type-sound e g p a i) (type-sound e (bind x a ∷ g) q b k))
type-sound e g (conditional p q r) d h =
    then-cases (type_of e g p) _ d h (λ a i k. then-cases (type_of e g q) _ d k (λ b j l. then-cases (type_of e g r) _ d l (λ c m n.
    need-cases (same_type a bool) _ d n (λ t o. need-cases (same_type c b) _ d o (λ u w.
    let z : d ≡ b = cc in
    rw z (t_conditional (type-sound e g p bool (at-type (type_of e g p) a bool i t)) (type-sound e g q b j)
    (type-sound e g r b (at-type (type_of e g r) c b m u))))))))
type-sound e g (letrec u f x t p q) d h =
    then-cases (expand e u) _ d h (λ b i k. then-cases (expand e t) _ d k (λ a j l.
    then-cases (type_of e (bind x a ∷ (bind f (a ⇒ b) ∷ g)) p) _ d l (λ c m n. need-cases (same_type c b) _ d n (λ o w.
    t_letrec j i (type-sound e (bind x a ∷ (bind f (a ⇒ b) ∷ g)) p b (at-type (type_of e (bind x a ∷ (bind f (a ⇒ b) ∷ g)) p) c b m o))
    (type-sound e (bind f (a ⇒ b) ∷ g) q d w)))))
type-sound e g (binary o p q) d h =
    then-cases (type_of e g p) _ d h (λ a i k. then-cases (type_of e g q) _ d k (λ b j l.
    need-cases (same_type a int) _ d l (λ t m. need-cases (same_type b int) _ d m (λ u n.
    let z : d ≡ result_of o = cc in
    rw z (t_binary (type-sound e g p int (at-type (type_of e g p) a int i t))
    (type-sound e g q int (at-type (type_of e g q) b int j u)))))))

pub type-complete : {e : Environment} {g : Context} {p : Exp} {a : ExpandedType} → HasType e g p a → type_of e g p ≡ some a
type-complete t_number = refl
type-complete t_boolean = refl
type-complete (t_variable h) = h
type-complete (t_qualified h) = h
type-complete (t_zero t) = rw (type-complete t)
type-complete (t_apply {a = a} t u) = rw (type-complete t, type-complete u, same-type-refl a)
type-complete (t_proc h t) = rw (h, type-complete t)
type-complete (t_let t u) = rw (type-complete t, type-complete u)
type-complete (t_conditional {a = a} t u v) = rw (type-complete t, type-complete u, type-complete v, same-type-refl a)
type-complete (t_letrec {b = b} h k t u) = rw (k, h, type-complete t, same-type-refl b, type-complete u)
type-complete (t_binary t u) = rw (type-complete t, type-complete u)

pub type_of-agrees : TypeOfAgrees
type_of-agrees e g p a = (type-sound e g p a, λ t. type-complete t)
