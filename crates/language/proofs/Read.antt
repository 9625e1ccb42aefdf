-- What is typed stays typed when hidden types are read.
use Rattle.std.proofs.Common.{◌≡◌, Bool, true, false, cond, List, [], ◌∷◌, map, refl}
use mathlib.Core.Option.{Option, none, some}
use Rattle.words.specs.Names.{Name, same_name}
use Rattle.language.specs.Names.{pantry_name, Binding, bind, lookup, map_binding}
use Rattle.language.specs.Syntax.{
  WrittenType,
  int_type,
  bool_type,
  named_type,
  qualified_type,
  arrow_type,
  Operator,
  plus,
  minus,
  times,
  over,
  less,
  Exp,
}
use Rattle.language.specs.Typing.{
  ExpandedType,
  Context,
  Interface,
  Environment,
  value_declared,
  type_declared,
  taken,
  arrow_of,
  expand,
  result_of,
  kind_type,
  stock_types,
  HasType,
  t_number,
  t_boolean,
  t_variable,
  t_qualified,
  t_zero,
  t_apply,
  t_proc,
  t_let,
  t_conditional,
  t_letrec,
  t_binary,
}
use Rattle.language.specs.Reading.{Reading, reveal, reveal_context, reveal_interface, reveal_modules, reveal_environment}
use Rattle.language.specs.Pantry.{Kind, figure_kind, flag_kind, figure_by_item, flag_by_item, Stock}

pub lookup-map : {A B : Type 0} (f : A → B) (g : List (Binding A)) (x : Name) (a : A) → lookup g x ≡ some a →
    lookup (map (map_binding f) g) x ≡ some (f a)
lookup-map f [] x a h = cc
lookup-map {A} {B} f (bind y b ∷ g) x a h = go (same_name y x) (lookup-map f g x a) h
  where
    go : (t : Bool) → (lookup g x ≡ some a → lookup (map (map_binding f) g) x ≡ some (f a)) → cond t (some b) (lookup g x) ≡ some a →
        cond t (some (f b)) (lookup (map (map_binding f) g) x) ≡ some (f a)
    go true r k = cc
    go false r k = r k

module _ (ρ : Reading) where
  type-read : (e : Environment) (o : Option Interface) (m t : Name) (a : ExpandedType) → lookup e.modules m ≡ o →
      type_declared o t ≡ some a → type_declared (lookup (reveal_modules ρ e.modules) m) t ≡ some (reveal ρ a)
  type-read e none m t a q h = cc
  type-read e (some i) m t a q h = rw (lookup-map (reveal_interface ρ) e.modules m i q) (lookup-map (reveal ρ) i.types t a h)

  value_read : (e : Environment) (o : Option Interface) (m t : Name) (a : ExpandedType) → lookup e.modules m ≡ o →
      value_declared o t ≡ some a → value_declared (lookup (reveal_modules ρ e.modules) m) t ≡ some (reveal ρ a)
  value_read e none m t a q h = cc
  value_read e (some i) m t a q h = rw (lookup-map (reveal_interface ρ) e.modules m i q) (lookup-map (reveal ρ) i.values t a h)

  arrow-read : (o p : Option ExpandedType) (o' p' : Option ExpandedType) (c : ExpandedType) → arrow_of o p ≡ some c →
      ((a : ExpandedType) → o ≡ some a → o' ≡ some (reveal ρ a)) → ((a : ExpandedType) → p ≡ some a → p' ≡ some (reveal ρ a)) →
      arrow_of o' p' ≡ some (reveal ρ c)
  arrow-read none p o' p' c h f g = cc
  arrow-read (some a) none o' p' c h f g = cc
  arrow-read (some a) (some b) o' p' c h f g = rw (f a refl, g b refl) cc

  pub expand-read : (e : Environment) (u : WrittenType) (a : ExpandedType) → expand e u ≡ some a →
      expand (reveal_environment ρ e) u ≡ some (reveal ρ a)
  expand-read e int_type a h = cc
  expand-read e bool_type a h = cc
  expand-read e (named_type t) a h = lookup-map (reveal ρ) e.types t a h
  expand-read e (qualified_type m t) a h = type-read e (lookup e.modules m) m t a refl h
  expand-read e (arrow_type u v) a h = arrow-read (expand e u) (expand e v) (expand (reveal_environment ρ e) u)
      (expand (reveal_environment ρ e) v) a h (expand-read e u) (expand-read e v)

  taken-read : (e : Environment) (m x : Name) (a : ExpandedType) → taken e m x ≡ some a →
      taken (reveal_environment ρ e) m x ≡ some (reveal ρ a)
  taken-read e m x a h = go (same_name pantry_name m) h
    where
      go : (t : Bool) → cond t (lookup e.stock x) (value_declared (lookup e.modules m) x) ≡ some a →
          cond t (lookup (reveal_context ρ e.stock) x) (value_declared (lookup (reveal_modules ρ e.modules) m) x) ≡ some (reveal ρ a)
      go true k = lookup-map (reveal ρ) e.stock x a k
      go false k = value_read e (lookup e.modules m) m x a refl k

  result-read : (o : Operator) → reveal ρ (result_of o) ≡ result_of o
  result-read plus = refl
  result-read minus = refl
  result-read times = refl
  result-read over = refl
  result-read less = refl

  pub typed-read : {e : Environment} {g : Context} {p : Exp} {a : ExpandedType} → HasType e g p a →
      HasType (reveal_environment ρ e) (reveal_context ρ g) p (reveal ρ a)
  typed-read t_number = t_number
  typed-read t_boolean = t_boolean
  typed-read {g = g} (t_variable {x = x} {a = a} h) = t_variable (lookup-map (reveal ρ) g x a h)
  typed-read {e = e} (t_qualified {m = m} {x = x} {a = a} h) = t_qualified (taken-read e m x a h)
  typed-read (t_zero t) = t_zero (typed-read t)
  typed-read (t_apply t u) = t_apply (typed-read t) (typed-read u)
  typed-read {e = e} (t_proc {t = u} {a = a} h t) = t_proc (expand-read e u a h) (typed-read t)
  typed-read (t_let t u) = t_let (typed-read t) (typed-read u)
  typed-read (t_conditional t u v) = t_conditional (typed-read t) (typed-read u) (typed-read v)
  typed-read {e = e} (t_letrec {u = u} {t = t} {a = a} {b = b} ha hb ty tz) =
      t_letrec (expand-read e t a ha) (expand-read e u b hb) (typed-read ty) (typed-read tz)
  typed-read (t_binary {o = o} t u) = rw (result-read o) (t_binary (typed-read t) (typed-read u))

  kind-read : (k : Kind) → reveal ρ (kind_type k) ≡ kind_type k
  kind-read figure_kind = refl
  kind-read flag_kind = refl
  kind-read figure_by_item = refl
  kind-read flag_by_item = refl

  pub stock-read : (p : Stock) → reveal_context ρ (stock_types p) ≡ stock_types p
  stock-read [] = refl
  stock-read (bind x k ∷ p) = rw (kind-read k, stock-read p)
