-- A typed sheet gives a job typed tasks, with its hidden types read.
use Rattle.std.proofs.Common.{◌≡◌, Bool, true, false, cond, not, List, [], ◌∷◌, ◌++◌, map, sym, refl, ap, ◌∙◌, ap₂}
use mathlib.Core.List.{Memᴰ}
use mathlib.Core.Option.{Option, some}
use Rattle.words.specs.Names.{Name, same_name}
use Rattle.language.specs.Names.{bind, lookup, apart_from, distinct}
use Rattle.language.specs.Syntax.{WrittenType, Exp, Declaration, Definition, Module}
use Rattle.language.specs.Tree.{Part, Stands, Task, BodyStands, b_none, b_skip, b_task, ModulesStand, m_none, m_more}
use Rattle.language.specs.Typing.{ExpandedType, Context, Interface, Environment, expand, stock_types, HasType, Interfaces}
use Rattle.language.specs.Points.{point, points_of, environment_at}
use Rattle.language.specs.Modules.{
  seeing,
  Made,
  made_type,
  made_value,
  made_name,
  Outward,
  o_end,
  o_opaque,
  o_transparent,
  o_value,
  BodyTyped,
  b_end,
  b_type,
  b_value,
  Matches,
  m_end,
  m_skip,
  m_opaque,
  m_transparent,
  m_value,
  ModulesTyped,
  body_sees,
  opaques_of,
  hides_of,
  sees_of,
  y_none,
  y_module,
}
use Rattle.language.specs.Reading.{
  Reading,
  reveal,
  reveal_context,
  reveal_interface,
  reveal_modules,
  reveal_environment,
  RevealsModule,
  Reveals,
}
use Rattle.language.specs.Fits.{Setting}
use Rattle.words.proofs.SameNames.{same_refl}
use Rattle.language.proofs.Same.{both_true, not-true, lookup-same}
use Rattle.language.proofs.Rows.{typed-rows}
use Rattle.language.proofs.Held.{Covers, Goal, TasksTyped, k-close, k-define, k-finish}
use Rattle.language.proofs.Read.{lookup-map, expand-read, typed-read, stock-read}

-- ── a body's values ──

-- the names that a body's values have in the end
abbrev pub values_made : Context → List Made → Context
values_made g [] = g
values_made g (made_type t a ∷ ms) = values_made g ms
values_made g (made_value x a ∷ ms) = values_made (bind x a ∷ g) ms

-- another name changes nothing
value_stays : (g : Context) (ms : List Made) (x : Name) → apart_from x (map made_name ms) ≡ true → lookup (values_made g ms) x ≡ lookup g x
value_stays g [] x h = refl
value_stays g (made_type t a ∷ ms) x h = value_stays g ms x (both_true (not (same_name t x)) (apart_from x (map made_name ms)) h).1
value_stays g (made_value y a ∷ ms) x h =
    let (p, q) = both_true (not (same_name y x)) (apart_from x (map made_name ms)) h in
    value_stays (bind y a ∷ g) ms x q ∙ rw (not-true (same_name y x) p) refl

value_made : (g : Context) (ms : List Made) (x : Name) (a : ExpandedType) → apart_from x (map made_name ms) ≡ true →
    lookup (values_made (bind x a ∷ g) ms) x ≡ some a
value_made g ms x a h = value_stays (bind x a ∷ g) ms x h ∙ rw (same_refl x) refl

pub rest-distinct : (x : Name) (xs : List Name) → distinct (x ∷ xs) ≡ true → distinct xs ≡ true
rest-distinct x xs d = (both_true (apart_from x xs) (distinct xs) d).1

module _ (ρ : Reading) where
  -- read, a written type is the same outward and inward
  same-type : (ts us : Context) (n : Interfaces) (s : Context) (u : WrittenType) (a b : ExpandedType) →
      reveal_context ρ ts ≡ reveal_context ρ us → expand (seeing ts n s) u ≡ some a → expand (seeing us n s) u ≡ some b →
      reveal ρ a ≡ reveal ρ b
  same-type ts us n s u a b q h k =
      let p = expand-read ρ (seeing ts n s) u a h in
      let p' = rw q at p in
      let r = expand-read ρ (seeing us n s) u b k in
      cc

  covers_one : (g : Context) (vs : Context) (x : Name) (a : ExpandedType) → lookup g x ≡ some a → Covers g vs → Covers g (bind x a ∷ vs)
  covers_one g vs x a h c y b = go (same_name x y) refl
    where
      go : (t : Bool) → same_name x y ≡ t → cond t (some a) (lookup vs y) ≡ some b → lookup g y ≡ some b
      go true q k = sym (lookup-same g x y q) ∙ h ∙ k
      go false q k = c y b k

  -- what an interface declares is in the body that it matches
  covers-all : {n : Interfaces} {s : Context} {m : Name} {ts us vs : Context} {ds : List Declaration} {ms : List Made} {i : Interface}
      (g : Context) → reveal_context ρ ts ≡ reveal_context ρ us → distinct (map made_name ms) ≡ true → (k : Matches n s us ds ms) →
      RevealsModule ρ m (opaques_of k) → Covers (reveal_context ρ (values_made g ms)) (reveal_context ρ vs) → Outward n s m ts vs ds i →
      Covers (reveal_context ρ (values_made g ms)) (reveal_context ρ i.values)
  covers-all g q d m_end rd c o_end = c
  covers-all g q d (m_skip {k = made_type t a} {ms = ms} k) rd c o = covers-all g q (rest-distinct t (map made_name ms) d) k rd c o
  covers-all g q d (m_skip {k = made_value x a} {ms = ms} k) rd c o =
      covers-all (bind x a ∷ g) q (rest-distinct x (map made_name ms) d) k rd c o
  covers-all g q d (m_opaque {t = t} {t' = t'} {ms = ms} e k) rd c (o_opaque o) =
      covers-all g (ap₂ (λ (a : ExpandedType) (l : Context). bind t a ∷ l) rd.0 q) (rest-distinct t' (map made_name ms) d) k rd.1 c o
  covers-all {n} {s} {ts = ts} {us = us} g q d (m_transparent {t = t} {t' = t'} {u = u} {a = b} {ms = ms} e h' k) rd c
      (o_transparent {a = a} h o) =
      covers-all g (ap₂ (λ (a : ExpandedType) (l : Context). bind t a ∷ l) (same-type ts us n s u a b q h h') q)
      (rest-distinct t' (map made_name ms) d) k rd c o
  covers-all {n} {s} {ts = ts} {us = us} {vs = vs} g q d (m_value {x = x} {x' = x'} {u = u} {a = b} {ms = ms} e h' k) rd c
      (o_value {a = a} h o) =
      let apart = both_true (apart_from x' (map made_name ms)) (distinct (map made_name ms)) d in
      let made : lookup (values_made (bind x' b ∷ g) ms) x' ≡ some b = value_made g ms x' b apart.0 in
      let seen : lookup (reveal_context ρ (values_made (bind x' b ∷ g) ms)) x' ≡ some (reveal ρ b) =
      lookup-map (reveal ρ) (values_made (bind x' b ∷ g) ms) x' b made in
      let here : lookup (reveal_context ρ (values_made (bind x' b ∷ g) ms)) x ≡ some (reveal ρ a) =
      sym (lookup-same (reveal_context ρ (values_made (bind x' b ∷ g) ms)) x' x e) ∙ seen ∙
      ap {B = Option ExpandedType} some (sym (same-type ts us n s u a b q h h')) in
      covers-all (bind x' b ∷ g) q (rest-distinct x' (map made_name ms) d) k rd
      (covers_one (reveal_context ρ (values_made (bind x' b ∷ g) ms)) (reveal_context ρ vs) x (reveal ρ a) here c) o

  -- what is listed as seen at the expressions of these tasks is seen there
  abbrev Listed : Setting → Part → List Task → List Environment → Type 0
  Listed w close k es = (j : Part) (e : Environment) → Memᴰ (point j e) (points_of k close (map (reveal_environment ρ) es)) →
      environment_at w.points j ≡ some e

  -- a body's tasks
  body-tasks : {w : Setting} {goal : Goal} {n : Interfaces} {rest : List Task}
      (fs : List Environment) {ts g : Context} {ds : List Definition} {ms : List Made} {k : List Task}
      (b : BodyTyped n (stock_types w.stock) ts g ds ms) → Listed w goal.close k (body_sees b ++ fs) →
      (Listed w goal.close rest fs → TasksTyped w goal (reveal_modules ρ n) (reveal_context ρ (values_made g ms)) rest) →
      BodyStands w.tree rest ds k → TasksTyped w goal (reveal_modules ρ n) (reveal_context ρ g) k
  body-tasks fs b_end sub f b_none = f sub
  body-tasks fs (b_type h b) sub f (b_skip l) = body-tasks fs b sub f l
  body-tasks {w} {n = n} fs (b_value {ts = ts} t b) sub f (b_task {j = j} st l) =
      k-define (record {
        at = sub j (reveal_environment ρ (seeing ts n (stock_types w.stock))) (Memᴰ.head refl);
        earlier = λ m i h. h;
        stock-is = stock-read ρ w.stock;
      })
      (typed-rows j st (typed-read ρ t)) (body-tasks fs b (λ i e h. sub i e (Memᴰ.tail h)) f l)

  modules-append : (n : Interfaces) (m : Name) (i : Interface) →
      reveal_modules ρ (n ++ (bind m i ∷ [])) ≡ reveal_modules ρ n ++ (bind m (reveal_interface ρ i) ∷ [])
  modules-append [] m i = refl
  modules-append (bind x y ∷ n) m i = ap {B = Interfaces} (λ l. bind x (reveal_interface ρ y) ∷ l) (modules-append n m i)

  -- a sheet's tasks
  pub sheet-tasks : {w : Setting} {close : Part} {p : Exp} {all : Interfaces} {r : ExpandedType} → Stands w.tree close p →
      HasType (seeing [] all (stock_types w.stock)) [] p r →
      {n : Interfaces} {ms : List Module} {k : List Task} (t : ModulesTyped (stock_types w.stock) n ms all) →
      Listed w close k (sees_of t) → Reveals ρ (hides_of t) → ModulesStand w.tree ms k →
      TasksTyped w (record { close = close; all = reveal_modules ρ all; result = reveal ρ r }) (reveal_modules ρ n) [] k
  sheet-tasks {w} {close} {all = all} c ty y_none sub rd m_none =
      k-close (record {
        at = sub close (reveal_environment ρ (seeing [] all (stock_types w.stock))) (Memᴰ.head refl);
        earlier = λ m i h. h;
        stock-is = stock-read ρ w.stock;
      })
      (typed-rows close c (typed-read ρ ty))
  sheet-tasks {w} c ty (y_module {n = n} {m = m} {i = i} f p d o a t) sub rd (m_more l b) =
      body-tasks (sees_of t) a.typed sub
      (λ sub'. k-finish (reveal_interface ρ i) (covers-all [] refl a.apart a.matched rd.0 (λ x b h. cc) o)
      (rw (sym (modules-append n m.name i)) (sheet-tasks c ty t sub' rd.1 l)))
      b
