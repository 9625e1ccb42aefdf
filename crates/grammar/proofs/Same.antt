-- The table of productions and the grammar say the same.
use Rattle.std.proofs.Common.{◌≡◌, ℕ, zero, suc, ◌+◌, ◌-◌, ◌≤◌, max, List, [], ◌∷◌, ◌++◌, sym, refl, ap, ◌∙◌, subst, append_assoc, append-nil, arith}
use mathlib.Core.Option.{some}
use Rattle.std.proofs.lemmas.Bool.{eq-eqb}
use Rattle.words.specs.declared.keywords.Keyword.TheVariants as kw
use Rattle.words.specs.declared.marks.Mark.TheVariants as mk
use Rattle.grammar.specs.declared.tree.Operator.{Operator}
use Rattle.grammar.specs.Syntax.{WrittenType, Exp, Declaration, Definition, Module, Sheet}
use Rattle.grammar.specs.Syntax as is
use Rattle.grammar.specs.declared.tree.Operator.TheVariants as operator
use Rattle.grammar.specs.Productions.{Word, name, number, key, mark, place_of, Single, Held, takes, «the», sign, a_name, a_number, Sort}
use Rattle.grammar.specs.Productions.{a_type, an_exp, a_declaration, a_definition, a_module, Part, Symbol, one, part, parts, Values, Form}
use Rattle.grammar.specs.Productions.{first, rest, build, op_sign}
use Rattle.grammar.specs.Productions as pr
use Rattle.grammar.specs.Derives.{Many, InOrder, Derives, DerivesSheet}
use Rattle.grammar.specs.Grammar.{TypeWords, ExpWords, OperatorWord, DeclarationWords, DefinitionWords, ModuleWords, SheetWords, Each}
use Rattle.grammar.specs.Grammar.{no_more, one_more, levels_t, levels_e, levels_d, levels_f, levels_m, levels_s, deepest}
use Rattle.grammar.specs.Grammar as g
use Rattle.grammar.proofs.Begins.{takes-the, takes-sign, takes-name, takes-number}

-- the words of a symbol that is one word
abbrev pub word_from : (m : Single) → Held m → ℕ → Word
word_from («the» k) h at = key at k
word_from (sign m) h at = mark at m
word_from a_name h at = name h
word_from a_number h at = number at h

word-from : (m : Single) (h : Held m) (w : Word) → takes m w ≡ some h → (at : ℕ) × (w ≡ word_from m h at)
word-from («the» k) h w e = takes-the k w e
word-from (sign m) h w e = takes-sign m w e
word-from a_name h w e = (0, takes-name w h e)
word-from a_number h w e = takes-number w h e

-- what the words of symbols have beside the values: places, and the words of the parts
abbrev Pieces : List Symbol → Type 0
Pieces [] = Unit {0}
Pieces (one m ∷ ss) = ℕ × Pieces ss
Pieces (part s ∷ ss) = List Word × Pieces ss
Pieces (parts s ∷ ss) = (List Word × ℕ) × Pieces ss

-- the words, put together
abbrev flat : (ss : List Symbol) → Values ss → Pieces ss → List Word
flat [] v q = []
flat (one m ∷ ss) v q = word_from m v.0 q.0 ∷ flat ss v.1 q.1
flat (part s ∷ []) v q = q.0
flat (part s ∷ (t ∷ ss)) v q = q.0 ++ flat (t ∷ ss) v.1 q.1
flat (parts s ∷ ss) v q = q.0.0 ++ (mark q.0.1 mk.End ∷ flat ss v.1 q.1)

abbrev Holds : ((s : Sort) → List Word → Part s → Type 0) → (ss : List Symbol) → Values ss → Pieces ss → Type 0
Holds D [] v q = Unit {0}
Holds D (one m ∷ ss) v q = Holds D ss v.1 q.1
Holds D (part s ∷ ss) v q = D s q.0 v.0 × Holds D ss v.1 q.1
Holds D (parts s ∷ ss) v q = Each (D s) q.0.0 v.0 × Holds D ss v.1 q.1

many-each : {A : Type 0} (D : List Word → A → Type 0) (r : List A) (ws : List Word) → Many D ws r → (us : List Word) × (at : ℕ)
    × (ws ≡ us ++ (mark at mk.End ∷ [])) × Each D us r
many-each D [] ws m = ([], m.0, m.1, no_more)
many-each D (a ∷ r) ws m =
    let t = many-each D r m.1 m.4 in (
      m.0 ++ t.0,
      t.1,
      m.2 ∙ (ap (λ z. m.0 ++ z) t.2 ∙ sym (append_assoc m.0 t.0 (mark t.1 mk.End ∷ []))),
      one_more m.3
          t.3,
    )

each-many : {A : Type 0} (D : List Word → A → Type 0) (us : List Word) (r : List A) (at : ℕ) → Each D us r
    → Many D (us ++ (mark at mk.End ∷ [])) r
each-many D us r at no_more = (at, refl)
each-many D us r at (one_more {us = xs} {vs = ys} {a = a} {r = rs} d e) = (
  xs,
  ys ++ (mark at mk.End ∷ []),
  append_assoc xs ys
      (mark at mk.End ∷ []),
  d,
  each-many D ys rs at e,
)

flatten : (D : (s : Sort) → List Word → Part s → Type 0) (ss : List Symbol) (ws : List Word) (v : Values ss) → InOrder D ss ws v
    → (q : Pieces ss) × (ws ≡ flat ss v q) × Holds D ss v q
flatten D [] ws v i = (tt, i, tt)
flatten D (one m ∷ ss) ws v i =
    let t = flatten D ss i.1 v.1 i.4 in
    let w = word-from m v.0 i.0 i.3 in
    ((w.0, t.0), i.2 ∙ (ap (λ z. z ∷ i.1) w.1 ∙ ap (λ y. word_from m v.0 w.0 ∷ y) t.1), t.2)
flatten D (part s ∷ []) ws v i = ((i.0, tt), rw (i.2, i.4) (append-nil i.0), (i.3, tt))
flatten D (part s ∷ (z ∷ ss)) ws v i =
    let t = flatten D (z ∷ ss) i.1 v.1 i.4 in
    ((i.0, t.0), i.2 ∙ ap (λ y. i.0 ++ y) t.1, (i.3, t.2))
flatten D (parts s ∷ ss) ws v i =
    let t = flatten D ss i.1 v.1 i.4 in
    let m = many-each (D s) v.0 i.0 i.3 in (
      ((m.0, m.1), t.0),
      i.2 ∙ (ap (λ y. y ++ i.1) m.2 ∙ (append_assoc m.0 (mark m.1 mk.End ∷ []) i.1
          ∙ ap (λ y. m.0 ++ (mark m.1 mk.End ∷ y)) t.1)),
      (m.3, t.2),
    )

pub takes-from : (m : Single) (h : Held m) (at : ℕ) → takes m (word_from m h at) ≡ some h
takes-from («the» k) h at = rw (eq-eqb (pr.key_code k) (pr.key_code k) refl)
takes-from (sign m) h at = rw (eq-eqb (pr.mark_code m) (pr.mark_code m) refl)
takes-from a_name h at = refl
takes-from a_number h at = refl

unflatten : (D : (s : Sort) → List Word → Part s → Type 0) (ss : List Symbol) (v : Values ss) (q : Pieces ss) → Holds D ss v q
    → InOrder D ss (flat ss v q) v
unflatten D [] v q h = refl
unflatten D (one m ∷ ss) v q h = (
  word_from m v.0 q.0,
  flat ss v.1 q.1,
  refl,
  takes-from m v.0 q.0,
  unflatten D ss
      v.1 q.1 h,
)
unflatten D (part s ∷ []) v q h = (q.0, [], sym (append-nil q.0), h.0, refl)
unflatten D (part s ∷ (t ∷ ss)) v q h = (q.0, flat (t ∷ ss) v.1 q.1, refl, h.0, unflatten D (t ∷ ss) v.1 q.1 h.1)
unflatten D (parts s ∷ ss) v q h = (
  q.0.0 ++ (mark q.0.1 mk.End ∷ []),
  flat ss v.1 q.1,
  sym (append_assoc q.0.0 (mark q.0.1 mk.End ∷ [])
      (flat ss v.1 q.1)),
  each-many (D s) q.0.0 v.0 q.0.1 h.0,
  unflatten D ss v.1 q.1 h.1,
)

-- FROM THE GRAMMAR TO THE TABLE

-- a part by its form, one level above its parts, which nest at most n
by : (s : Sort) (f : Form s) (l n : ℕ) (h : Held (first s f)) (v : Values (rest s f)) (w : Word) (q : Pieces (rest s f))
    → takes (first s f) w ≡ some h → n + 1 ≤ l
    → ((k : ℕ) → n ≤ k → Holds (Derives k) (rest s f) v q) → Derives l s (w ∷ flat (rest s f) v q) (build s (place_of w) f h v)
unfolding Derives
by s f zero n h v w q t b g = absurd (omega arith)
by s f (suc k) n h v w q t b g =
    record {
      form = f;
      has = h;
      values = v;
      head = w;
      behind = flat (rest s f) v q;
      all = refl;
      begins = t;
      goes = unflatten (Derives k)
          (rest s f) v q (g k (omega arith));
      gives = refl;
    }

pub type-derives : (ws : List Word) (t : WrittenType) → TypeWords ws t → (l : ℕ) → levels_t t ≤ l → Derives l a_type ws t
type-derives ws t (g.int_type p) l b = by a_type pr.t_int l 0 tt tt (key p kw.Int) tt refl b (λ k c. tt)
type-derives ws t (g.bool_type p) l b = by a_type pr.t_bool l 0 tt tt (key p kw.Bool) tt refl b (λ k c. tt)
type-derives ws t (g.named_type x) l b = by a_type pr.t_name l 0 x tt (name x) tt refl b (λ k c. tt)
type-derives ws t (g.qualified_type p q m x) l b = by a_type pr.t_from l 0 tt (m, (tt, (x, tt))) (key p kw.From) (0, (q, (0, tt))) refl b
    (λ k c. tt)
type-derives ws t (g.arrow_type p q r {us = us} {vs = vs} {a = a} {b = e} x y) l b =
    by a_type pr.t_arrow l (max (levels_t a) (levels_t e)) tt (a, (tt, (e, (tt, tt)))) (mark p mk.Open) (us, (q, (vs, (r, tt)))) refl b
    (λ k c. (type-derives us a x k (omega arith), (type-derives vs e y k (omega arith), tt)))

op-takes : (w : Word) (p : ℕ) (o : Operator) → OperatorWord w p o → (h : Held (op_sign o)) × (takes (op_sign o) w ≡ some h) × (place_of w ≡ p)
op-takes w p o (g.plus q) = (tt, refl, refl)
op-takes w p o (g.minus q) = (tt, refl, refl)
op-takes w p o (g.times q) = (tt, refl, refl)
op-takes w p o (g.over q) = (tt, refl, refl)
op-takes w p o (g.less q) = (tt, refl, refl)

pub exp-derives : (ws : List Word) (e : Exp) → ExpWords ws e → (l : ℕ) → levels_e e ≤ l → Derives l an_exp ws e
exp-derives ws e (g.numeral p v) l b = by an_exp pr.e_number l 0 v tt (number p v) tt refl b (λ k c. tt)
exp-derives ws e (g.true_word p) l b = by an_exp pr.e_true l 0 tt tt (key p kw.True) tt refl b (λ k c. tt)
exp-derives ws e (g.false_word p) l b = by an_exp pr.e_false l 0 tt tt (key p kw.False) tt refl b (λ k c. tt)
exp-derives ws e (g.variable x) l b = by an_exp pr.e_name l 0 x tt (name x) tt refl b (λ k c. tt)
exp-derives ws e (g.qualified p q m x) l b = by an_exp pr.e_from l 0 tt (m, (tt, (x, tt))) (key p kw.From) (0, (q, (0, tt))) refl b
    (λ k c. tt)
exp-derives ws e (g.is_zero p q r {us = us} {a = a} x) l b =
    by an_exp pr.e_zero l (levels_e a) tt (tt, (a, (tt, tt))) (key p kw.IsZero) (q, (us, (r, tt))) refl b (λ k c. (exp-derives us a x k c, tt))
exp-derives ws e (g.apply p q {us = us} {vs = vs} {a = a} {b = d} x y) l b =
    by an_exp pr.e_apply l (max (levels_e a) (levels_e d)) tt (a, (d, (tt, tt))) (mark p mk.Open) (us, (vs, (q, tt))) refl b
    (λ k c. (exp-derives us a x k (omega arith), (exp-derives vs d y k (omega arith), tt)))
exp-derives ws e (g.proc p q r o x {us = us} {vs = vs} {t = t} {e = d} y z) l b =
    by an_exp pr.e_proc l (max (levels_t t) (levels_e d)) tt (tt, (x, (tt, (t, (tt, (d, tt)))))) (key p kw.Proc)
    (q, (0, (r, (us, (o, (vs, tt)))))) refl b
    (λ k c. (type-derives us t y k (omega arith), (exp-derives vs d z k (omega arith), tt)))
exp-derives ws e (g.let_in p q r x {us = us} {vs = vs} {a = a} {e = d} y z) l b =
    by an_exp pr.e_let l (max (levels_e a) (levels_e d)) tt (x, (tt, (a, (tt, (d, tt))))) (key p kw.Let) (0, (q, (us, (r, (vs, tt))))) refl b
    (λ k c. (exp-derives us a y k (omega arith), (exp-derives vs d z k (omega arith), tt)))
exp-derives ws e (g.conditional p q r {us = us} {vs = vs} {ws = zs} {a = a} {b = d} {c = f} x y z) l b =
    by an_exp pr.e_if l (max (levels_e a) (max (levels_e d) (levels_e f))) tt (a, (tt, (d, (tt, (f, tt))))) (key p kw.If)
    (us, (q, (vs, (r, (zs, tt))))) refl b
    (λ k c. (exp-derives us a x k (omega arith), (exp-derives vs d y k (omega arith), (exp-derives zs f z k (omega arith), tt))))
exp-derives ws e (g.letrec p q r o n i f x {ts = ts} {us = us} {vs = vs} {ws = zs} {s = s} {t = t} {a = a} {e = d} h j y z) l b =
    by an_exp pr.e_letrec l (max (max (levels_t s) (levels_t t)) (max (levels_e a) (levels_e d))) tt
    (s, (f, (tt, (x, (tt, (t, (tt, (tt, (a, (tt, (d, tt)))))))))))
    (key p kw.Letrec) (ts, (0, (q, (0, (r, (us, (o, (n, (vs, (i, (zs, tt))))))))))) refl b
    (λ k c. (
      type-derives ts s h k (omega arith),
      (
        type-derives us t j k (omega arith),
        (
          exp-derives vs a y k (omega arith),
          (exp-derives zs d z k (omega arith), tt),
        ),
      ),
    ))
exp-derives ws e (g.binary p q r o {w = w} {op = op} {us = us} {vs = vs} {a = a} {b = d} f x y) l b =
    let t = op-takes w p op f in
    subst (λ z. Derives l an_exp (w ∷ mark q mk.Open ∷ (us ++ (mark r mk.Comma ∷ (vs ++ (mark o mk.Shut ∷ []))))) (is.binary z op a d))
    t.2
    (by an_exp (pr.e_op op) l (max (levels_e a) (levels_e d)) t.0 (tt, (a, (tt, (d, (tt, tt))))) w (q, (us, (r, (vs, (o, tt))))) t.1 b
    (λ k c. (exp-derives us a x k (omega arith), (exp-derives vs d y k (omega arith), tt))))

pub declaration-derives : (l : ℕ) (ws : List Word) (d : Declaration) → DeclarationWords ws d → levels_d d ≤ l
    → Derives (suc l) a_declaration ws d
declaration-derives l ws d (g.opaque_type p t) b = by a_declaration pr.d_opaque (suc l) 0 tt (t, tt) (key p kw.Opaque) (0, tt) refl
    (omega arith) (λ k c. tt)
declaration-derives l ws d (g.transparent_type p q t {us = us} {a = a} x) b =
    by a_declaration pr.d_transparent (suc l) l tt (t, (tt, (a, tt))) (key p kw.Transparent) (0, (q, (us, tt))) refl (omega arith)
    (λ k c. (type-derives us a x k (omega arith), tt))
declaration-derives l ws d (g.value_of_type q v {us = us} {a = a} x) b =
    by a_declaration pr.d_value (suc l) l v (tt, (a, tt)) (name v) (q, (us, tt)) refl (omega arith)
    (λ k c. (type-derives us a x k (omega arith), tt))

pub definition-derives : (l : ℕ) (ws : List Word) (d : Definition) → DefinitionWords ws d → levels_f d ≤ l → Derives (suc l) a_definition ws d
definition-derives l ws d (g.type_is p q t {us = us} {a = a} x) b =
    by a_definition pr.f_type (suc l) l tt (t, (tt, (a, tt))) (key p kw.«Type») (0, (q, (us, tt))) refl (omega arith)
    (λ k c. (type-derives us a x k (omega arith), tt))
definition-derives l ws d (g.value_is q v {us = us} {e = e} x) b =
    by a_definition pr.f_value (suc l) l v (tt, (e, tt)) (name v) (q, (us, tt)) refl (omega arith)
    (λ k c. (exp-derives us e x k (omega arith), tt))

-- a list of parts, each within the levels
each-derives : {A : Type 0} (D : List Word → A → Type 0) (F : List Word → A → Type 0) (level : A → ℕ) (l : ℕ) → ((ws : List Word) (a : A)
    → D ws a → level a ≤ l → F ws a)
    → (ws : List Word) (r : List A) → Each D ws r → deepest level r ≤ l → Each F ws r
each-derives D F level l f ws r no_more b = no_more
each-derives D F level l f ws r (one_more {us = us} {vs = vs} {a = a} {r = rs} d e) b = one_more (f us a d (omega arith))
    (each-derives D F level l f vs rs e (omega arith))

pub module-derives : (l : ℕ) (ws : List Word) (m : Module) → ModuleWords ws m → levels_m m ≤ l → Derives (suc (suc l)) a_module ws m
module-derives l ws m (g.module_of p q r o n i j t {us = us} {vs = vs} {ds = ds} {fs = fs} x y) b =
    by a_module pr.m_module (suc (suc l)) (suc l) tt (t, (tt, (tt, (ds, (tt, (tt, (fs, tt))))))) (key p kw.Module)
    (0, (q, (r, ((us, o), (n, (i, ((vs, j), tt))))))) refl (omega arith)
    (λ k c. go k c)
  where
    go : (k : ℕ) → suc l ≤ k → Each (Derives k a_declaration) us ds × (Each (Derives k a_definition) vs fs × Unit {0})
    go zero c = absurd (omega arith)
    go (suc k) c = (
      each-derives DeclarationWords (Derives (suc k) a_declaration) levels_d k (declaration-derives k) us ds x (omega arith),
      (each-derives DefinitionWords (Derives (suc k) a_definition) levels_f k (definition-derives k) vs fs y (omega arith), tt),
    )

each-sheet : (l : ℕ) (us vs : List Word) (ms : List Module) (e : Exp) → Each ModuleWords us ms → deepest levels_m ms ≤ l
    → Derives l an_exp vs e → DerivesSheet l (us ++ vs) ms e
each-sheet l us vs ms e no_more b d = d
each-sheet l us vs ms e (one_more {us = xs} {vs = ys} {a = m} {r = rs} x y) b d =
    (xs, ys ++ vs, append_assoc xs ys vs, module-derives l xs m x (omega arith), each-sheet l ys vs rs e y (omega arith) d)

pub sheet-derives : (l : ℕ) (ws : List Word) (s : Sheet) → SheetWords ws s → levels_s s ≤ l → DerivesSheet l ws s.modules s.closing
sheet-derives l ws s (g.sheet {us = us} {vs = vs} {ms = ms} {e = e} x y) b = each-sheet l us vs ms e x (omega arith)
    (exp-derives vs e y l (omega arith))

-- FROM THE TABLE TO THE GRAMMAR

abbrev pub WordsOf : (s : Sort) → List Word → Part s → Type 0
WordsOf a_type = TypeWords
WordsOf an_exp = ExpWords
WordsOf a_declaration = DeclarationWords
WordsOf a_definition = DefinitionWords
WordsOf a_module = ModuleWords

-- the deepest type or expression of a part that stands at so many levels
abbrev pub Within : (s : Sort) → ℕ → Part s → Type 0
Within a_type l t = levels_t t ≤ l
Within an_exp l e = levels_e e ≤ l
Within a_declaration l d = levels_d d + 1 ≤ l
Within a_definition l d = levels_f d + 1 ≤ l
Within a_module l m = levels_m m ≤ l - 2

abbrev Found : ℕ → (s : Sort) → List Word → Part s → Type 0
Found l s ws a = WordsOf s ws a × Within s l a

each_map : {A : Type 0} (D F : List Word → A → Type 0) → ((ws : List Word) (a : A) → D ws a → F ws a) → (ws : List Word) (r : List A)
    → Each D ws r → Each F ws r
each_map D F f ws r no_more = no_more
each_map D F f ws r (one_more {us = us} {vs = vs} {a = a} {r = rs} d e) = one_more (f us a d) (each_map D F f vs rs e)

holds-map : (D F : (s : Sort) → List Word → Part s → Type 0) → ((s : Sort) (ws : List Word) (a : Part s) → D s ws a → F s ws a)
    → (ss : List Symbol) (v : Values ss) (q : Pieces ss) → Holds D ss v q → Holds F ss v q
holds-map D F f [] v q h = tt
holds-map D F f (one m ∷ ss) v q h = holds-map D F f ss v.1 q.1 h
holds-map D F f (part s ∷ ss) v q h = (f s q.0 v.0 h.0, holds-map D F f ss v.1 q.1 h.1)
holds-map D F f (parts s ∷ ss) v q h = (each_map (D s) (F s) (f s) q.0.0 v.0 h.0, holds-map D F f ss v.1 q.1 h.1)

-- a list of parts, each within the levels
each-deepest : {A : Type 0} (D : List Word → A → Type 0) (level : A → ℕ) (l : ℕ) (ws : List Word) (r : List A) → Each (λ ws a. D ws a
    × (level a + 1 ≤ l)) ws r → deepest level r ≤ l - 1
each-deepest D level l ws r no_more = omega arith
each-deepest D level l ws r (one_more {us = us} {vs = vs} {a = a} {r = rs} d e) = omega (arith, each-deepest D level l vs rs e, d.1)

each_first : {A : Type 0} (D E : List Word → A → Type 0) (ws : List Word) (r : List A) → Each (λ ws a. D ws a × E ws a) ws r → Each D ws r
each_first D E ws r e = each_map (λ ws a. D ws a × E ws a) D (λ ws a h. h.0) ws r e

form-back : (l : ℕ) (s : Sort) (f : Form s) (h : Held (first s f)) (v : Values (rest s f)) (at : ℕ) (q : Pieces (rest s f))
    → Holds (Found l) (rest s f) v q
    → Found (suc l) s (word_from (first s f) h at ∷ flat (rest s f) v q) (build s (place_of (word_from (first s f) h at)) f h v)
form-back l a_type pr.t_int h v at q hs = (g.int_type at, omega arith)
form-back l a_type pr.t_bool h v at q hs = (g.bool_type at, omega arith)
form-back l a_type pr.t_name h v at q hs = (g.named_type h, omega arith)
form-back l a_type pr.t_from h v at q hs = (g.qualified_type at q.1.0 v.0 v.1.1.0, omega arith)
form-back l a_type pr.t_arrow h v at q hs = (
  g.arrow_type at q.1.0 q.1.1.1.0 hs.0.0 hs.1.0.0,
  omega
      (arith, hs.0.1, hs.1.0.1),
)
form-back l an_exp pr.e_number h v at q hs = (g.numeral at h, omega arith)
form-back l an_exp pr.e_true h v at q hs = (g.true_word at, omega arith)
form-back l an_exp pr.e_false h v at q hs = (g.false_word at, omega arith)
form-back l an_exp pr.e_name h v at q hs = (g.variable h, omega arith)
form-back l an_exp pr.e_from h v at q hs = (g.qualified at q.1.0 v.0 v.1.1.0, omega arith)
form-back l an_exp pr.e_zero h v at q hs = (g.is_zero at q.0 q.1.1.0 hs.0.0, omega (arith, hs.0.1))
form-back l an_exp pr.e_apply h v at q hs = (g.apply at q.1.1.0 hs.0.0 hs.1.0.0, omega (arith, hs.0.1, hs.1.0.1))
form-back l an_exp pr.e_proc h v at q hs = (
  g.proc at q.0 q.1.1.0 q.1.1.1.1.0 v.1.0 hs.0.0 hs.1.0.0,
  omega
      (arith, hs.0.1, hs.1.0.1),
)
form-back l an_exp pr.e_let h v at q hs = (
  g.let_in at q.1.0 q.1.1.1.0 v.0 hs.0.0 hs.1.0.0,
  omega
      (arith, hs.0.1, hs.1.0.1),
)
form-back l an_exp pr.e_if h v at q hs = (
  g.conditional at q.1.0 q.1.1.1.0 hs.0.0 hs.1.0.0 hs.1.1.0.0,
  omega
      (arith, hs.0.1, hs.1.0.1, hs.1.1.0.1),
)
form-back l an_exp pr.e_letrec h v at q hs = (
  g.letrec at q.1.1.0 q.1.1.1.1.0 q.1.1.1.1.1.1.0 q.1.1.1.1.1.1.1.0 q.1.1.1.1.1.1.1.1.1.0
      v.1.0 v.1.1.1.0 hs.0.0 hs.1.0.0 hs.1.1.0.0 hs.1.1.1.0.0,
  omega (arith, hs.0.1, hs.1.0.1, hs.1.1.0.1, hs.1.1.1.0.1),
)
form-back l an_exp (pr.e_op operator.Plus) h v at q hs = (
  g.binary at q.0 q.1.1.0 q.1.1.1.1.0 (g.plus at) hs.0.0
      hs.1.0.0,
  omega (arith, hs.0.1, hs.1.0.1),
)
form-back l an_exp (pr.e_op operator.Minus) h v at q hs = (
  g.binary at q.0 q.1.1.0 q.1.1.1.1.0 (g.minus at) hs.0.0
      hs.1.0.0,
  omega (arith, hs.0.1, hs.1.0.1),
)
form-back l an_exp (pr.e_op operator.Times) h v at q hs = (
  g.binary at q.0 q.1.1.0 q.1.1.1.1.0 (g.times at) hs.0.0
      hs.1.0.0,
  omega (arith, hs.0.1, hs.1.0.1),
)
form-back l an_exp (pr.e_op operator.Over) h v at q hs = (
  g.binary at q.0 q.1.1.0 q.1.1.1.1.0 (g.over at) hs.0.0
      hs.1.0.0,
  omega (arith, hs.0.1, hs.1.0.1),
)
form-back l an_exp (pr.e_op operator.Less) h v at q hs = (
  g.binary at q.0 q.1.1.0 q.1.1.1.1.0 (g.less at) hs.0.0
      hs.1.0.0,
  omega (arith, hs.0.1, hs.1.0.1),
)
form-back l a_declaration pr.d_opaque h v at q hs = (g.opaque_type at v.0, omega arith)
form-back l a_declaration pr.d_transparent h v at q hs = (g.transparent_type at q.1.0 v.0 hs.0.0, omega (arith, hs.0.1))
form-back l a_declaration pr.d_value h v at q hs = (g.value_of_type q.0 h hs.0.0, omega (arith, hs.0.1))
form-back l a_definition pr.f_type h v at q hs = (g.type_is at q.1.0 v.0 hs.0.0, omega (arith, hs.0.1))
form-back l a_definition pr.f_value h v at q hs = (g.value_is q.0 h hs.0.0, omega (arith, hs.0.1))
form-back l a_module pr.m_module h v at q hs =
    let a = each-deepest DeclarationWords levels_d l q.1.1.1.0.0 v.1.1.1.0 hs.0 in
    let b = each-deepest DefinitionWords levels_f l q.1.1.1.1.1.1.0.0 v.1.1.1.1.1.1.0 hs.1.0 in (
      g.module_of at q.1.0 q.1.1.0 q.1.1.1.0.1 q.1.1.1.1.0 q.1.1.1.1.1.0 q.1.1.1.1.1.1.0.1 v.0
          (each_first DeclarationWords (λ ws d. levels_d d + 1 ≤ l) q.1.1.1.0.0 v.1.1.1.0 hs.0)
          (each_first DefinitionWords (λ ws d. levels_f d + 1 ≤ l) q.1.1.1.1.1.1.0.0 v.1.1.1.1.1.1.0 hs.1.0),
      omega (arith, a, b),
    )

pub derives-back : (l : ℕ) (s : Sort) (ws : List Word) (a : Part s) → Derives l s ws a → Found l s ws a
unfolding Derives
derives-back zero s ws a d = absurd d
derives-back (suc l) s ws a d =
    let f = flatten (Derives l) (rest s d.form) d.behind d.values d.goes in
    let w = word-from (first s d.form) d.has d.head d.begins in
    let b = form-back l s d.form d.has d.values w.0 f.0 (holds-map (Derives l) (Found l) (derives-back l)
    (rest s d.form) d.values f.0 f.2) in
    let c : ws ≡ word_from (first s d.form) d.has w.0 ∷ flat (rest s d.form) d.values f.0 = d.all
    ∙ (ap (λ z. z ∷ d.behind) w.1 ∙ ap (λ y. word_from (first s d.form) d.has w.0 ∷ y) f.1) in
    let e : a ≡ build s (place_of (word_from (first s d.form) d.has w.0)) d.form d.has d.values = d.gives
    ∙ ap (λ z. build s (place_of z) d.form d.has d.values) w.1 in
    subst (λ z. Found (suc l) s z a) (sym c) (subst (λ z. Found (suc l) s (word_from (first s d.form) d.has w.0 ∷ flat
    (rest s d.form) d.values f.0) z) (sym e) b)

abbrev Split : ℕ → List Word → List Module → Exp → Type 0
Split l ws ms e = (us : List Word) × (vs : List Word) × (ws ≡ us ++ vs) × Each ModuleWords us ms × ExpWords vs e
    × (max (deepest levels_m ms) (levels_e e) ≤ l)

sheet-split : (l : ℕ) (ws : List Word) (ms : List Module) (e : Exp) → DerivesSheet l ws ms e → Split l ws ms e
sheet-split l ws [] e d = let b = derives-back l an_exp ws e d in ([], ws, refl, no_more, b.0, omega (arith, b.1))
sheet-split l ws (m ∷ ms) e d =
    let b = derives-back (suc (suc l)) a_module d.0 m d.3 in
    let t = sheet-split l d.1 ms e d.4 in (
      d.0 ++ t.0,
      t.1,
      d.2 ∙ (ap (λ z. d.0 ++ z) t.2 ∙ sym (append_assoc d.0 t.0 t.1)),
      one_more b.0 t.3,
      t.4,
      omega (arith, b.1, t.5),
    )

pub sheet-back : (l : ℕ) (ws : List Word) (s : Sheet) → DerivesSheet l ws s.modules s.closing → SheetWords ws s × (levels_s s ≤ l)
sheet-back l ws s d =
    let t = sheet-split l ws s.modules s.closing d in
    (subst (λ z. SheetWords z s) (sym t.2) (g.sheet t.3 t.4), t.5)
