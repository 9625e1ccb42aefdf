-- What the words derive, within the limits, is read.
use Rattle.std.proofs.Common.{◌≡◌, ℕ, zero, suc, ◌+◌, ◌<◌, ◌≤◌, List, [], ◌∷◌, ◌++◌, sym, refl, ap, ◌∙◌, subst, arith}
use mathlib.Core.Option.{Option, none, some}
use Rattle.std.proofs.lemmas.Bool.{lt-ltb}
use Rattle.words.specs.declared.keywords.Keyword.TheVariants as kw
use Rattle.grammar.specs.Syntax.{Exp, Module, inner_e, inner_m, places}
use Rattle.grammar.specs.Syntax as is
use Rattle.grammar.specs.Productions.{Word, place_of, Single, Held, takes, Sort, an_exp, a_module, Part, inner, Symbol, one, part, parts}
use Rattle.grammar.specs.Productions.{Values, first, rest, Opening, chosen, first_of, size_v, «the»}
use Rattle.grammar.specs.Productions as pr
use Rattle.grammar.specs.Reading.{Out, good, end, word, Source, single, closes, room, many, in_order, read_part, levels, closed}
use Rattle.grammar.specs.Reading.{begins_module, sheet_from}
use Rattle.grammar.specs.Derives.{Along, Many, InOrder, Derives, DerivesSheet}
use Rattle.grammar.proofs.Sound.{inner-build}
use Rattle.grammar.proofs.Begins.{chosen-whole, open_stays, none-some, takes-the}

pub along-split : (next : Source) (p q : ℕ) (xs ys : List Word) → Along next p q (xs ++ ys) → (m : ℕ) × Along next p m xs
    × Along next m q ys
along-split next p q [] ys h = (p, refl, h)
along-split next p q (x ∷ xs) ys h = let t = along-split next h.0 q xs ys h.2 in (t.0, (h.0, h.1, t.1), t.2)

pub room-found : {A : Type 0} (n u at : ℕ) (a : A) (q : ℕ) → u < n → room n u at a q ≡ good a q
room-found n u at a q h = rw (lt-ltb u n h)

pub single-complete : (m : Single) (next : Source) (p q : ℕ) (w : Word) (h : Held m) → next p ≡ word w q → takes m w ≡ some h
    → single m next p ≡ good h q
unfolding single
single-complete m next p q w h e t = rw (e, t)

-- a list that derives something opens by a word that does not close a list
abbrev Opens : {A : Type 0} → (List Word → A → Type 0) → Type 0
Opens {A} D = (next : Source) (p q : ℕ) (xs : List Word) (a : A) → D xs a → Along next p q xs → closes (next p) ≡ none

abbrev Complete : {A : Type 0} → (List Word → A → Type 0) → Source → ℕ → (A → ℕ) → (ℕ → ℕ → Out A) → Type 0
Complete {A} D next n size rd = (u p q : ℕ) (xs : List Word) (a : A) → D xs a → Along next p q xs → u + size a < n → rd u p ≡ good a q

pub many-complete : {A : Type 0} (D : List Word → A → Type 0) (next : Source) (n : ℕ) (size : A → ℕ) (rd : ℕ → ℕ → Out A) → Opens D
    → Complete D next n size rd
    → (r : List A) (fuel u p q : ℕ) (ws : List Word) → Many D ws r → Along next p q ws → u + places size r ≤ n → places size r < fuel
    → many fuel size rd next u p ≡ good r q
unfolding many
many-complete D next n size rd opens whole r zero u p q ws d a b c = absurd (omega arith)
many-complete D next n size rd opens whole [] (suc fuel) u p q ws d a b c =
    let t = subst (Along next p q) d.1 a in
    rw (t.1, t.2)
many-complete D next n size rd opens whole (x ∷ r) (suc fuel) u p q ws d a b c =
    let t = along-split next p q d.0 d.1 (subst (Along next p q) d.2 a) in
    let i = opens next p t.0 d.0 x d.3 t.1 in
    let j = whole u p t.0 d.0 x d.3 t.1 (omega arith) in
    let k = many-complete D next n size rd opens whole r fuel (u + (size x + 1)) t.0 q d.1 d.4 t.2 (omega arith)
    (omega arith) in
    rw (i, j, k)

module _ (D : (s : Sort) → List Word → Part s → Type 0) (next : Source) (n : ℕ) (rd : (s : Sort) → ℕ → ℕ → Out (Part s))
    (opens : (s : Sort) → Opens (D s)) (whole : (s : Sort) → Complete (D s) next n (inner s) (rd s)) where
  pub in_order-complete : {B : Type 0} (ss : List Symbol) (u p q : ℕ) (ws : List Word) (v : Values ss) (k : Values ss → ℕ → ℕ → Out B)
      → InOrder D ss ws v → Along next p q ws → u + size_v ss v ≤ n → in_order next n rd ss u p k ≡ k v (u + size_v ss v) q
  in_order-complete [] u p q ws v k i a b =
      let e : u + 0 ≡ u = omega arith in
      let t : p ≡ q = subst (Along next p q) i a in
      rw (e, t)
  in_order-complete (one m ∷ ss) u p q ws v k i a b =
      let t = subst (Along next p q) i.2 a in
      rw (single-complete m next p t.0 i.0 v.0 t.1 i.3) (in_order-complete ss u t.0 q i.1 v.1 (λ z. k (v.0, z))
      i.4 t.2 b)
  in_order-complete (part s ∷ ss) u p q ws v k i a b =
      let t = along-split next p q i.0 i.1 (subst (Along next p q) i.2 a) in
      let e : u + ((inner s v.0 + 1) + size_v ss v.1) ≡ (u + (inner s v.0 + 1)) + size_v ss v.1 = omega arith in
      rw (whole s u p t.0 i.0 v.0 i.3 t.1 (omega arith), e) (in_order-complete ss (u + (inner s v.0 + 1)) t.0 q
      i.1 v.1 (λ z. k (v.0, z)) i.4 t.2 (omega arith))
  in_order-complete (parts s ∷ ss) u p q ws v k i a b =
      let t = along-split next p q i.0 i.1 (subst (Along next p q) i.2 a) in
      let e : u + (places (inner s) v.0 + size_v ss v.1) ≡ (u + places (inner s) v.0) + size_v ss v.1 = omega arith in
      rw (
        many-complete (D s) next n (inner s) (rd s) (opens s) (whole s) v.0 (suc n) u p t.0 i.0 i.3 t.1 (omega arith)
            (omega arith),
        e,
      )
      (in_order-complete ss (u + places (inner s) v.0) t.0 q i.1 v.1 (λ z. k (v.0, z)) i.4 t.2 (omega arith))

pub derives-opens : (l : ℕ) (s : Sort) → Opens (Derives l s)
unfolding Derives
derives-opens zero s next p q xs a d al = absurd d
derives-opens (suc l) s next p q xs a d al =
    let t = subst (Along next p q) d.all al in
    rw t.1 (open_stays s d.head (d.form, d.has) t.0 (chosen-whole s d.form d.has d.head d.begins))

pub part-complete : (l : ℕ) (next : Source) (n : ℕ) (s : Sort) → Complete (Derives l s) next n (inner s) (read_part l next n s)
unfolding Derives read_part
part-complete zero next n s u p q ws a d al b = absurd d
part-complete (suc l) next n s u p q ws a d al b =
    let t = subst (Along next p q) d.all al in
    let size : inner s a ≡ size_v (rest s d.form) d.values = ap (inner s) d.gives
    ∙ inner-build s (place_of d.head) d.form d.has d.values in
    rw (t.1, chosen-whole s d.form d.has d.head d.begins)
    (in_order-complete (Derives l) next n (read_part l next n) (derives-opens l) (part-complete l next n) (rest s d.form) u t.0 q
    d.behind d.values _ d.goes t.2 (omega arith)
    ∙ (room-found n (u + size_v (rest s d.form) d.values) (place_of d.head) _ q (omega arith) ∙ ap (λ z. good z q) (sym d.gives)))

-- whether a module begins
no-module : (at : ℕ) → chosen an_exp (pr.key at kw.Module) ≡ none
unfolding chosen
no-module at = refl

abbrev pub module_at : Word → Option ℕ
module_at w = first_of (takes («the» kw.Module) w) (λ h. place_of w) none

pub no-module-at : (w : Word) (o : Opening an_exp) → chosen an_exp w ≡ some o → module_at w ≡ none
no-module-at w o e = go (takes («the» kw.Module) w) refl
  where
    go : (t : Option Unit) → takes («the» kw.Module) w ≡ t → first_of t (λ h. place_of w) none ≡ none
    go none i = refl
    go (some h) i = let k = takes-the kw.Module w i in absurd (none-some o (sym (no-module k.0) ∙ (rw k.1 at e)))

pub exp-no-module : (l : ℕ) (next : Source) (p q : ℕ) (ws : List Word) (e : Exp) → Derives l an_exp ws e → Along next p q ws
    → begins_module (next p) ≡ none
unfolding Derives
exp-no-module zero next p q ws e d al = absurd d
exp-no-module (suc l) next p q ws e d al =
    let t = subst (Along next p q) d.all al in
    rw t.1 (no-module-at d.head (d.form, d.has) (chosen-whole an_exp d.form d.has d.head d.begins))

pub module-takes : (w : Word) (f : pr.FormM) (h : Held (first a_module f)) → takes (first a_module f) w ≡ some h → module_at w
    ≡ some (place_of w)
module-takes w pr.m_module h e = rw e

pub module-begins : (l : ℕ) (next : Source) (p q : ℕ) (ws : List Word) (m : Module) → Derives l a_module ws m → Along next p q ws
    → (at : ℕ) × (begins_module (next p) ≡ some at)
unfolding Derives
module-begins zero next p q ws m d al = absurd d
module-begins (suc l) next p q ws m d al =
    let t = subst (Along next p q) d.all al in
    (place_of d.head, rw t.1 (module-takes d.head d.form d.has d.begins))

closed-complete : (next : Source) (n u p q z : ℕ) (ws : List Word) (e : Exp) → Derives levels an_exp ws e → Along next p q ws → next q
    ≡ end z → u + inner_e e < n → closed next n u p ≡ good (record { modules = []; closing = e }) z
closed-complete next n u p q z ws e d al i b = rw (part-complete levels next n an_exp u p q ws e d al b, i)

pub sheet-complete : (ms : List Module) (modules : ℕ) (next : Source) (n u p q z : ℕ) (ws : List Word) (e : Exp)
    → DerivesSheet levels ws ms e → Along next p q ws → next q ≡ end z
    → u + (places inner_m ms + (inner_e e + 1)) ≤ n → is.count ms ≤ modules → sheet_from modules next n u p
    ≡ good (record { modules = ms; closing = e }) z
unfolding sheet_from
sheet-complete [] zero next n u p q z ws e d al i b c = rw (exp-no-module levels next p q ws e d al)
    (closed-complete next n u p q z ws e d al i (omega arith))
sheet-complete [] (suc modules) next n u p q z ws e d al i b c = rw (exp-no-module levels next p q ws e d al)
    (closed-complete next n u p q z ws e d al i (omega arith))
sheet-complete (m ∷ ms) zero next n u p q z ws e d al i b c = absurd (omega arith)
sheet-complete (m ∷ ms) (suc modules) next n u p q z ws e d al i b c =
    let t = along-split next p q d.0 d.1 (subst (Along next p q) d.2 al) in
    let g = module-begins (suc (suc levels)) next p t.0 d.0 m d.3 t.1 in
    let j = part-complete (suc (suc levels)) next n a_module u p t.0 d.0 m d.3 t.1 (omega arith) in
    let k = sheet-complete ms modules next n (u + (inner_m m + 1)) t.0 q z d.1 e d.4 t.2 i (omega arith) (omega arith) in
    rw (g.1, j, k)
