-- No two forms of one sort begin alike: the first word decides the form.
use Rattle.std.proofs.Common.{◌≡◌, ℕ, Bool, true, false, cond, List, [], ◌∷◌, get_or, sym, refl, ap, ◌∙◌, arith}
use mathlib.Core.Option.{none, some}
use Rattle.std.proofs.lemmas.Bool.{eqb-true}
use Rattle.words.specs.declared.keywords.Keyword.{Keyword}
use Rattle.words.specs.declared.keywords.Keyword.TheVariants as kw
use Rattle.words.specs.declared.marks.Mark.{Mark}
use Rattle.words.specs.declared.marks.Mark.TheVariants as mk
use Rattle.words.specs.Spelling.{keywords}
use Rattle.grammar.specs.Syntax.{Name}
use Rattle.grammar.specs.declared.tree.Operator.TheVariants as operator
use Rattle.grammar.specs.Productions.{Word, name, number, key, mark, Held, takes, Sort, a_type, an_exp, a_declaration, a_definition, a_module}
use Rattle.grammar.specs.Productions.{Form, first, Opening, chosen, «the», sign, a_name, a_number, key_code, mark_code}
use Rattle.grammar.specs.Productions as pr
use Rattle.grammar.specs.Reading.{word, closes}
use Rattle.grammar.proofs.Sound.{some_inj}

-- a keyword is told by its number
key_back : (k : Keyword) → get_or keywords (key_code k) kw.Module ≡ k
key_back kw.Module = refl
key_back kw.Interface = refl
key_back kw.Body = refl
key_back kw.Opaque = refl
key_back kw.Transparent = refl
key_back kw.«Type» = refl
key_back kw.Int = refl
key_back kw.Bool = refl
key_back kw.From = refl
key_back kw.Take = refl
key_back kw.True = refl
key_back kw.False = refl
key_back kw.IsZero = refl
key_back kw.Proc = refl
key_back kw.Let = refl
key_back kw.In = refl
key_back kw.If = refl
key_back kw.Then = refl
key_back kw.Else = refl
key_back kw.Letrec = refl
key_back kw.Less = refl

abbrev all_marks : List Mark
all_marks = mk.Open ∷ mk.Shut ∷ mk.Begin ∷ mk.End ∷ mk.Comma ∷ mk.Colon ∷ mk.Equal ∷ mk.Arrow ∷ mk.Plus ∷ mk.Minus ∷ mk.Times ∷ mk.Over ∷ []

mark-back : (k : Mark) → get_or all_marks (mark_code k) mk.Open ≡ k
mark-back mk.Open = refl
mark-back mk.Shut = refl
mark-back mk.Begin = refl
mark-back mk.End = refl
mark-back mk.Comma = refl
mark-back mk.Colon = refl
mark-back mk.Equal = refl
mark-back mk.Arrow = refl
mark-back mk.Plus = refl
mark-back mk.Minus = refl
mark-back mk.Times = refl
mark-back mk.Over = refl

pub key-same : (j k : Keyword) → key_code j ≡ key_code k → j ≡ k
key-same j k e = sym (key_back j) ∙ (ap (λ c. get_or keywords c kw.Module) e ∙ key_back k)

pub mark-same : (j k : Mark) → mark_code j ≡ mark_code k → j ≡ k
mark-same j k e = sym (mark-back j) ∙ (ap (λ c. get_or all_marks c mk.Open) e ∙ mark-back k)

pub none-some : {A : Type 0} (a : A) → none ≡ some a → ⊥
none-some a e = let z : ◌≡◌ {A = ℕ} 0 1 = cc in omega arith

given : {A : Type 0} (b : Bool) (a h : A) → cond b (some a) none ≡ some h → b ≡ true
given true a h e = refl
given false a h e = absurd (none-some h e)

-- which words a symbol takes
pub takes-the : (k : Keyword) (w : Word) → takes («the» k) w ≡ some tt → (at : ℕ) × (w ≡ key at k)
takes-the k (name x) e = absurd (none-some _ e)
takes-the k (number at v) e = absurd (none-some _ e)
takes-the k (mark at m) e = absurd (none-some _ e)
takes-the k (key at j) e = (at, ap (key at) (key-same j k (eqb-true (key_code j) (key_code k) (given _ tt tt e))))

pub takes-sign : (m : Mark) (w : Word) → takes (sign m) w ≡ some tt → (at : ℕ) × (w ≡ mark at m)
takes-sign k (name x) e = absurd (none-some _ e)
takes-sign k (number at v) e = absurd (none-some _ e)
takes-sign k (key at m) e = absurd (none-some _ e)
takes-sign k (mark at j) e = (at, ap (mark at) (mark-same j k (eqb-true (mark_code j) (mark_code k) (given _ tt tt e))))

pub takes-name : (w : Word) (h : Name) → takes a_name w ≡ some h → w ≡ name h
takes-name (name x) h e = ap name (some_inj x h e)
takes-name (number at v) h e = absurd (none-some _ e)
takes-name (key at m) h e = absurd (none-some _ e)
takes-name (mark at j) h e = absurd (none-some _ e)

pub takes-number : (w : Word) (h : lib.IntN.ℤ) → takes a_number w ≡ some h → (at : ℕ) × (w ≡ number at h)
takes-number (name x) h e = absurd (none-some _ e)
takes-number (number at v) h e = (at, ap (number at) (some_inj v h e))
takes-number (key at m) h e = absurd (none-some _ e)
takes-number (mark at j) h e = absurd (none-some _ e)

by_key : (s : Sort) (o : Opening s) (k : Keyword) (w : Word) → takes («the» k) w ≡ some tt → ((at : ℕ) → chosen s (key at k) ≡ some o)
    → chosen s w ≡ some o
by_key s o k w e g = let t = takes-the k w e in rw t.1 (g t.0)

by-mark : (s : Sort) (o : Opening s) (k : Mark) (w : Word) → takes (sign k) w ≡ some tt → ((at : ℕ) → chosen s (mark at k) ≡ some o)
    → chosen s w ≡ some o
by-mark s o k w e g = let t = takes-sign k w e in rw t.1 (g t.0)

pub chosen-whole : (s : Sort) (f : Form s) (h : Held (first s f)) (w : Word) → takes (first s f) w ≡ some h → chosen s w ≡ some (f, h)
unfolding chosen
chosen-whole a_type pr.t_int h w e = by_key a_type (pr.t_int, tt) kw.Int w e (λ at. refl)
chosen-whole a_type pr.t_bool h w e = by_key a_type (pr.t_bool, tt) kw.Bool w e (λ at. refl)
chosen-whole a_type pr.t_name h w e = rw (takes-name w h e)
chosen-whole a_type pr.t_from h w e = by_key a_type (pr.t_from, tt) kw.From w e (λ at. refl)
chosen-whole a_type pr.t_arrow h w e = by-mark a_type (pr.t_arrow, tt) mk.Open w e (λ at. refl)
chosen-whole an_exp pr.e_number h w e = let t = takes-number w h e in rw t.1
chosen-whole an_exp pr.e_true h w e = by_key an_exp (pr.e_true, tt) kw.True w e (λ at. refl)
chosen-whole an_exp pr.e_false h w e = by_key an_exp (pr.e_false, tt) kw.False w e (λ at. refl)
chosen-whole an_exp pr.e_name h w e = rw (takes-name w h e)
chosen-whole an_exp pr.e_from h w e = by_key an_exp (pr.e_from, tt) kw.From w e (λ at. refl)
chosen-whole an_exp pr.e_zero h w e = by_key an_exp (pr.e_zero, tt) kw.IsZero w e (λ at. refl)
chosen-whole an_exp pr.e_apply h w e = by-mark an_exp (pr.e_apply, tt) mk.Open w e (λ at. refl)
chosen-whole an_exp pr.e_proc h w e = by_key an_exp (pr.e_proc, tt) kw.Proc w e (λ at. refl)
chosen-whole an_exp pr.e_let h w e = by_key an_exp (pr.e_let, tt) kw.Let w e (λ at. refl)
chosen-whole an_exp pr.e_if h w e = by_key an_exp (pr.e_if, tt) kw.If w e (λ at. refl)
chosen-whole an_exp pr.e_letrec h w e = by_key an_exp (pr.e_letrec, tt) kw.Letrec w e (λ at. refl)
chosen-whole an_exp (pr.e_op operator.Plus) h w e = by-mark an_exp (pr.e_op operator.Plus, tt) mk.Plus w e (λ at. refl)
chosen-whole an_exp (pr.e_op operator.Minus) h w e = by-mark an_exp (pr.e_op operator.Minus, tt) mk.Minus w e (λ at. refl)
chosen-whole an_exp (pr.e_op operator.Times) h w e = by-mark an_exp (pr.e_op operator.Times, tt) mk.Times w e (λ at. refl)
chosen-whole an_exp (pr.e_op operator.Over) h w e = by-mark an_exp (pr.e_op operator.Over, tt) mk.Over w e (λ at. refl)
chosen-whole an_exp (pr.e_op operator.Less) h w e = by_key an_exp (pr.e_op operator.Less, tt) kw.Less w e (λ at. refl)
chosen-whole a_declaration pr.d_opaque h w e = by_key a_declaration (pr.d_opaque, tt) kw.Opaque w e (λ at. refl)
chosen-whole a_declaration pr.d_transparent h w e = by_key a_declaration (pr.d_transparent, tt) kw.Transparent w e (λ at. refl)
chosen-whole a_declaration pr.d_value h w e = rw (takes-name w h e)
chosen-whole a_definition pr.f_type h w e = by_key a_definition (pr.f_type, tt) kw.«Type» w e (λ at. refl)
chosen-whole a_definition pr.f_value h w e = rw (takes-name w h e)
chosen-whole a_module pr.m_module h w e = by_key a_module (pr.m_module, tt) kw.Module w e (λ at. refl)

-- a `]` begins no part
pub no-close : (s : Sort) (at : ℕ) → chosen s (mark at mk.End) ≡ none
unfolding chosen
no-close a_type at = refl
no-close an_exp at = refl
no-close a_declaration at = refl
no-close a_definition at = refl
no-close a_module at = refl

-- a word that begins a part closes no list
pub open_stays : (s : Sort) (w : Word) (o : Opening s) (q : ℕ) → chosen s w ≡ some o → closes (word w q) ≡ none
open_stays s (name x) o q e = refl
open_stays s (number at v) o q e = refl
open_stays s (key at k) o q e = refl
open_stays s (mark at mk.End) o q e = absurd (none-some o (sym (no-close s at) ∙ e))
open_stays s (mark at mk.Open) o q e = refl
open_stays s (mark at mk.Shut) o q e = refl
open_stays s (mark at mk.Begin) o q e = refl
open_stays s (mark at mk.Comma) o q e = refl
open_stays s (mark at mk.Colon) o q e = refl
open_stays s (mark at mk.Equal) o q e = refl
open_stays s (mark at mk.Arrow) o q e = refl
open_stays s (mark at mk.Plus) o q e = refl
open_stays s (mark at mk.Minus) o q e = refl
open_stays s (mark at mk.Times) o q e = refl
open_stays s (mark at mk.Over) o q e = refl
