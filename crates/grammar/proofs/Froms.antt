-- A type or an expression by its first word.
use Rattle.std.proofs.Common.{◌≡◌, ℕ, ◌-◌, true, false, List, Some, None, Ok, Option, Result, sym, refl, ap, ◌∙◌, subst, arith}
use Rattle.words.specs.declared.keywords.Keyword.{Keyword}
use Rattle.words.specs.declared.keywords.Keyword.TheVariants as kw
use Rattle.words.specs.declared.marks.Mark.{Mark}
use Rattle.words.specs.declared.marks.Mark.TheVariants as mk
use Rattle.grammar.specs.declared.tree.Operator.TheVariants as operator
use Rattle.grammar.specs.declared.tree.TypeNode.TheVariants as ty
use Rattle.grammar.specs.declared.tree.ExpNode.TheVariants as ex
use Rattle.grammar.specs.declared.tree.Node.TheVariants as node
use Rattle.grammar.specs.declared.faults.Fault.{Fault}
use Rattle.grammar.specs.declared.reader.Reader.{Reader}
use Rattle.grammar.specs.declared.next.Next.{Next}
use Rattle.grammar.specs.declared.next.Next.TheVariants.{End, Name, Number, Key, Sign}
use Rattle.grammar.specs.declared.forms.TypeStart.{TypeStart}
use Rattle.grammar.specs.declared.forms.TypeStart.TheVariants as tstart
use Rattle.grammar.specs.declared.forms.ExpStart.{ExpStart}
use Rattle.grammar.specs.declared.forms.ExpStart.TheVariants as estart
use Rattle.grammar.specs.declared.forms.DeclarationStart.{DeclarationStart}
use Rattle.grammar.specs.declared.forms.DeclarationStart.TheVariants as dstart
use Rattle.grammar.specs.declared.forms.DefinitionStart.{DefinitionStart}
use Rattle.grammar.specs.declared.forms.DefinitionStart.TheVariants as fstart
use Rattle.grammar.specs.Productions.{Sort, a_type, an_exp, a_declaration, a_definition, a_module, Part}
use Rattle.grammar.specs.Steps.{step_in, next_place, is_key, Whole}
use Rattle.grammar.specs.Starts.{type_key, type_mark, type_start, open_t, exp_key, exp_mark, exp_start, open_e, declaration_key, declaration_start}
use Rattle.grammar.specs.Starts.{open_d, definition_key, definition_start, open_f, started}
use Rattle.grammar.specs.Reading.{Out, bad, good, Step, fault, steps, part_from}
use Rattle.grammar.specs.Table.{name_in}
use Rattle.grammar.specs.Laying.{State, refused, part_laid, place_m, part_m, from_m, form_m, type_m, exp_m, declaration_m, declared_m, definition_m}
use Rattle.grammar.specs.Laying.{value_is_m, module_m}
use Rattle.grammar.specs.Readers.{moved, Gave}
use Rattle.grammar.proofs.Gives.{started-ok}
use Rattle.grammar.proofs.Singles.{span-back}
use Rattle.grammar.proofs.Openings.{type-opening, exp-opening, declaration-opening, definition-opening, module-opening, part_step}
use Rattle.grammar.proofs.Openings.{part-fault, from-none, from_deep, from-form}
use Rattle.grammar.proofs.FormSteps.{place-last}
use Rattle.grammar.proofs.Productions.{qualified-type-form, arrow-form, qualified-form, zero-form, apply-form, proc-form, let-form}
use Rattle.grammar.proofs.Productions.{if-form, letrec-form, binary-form, opaque-form, transparent-form, declared-form, type-is-form}
use Rattle.grammar.proofs.Productions.{value-is-form, module-form}

-- a part is laid wherever in the text the reader was
laid-moved : (s : Sort) (v : State) (q : ℕ) (o : Out (Part s)) → part_laid s o v ≡ part_laid s o (moved v q)
laid-moved s v q (bad k e) = refl
laid-moved s v q (good a p) = refl

-- a part whose first word is unlawful, or is read
module _ (s : Sort) (l : ℕ) (v : State) where
  from_step : (x y : Step) → x ≡ y → part_laid s (part_from l (steps v.text) v.limit s v.used x) v
      ≡ part_laid s (part_from l (steps v.text) v.limit s v.used y) v
  from_step x y h = ap (λ z. part_laid s (part_from l (steps v.text) v.limit s v.used z) v) h

  part_by : part_m s l v ≡ part_laid s (part_from l (steps v.text) v.limit s v.used (steps v.text v.at)) v
  unfolding part_m
  part_by = ap (λ o. part_laid s o v) (part_step l (steps v.text) v.limit s v.used v.at)

  pub part-refused : (k e : ℕ) → steps v.text v.at ≡ fault k e → part_m s l v ≡ refused k e
  part-refused k e h = part_by ∙ (from_step _ _ h ∙ ap (λ o. part_laid s o v) (part-fault l (steps v.text) v.limit s v.used k e))

  pub part-begun : (n : Next) (q : ℕ) → steps v.text v.at ≡ step_in v.text n q → part_m s l v ≡ from_m s n l (moved v q)
  unfolding from_m
  part-begun n q h = part_by ∙ (from_step _ _ h
      ∙ laid-moved s v q (part_from l (steps v.text) v.limit s v.used (step_in v.text n q)))

-- names that begin a part spell their whole span
module _ (text : List ℕ) where
  abbrev WholeT : Option TypeStart → Type 0
  WholeT None = Unit {0}
  WholeT (Some tstart.Int) = Unit {0}
  WholeT (Some tstart.Bool) = Unit {0}
  WholeT (Some (tstart.Named x)) = Whole text (Name x)
  WholeT (Some tstart.From) = Unit {0}
  WholeT (Some tstart.Arrow) = Unit {0}

  whole-type-key : (k : Keyword) → WholeT (type_key k)
  whole-type-key kw.Module = tt
  whole-type-key kw.Interface = tt
  whole-type-key kw.Body = tt
  whole-type-key kw.Opaque = tt
  whole-type-key kw.Transparent = tt
  whole-type-key kw.«Type» = tt
  whole-type-key kw.Int = tt
  whole-type-key kw.Bool = tt
  whole-type-key kw.From = tt
  whole-type-key kw.Take = tt
  whole-type-key kw.True = tt
  whole-type-key kw.False = tt
  whole-type-key kw.IsZero = tt
  whole-type-key kw.Proc = tt
  whole-type-key kw.Let = tt
  whole-type-key kw.In = tt
  whole-type-key kw.If = tt
  whole-type-key kw.Then = tt
  whole-type-key kw.Else = tt
  whole-type-key kw.Letrec = tt
  whole-type-key kw.Less = tt

  whole-type-mark : (m : Mark) → WholeT (type_mark m)
  whole-type-mark mk.Open = tt
  whole-type-mark mk.Shut = tt
  whole-type-mark mk.Begin = tt
  whole-type-mark mk.End = tt
  whole-type-mark mk.Comma = tt
  whole-type-mark mk.Colon = tt
  whole-type-mark mk.Equal = tt
  whole-type-mark mk.Arrow = tt
  whole-type-mark mk.Plus = tt
  whole-type-mark mk.Minus = tt
  whole-type-mark mk.Times = tt
  whole-type-mark mk.Over = tt

  whole-type : (n : Next) → Whole text n → WholeT (type_start n)
  whole-type (End at) w = tt
  whole-type (Name x) w = w
  whole-type (Number at v) w = tt
  whole-type (Key at k) w = whole-type-key k
  whole-type (Sign at m) w = whole-type-mark m

  abbrev WholeE : Option ExpStart → Type 0
  WholeE None = Unit {0}
  WholeE (Some (estart.Number v)) = Unit {0}
  WholeE (Some (estart.Boolean b)) = Unit {0}
  WholeE (Some (estart.Variable x)) = Whole text (Name x)
  WholeE (Some estart.From) = Unit {0}
  WholeE (Some estart.IsZero) = Unit {0}
  WholeE (Some estart.Apply) = Unit {0}
  WholeE (Some estart.Proc) = Unit {0}
  WholeE (Some estart.Let) = Unit {0}
  WholeE (Some estart.If) = Unit {0}
  WholeE (Some estart.Letrec) = Unit {0}
  WholeE (Some (estart.Binary o)) = Unit {0}

  whole-exp-key : (k : Keyword) → WholeE (exp_key k)
  whole-exp-key kw.Module = tt
  whole-exp-key kw.Interface = tt
  whole-exp-key kw.Body = tt
  whole-exp-key kw.Opaque = tt
  whole-exp-key kw.Transparent = tt
  whole-exp-key kw.«Type» = tt
  whole-exp-key kw.Int = tt
  whole-exp-key kw.Bool = tt
  whole-exp-key kw.From = tt
  whole-exp-key kw.Take = tt
  whole-exp-key kw.True = tt
  whole-exp-key kw.False = tt
  whole-exp-key kw.IsZero = tt
  whole-exp-key kw.Proc = tt
  whole-exp-key kw.Let = tt
  whole-exp-key kw.In = tt
  whole-exp-key kw.If = tt
  whole-exp-key kw.Then = tt
  whole-exp-key kw.Else = tt
  whole-exp-key kw.Letrec = tt
  whole-exp-key kw.Less = tt

  whole-exp-mark : (m : Mark) → WholeE (exp_mark m)
  whole-exp-mark mk.Open = tt
  whole-exp-mark mk.Shut = tt
  whole-exp-mark mk.Begin = tt
  whole-exp-mark mk.End = tt
  whole-exp-mark mk.Comma = tt
  whole-exp-mark mk.Colon = tt
  whole-exp-mark mk.Equal = tt
  whole-exp-mark mk.Arrow = tt
  whole-exp-mark mk.Plus = tt
  whole-exp-mark mk.Minus = tt
  whole-exp-mark mk.Times = tt
  whole-exp-mark mk.Over = tt

  whole-exp : (n : Next) → Whole text n → WholeE (exp_start n)
  whole-exp (End at) w = tt
  whole-exp (Name x) w = w
  whole-exp (Number at v) w = tt
  whole-exp (Key at k) w = whole-exp-key k
  whole-exp (Sign at m) w = whole-exp-mark m

  abbrev WholeD : Option DeclarationStart → Type 0
  WholeD None = Unit {0}
  WholeD (Some dstart.Opaque) = Unit {0}
  WholeD (Some dstart.Transparent) = Unit {0}
  WholeD (Some (dstart.Value x)) = Whole text (Name x)

  whole-declaration-key : (k : Keyword) → WholeD (declaration_key k)
  whole-declaration-key kw.Module = tt
  whole-declaration-key kw.Interface = tt
  whole-declaration-key kw.Body = tt
  whole-declaration-key kw.Opaque = tt
  whole-declaration-key kw.Transparent = tt
  whole-declaration-key kw.«Type» = tt
  whole-declaration-key kw.Int = tt
  whole-declaration-key kw.Bool = tt
  whole-declaration-key kw.From = tt
  whole-declaration-key kw.Take = tt
  whole-declaration-key kw.True = tt
  whole-declaration-key kw.False = tt
  whole-declaration-key kw.IsZero = tt
  whole-declaration-key kw.Proc = tt
  whole-declaration-key kw.Let = tt
  whole-declaration-key kw.In = tt
  whole-declaration-key kw.If = tt
  whole-declaration-key kw.Then = tt
  whole-declaration-key kw.Else = tt
  whole-declaration-key kw.Letrec = tt
  whole-declaration-key kw.Less = tt

  whole-declaration : (n : Next) → Whole text n → WholeD (declaration_start n)
  whole-declaration (End at) w = tt
  whole-declaration (Name x) w = w
  whole-declaration (Number at v) w = tt
  whole-declaration (Key at k) w = whole-declaration-key k
  whole-declaration (Sign at m) w = tt

  abbrev WholeF : Option DefinitionStart → Type 0
  WholeF None = Unit {0}
  WholeF (Some fstart.Named) = Unit {0}
  WholeF (Some (fstart.Value x)) = Whole text (Name x)

  whole-definition-key : (k : Keyword) → WholeF (definition_key k)
  whole-definition-key kw.Module = tt
  whole-definition-key kw.Interface = tt
  whole-definition-key kw.Body = tt
  whole-definition-key kw.Opaque = tt
  whole-definition-key kw.Transparent = tt
  whole-definition-key kw.«Type» = tt
  whole-definition-key kw.Int = tt
  whole-definition-key kw.Bool = tt
  whole-definition-key kw.From = tt
  whole-definition-key kw.Take = tt
  whole-definition-key kw.True = tt
  whole-definition-key kw.False = tt
  whole-definition-key kw.IsZero = tt
  whole-definition-key kw.Proc = tt
  whole-definition-key kw.Let = tt
  whole-definition-key kw.In = tt
  whole-definition-key kw.If = tt
  whole-definition-key kw.Then = tt
  whole-definition-key kw.Else = tt
  whole-definition-key kw.Letrec = tt
  whole-definition-key kw.Less = tt

  whole-definition : (n : Next) → Whole text n → WholeF (definition_start n)
  whole-definition (End at) w = tt
  whole-definition (Name x) w = w
  whole-definition (Number at v) w = tt
  whole-definition (Key at k) w = whole-definition-key k
  whole-definition (Sign at m) w = tt

-- a type by its form
type-form : (v : State) (at l : ℕ) (b : TypeStart) → WholeT v.text (Some b) → form_m a_type (open_t v.text b) at l v ≡ type_m at l b v
type-form v at l tstart.Int w = place-last a_type v v.at v.used v.table _ (node.«Type» (ty.Int at)) at (omega arith) refl
type-form v at l tstart.Bool w = place-last a_type v v.at v.used v.table _ (node.«Type» (ty.Bool at)) at (omega arith) refl
type-form v at l (tstart.Named x) w =
    place-last a_type v v.at v.used v.table _ _ at (omega arith) refl
    ∙ ap (λ z. place_m (node.«Type» (ty.Named z)) at v) (span-back v.text v.at x w)
type-form v at l tstart.From w = qualified-type-form at l v
type-form v at l tstart.Arrow w = arrow-form at l v

-- an expression by its form
exp-form : (v : State) (at l : ℕ) (b : ExpStart) → WholeE v.text (Some b) → form_m an_exp (open_e v.text b) at l v ≡ exp_m at l b v
exp-form v at l (estart.Number z) w = place-last an_exp v v.at v.used v.table _ (node.Expression (ex.Number at z)) at
    (omega arith) refl
exp-form v at l (estart.Boolean true) w = place-last an_exp v v.at v.used v.table _ (node.Expression (ex.Boolean at true)) at
    (omega arith) refl
exp-form v at l (estart.Boolean false) w = place-last an_exp v v.at v.used v.table _ (node.Expression (ex.Boolean at false)) at
    (omega arith) refl
exp-form v at l (estart.Variable x) w =
    place-last an_exp v v.at v.used v.table _ _ at (omega arith) refl
    ∙ ap (λ z. place_m (node.Expression (ex.Variable z)) at v) (span-back v.text v.at x w)
exp-form v at l estart.From w = qualified-form at l v
exp-form v at l estart.IsZero w = zero-form at l v
exp-form v at l estart.Apply w = apply-form at l v
exp-form v at l estart.Proc w = proc-form at l v
exp-form v at l estart.Let w = let-form at l v
exp-form v at l estart.If w = if-form at l v
exp-form v at l estart.Letrec w = letrec-form at l v
exp-form v at l (estart.Binary operator.Plus) w = binary-form at operator.Plus tt l v
exp-form v at l (estart.Binary operator.Minus) w = binary-form at operator.Minus tt l v
exp-form v at l (estart.Binary operator.Times) w = binary-form at operator.Times tt l v
exp-form v at l (estart.Binary operator.Over) w = binary-form at operator.Over tt l v
exp-form v at l (estart.Binary operator.Less) w = binary-form at operator.Less tt l v

-- a part whose first word was read
module _ (v : State) (n : Next) (l : ℕ) where
  pub type-none : None ≡ type_start n → from_m a_type n l v ≡ refused 5 (next_place n)
  unfolding from_m
  type-none e = ap (λ o. part_laid a_type o v) (from-none a_type v.text type_start (open_t v.text) (type-opening v.text)
      (steps v.text) v.limit v.used n v.at l e)

  pub type-deep : (b : TypeStart) → Some b ≡ type_start n → l ≡ 0 → from_m a_type n l v ≡ refused 6 (next_place n)
  unfolding from_m
  type-deep b e z = ap (λ o. part_laid a_type o v) (from_deep a_type v.text type_start (open_t v.text) (type-opening v.text)
      (steps v.text) v.limit v.used n v.at l b e z)

  pub type-some : (b : TypeStart) → Some b ≡ type_start n → (l ≡ 0 → ⊥) → Whole v.text n → from_m a_type n l v
      ≡ type_m (next_place n) (l - 1) b v
  unfolding from_m
  type-some b e z w =
      ap (λ o. part_laid a_type o v) (from-form a_type v.text type_start (open_t v.text) (type-opening v.text) (steps v.text)
      v.limit v.used n v.at l b e z)
      ∙ type-form v (next_place n) (l - 1) b (subst (WholeT v.text) (sym e) (whole-type v.text n w))

  pub exp-none : None ≡ exp_start n → from_m an_exp n l v ≡ refused 5 (next_place n)
  unfolding from_m
  exp-none e = ap (λ o. part_laid an_exp o v) (from-none an_exp v.text exp_start (open_e v.text) (exp-opening v.text)
      (steps v.text) v.limit v.used n v.at l e)

  pub exp-deep : (b : ExpStart) → Some b ≡ exp_start n → l ≡ 0 → from_m an_exp n l v ≡ refused 6 (next_place n)
  unfolding from_m
  exp-deep b e z = ap (λ o. part_laid an_exp o v) (from_deep an_exp v.text exp_start (open_e v.text) (exp-opening v.text)
      (steps v.text) v.limit v.used n v.at l b e z)

  pub exp-some : (b : ExpStart) → Some b ≡ exp_start n → (l ≡ 0 → ⊥) → Whole v.text n → from_m an_exp n l v ≡ exp_m (next_place n) (l - 1) b v
  unfolding from_m
  exp-some b e z w =
      ap (λ o. part_laid an_exp o v) (from-form an_exp v.text exp_start (open_e v.text) (exp-opening v.text) (steps v.text)
      v.limit v.used n v.at l b e z)
      ∙ exp-form v (next_place n) (l - 1) b (subst (WholeE v.text) (sym e) (whole-exp v.text n w))

-- a declaration by its form
declaration-form : (v : State) (at l : ℕ) (b : DeclarationStart) → WholeD v.text (Some b)
    → form_m a_declaration (open_d v.text b) at l v ≡ declaration_m at l b v
declaration-form v at l dstart.Opaque w = opaque-form at l v
declaration-form v at l dstart.Transparent w = transparent-form at l v
declaration-form v at l (dstart.Value x) w = declared-form (name_in v.text x) at l v
    ∙ ap (λ z. declared_m z at l v) (span-back v.text v.at x w)

-- a definition by its form
definition-form : (v : State) (at l : ℕ) (b : DefinitionStart) → WholeF v.text (Some b) → form_m a_definition (open_f v.text b) at l v
    ≡ definition_m at l b v
definition-form v at l fstart.Named w = type-is-form at l v
definition-form v at l (fstart.Value x) w = value-is-form (name_in v.text x) at l v
    ∙ ap (λ z. value_is_m z at l v) (span-back v.text v.at x w)

-- an item whose first word was read; levels do not run out here
module _ (v : State) (n : Next) (l : ℕ) where
  pub declaration-none : None ≡ declaration_start n → from_m a_declaration n l v ≡ refused 5 (next_place n)
  unfolding from_m
  declaration-none e = ap (λ o. part_laid a_declaration o v) (from-none a_declaration v.text declaration_start (open_d v.text)
      (declaration-opening v.text) (steps v.text) v.limit v.used n v.at l e)

  pub declaration-some : (b : DeclarationStart) → Some b ≡ declaration_start n → (l ≡ 0 → ⊥) → Whole v.text n
      → from_m a_declaration n l v ≡ declaration_m (next_place n) (l - 1) b v
  unfolding from_m
  declaration-some b e z w =
      ap (λ o. part_laid a_declaration o v) (from-form a_declaration v.text declaration_start (open_d v.text)
      (declaration-opening v.text) (steps v.text) v.limit v.used n v.at l b e z)
      ∙ declaration-form v (next_place n) (l - 1) b (subst (WholeD v.text) (sym e) (whole-declaration v.text n w))

  pub definition-none : None ≡ definition_start n → from_m a_definition n l v ≡ refused 5 (next_place n)
  unfolding from_m
  definition-none e = ap (λ o. part_laid a_definition o v) (from-none a_definition v.text definition_start (open_f v.text)
      (definition-opening v.text) (steps v.text) v.limit v.used n v.at l e)

  pub definition-some : (b : DefinitionStart) → Some b ≡ definition_start n → (l ≡ 0 → ⊥) → Whole v.text n → from_m a_definition n l v
      ≡ definition_m (next_place n) (l - 1) b v
  unfolding from_m
  definition-some b e z w =
      ap (λ o. part_laid a_definition o v) (from-form a_definition v.text definition_start (open_f v.text)
      (definition-opening v.text) (steps v.text) v.limit v.used n v.at l b e z)
      ∙ definition-form v (next_place n) (l - 1) b (subst (WholeF v.text) (sym e) (whole-definition v.text n w))

-- what is done behind the first word is what an item that begins so does
pub declaration-from : (v : State) (n : Next) (b : DeclarationStart) (at : ℕ) (r : Result ℕ Fault) (t : Reader)
    → Ok b ≡ started (declaration_start n) (next_place n) 49 → Whole v.text n → at ≡ next_place n
    → Gave (declaration_m at 48 b v) r t → Gave (from_m a_declaration n 49 v) r t
declaration-from v n b at r t e w a d =
    let s = started-ok (declaration_start n) (next_place n) 49 b e in
    subst (λ o. Gave o r t) (sym (declaration-some v n 49 b s.0 s.1 w ∙ ap (λ z. declaration_m z 48 b v) (sym a))) d

pub definition-from : (v : State) (n : Next) (b : DefinitionStart) (at : ℕ) (r : Result ℕ Fault) (t : Reader)
    → Ok b ≡ started (definition_start n) (next_place n) 49 → Whole v.text n → at ≡ next_place n
    → Gave (definition_m at 48 b v) r t → Gave (from_m a_definition n 49 v) r t
definition-from v n b at r t e w a d =
    let s = started-ok (definition_start n) (next_place n) 49 b e in
    subst (λ o. Gave o r t) (sym (definition-some v n 49 b s.0 s.1 w ∙ ap (λ z. definition_m z 48 b v) (sym a))) d

pub module-some : (v : State) (n : Next) → true ≡ is_key kw.Module n → from_m a_module n 50 v ≡ module_m (next_place n) v
unfolding from_m
module-some v n e = ap (λ o. part_laid a_module o v) (module-opening v.text n v.at _ e) ∙ module-form (next_place n) v
