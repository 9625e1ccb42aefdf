-- The first word of a part decides its form.
use Rattle.std.proofs.Common.{◌≡◌, ℕ, zero, suc, ◌-◌, true, List, Some, None, Option, refl, ◌∙◌, arith}
use Rattle.words.specs.declared.keywords.Keyword.TheVariants as kw
use Rattle.words.specs.declared.marks.Mark.TheVariants as mk
use Rattle.grammar.specs.declared.next.Next.{Next}
use Rattle.grammar.specs.declared.next.Next.TheVariants.{End, Name, Number, Key, Sign}
use Rattle.grammar.specs.Productions.{Sort, a_type, an_exp, a_declaration, a_definition, a_module, m_module, Part, Opening, chosen}
use Rattle.grammar.specs.Reading.{Out, bad, Source, fault, opening_of, formed, read_part, part_from}
use Rattle.grammar.specs.Steps.{step_in, next_place, is_key}
use Rattle.grammar.specs.Starts.{begun, type_start, open_t, exp_start, open_e, declaration_start, open_d, definition_start, open_f}

module _ {B : Type 0} (text : List ℕ) where
  pub type-opening : (n : Next) (q : ℕ) (k : Opening a_type → ℕ → ℕ → Out B) → opening_of a_type (step_in text n q) k
      ≡ begun (type_start n) (next_place n) (λ b. k (open_t text b) (next_place n) q)
  unfolding chosen
  type-opening (End at) q k = refl
  type-opening (Name x) q k = refl
  type-opening (Number at v) q k = refl
  type-opening (Key at kw.Module) q k = refl
  type-opening (Key at kw.Interface) q k = refl
  type-opening (Key at kw.Body) q k = refl
  type-opening (Key at kw.Opaque) q k = refl
  type-opening (Key at kw.Transparent) q k = refl
  type-opening (Key at kw.«Type») q k = refl
  type-opening (Key at kw.Int) q k = refl
  type-opening (Key at kw.Bool) q k = refl
  type-opening (Key at kw.From) q k = refl
  type-opening (Key at kw.Take) q k = refl
  type-opening (Key at kw.True) q k = refl
  type-opening (Key at kw.False) q k = refl
  type-opening (Key at kw.IsZero) q k = refl
  type-opening (Key at kw.Proc) q k = refl
  type-opening (Key at kw.Let) q k = refl
  type-opening (Key at kw.In) q k = refl
  type-opening (Key at kw.If) q k = refl
  type-opening (Key at kw.Then) q k = refl
  type-opening (Key at kw.Else) q k = refl
  type-opening (Key at kw.Letrec) q k = refl
  type-opening (Key at kw.Less) q k = refl
  type-opening (Sign at mk.Open) q k = refl
  type-opening (Sign at mk.Shut) q k = refl
  type-opening (Sign at mk.Begin) q k = refl
  type-opening (Sign at mk.End) q k = refl
  type-opening (Sign at mk.Comma) q k = refl
  type-opening (Sign at mk.Colon) q k = refl
  type-opening (Sign at mk.Equal) q k = refl
  type-opening (Sign at mk.Arrow) q k = refl
  type-opening (Sign at mk.Plus) q k = refl
  type-opening (Sign at mk.Minus) q k = refl
  type-opening (Sign at mk.Times) q k = refl
  type-opening (Sign at mk.Over) q k = refl

  pub exp-opening : (n : Next) (q : ℕ) (k : Opening an_exp → ℕ → ℕ → Out B) → opening_of an_exp (step_in text n q) k
      ≡ begun (exp_start n) (next_place n) (λ b. k (open_e text b) (next_place n) q)
  unfolding chosen
  exp-opening (End at) q k = refl
  exp-opening (Name x) q k = refl
  exp-opening (Number at v) q k = refl
  exp-opening (Key at kw.Module) q k = refl
  exp-opening (Key at kw.Interface) q k = refl
  exp-opening (Key at kw.Body) q k = refl
  exp-opening (Key at kw.Opaque) q k = refl
  exp-opening (Key at kw.Transparent) q k = refl
  exp-opening (Key at kw.«Type») q k = refl
  exp-opening (Key at kw.Int) q k = refl
  exp-opening (Key at kw.Bool) q k = refl
  exp-opening (Key at kw.From) q k = refl
  exp-opening (Key at kw.Take) q k = refl
  exp-opening (Key at kw.True) q k = refl
  exp-opening (Key at kw.False) q k = refl
  exp-opening (Key at kw.IsZero) q k = refl
  exp-opening (Key at kw.Proc) q k = refl
  exp-opening (Key at kw.Let) q k = refl
  exp-opening (Key at kw.In) q k = refl
  exp-opening (Key at kw.If) q k = refl
  exp-opening (Key at kw.Then) q k = refl
  exp-opening (Key at kw.Else) q k = refl
  exp-opening (Key at kw.Letrec) q k = refl
  exp-opening (Key at kw.Less) q k = refl
  exp-opening (Sign at mk.Open) q k = refl
  exp-opening (Sign at mk.Shut) q k = refl
  exp-opening (Sign at mk.Begin) q k = refl
  exp-opening (Sign at mk.End) q k = refl
  exp-opening (Sign at mk.Comma) q k = refl
  exp-opening (Sign at mk.Colon) q k = refl
  exp-opening (Sign at mk.Equal) q k = refl
  exp-opening (Sign at mk.Arrow) q k = refl
  exp-opening (Sign at mk.Plus) q k = refl
  exp-opening (Sign at mk.Minus) q k = refl
  exp-opening (Sign at mk.Times) q k = refl
  exp-opening (Sign at mk.Over) q k = refl

  pub declaration-opening : (n : Next) (q : ℕ) (k : Opening a_declaration → ℕ → ℕ → Out B) → opening_of a_declaration (step_in text n q) k
      ≡ begun (declaration_start n) (next_place n) (λ b. k (open_d text b) (next_place n) q)
  unfolding chosen
  declaration-opening (End at) q k = refl
  declaration-opening (Name x) q k = refl
  declaration-opening (Number at v) q k = refl
  declaration-opening (Key at kw.Module) q k = refl
  declaration-opening (Key at kw.Interface) q k = refl
  declaration-opening (Key at kw.Body) q k = refl
  declaration-opening (Key at kw.Opaque) q k = refl
  declaration-opening (Key at kw.Transparent) q k = refl
  declaration-opening (Key at kw.«Type») q k = refl
  declaration-opening (Key at kw.Int) q k = refl
  declaration-opening (Key at kw.Bool) q k = refl
  declaration-opening (Key at kw.From) q k = refl
  declaration-opening (Key at kw.Take) q k = refl
  declaration-opening (Key at kw.True) q k = refl
  declaration-opening (Key at kw.False) q k = refl
  declaration-opening (Key at kw.IsZero) q k = refl
  declaration-opening (Key at kw.Proc) q k = refl
  declaration-opening (Key at kw.Let) q k = refl
  declaration-opening (Key at kw.In) q k = refl
  declaration-opening (Key at kw.If) q k = refl
  declaration-opening (Key at kw.Then) q k = refl
  declaration-opening (Key at kw.Else) q k = refl
  declaration-opening (Key at kw.Letrec) q k = refl
  declaration-opening (Key at kw.Less) q k = refl
  declaration-opening (Sign at mk.Open) q k = refl
  declaration-opening (Sign at mk.Shut) q k = refl
  declaration-opening (Sign at mk.Begin) q k = refl
  declaration-opening (Sign at mk.End) q k = refl
  declaration-opening (Sign at mk.Comma) q k = refl
  declaration-opening (Sign at mk.Colon) q k = refl
  declaration-opening (Sign at mk.Equal) q k = refl
  declaration-opening (Sign at mk.Arrow) q k = refl
  declaration-opening (Sign at mk.Plus) q k = refl
  declaration-opening (Sign at mk.Minus) q k = refl
  declaration-opening (Sign at mk.Times) q k = refl
  declaration-opening (Sign at mk.Over) q k = refl

  pub definition-opening : (n : Next) (q : ℕ) (k : Opening a_definition → ℕ → ℕ → Out B) → opening_of a_definition (step_in text n q) k
      ≡ begun (definition_start n) (next_place n) (λ b. k (open_f text b) (next_place n) q)
  unfolding chosen
  definition-opening (End at) q k = refl
  definition-opening (Name x) q k = refl
  definition-opening (Number at v) q k = refl
  definition-opening (Key at kw.Module) q k = refl
  definition-opening (Key at kw.Interface) q k = refl
  definition-opening (Key at kw.Body) q k = refl
  definition-opening (Key at kw.Opaque) q k = refl
  definition-opening (Key at kw.Transparent) q k = refl
  definition-opening (Key at kw.«Type») q k = refl
  definition-opening (Key at kw.Int) q k = refl
  definition-opening (Key at kw.Bool) q k = refl
  definition-opening (Key at kw.From) q k = refl
  definition-opening (Key at kw.Take) q k = refl
  definition-opening (Key at kw.True) q k = refl
  definition-opening (Key at kw.False) q k = refl
  definition-opening (Key at kw.IsZero) q k = refl
  definition-opening (Key at kw.Proc) q k = refl
  definition-opening (Key at kw.Let) q k = refl
  definition-opening (Key at kw.In) q k = refl
  definition-opening (Key at kw.If) q k = refl
  definition-opening (Key at kw.Then) q k = refl
  definition-opening (Key at kw.Else) q k = refl
  definition-opening (Key at kw.Letrec) q k = refl
  definition-opening (Key at kw.Less) q k = refl
  definition-opening (Sign at mk.Open) q k = refl
  definition-opening (Sign at mk.Shut) q k = refl
  definition-opening (Sign at mk.Begin) q k = refl
  definition-opening (Sign at mk.End) q k = refl
  definition-opening (Sign at mk.Comma) q k = refl
  definition-opening (Sign at mk.Colon) q k = refl
  definition-opening (Sign at mk.Equal) q k = refl
  definition-opening (Sign at mk.Arrow) q k = refl
  definition-opening (Sign at mk.Plus) q k = refl
  definition-opening (Sign at mk.Minus) q k = refl
  definition-opening (Sign at mk.Times) q k = refl
  definition-opening (Sign at mk.Over) q k = refl

  pub module-opening : (n : Next) (q : ℕ) (k : Opening a_module → ℕ → ℕ → Out B) → true ≡ is_key kw.Module n
      → opening_of a_module (step_in text n q) k ≡ k (m_module, tt) (next_place n) q
  unfolding chosen
  module-opening (End at) q k e = let z : ◌≡◌ {A = ℕ} 0 1 = cc in absurd (omega arith)
  module-opening (Name x) q k e = let z : ◌≡◌ {A = ℕ} 0 1 = cc in absurd (omega arith)
  module-opening (Number at v) q k e = let z : ◌≡◌ {A = ℕ} 0 1 = cc in absurd (omega arith)
  module-opening (Key at kw.Module) q k e = refl
  module-opening (Key at kw.Interface) q k e = let z : ◌≡◌ {A = ℕ} 0 1 = cc in absurd (omega arith)
  module-opening (Key at kw.Body) q k e = let z : ◌≡◌ {A = ℕ} 0 1 = cc in absurd (omega arith)
  module-opening (Key at kw.Opaque) q k e = let z : ◌≡◌ {A = ℕ} 0 1 = cc in absurd (omega arith)
  module-opening (Key at kw.Transparent) q k e = let z : ◌≡◌ {A = ℕ} 0 1 = cc in absurd (omega arith)
  module-opening (Key at kw.«Type») q k e = let z : ◌≡◌ {A = ℕ} 0 1 = cc in absurd (omega arith)
  module-opening (Key at kw.Int) q k e = let z : ◌≡◌ {A = ℕ} 0 1 = cc in absurd (omega arith)
  module-opening (Key at kw.Bool) q k e = let z : ◌≡◌ {A = ℕ} 0 1 = cc in absurd (omega arith)
  module-opening (Key at kw.From) q k e = let z : ◌≡◌ {A = ℕ} 0 1 = cc in absurd (omega arith)
  module-opening (Key at kw.Take) q k e = let z : ◌≡◌ {A = ℕ} 0 1 = cc in absurd (omega arith)
  module-opening (Key at kw.True) q k e = let z : ◌≡◌ {A = ℕ} 0 1 = cc in absurd (omega arith)
  module-opening (Key at kw.False) q k e = let z : ◌≡◌ {A = ℕ} 0 1 = cc in absurd (omega arith)
  module-opening (Key at kw.IsZero) q k e = let z : ◌≡◌ {A = ℕ} 0 1 = cc in absurd (omega arith)
  module-opening (Key at kw.Proc) q k e = let z : ◌≡◌ {A = ℕ} 0 1 = cc in absurd (omega arith)
  module-opening (Key at kw.Let) q k e = let z : ◌≡◌ {A = ℕ} 0 1 = cc in absurd (omega arith)
  module-opening (Key at kw.In) q k e = let z : ◌≡◌ {A = ℕ} 0 1 = cc in absurd (omega arith)
  module-opening (Key at kw.If) q k e = let z : ◌≡◌ {A = ℕ} 0 1 = cc in absurd (omega arith)
  module-opening (Key at kw.Then) q k e = let z : ◌≡◌ {A = ℕ} 0 1 = cc in absurd (omega arith)
  module-opening (Key at kw.Else) q k e = let z : ◌≡◌ {A = ℕ} 0 1 = cc in absurd (omega arith)
  module-opening (Key at kw.Letrec) q k e = let z : ◌≡◌ {A = ℕ} 0 1 = cc in absurd (omega arith)
  module-opening (Key at kw.Less) q k e = let z : ◌≡◌ {A = ℕ} 0 1 = cc in absurd (omega arith)
  module-opening (Sign at m) q k e = let z : ◌≡◌ {A = ℕ} 0 1 = cc in absurd (omega arith)

-- a part's reading, by its first step
pub part_step : (l : ℕ) (next : Source) (n : ℕ) (s : Sort) (u p : ℕ) → read_part l next n s u p ≡ part_from l next n s u (next p)
unfolding read_part
part_step zero next n s u p = refl
part_step (suc l) next n s u p = refl

pub part-fault : (l : ℕ) (next : Source) (n : ℕ) (s : Sort) (u k e : ℕ) → part_from l next n s u (fault k e) ≡ bad k e
part-fault zero next n s u k e = refl
part-fault (suc l) next n s u k e = refl

-- by its form and the levels left
module _ {S : Type 0} (s : Sort) (text : List ℕ) (start : Next → Option S) (opn : S → Opening s)
    (opening : (n : Next) (q : ℕ) (k : Opening s → ℕ → ℕ → Out (Part s)) → opening_of s (step_in text n q) k
    ≡ begun (start n) (next_place n) (λ b. k (opn b) (next_place n) q))
    (next : Source) (m u : ℕ) (n : Next) (q : ℕ) where
  pub from-none : (l : ℕ) → None ≡ start n → part_from l next m s u (step_in text n q) ≡ bad 5 (next_place n)
  from-none zero e = opening n q _ ∙ rw (← e)
  from-none (suc l) e = opening n q _ ∙ rw (← e)

  pub from_deep : (l : ℕ) (b : S) → Some b ≡ start n → l ≡ 0 → part_from l next m s u (step_in text n q) ≡ bad 6 (next_place n)
  from_deep zero b e z = opening n q _ ∙ rw (← e)
  from_deep (suc l) b e z = absurd (omega arith)

  pub from-form : (l : ℕ) (b : S) → Some b ≡ start n → (l ≡ 0 → ⊥)
      → part_from l next m s u (step_in text n q) ≡ formed next m (read_part (l - 1) next m) s u (opn b) (next_place n) q
  from-form zero b e z = absurd (z refl)
  from-form (suc l) b e z =
      let i : suc l - 1 ≡ l = omega arith in
      opening n q _ ∙ rw (← e, i)
