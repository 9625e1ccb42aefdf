-- One word, as the functions for a word that is expected and for a name read it.
use Rattle.std.proofs.Common.{◌≡◌, ℕ, true, false, List, refl, ap, ◌∙◌, arith}
use Rattle.words.specs.declared.keywords.Keyword.{Keyword}
use Rattle.words.specs.declared.marks.Mark.{Mark}
use Rattle.language.specs.declared.spans.Span.{Span}
use Rattle.grammar.specs.declared.next.Next.{Next}
use Rattle.grammar.specs.declared.next.Next.TheVariants.{End, Name, Number, Key, Sign}
use Rattle.grammar.specs.Steps.{step_in, next_place, is_mark, is_key, is_word, Whole}
use Rattle.grammar.specs.Productions.{Single, «the», sign, a_name, a_number, Held}
use Rattle.grammar.specs.Reading.{Out, bad, good, fault, steps, single, single_of}
use Rattle.grammar.specs.Table.{name_in, span_of}
use Rattle.grammar.specs.Laying.{State, Outcome, done, lifted, word_m}
use Rattle.grammar.specs.Readers.{moved}

module _ (text : List ℕ) (p : ℕ) where
  -- an unlawful word
  pub single-fault : (m : Single) (k e : ℕ) → steps text p ≡ fault k e → single m (steps text) p ≡ bad k e
  unfolding single
  single-fault m k e h = ap (single_of m) h

  mark-step : (m : Mark) (n : Next) (q : ℕ) → false ≡ is_mark m n → single_of (sign m) (step_in text n q) ≡ bad 5 (next_place n)
  mark-step m (End at) q e = refl
  mark-step m (Name x) q e = refl
  mark-step m (Number at v) q e = refl
  mark-step m (Key at k) q e = refl
  mark-step m (Sign at j) q e = rw (← e)

  mark-taken : (m : Mark) (n : Next) (q : ℕ) → true ≡ is_mark m n → single_of (sign m) (step_in text n q) ≡ good tt q
  mark-taken m (End at) q e = let z : ◌≡◌ {A = ℕ} 0 1 = cc in absurd (omega arith)
  mark-taken m (Name x) q e = let z : ◌≡◌ {A = ℕ} 0 1 = cc in absurd (omega arith)
  mark-taken m (Number at v) q e = let z : ◌≡◌ {A = ℕ} 0 1 = cc in absurd (omega arith)
  mark-taken m (Key at k) q e = let z : ◌≡◌ {A = ℕ} 0 1 = cc in absurd (omega arith)
  mark-taken m (Sign at j) q e = rw (← e)

  key_step : (k : Keyword) (n : Next) (q : ℕ) → false ≡ is_key k n → single_of («the» k) (step_in text n q) ≡ bad 5 (next_place n)
  key_step k (End at) q e = refl
  key_step k (Name x) q e = refl
  key_step k (Number at v) q e = refl
  key_step k (Key at j) q e = rw (← e)
  key_step k (Sign at m) q e = refl

  key-taken : (k : Keyword) (n : Next) (q : ℕ) → true ≡ is_key k n → single_of («the» k) (step_in text n q) ≡ good tt q
  key-taken k (End at) q e = let z : ◌≡◌ {A = ℕ} 0 1 = cc in absurd (omega arith)
  key-taken k (Name x) q e = let z : ◌≡◌ {A = ℕ} 0 1 = cc in absurd (omega arith)
  key-taken k (Number at v) q e = let z : ◌≡◌ {A = ℕ} 0 1 = cc in absurd (omega arith)
  key-taken k (Key at j) q e = rw (← e)
  key-taken k (Sign at m) q e = let z : ◌≡◌ {A = ℕ} 0 1 = cc in absurd (omega arith)

  word-step : (m : Single) (n : Next) (q : ℕ) → false ≡ is_word m n → single_of m (step_in text n q) ≡ bad 5 (next_place n)
  word-step («the» k) n q e = key_step k n q e
  word-step (sign m) n q e = mark-step m n q e
  word-step a_name (End at) q e = refl
  word-step a_name (Name x) q e = let z : ◌≡◌ {A = ℕ} 0 1 = cc in absurd (omega arith)
  word-step a_name (Number at v) q e = refl
  word-step a_name (Key at k) q e = refl
  word-step a_name (Sign at m) q e = refl
  word-step a_number (End at) q e = refl
  word-step a_number (Name x) q e = refl
  word-step a_number (Number at v) q e = let z : ◌≡◌ {A = ℕ} 0 1 = cc in absurd (omega arith)
  word-step a_number (Key at k) q e = refl
  word-step a_number (Sign at m) q e = refl

  pub word-bad : (m : Single) (n : Next) (q : ℕ) → steps text p ≡ step_in text n q → false ≡ is_word m n → single m (steps text) p
      ≡ bad 5 (next_place n)
  unfolding single
  word-bad m n q h e = ap (single_of m) h ∙ word-step m n q e

  name-step : (n : Next) (q : ℕ) → ((x : Span) → n ≡ Name x → ⊥) → single_of a_name (step_in text n q) ≡ bad 5 (next_place n)
  name-step (End at) q e = refl
  name-step (Name x) q e = absurd (e x refl)
  name-step (Number at v) q e = refl
  name-step (Key at k) q e = refl
  name-step (Sign at m) q e = refl

  pub name-bad : (n : Next) (q : ℕ) → steps text p ≡ step_in text n q → ((x : Span) → n ≡ Name x → ⊥) → single a_name (steps text) p
      ≡ bad 5 (next_place n)
  unfolding single
  name-bad n q h e = ap (single_of a_name) h ∙ name-step n q e

  pub name-good : (n : Next) (x : Span) (q : ℕ) → steps text p ≡ step_in text n q → n ≡ Name x → single a_name (steps text) p
      ≡ good (name_in text x) q
  unfolding single
  name-good n x q h e = ap (single_of a_name) (h ∙ ap (λ z. step_in text z q) e)

  -- a span as long as what it spells is that of its name
  pub span-back : (x : Span) → Whole text (Name x) → span_of (name_in text x) ≡ x
  span-back x h = λ i. record { place = x.place; len = h i }

-- a word that was read, whatever it holds
module _ (v : State) where
  abbrev past : (m : Single) → Out (Held m) → Outcome Unit
  past m o = lifted o (λ _. tt) (λ _. v.used) (λ _ ns. ns) v

  word-taken : (m : Single) (n : Next) (q : ℕ) → true ≡ is_word m n → past m (single_of m (step_in v.text n q)) ≡ done tt (moved v q)
  word-taken («the» k) n q e = ap (past («the» k)) (key-taken v.text v.at k n q e)
  word-taken (sign m) n q e = ap (past (sign m)) (mark-taken v.text v.at m n q e)
  word-taken a_name (End at) q e = let z : ◌≡◌ {A = ℕ} 0 1 = cc in absurd (omega arith)
  word-taken a_name (Name x) q e = refl
  word-taken a_name (Number at z) q e = let z : ◌≡◌ {A = ℕ} 0 1 = cc in absurd (omega arith)
  word-taken a_name (Key at k) q e = let z : ◌≡◌ {A = ℕ} 0 1 = cc in absurd (omega arith)
  word-taken a_name (Sign at m) q e = let z : ◌≡◌ {A = ℕ} 0 1 = cc in absurd (omega arith)
  word-taken a_number (End at) q e = let z : ◌≡◌ {A = ℕ} 0 1 = cc in absurd (omega arith)
  word-taken a_number (Name x) q e = let z : ◌≡◌ {A = ℕ} 0 1 = cc in absurd (omega arith)
  word-taken a_number (Number at z) q e = refl
  word-taken a_number (Key at k) q e = let z : ◌≡◌ {A = ℕ} 0 1 = cc in absurd (omega arith)
  word-taken a_number (Sign at m) q e = let z : ◌≡◌ {A = ℕ} 0 1 = cc in absurd (omega arith)

  pub word-good : (m : Single) (n : Next) (q : ℕ) → steps v.text v.at ≡ step_in v.text n q → true ≡ is_word m n → word_m m v
      ≡ done tt (moved v q)
  unfolding single word_m
  word-good m n q h e = ap (λ z. past m (single_of m z)) h ∙ word-taken m n q e
