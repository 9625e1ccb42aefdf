-- Written types and expressions: the check and the rules go together.
use Rattle.std.proofs.Common.{◌≡◌, ℕ, ◌+◌, ◌≤◌, Bool, true, false, List, [], ◌∷◌, refl}
use mathlib.Core.Option.{Option, none, some}
use Rattle.language.specs.Names.{bind, lookup}
use Rattle.language.specs.Options.{◌then◌, need}
use Rattle.language.specs.Typing.{ExpandedType, int, bool, hidden, ◌⇒◌, arrow_of, expand, type_declared, taken, result_of}
use Rattle.language.specs.TypeOf.{same_type, on_argument, type_of}
use Rattle.language.specs.Modules.{made_value}
use Rattle.grammar.specs.Syntax as placed
use Rattle.grammar.specs.Syntax.{WrittenType, Exp}
use Rattle.grammar.specs.Plain.{plain_o, plain_t, plain_e}
use Rattle.rules.specs.declared.faults.CheckFault.TheVariants.{UnknownValue, UnknownType, Unwanted, NoArrow}
use Rattle.rules.specs.Forms.{after, want, known, give}
use Rattle.rules.specs.Rules.{sides_of, Scope, seen_in, types_of, values_of, with_name, place_of, expanding, typing}
use Rattle.rules.specs.Needs.{formed_t, formed_e, names_e, with_types}
use Rattle.rules.proofs.Runs.{
  tied-none,
  Run,
  run-max,
  run-first,
  run-last,
  run-test,
  run-give,
  run-want,
  run-known,
  run-entering,
  run_enter,
  run-form,
  run-need,
  run-as,
}

arrow-then : (x y : Option ExpandedType) → arrow_of x y ≡ (x then λ a. y then λ b. some (a ⇒ b))
arrow-then none y = refl
arrow-then (some a) none = refl
arrow-then (some a) (some b) = refl

body-then : {A B : Type 0} (o : Option A) (f : A → Bool) (r : Option B) →
    ((o then λ c. need (f c) (some (tt {0}))) then λ _. r) ≡ (o then λ c. need (f c) r)
body-then none f r = refl
body-then (some c) f r = go (f c)
  where
    go : (b : Bool) → (need b (some (tt {0})) then λ _. r) ≡ need b r
    go true = refl
    go false = refl

module _ (tp sp : ℕ) where
  pub expanding-runs : (t : WrittenType) (g : Scope) (ts : List ExpandedType) (u : ℕ) → u ≤ sp →
      Run tp sp (expanding tp sp t g ts) (expand (seen_in g) (plain_t t)) ts u (formed_t (seen_in g) (plain_t t)) 0
  expanding-runs (placed.int_type at) g ts u h = run-give tp sp int ts u h
  expanding-runs (placed.bool_type at) g ts u h = run-give tp sp bool ts u h
  expanding-runs (placed.named_type t) g ts u h =
      run-known tp sp (lookup (types_of g.names) t.bytes) (UnknownType t.place) ts u h
  expanding-runs (placed.qualified_type at m t) g ts u h =
      run-known tp sp (type_declared (lookup g.modules m.bytes) t.bytes) (UnknownType at) ts u h
  expanding-runs (placed.arrow_type at a b) g ts u h =
      rw (arrow-then (expand (seen_in g) (plain_t a)) (expand (seen_in g) (plain_t b)))
      (run-first tp sp _ _ (expanding-runs a g ts u h) (λ x e.
      run-first tp sp _ _ (expanding-runs b g (with_types ts (formed_t (seen_in g) (plain_t a))) u h) (λ y f.
      rw (e, f) (run-entering tp sp at (x ⇒ y) _ u h))))

  apply-runs : (f a : ExpandedType) (pat qat : ℕ) (ts : List ExpandedType) (u : ℕ) → u ≤ sp →
      Run tp sp (after (known (sides_of f) (NoArrow pat) ts)
      (λ ft s. after (want (same_type a ft.0) (Unwanted qat) s) (λ _. give ft.1)))
      (on_argument f a) ts u [] 0
  apply-runs int a pat qat ts u h = record { tied = tied-none (NoArrow pat) refl refl }
  apply-runs bool a pat qat ts u h = record { tied = tied-none (NoArrow pat) refl refl }
  apply-runs (hidden m t) a pat qat ts u h = record { tied = tied-none (NoArrow pat) refl refl }
  apply-runs (c ⇒ b) a pat qat ts u h =
      run-want tp sp (same_type a c) (Unwanted qat) (λ _. give b) (some b) ts u [] 0 (λ _. run-give tp sp b ts u h)

  pub typing-runs : (p : Exp) (g : Scope) (ts : List ExpandedType) → g.used ≤ sp →
      Run tp sp (typing tp sp p g ts) (type_of (seen_in g) (values_of g.names) (plain_e p)) ts g.used
      (formed_e (seen_in g) (values_of g.names) (plain_e p)) (names_e (plain_e p))
  typing-runs (placed.number at v) g ts h = run-give tp sp int ts g.used h
  typing-runs (placed.boolean at b) g ts h = run-give tp sp bool ts g.used h
  typing-runs (placed.variable x) g ts h =
      run-known tp sp (lookup (values_of g.names) x.bytes) (UnknownValue x.place) ts g.used h
  typing-runs (placed.qualified at m x) g ts h = run-known tp sp (taken (seen_in g) m.bytes x.bytes) (UnknownValue at) ts g.used h
  typing-runs (placed.is_zero at p) g ts h = run-test tp sp _ _ (typing-runs p g ts h) (λ a e.
      run-want tp sp (same_type a int) (Unwanted (place_of p)) _ _ _ _ _ _ (λ _. run-give tp sp bool _ g.used h))
  typing-runs (placed.apply at p q) g ts h = run-max tp sp _ _ (typing-runs p g ts h) (λ f e.
      run-test tp sp _ _ (typing-runs q g _ h) (λ a i. apply-runs f a (place_of p) (place_of q) _ g.used h))
  typing-runs (placed.proc at x t p) g ts h = run-first tp sp _ _ (expanding-runs t g ts g.used h) (λ a e.
      rw e (run_enter tp sp at (made_value x.bytes a) g _ _ _ (λ i.
      run-last tp sp _ _ (typing-runs p (with_name (made_value x.bytes a) g) _ i) (λ b j.
      rw j (run-entering tp sp at (a ⇒ b) _ (g.used + 1) i)))))
  typing-runs (placed.let_in at x p q) g ts h = run-max tp sp _ _ (typing-runs p g ts h) (λ a e.
      rw e (run_enter tp sp at (made_value x.bytes a) g _ _ _ (λ i. typing-runs q (with_name (made_value x.bytes a) g) _ i)))
  typing-runs (placed.conditional at p q r) g ts h = run-max tp sp _ _ (typing-runs p g ts h) (λ a e.
      run-max tp sp _ _ (typing-runs q g _ h) (λ b i. run-test tp sp _ _ (typing-runs r g _ h) (λ c j.
      run-want tp sp (same_type a bool) (Unwanted (place_of p)) _ _ _ _ _ _ (λ _.
      run-want tp sp (same_type c b) (Unwanted (place_of r)) _ _ _ _ _ _ (λ _. run-give tp sp b _ g.used h)))))
  typing-runs (placed.letrec at u f x t p q) g ts h = run-first tp sp _ _ (expanding-runs u g ts g.used h) (λ b e.
      run-first tp sp _ _ (expanding-runs t g _ g.used h) (λ a i. rw (e, i)
      (run-form tp sp at (a ⇒ b) _ g.used _ _ h (run_enter tp sp at (made_value f.bytes (a ⇒ b)) g _ _ _ (λ j.
      run-as tp sp (body-then (type_of (seen_in g) (bind x.bytes a ∷ (bind f.bytes (a ⇒ b) ∷ values_of g.names)) (plain_e p))
      (λ c. same_type c b) (type_of (seen_in g) (bind f.bytes (a ⇒ b) ∷ values_of g.names) (plain_e q)))
      (run-max tp sp _ _
      (run_enter tp sp at (made_value x.bytes a) (with_name (made_value f.bytes (a ⇒ b)) g) _ _ _ (λ k.
      run-test tp sp _ _
      (typing-runs p (with_name (made_value x.bytes a) (with_name (made_value f.bytes (a ⇒ b)) g)) _ k)
      (λ c l. run-need tp sp (same_type c b) (Unwanted (place_of p)) _ _ k)))
      (λ _ _. typing-runs q (with_name (made_value f.bytes (a ⇒ b)) g) _ j)))))))
  typing-runs (placed.binary at o p q) g ts h = run-max tp sp _ _ (typing-runs p g ts h) (λ a e.
      run-test tp sp _ _ (typing-runs q g _ h) (λ b i.
      run-want tp sp (same_type a int) (Unwanted (place_of p)) _ _ _ _ _ _ (λ _.
      run-want tp sp (same_type b int) (Unwanted (place_of q)) _ _ _ _ _ _ (λ _. run-give tp sp (result_of (plain_o o)) _ g.used h))))
