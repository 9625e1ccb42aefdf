-- The search along links, one link at a time.
use Rattle.std.proofs.Common.{◌≡◌, ℕ, zero, suc, ◌<◌, ◌≤◌, Bool, cond, List, [], ◌∷◌, length, get_or, Some, None, Option, sym, refl, ap, ◌∙◌, arith}
use mathlib.Core.Option.{Option as Maybe, none, some}
use lib.ListN.{get_elem?}
use Rattle.language.specs.declared.bindings.Binding.{Binding}
use Rattle.words.specs.Names.{Name, same_name}
use Rattle.language.specs.Names.{lookup}
use Rattle.language.specs.Scopes.{Scope, Linked, follow, chain}
use Rattle.language.specs.Bindings.{spelled_in, linked_in, binding_at, bindings_in, option_of}

-- what a search that follows so many links answers
abbrev pub answer : {T V : Type 0} → (ℕ → T → Option (Binding V)) → List ℕ → List T → ℕ → Scope → Name → Option V
answer held text ts n s x = option_of (lookup (chain (bindings_in held text ts) n s) x)

past : {T : Type 0} → (ts : List T) (i : ℕ) → length ts ≤ i → get_elem? ts i ≡ none
past [] i h = refl
past (t ∷ ts) zero h = absurd (omega arith)
past (t ∷ ts) (suc i) h = past ts i (omega arith)

within : {T : Type 0} → (ts : List T) (i : ℕ) (t : T) → i < length ts → t ≡ get_or ts i t → get_elem? ts i ≡ some t
within [] i t h e = absurd (omega arith)
within (x ∷ ts) zero t h e = rw e refl
within (x ∷ ts) (suc i) t h e = within ts i t (omega arith) e

module _ {T V : Type 0} (held : ℕ → T → Option (Binding V)) (text : List ℕ) (ts : List T) where
  -- no link is left to follow, the scope is empty, the link leads past the table
  pub at_count : (n s : ℕ) (x : Name) → n ≡ 0 → answer held text ts n s x ≡ None
  at_count n s x z = ap (λ (k : ℕ). answer held text ts k s x) z

  empty : (n : ℕ) (x : Name) → answer held text ts n 0 x ≡ None
  empty zero x = refl
  empty (suc n) x = refl

  pub at-empty : (n s : ℕ) (x : Name) → s ≡ 0 → answer held text ts n s x ≡ None
  at-empty n s x z = ap (λ (k : ℕ). answer held text ts n k x) z ∙ empty n x

  without : (n i : ℕ) (x : Name) → bindings_in held text ts i ≡ none → answer held text ts n (suc i) x ≡ None
  without zero i x e = refl
  without (suc n) i x e = ap (λ (o : Maybe (Linked V)). option_of (lookup (follow o (chain (bindings_in held text ts) n)) x)) e

  pub at-past : (n s : ℕ) (x : Name) → length ts < s → answer held text ts n s x ≡ None
  at-past n zero x h = absurd (omega arith)
  at-past n (suc i) x h = without n i x (ap (binding_at held text i) (past ts i (omega arith)))

  -- the link s leads to place i, which has t
  module _ (s i : ℕ) (l : s ≡ suc i) (t : T) (h : i < length ts) (q : t ≡ get_or ts i t) where
    there : (b : Option (Binding V)) → b ≡ held s t → bindings_in held text ts i ≡ linked_in text b
    there b e = ap (binding_at held text i) (within ts i t h q) ∙ ap (linked_in text) (ap (λ (k : ℕ). held k t) (sym l) ∙ sym e)

    pub at_none : (n : ℕ) (x : Name) → None ≡ held s t → answer held text ts n s x ≡ None
    at_none n x e = ap (λ (k : ℕ). answer held text ts n k x) l ∙ without n i x (there None e)

    pub at-binding : (n m : ℕ) (x : Name) (b : Binding V) (c : Bool) → n ≡ suc m → Some b ≡ held s t →
        c ≡ same_name (spelled_in text b.name) x → answer held text ts n s x ≡
        option_of (cond c (some b.value) (lookup (chain (bindings_in held text ts) m b.outer) x))
    at-binding n m x b c k e d =
        ap (λ (j : ℕ). answer held text ts n j x) l ∙
        (ap (λ (j : ℕ). answer held text ts j (suc i) x) k ∙
        (ap (λ (o : Maybe (Linked V)). option_of (lookup (follow o (chain (bindings_in held text ts) m)) x)) (there (Some b) e) ∙
        ap (λ (z : Bool). option_of (cond z (some b.value) (lookup (chain (bindings_in held text ts) m b.outer) x))) (sym d)))
