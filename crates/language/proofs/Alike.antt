-- A table told in other words: a search finds in it what it finds in the table. For the crates whose tables hold bindings.
use Rattle.std.proofs.Common.{◌≡◌, ℕ, zero, suc, Bool, true, false, cond, refl, ap, ◌∙◌}
use mathlib.Core.Option.{Option, none, some, map}
use Rattle.words.specs.Names.{Name, same_name}
use Rattle.language.specs.Names.{lookup}
use Rattle.language.specs.Scopes.{Scope, table_limit, Linked, linked, follow, chain, nearest_in}

abbrev pub map_linked : {A B : Type 0} → (A → B) → Option (Linked A) → Option (Linked B)
map_linked f none = none
map_linked f (some (linked x a o)) = some (linked x (f a) o)

module _ {A B : Type 0} (f : A → B) (h : ℕ → Option (Linked A)) (k : ℕ → Option (Linked B))
    (alike : (i : ℕ) → k i ≡ map_linked f (h i)) (x : Name) where
  step : (n : ℕ) (l : Option (Linked A)) → ((s : Scope) → lookup (chain k n s) x ≡ map f (lookup (chain h n s) x)) →
      lookup (follow (map_linked f l) (chain k n)) x ≡ map f (lookup (follow l (chain h n)) x)
  step n none more = refl
  step n (some (linked y a o)) more = go (same_name y x)
    where
      go : (c : Bool) → cond c (some (f a)) (lookup (chain k n o) x) ≡ map f (cond c (some a) (lookup (chain h n o) x))
      go true = refl
      go false = more o

  along : (n : ℕ) (s : Scope) → lookup (chain k n s) x ≡ map f (lookup (chain h n s) x)
  along zero s = refl
  along (suc n) zero = refl
  along (suc n) (suc i) = ap (λ (l : Option (Linked B)). lookup (follow l (chain k n)) x) (alike i) ∙ step n (h i) (along n)

  pub nearest-map : (s : Scope) → nearest_in k s x ≡ map f (nearest_in h s x)
  unfolding nearest_in
  nearest-map s = along table_limit s
