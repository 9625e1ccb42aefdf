-- Scopes as chains of bindings in a table, and the nearest binding of a name: one search for types and for values.
use Rattle.std.specs.Prelude.{ℕ, zero, suc, List, [], ◌∷◌}
use Rattle.std.proofs.Math.Option.{Option, none, some}
use Rattle.words.specs.Names.{Name}
use Rattle.language.specs.Names.{Binding, bind, lookup}

-- A scope is 0 where no name is bound, and else one more than the place of its nearest binding. The outer scope of a binding is its link.
abbrev pub Scope : Type 0
Scope = ℕ

-- no more places of a table than these are ever used
abbrev pub table_limit : ℕ
table_limit = 65535

-- what a place holds that has a binding: the name, what it is bound to, and the outer scope
pub data Linked (A : Type 0) : Type 0 where
  linked : Name → A → Scope → Linked A

-- the binding of a place and then those of its outer scope; a place that holds none ends the chain
abbrev pub follow : {A : Type 0} → Option (Linked A) → (Scope → List (Binding A)) → List (Binding A)
follow none outer = []
follow (some (linked x a o)) outer = bind x a ∷ outer o

-- the bindings of the scope, the nearest first, along at most so many links, wherever they lead; `held i` is what place i holds
abbrev pub chain : {A : Type 0} → (ℕ → Option (Linked A)) → ℕ → Scope → List (Binding A)
chain held zero s = []
chain held (suc n) zero = []
chain held (suc n) (suc i) = follow (held i) (chain held n)

-- The nearest binding of the name. By as many links as there are places the name is found, the chain has ended, or it goes in a circle.
unfoldable pub nearest_in : {A : Type 0} → (ℕ → Option (Linked A)) → Scope → Name → Option A
nearest_in held s x = lookup (chain held table_limit s) x
