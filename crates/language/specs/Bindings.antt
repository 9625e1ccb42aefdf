-- The bindings that a table of declared records holds, where a name is a part of a text. By this the code's search is `nearest_in`.
use Rattle.std.specs.Prelude.{ℕ, suc, List, take, drop, Some, None, Option}
use Rattle.std.proofs.Math.Option.{Option as Maybe, none, some}
use Rattle.std.proofs.Math.ListN.{get_elem?}
use Rattle.language.specs.declared.spans.Span.{Span}
use Rattle.language.specs.declared.bindings.Binding.{Binding}
use Rattle.words.specs.Names.{Name}
use Rattle.language.specs.Scopes.{Linked, linked}

-- the part of the text at a place, cut short where the text ends
unfoldable pub part_of : List ℕ → ℕ → ℕ → List ℕ
part_of text place len = take len (drop place text)

-- the name that the span spells
abbrev pub spelled_in : List ℕ → Span → Name
spelled_in text span = part_of text span.place span.len

-- a binding with its name spelled out
abbrev pub linked_in : {V : Type 0} → List ℕ → Option (Binding V) → Maybe (Linked V)
linked_in text None = none
linked_in text (Some b) = some (linked (spelled_in text b.name) b.value b.outer)

-- the binding at place i, if there is a record and it holds one; `held link x` is the binding of the record x that `link` leads to
abbrev pub binding_at : {T V : Type 0} → (ℕ → T → Option (Binding V)) → List ℕ → ℕ → Maybe T → Maybe (Linked V)
binding_at held text i none = none
binding_at held text i (some x) = linked_in text (held (suc i) x)

-- the binding at place i of the table; past the end there is none
abbrev pub bindings_in : {T V : Type 0} → (ℕ → T → Option (Binding V)) → List ℕ → List T → ℕ → Maybe (Linked V)
bindings_in held text table i = binding_at held text i (get_elem? table i)

-- what was found, as code has it
abbrev pub option_of : {A : Type 0} → Maybe A → Option A
option_of none = None
option_of (some a) = Some a
