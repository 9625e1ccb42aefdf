-- Items in order, one place on.
use Rattle.std.proofs.Common.{◌≡◌, ℕ, ◌+◌, ◌<◌, ◌≤◌, List, length, get_or, drop, Ok, Err, ◌∙◌, add-one, arith, drop-cons}
use Rattle.std.proofs.lemmas.List.{drop_all}
use Rattle.grammar.specs.declared.tree.Node.{Node}
use Rattle.grammar.specs.declared.tree.Item.{Item}
use Rattle.rules.specs.declared.faults.CheckFault.{CheckFault}
use Rattle.typing.specs.declared.tables.Tables.{Tables}
use Rattle.rules.specs.Forms.{Out, bad, good}
use Rattle.typing.specs.Tables.{State, state_of, Kept, Gave}
use Rattle.checker.specs.Items.{on_item, all_items}

-- what a promise says at its answer
pub gave-good : {A : Type 0} (o : Out State A) (a : A) (t : Tables) → Gave o (Ok a) t → o ≡ good a (state_of t)
gave-good (bad f) a t h = let z : ◌≡◌ {A = ℕ} 0 1 = cc in absurd (omega arith)
gave-good (good b s) a t h = let p = h.result in let q = h.state in cc

pub gave-bad : {A : Type 0} (o : Out State A) (f : CheckFault) (t : Tables) → Gave o (Err f) t → o ≡ bad f
gave-bad (bad g) f t h = cc
gave-bad (good b s) f t h = let p = h.result in let z : ◌≡◌ {A = ℕ} 0 1 = cc in absurd (omega arith)

module _ {A : Type 0} (f : Item → A → State → Out State A) (ns : List Node) (i : ℕ) (d : Node) (a : A) (s : State) where
  pub items-on : (b : A) (t : Tables) → i < length ns → Gave (on_item f (get_or ns i d) a s) (Ok b) t → all_items f (drop i ns) a s ≡ all_items f (drop (i + 1) ns) b (state_of t)
  unfolding all_items
  items-on b t h g = rw (drop-cons ns i d h, gave-good (on_item f (get_or ns i d) a s) b t g, add-one i)

  pub items-bad : (e : CheckFault) (t : Tables) → i < length ns → Gave (on_item f (get_or ns i d) a s) (Err e) t → all_items f (drop i ns) a s ≡ bad e
  unfolding all_items
  items-bad e t h g = rw (drop-cons ns i d h, gave-bad (on_item f (get_or ns i d) a s) e t g)

pub items-end : {A : Type 0} (f : Item → A → State → Out State A) (ns : List Node) (i : ℕ) (a : A) (s : State) → length ns ≤ i → all_items f (drop i ns) a s ≡ good a s
unfolding all_items
items-end f ns i a s h = rw (drop_all i ns h)

pub kept_trans : (s t u : Tables) → Kept s t → Kept t u → Kept s u
kept_trans s t u a b = record {
  given = b.given ∙ a.given;
  types_same = b.types_same ∙ a.types_same;
  slots_same = b.slots_same ∙ a.slots_same;
  types_long = b.types_long ∙ a.types_long;
  slots_long = b.slots_long ∙ a.slots_long;
}
