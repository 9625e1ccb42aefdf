-- The declarations of the checked modules stay in the scope table.
use Rattle.std.proofs.Common.{◌≡◌, ℕ, ◌≤◌, Bool, true, false, ltb, List, [], ◌∷◌, take, sym, refl, ap, ◌∙◌, arith}
use Rattle.language.specs.Typing.{ExpandedType, Interfaces}
use Rattle.language.specs.Modules.{Made, made_type, made_value}
use Rattle.grammar.specs.Syntax as placed
use Rattle.grammar.specs.Syntax.{Declaration}
use Rattle.rules.specs.declared.faults.CheckFault.TheVariants.{ScopeFull}
use Rattle.rules.specs.Forms.{Out, bad, good, after, want, give, ◌>>◌, Keeping}
use Rattle.rules.specs.ItemForms.{ItemKeeping, fresh_f}
use Rattle.rules.specs.Rules.{Scope, with_name, taking, rules, item_rules, expanding}
use Rattle.rules.specs.Checking.{declare, declare_all}
use Rattle.typing.specs.declared.types.TypeEntry.{TypeEntry}
use Rattle.typing.specs.declared.types.Slot.{Slot}
use Rattle.typing.specs.Tables.{State}
use Rattle.typing.specs.Stands.{Holding, no_name, type_name, value_name}
use Rattle.typing.proofs.Alike.{More, Tie, Next, Alike, alike-bad, alike-good, alike_from}
use Rattle.typing.proofs.Scopes.{holding-kept}
use Rattle.checker.specs.Modules.{Declared, none_declared, more_declared}

-- one check, then the next, where the answer of the first by the rules is told
module _ (text : List ℕ) (base : List TypeEntry) (tp sp : ℕ) where
  pub then-with : {A B C D : Type 0} {R : Tie A B} {Q : Tie C D} {u : ℕ} {s : State} {ts : List ExpandedType} {o : Out State A}
      {p : Out (List ExpandedType) B} (k : A → State → Out State C) (l : B → List ExpandedType → Out (List ExpandedType) D) → Alike text tp sp base R u s ts o p →
      ((a : A) (b : B) (s' : State) (ts' : List ExpandedType) → p ≡ good b ts' → Next text tp sp base u s ts s' ts' → R s' ts' a b → Alike text tp sp base Q u s' ts' (k a s') (l b ts')) →
      Alike text tp sp base Q u s ts (after o k) (after p l)
  then-with k l alike-bad go = alike-bad
  then-with {u = u} k l (alike-good n r) go = alike_from text tp sp base u n (go _ _ _ _ refl n r)

-- what came before an answer
after-good : {S A B : Type 0} (o : Out S A) (k : A → S → Out S B) (b : B) (t : S) → after o k ≡ good b t →
    (a : A) × (s : S) × (o ≡ good a s) × (k a s ≡ good b t)
after-good (bad f) k b t e = let z : ◌≡◌ {A = ℕ} 0 1 = cc in absurd (omega arith)
after-good (good a s) k b t e = (a, s, refl, e)

-- declarations leave the earlier interfaces as they are
module _ (tp sp : ℕ) where
  abbrev K : Keeping
  K = rules tp sp

  abbrev I : ItemKeeping K
  I = item_rules tp sp

  taken-stays : (at : ℕ) (x : Made) (g face : Scope) (ts us : List ExpandedType) → taking sp at x g ts ≡ good face us → face.modules ≡ g.modules
  unfolding taking
  taken-stays at x g face ts us e = go (ltb g.used sp) e
    where
      go : (c : Bool) → (want c (ScopeFull at) >> give (with_name x g)) ts ≡ good face us → face.modules ≡ g.modules
      go true e = let z : with_name x g ≡ face = cc in ap (λ (v : Scope). v.modules) (sym z)
      go false e = let z : ◌≡◌ {A = ℕ} 0 1 = cc in absurd (omega arith)

  -- a test, then a type, then a name that takes the next place
  item-stays : (at : ℕ) (made : ExpandedType → Made) (fresh : Out (List ExpandedType) Unit) (of : List ExpandedType → Out (List ExpandedType) ExpandedType)
      (g face : Scope) (us : List ExpandedType) → after fresh (λ _ s. after (of s) (λ a. taking sp at (made a) g)) ≡ good face us → face.modules ≡ g.modules
  item-stays at made fresh of g face us e =
      let p = after-good fresh (λ _ s. after (of s) (λ a. taking sp at (made a) g)) face us e in
      let q = after-good (of p.1) (λ a. taking sp at (made a) g) face us p.3 in
      taken-stays at (made q.0) g face q.1 us q.3

  declare-stays : (m : placed.Name) (d : Declaration) (g face : Scope) (ts us : List ExpandedType) → declare tp sp m d g ts ≡ good face us → face.modules ≡ g.modules
  declare-stays m (placed.opaque_type at t) g face ts us e =
      item-stays at (made_type t.bytes) (fresh_f K I t g ts) (I.hide at m t) g face us e
  declare-stays m (placed.transparent_type at t u) g face ts us e =
      item-stays at (made_type t.bytes) (fresh_f K I t g ts) (expanding tp sp u g) g face us e
  declare-stays m (placed.value_of_type x u) g face ts us e =
      item-stays x.place (made_value x.bytes) (fresh_f K I x g ts) (expanding tp sp u g) g face us e

  pub modules-stay : (m : placed.Name) (ds : List Declaration) (g face : Scope) (ts us : List ExpandedType) → declare_all tp sp m ds g ts ≡ good face us →
      face.modules ≡ g.modules
  modules-stay m [] g face ts us e = let z : g ≡ face = cc in ap (λ (v : Scope). v.modules) (sym z)
  modules-stay m (d ∷ ds) g face ts us e =
      let p = after-good (declare tp sp m d g ts) (declare_all tp sp m ds) face us e in
      modules-stay m ds p.0 face p.1 us p.3 ∙ declare-stays m d g p.0 ts p.1 p.2

module _ {text : List ℕ} {ts : List ExpandedType} {slots : List Slot} where
  holding-low : {first u t v : ℕ} {ms : List Made} → Holding text ts slots first u t v ms → first ≤ u
  holding-low no_name = omega arith
  holding-low (type_name p q r o h) = omega (arith, holding-low h)
  holding-low (value_name p q r o h) = omega (arith, holding-low h)

  -- declarations stay while their places and the types stay
  pub declared-kept : {u : ℕ} {js : Interfaces} (n : ℕ) (us : List ExpandedType) (rs : List Slot) → u ≤ n → take n rs ≡ take n slots → More ts us →
      Declared text ts slots u js → Declared text us rs u js
  declared-kept n us rs l e m none_declared = none_declared
  declared-kept n us rs l e m (more_declared x d h) =
      more_declared x (declared-kept n us rs (omega (arith, holding-low h)) e m d) (holding-kept n us rs l e m h)
