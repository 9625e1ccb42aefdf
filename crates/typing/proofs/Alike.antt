-- Two checks that go alike: one on the tables, one by the rules.
use Rattle.std.proofs.Common.{◌≡◌, ℕ, ◌≤◌, Bool, true, false, List, take, Some, None, Option, sym, refl, ap, ◌∙◌, subst}
use Rattle.std.specs.List.{slice_get}
use Rattle.std.proofs.lemmas.List.{take-take}
use Rattle.std.proofs.lemmas.Bool.{false≢true, true≢false}
use Rattle.language.specs.Typing.{ExpandedType}
use Rattle.rules.specs.declared.faults.CheckFault.{CheckFault}
use Rattle.rules.specs.Forms.{Out, bad, good, after, want, known}
use Rattle.typing.specs.declared.types.TypeEntry.{TypeEntry}
use Rattle.typing.specs.Tables.{State}
use Rattle.typing.specs.Stands.{Stands}

-- what is told by its place stays so
abbrev pub More : List ExpandedType → List ExpandedType → Type 0
More ts us = (i : ℕ) (a : ExpandedType) → slice_get ts i ≡ Some a → slice_get us i ≡ Some a

-- what an answer on the tables says and what an answer by the rules says, in the states then
abbrev pub Tie : Type 0 → Type 0 → Type 1
Tie A B = State → List ExpandedType → A → B → Type 0

-- a type is told by its place
abbrev pub Tells : Tie ℕ ExpandedType
Tells s ts k a = slice_get ts k ≡ Some a

-- nothing is said
abbrev pub Nothing : Tie Unit Unit
Nothing s ts x y = Unit {0}

-- both there or both not
pub data Both {A B : Type 0} (R : A → B → Type 0) : Option A → Option B → Type 0 where
  neither : Both R None None
  each : {a : A} {b : B} → R a b → Both R (Some a) (Some b)

module _ (text : List ℕ) (tp sp : ℕ) (base : List TypeEntry) where
  -- the state after a check that leaves the first u places of the scope table alone
  pub record Next (u : ℕ) (s : State) (ts : List ExpandedType) (s' : State) (ts' : List ExpandedType) : Type 0 where
    pub stands : Stands text tp sp base s' ts'
    pub more : More ts ts'
    pub front : take u s'.slots ≡ take u s.slots

  pub data Alike {A B : Type 0} (R : Tie A B) (u : ℕ) (s : State) (ts : List ExpandedType) :
      Out State A → Out (List ExpandedType) B → Type 0 where
    alike-bad : {f : CheckFault} → Alike R u s ts (bad f) (bad f)
    alike-good : {a : A} {b : B} {s' : State} {ts' : List ExpandedType} → Next u s ts s' ts' → R s' ts' a b →
        Alike R u s ts (good a s') (good b ts')

  pub next-refl : (u : ℕ) (s : State) (ts : List ExpandedType) → Stands text tp sp base s ts → Next u s ts s ts
  next-refl u s ts h = record { stands = h; more = λ i a e. e; front = refl }

  pub next-trans : (u : ℕ) {s s' s'' : State} {ts ts' ts'' : List ExpandedType} → Next u s ts s' ts' → Next u s' ts' s'' ts'' →
      Next u s ts s'' ts''
  next-trans u n m = record { stands = m.stands; more = λ i a e. m.more i a (n.more i a e); front = m.front ∙ n.front }

  pub next-less : (u v : ℕ) {s s' : State} {ts ts' : List ExpandedType} → v ≤ u → Next u s ts s' ts' → Next v s ts s' ts'
  next-less u v {s} {s'} h n = record {
    stands = n.stands;
    more = n.more;
    front = sym (take-take v u s'.slots h) ∙ (ap (take v) n.front ∙ take-take v u s.slots h);
  }

  module _ {A B : Type 0} {R : Tie A B} where
    pub alike-less : (u v : ℕ) {s : State} {ts : List ExpandedType} {o : Out State A} {p : Out (List ExpandedType) B} →
        v ≤ u → Alike R u s ts o p → Alike R v s ts o p
    alike-less u v h alike-bad = alike-bad
    alike-less u v h (alike-good n r) = alike-good (next-less u v h n) r

    pub alike_from : (u : ℕ) {s s' : State} {ts ts' : List ExpandedType} {o : Out State A} {p : Out (List ExpandedType) B} →
        Next u s ts s' ts' → Alike R u s' ts' o p → Alike R u s ts o p
    alike_from u n alike-bad = alike-bad
    alike_from u n (alike-good m r) = alike-good (next-trans u n m) r

    -- what was found
    pub known_alike : {u : ℕ} {s : State} {ts : List ExpandedType} {o : Option A} {p : Option B} (f f' : CheckFault) → f ≡ f' →
        Stands text tp sp base s ts → Both (R s ts) o p → Alike R u s ts (known o f s) (known p f' ts)
    known_alike {u} {s} {ts} f f' e h neither = subst (λ (x : CheckFault). Alike R u s ts (bad f) (bad x)) e alike-bad
    known_alike {u} {s} {ts} f f' e h (each r) = alike-good (next-refl u s ts h) r

  -- one check, then the next
  pub then-alike : {A B C D : Type 0} {R : Tie A B} {Q : Tie C D} {u : ℕ} {s : State} {ts : List ExpandedType} {o : Out State A}
      {p : Out (List ExpandedType) B} (k : A → State → Out State C) (l : B → List ExpandedType → Out (List ExpandedType) D) →
      Alike R u s ts o p →
      ((a : A) (b : B) (s' : State) (ts' : List ExpandedType) → Next u s ts s' ts' → R s' ts' a b → Alike Q u s' ts' (k a s') (l b ts')) →
      Alike Q u s ts (after o k) (after p l)
  then-alike k l alike-bad go = alike-bad
  then-alike {u = u} k l (alike-good n r) go = alike_from u n (go _ _ _ _ n r)

  -- a want, then the next
  pub want-alike : {C D : Type 0} {Q : Tie C D} {u : ℕ} {s : State} {ts : List ExpandedType} (b c : Bool) (f f' : CheckFault)
      (k : State → Out State C) (l : List ExpandedType → Out (List ExpandedType) D) → b ≡ c → f ≡ f' →
      (b ≡ true → Alike Q u s ts (k s) (l ts)) → Alike Q u s ts (after (want b f s) (λ _. k)) (after (want c f' ts) (λ _. l))
  want-alike true true f f' k l e q go = go refl
  want-alike true false f f' k l e q go = absurd (true≢false e)
  want-alike false true f f' k l e q go = absurd (false≢true e)
  want-alike {Q = Q} {u} {s} {ts} false false f f' k l e q go = subst (λ (x : CheckFault). Alike Q u s ts (bad f) (bad x)) q alike-bad

  -- a want within the first of two checks on the tables
  pub want-within : {A C D : Type 0} {Q : Tie C D} {u : ℕ} {s : State} {ts : List ExpandedType} (b c : Bool) (f f' : CheckFault)
      (k : State → Out State A) (j : A → State → Out State C) (l : List ExpandedType → Out (List ExpandedType) D) → b ≡ c → f ≡ f' →
      (b ≡ true → Alike Q u s ts (after (k s) j) (l ts)) →
      Alike Q u s ts (after (after (want b f s) (λ _. k)) j) (after (want c f' ts) (λ _. l))
  want-within true true f f' k j l e q go = go refl
  want-within true false f f' k j l e q go = absurd (true≢false e)
  want-within false true f f' k j l e q go = absurd (false≢true e)
  want-within {Q = Q} {u} {s} {ts} false false f f' k j l e q go = subst (λ (x : CheckFault). Alike Q u s ts (bad f) (bad x)) q alike-bad

  -- a last want
  pub want-last : {u : ℕ} {s : State} {ts : List ExpandedType} (b c : Bool) (f f' : CheckFault) → b ≡ c → f ≡ f' →
      Stands text tp sp base s ts → Alike Nothing u s ts (want b f s) (want c f' ts)
  want-last {u} {s} {ts} true true f f' e q h = alike-good (next-refl u s ts h) tt
  want-last true false f f' e q h = absurd (true≢false e)
  want-last false true f f' e q h = absurd (false≢true e)
  want-last {u} {s} {ts} false false f f' e q h = subst (λ (x : CheckFault). Alike Nothing u s ts (bad f) (bad x)) q alike-bad
