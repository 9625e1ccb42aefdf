-- What stands in the type table before anything of a sheet.
use Rattle.std.proofs.Common.{◌≡◌, ℕ, Bool, true, false, cond, ltb, leb, List, [], ◌∷◌, ◌++◌, length, Some, Ok, Err, Result, sym, refl, ap, ◌∙◌, subst, arith}
use Rattle.std.specs.List.{slice_get}
use Rattle.std.proofs.lemmas.Bool.{true≢false}
use Rattle.language.specs.Typing.{ExpandedType, int, bool}
use Rattle.pantry.specs.declared.entries.Entry.{Entry}
use Rattle.rules.specs.declared.faults.CheckFault.{CheckFault}
use Rattle.rules.specs.declared.faults.CheckFault.TheVariants.{TooDeep, TypesFull}
use Rattle.rules.specs.Forms.{Out, bad, good, after, want, ◌>>◌}
use Rattle.rules.specs.Rules.{depth, depth_limit, member, entering}
use Rattle.rules.specs.Checking.{enter_all, kind_types}
use Rattle.typing.specs.declared.types.TypeEntry.{TypeEntry}
use Rattle.typing.specs.declared.types.TypeEntry.TheVariants as entry
use Rattle.typing.specs.declared.types.Known.{Known}
use Rattle.typing.specs.declared.tables.Tables.{Tables}
use Rattle.typing.specs.Tables.{State, state_of, Gave}
use Rattle.typing.specs.Stands.{Stands, row_int, row_bool}
use Rattle.typing.proofs.Alike.{Tie, Alike, alike-bad, alike-good, next-refl}
use Rattle.typing.proofs.Rows.{adding-alike}
use Rattle.checker.specs.Stocks.{stock_in}
use Rattle.checker.specs.Kinds.{Begun, AfterKinds, first_n, first_types, AfterKinds}
use Rattle.checker.proofs.InOrder.{gave-good, gave-bad}
use Rattle.checker.proofs.Declares.{then-with}

-- the two first types
abbrev First : Tie Unit Unit
First s ts x y = (slice_get ts 0 ≡ Some int) × (slice_get ts 1 ≡ Some bool)

-- one check, then two more
assoc : {S A B C : Type 0} (o : Out S A) (k : A → S → Out S B) (l : B → S → Out S C) → after (after o k) l ≡ after o (λ a s. after (k a s) l)
assoc (bad f) k l = refl
assoc (good a s) k l = refl

module _ (tp : ℕ) where
  -- what is new is entered at the end
  entering-new : (at : ℕ) (t : ExpandedType) (ts : List ExpandedType) (a : ExpandedType) (us : List ExpandedType) → entering tp at t ts ≡ good a us → member t ts ≡ false → us ≡ ts ++ t ∷ []
  unfolding entering
  entering-new at t ts a us e m = go (member t ts) (leb (depth t) depth_limit) (ltb (length ts) tp) m e
    where
      go : (b c d : Bool) → b ≡ false → cond b (good t ts) ((want c (TooDeep at) >> (want d (TypesFull at) >> (λ _. good t (ts ++ t ∷ [])))) ts) ≡ good a us → us ≡ ts ++ t ∷ []
      go true c d m e = absurd (true≢false m)
      go false false d m e = let z : ◌≡◌ {A = ℕ} 0 1 = cc in absurd (omega arith)
      go false true false m e = let z : ◌≡◌ {A = ℕ} 0 1 = cc in absurd (omega arith)
      go false true true m e = cc

  -- nothing more
  abbrev done : List ExpandedType → Out (List ExpandedType) (Unit {0})
  done ts = good tt ts

  -- by the rules: the two first types
  abbrev first : Out (List ExpandedType) Unit
  first = after (entering tp 0 int []) (λ _ ts. after (entering tp 0 bool ts) (λ _. done))

  split : (E : List ExpandedType → Out (List ExpandedType) Unit) (o : Out (List ExpandedType) ExpandedType) →
      after o (λ _ ts. after (entering tp 0 bool ts) (λ _. E)) ≡ after (after o (λ _ ts. after (entering tp 0 bool ts) (λ _. done))) (λ _. E)
  split E (bad f) = refl
  split E (good a ts) = sym (assoc (entering tp 0 bool ts) (λ _. done) (λ _. E))

module _ (text : List ℕ) (base : List TypeEntry) (tp sp : ℕ) where
  first_goes : (s : State) → Stands text tp sp base s [] → Alike text tp sp base First 0 s [] (first_n s) (first tp)
  first_goes s st =
      then-with text base tp sp _ _ (adding-alike text tp sp base 0 0 s [] entry.Int int st row_int refl refl) (λ k a s₁ ts₁ q₁ n₁ r₁.
      let e₁ : ts₁ ≡ int ∷ [] = entering-new tp 0 int [] a ts₁ q₁ refl in
      let m₁ : member bool ts₁ ≡ false = subst (λ (v : List ExpandedType). member bool v ≡ false) (sym e₁) refl in
      then-with text base tp sp _ _ (adding-alike text tp sp base 0 0 s₁ ts₁ entry.Bool bool n₁.stands row_bool m₁ refl) (λ k b s₂ ts₂ q₂ n₂ r₂.
      let e₂ : ts₂ ≡ int ∷ bool ∷ [] = entering-new tp 0 bool ts₁ b ts₂ q₂ m₁ ∙ ap (λ (v : List ExpandedType). v ++ bool ∷ []) e₁ in
      alike-good (next-refl text tp sp base 0 s₂ ts₂ n₂.stands)
      (subst (λ (v : List ExpandedType). slice_get v 0 ≡ Some int) (sym e₂) refl, subst (λ (v : List ExpandedType). slice_get v 1 ≡ Some bool) (sym e₂) refl)))

  module _ (entries : List Entry) (s : State) (st : Stands text tp sp base s []) where
    abbrev later : List ExpandedType → Out (List ExpandedType) Unit
    later = enter_all tp sp (kind_types (stock_in entries))

    all-is : enter_all tp sp (first_types entries) [] ≡ after (first tp) (λ _. later)
    all-is = split tp later (entering tp 0 int [])

    bad-first : {o : Out State Unit} {p : Out (List ExpandedType) Unit} (f : CheckFault) → Alike text tp sp base First 0 s [] o p → o ≡ bad f → p ≡ bad f
    bad-first f (alike-bad {f = e}) q = let z : e ≡ f = cc in ap bad z
    bad-first f (alike-good n r) q = let z : ◌≡◌ {A = ℕ} 0 1 = cc in absurd (omega arith)

    pub start_first : (f : CheckFault) (t : Tables) (r : Result Unit CheckFault) (known : List Known) (u : State) → Gave (first_n s) (Err f) t → r ≡ Err f →
        AfterKinds text base tp sp entries (enter_all tp sp (first_types entries) []) r known u
    start_first f t r known u h e =
        rw (all-is ∙ ap (λ (o : Out (List ExpandedType) Unit). after o (λ _. later)) (bad-first f (first_goes s st) (gave-bad (first_n s) f t h))) e

    -- after the two first types
    pub record Two (t : State) : Type 0 where
      pub told : List ExpandedType
      pub begun : Begun text base tp sp t told
      pub is : enter_all tp sp (first_types entries) [] ≡ later told

    good-first : {o : Out State Unit} {p : Out (List ExpandedType) Unit} (t : State) → Alike text tp sp base First 0 s [] o p → o ≡ good tt t → first tp ≡ p → Two t
    good-first t alike-bad q e = let z : ◌≡◌ {A = ℕ} 0 1 = cc in absurd (omega arith)
    good-first t (alike-good {s' = t'} {ts' = us} n r) q e =
        let x : t' ≡ t = cc in
        record {
          told = us;
          begun = record { stands = subst (λ (v : State). Stands text tp sp base v us) x n.stands; int_is = r.0; bool_is = r.1 };
          is = all-is ∙ ap (λ (o : Out (List ExpandedType) Unit). after o (λ _. later)) e;
        }

    pub two : (t : Tables) → Gave (first_n s) (Ok tt) t → Two (state_of t)
    two t h = good-first (state_of t) (first_goes s st) (gave-good (first_n s) tt t h) refl
