-- The pantry's entries, one after the other.
use Rattle.std.proofs.Common.{◌≡◌, ℕ, ◌+◌, ◌<◌, Bool, true, false, cond, ltb, leb, List, [], ◌∷◌, ◌++◌, length, get_or, take, drop, set, Some, Ok, Err, sym, refl, ap, ◌∙◌, subst, add-one, arith, drop-cons}
use Rattle.std.specs.List.{slice_get}
use Rattle.std.proofs.lemmas.List.{take_more_set, take_all, drop_all, take_more}
use Rattle.words.specs.Names.{Name}
use Rattle.language.specs.Names.{bind}
use Rattle.language.specs.Typing.{ExpandedType, int, bool, Context, kind_type, stock_types}
use Rattle.pantry.specs.declared.entries.Kind.{Kind}
use Rattle.pantry.specs.declared.entries.Kind.TheVariants as kind
use Rattle.pantry.specs.declared.entries.Entry.{Entry}
use Rattle.pantry.specs.Meaning.{kind_of}
use Rattle.rules.specs.declared.faults.CheckFault.{CheckFault}
use Rattle.rules.specs.declared.faults.CheckFault.TheVariants.{TooDeep, TypesFull}
use Rattle.rules.specs.Forms.{Out, bad, good, after, want, ◌>>◌}
use Rattle.rules.specs.Rules.{depth, depth_limit, member, entering}
use Rattle.rules.specs.Checking.{enter_all, kind_types}
use Rattle.typing.specs.declared.types.TypeEntry.{TypeEntry}
use Rattle.typing.specs.declared.types.Known.{Known}
use Rattle.typing.specs.declared.tables.Tables.{Tables}
use Rattle.typing.specs.Tables.{State, state_of, Gave}
use Rattle.typing.specs.Stands.{Stands, Stocks, stocks_none, stocks_one}
use Rattle.typing.proofs.Alike.{Tells, Alike, alike-bad, alike-good}
use Rattle.typing.proofs.Rows.{member-at, there-alike, arrow-alike}
use Rattle.typing.proofs.Scopes.{stocks-kept}
use Rattle.checker.specs.Stocks.{stock_in}
use Rattle.checker.specs.Kinds.{kind_n, Begun, Entering, AfterKinds}
use Rattle.checker.proofs.InOrder.{gave-good, gave-bad}

stocks-more : {ts : List ExpandedType} {es : List Known} {c : Context} (e : Known) (x : Name) (a : ExpandedType) → Stocks ts es c → e.name.now ≡ x → slice_get ts e.of ≡ Some a →
    Stocks ts (es ++ (e ∷ [])) (c ++ (bind x a ∷ []))
stocks-more e x a stocks_none p q = stocks_one p q stocks_none
stocks-more e x a (stocks_one p' q' h) p q = stocks_one p' q' (stocks-more e x a h p q)

stock-more : (es : List Entry) (e : Entry) → stock_types (stock_in (es ++ (e ∷ []))) ≡ stock_types (stock_in es) ++ (bind e.name.now (kind_type (kind_of e.kind)) ∷ [])
stock-more [] e = refl
stock-more (x ∷ es) e = ap (λ (c : Context). bind x.name.now (kind_type (kind_of x.kind)) ∷ c) (stock-more es e)

module _ (text : List ℕ) (base : List TypeEntry) (tp sp : ℕ) where
  -- what is entered is the answer
  entering-is : (at : ℕ) (t : ExpandedType) (ts : List ExpandedType) (a : ExpandedType) (us : List ExpandedType) → entering tp at t ts ≡ good a us → a ≡ t
  unfolding entering
  entering-is at t ts a us e = go (member t ts) (leb (depth t) depth_limit) (ltb (length ts) tp) e
    where
      go : (b c d : Bool) → cond b (good t ts) ((want c (TooDeep at) >> (want d (TypesFull at) >> (λ _. good t (ts ++ t ∷ [])))) ts) ≡ good a us → a ≡ t
      go true c d e = cc
      go false false d e = let z : ◌≡◌ {A = ℕ} 0 1 = cc in absurd (omega arith)
      go false true false e = let z : ◌≡◌ {A = ℕ} 0 1 = cc in absurd (omega arith)
      go false true true e = cc

  kind-alike : (k : Kind) (s : State) (ts : List ExpandedType) → Begun text base tp sp s ts →
      Alike text tp sp base Tells 0 s ts (kind_n text k s) (entering tp 0 (kind_type (kind_of k)) ts)
  kind-alike kind.Figure s ts b = there-alike text tp sp base 0 0 0 s ts int b.stands (member-at ts 0 int b.int_is) b.int_is
  kind-alike kind.Flag s ts b = there-alike text tp sp base 0 0 1 s ts bool b.stands (member-at ts 1 bool b.bool_is) b.bool_is
  kind-alike kind.FigureByItem s ts b = arrow-alike text tp sp base 0 0 0 int int 0 s ts b.stands b.int_is b.int_is
  kind-alike kind.FlagByItem s ts b = arrow-alike text tp sp base 0 0 1 int bool 0 s ts b.stands b.int_is b.bool_is

  module _ (entries : List Entry) (ts : List ExpandedType) (i : ℕ) (d : Entry) (known : List Known) (s : State) (inside : i < length entries) (g : Entering text base tp sp entries ts i known s) where
    abbrev kind_here : Kind
    kind_here = (get_or entries i d).kind

    left_is : enter_all tp sp (kind_types (stock_in entries)) ts ≡
        after (entering tp 0 (kind_type (kind_of kind_here)) g.told) (λ _. enter_all tp sp (kind_types (stock_in (drop (i + 1) entries))))
    left_is = g.rest ∙ ap (λ (es : List Entry). enter_all tp sp (kind_types (stock_in es)) g.told) (drop-cons entries i d inside ∙ ap (λ (n : ℕ). get_or entries i d ∷ drop n entries) (sym (add-one i)))

    on-good : {o : Out State ℕ} {p : Out (List ExpandedType) ExpandedType} (k : ℕ) (t : State) (v : Known) → Alike text tp sp base Tells 0 s g.told o p → o ≡ good k t →
        p ≡ entering tp 0 (kind_type (kind_of kind_here)) g.told → i < length known → v.name.now ≡ (get_or entries i d).name.now → v.of ≡ k →
        ((a : ExpandedType) (us : List ExpandedType) → p ≡ good a us → a ≡ kind_type (kind_of kind_here)) →
        Entering text base tp sp entries ts (i + 1) (set known i v) t
    on-good k t v alike-bad e q l nm of is = let z : ◌≡◌ {A = ℕ} 0 1 = cc in absurd (omega arith)
    on-good k t v (alike-good {a = k'} {b = a} {s' = t'} {ts' = us} n r) e q l nm of is =
        let x : t' ≡ t = cc in
        let y : k' ≡ k = cc in
        let w = is a us refl in
        let tells : slice_get us v.of ≡ Some (kind_type (kind_of kind_here)) =
        subst (λ (m : ℕ). slice_get us m ≡ Some (kind_type (kind_of kind_here))) (y ∙ sym of) (r ∙ ap Some w) in
        record {
          told = us;
          begun = record { stands = subst (λ (z : State). Stands text tp sp base z us) x n.stands; int_is = n.more 0 int g.begun.int_is; bool_is = n.more 1 bool g.begun.bool_is };
          stocks = subst (λ (ks : List Known). Stocks us ks (stock_types (stock_in (take (i + 1) entries)))) (sym (take_more_set known i v l))
              (subst (λ (c : Context). Stocks us (take i known ++ (v ∷ [])) c) (sym (ap (λ (es : List Entry). stock_types (stock_in es)) (take_more entries i d inside) ∙ stock-more (take i entries) (get_or entries i d)))
              (stocks-more v (get_or entries i d).name.now (kind_type (kind_of kind_here)) (stocks-kept n.more g.stocks) nm tells));
          rest = left_is ∙ ap (λ (o : Out (List ExpandedType) ExpandedType). after o (λ _. enter_all tp sp (kind_types (stock_in (drop (i + 1) entries))))) (sym q);
        }

    on-bad : {o : Out State ℕ} {p : Out (List ExpandedType) ExpandedType} (f : CheckFault) → Alike text tp sp base Tells 0 s g.told o p → o ≡ bad f → p ≡ bad f
    on-bad f (alike-bad {f = e}) q = let z : e ≡ f = cc in ap bad z
    on-bad f (alike-good n r) q = let z : ◌≡◌ {A = ℕ} 0 1 = cc in absurd (omega arith)

    pub entering-bad : (f : CheckFault) (t : Tables) (known' : List Known) (s' : State) → Gave (kind_n text kind_here s) (Err f) t →
        AfterKinds text base tp sp entries (enter_all tp sp (kind_types (stock_in entries)) ts) (Err f) known' s'
    entering-bad f t known' s' h =
        let e = on-bad f (kind-alike kind_here s g.told g.begun) (gave-bad (kind_n text kind_here s) f t h) in
        rw (left_is ∙ ap (λ (o : Out (List ExpandedType) ExpandedType). after o (λ _. enter_all tp sp (kind_types (stock_in (drop (i + 1) entries))))) e)

    pub entering-good : (k : ℕ) (t : Tables) (v : Known) → Gave (kind_n text kind_here s) (Ok k) t → i < length known → v.name.now ≡ (get_or entries i d).name.now → v.of ≡ k →
        Entering text base tp sp entries ts (i + 1) (set known i v) (state_of t)
    entering-good k t v h l nm of =
        on-good k (state_of t) v (kind-alike kind_here s g.told g.begun) (gave-good (kind_n text kind_here s) k t h) refl l nm of
        (λ a us q. entering-is 0 (kind_type (kind_of kind_here)) g.told a us q)

  pub entering-end : (entries : List Entry) (ts : List ExpandedType) (i : ℕ) (known : List Known) (s : State) → i ≡ length entries → Entering text base tp sp entries ts i known s →
      AfterKinds text base tp sp entries (enter_all tp sp (kind_types (stock_in entries)) ts) (Ok tt) known s
  entering-end entries ts i known s e g =
      rw (g.rest ∙ ap (λ (es : List Entry). enter_all tp sp (kind_types (stock_in es)) g.told) (drop_all i entries (omega arith))) (
        refl,
        g.begun,
        subst (λ (n : ℕ). Stocks g.told (take n known) (stock_types (stock_in entries))) e
            (subst (λ (es : List Entry). Stocks g.told (take i known) (stock_types (stock_in es))) (take_all i entries (omega arith)) g.stocks),
      )

  pub entering-start : (entries : List Entry) (ts : List ExpandedType) (known : List Known) (s : State) → Begun text base tp sp s ts →
      Entering text base tp sp entries ts 0 known s
  entering-start entries ts known s b = record { told = ts; begun = b; stocks = stocks_none; rest = refl }
