-- A body exchanged for another that the interface accepts.
use Rattle.std.proofs.Common.{◌≡◌, ℕ, true, ◌⊎◌, List, [], ◌∷◌, ◌++◌, map, pos, sym, refl, ap, ◌∙◌, subst, ap₂, inl, inr}
use Rattle.std.proofs.lemmas.List.{append_assoc, map-append}
use Rattle.words.specs.Names.{Name}
use Rattle.language.specs.Names.{bind}
use Rattle.language.specs.Syntax as language
use Rattle.language.specs.Pantry.{Stock}
use Rattle.language.specs.Typing.{ExpandedType, int, bool, Context, Interfaces, HasType, stock_types}
use Rattle.language.specs.Modules.{seeing, Accepts, ModulesTyped, y_module}
use Rattle.language.specs.Safety.{with_body, InterfacesAfter, i_none, i_more}
use Rattle.language.proofs.Exchanged.{exchanged}
use Rattle.grammar.specs.Syntax as placed
use Rattle.grammar.specs.Syntax.{Module, Sheet}
use Rattle.grammar.specs.Plain.{plain_f, plain_m}
use Rattle.rules.specs.declared.faults.CheckFault.{CheckFault}
use Rattle.rules.specs.Faults.{is_exceeded}
use Rattle.rules.specs.Forms.{Out, bad, good, after}
use Rattle.rules.specs.Rules.{Scope, typing}
use Rattle.rules.specs.Checking.{kind_types, at_start, enter_all, check_module, check_modules, checking}
use Rattle.rules.specs.Laws.{
  Typed,
  Passed,
  Exceeds,
  checking_modules,
  BodyExchanged,
  Accepted,
  AcceptedByRules,
  Accepting,
  Exchanging,
}
use Rattle.rules.proofs.Passing.{passing-sound, passing-complete}
use Rattle.rules.proofs.Runs.{after-assoc}

-- one outcome, and two ways to go on that are the same
after-ap : {A B : Type 0} (o : Out (List ExpandedType) A) (k l : A → List ExpandedType → Out (List ExpandedType) B) →
    ((a : A) (s : List ExpandedType) → k a s ≡ l a s) → after o k ≡ after o l
after-ap (bad f) k l h = refl
after-ap (good a s) k l h = h a s

-- the first modules, then the others
modules-append : (tp sp : ℕ) (ms ks : List Module) (g : Scope) (ts : List ExpandedType) →
    check_modules tp sp (ms ++ ks) g ts ≡ after (check_modules tp sp ms g ts) (check_modules tp sp ks)
modules-append tp sp [] ks g ts = refl
modules-append tp sp (m ∷ ms) ks g ts =
    after-ap (check_module tp sp m g ts) (check_modules tp sp (ms ++ ks)) (λ h s. after (check_modules tp sp ms h s) (check_modules tp sp ks))
    (λ h s. modules-append tp sp ms ks h s) ∙
    sym (after-assoc (check_module tp sp m g ts) (check_modules tp sp ms) (check_modules tp sp ks))

-- the interface of the last module accepts its body, behind the interfaces of those before it
last-accepted : (s : Context) (ms : List language.Module) (m : language.Module) (n n' : Interfaces) →
    ModulesTyped s n (ms ++ (m ∷ [])) n' → (k : Interfaces) × InterfacesAfter s n ms k × Accepts k s m.interface m.body
last-accepted s [] m n n' (y_module f g d o a t) = (n, i_none, a)
last-accepted s (l ∷ ms) m n n' (y_module {i = i} f g d o a t) =
    let (k, h, b) = last-accepted s ms m (n ++ (bind l.name i ∷ [])) n' t in (k, i_more o h, b)

module _ (kinds : Stock) (tp sp : ℕ) where
  abbrev start : Out (List ExpandedType) Unit
  start = enter_all tp sp (int ∷ bool ∷ kind_types kinds) []

  abbrev sheet_of : List Module → placed.Exp → Sheet
  sheet_of ms closing = record { modules = ms; closing = closing }

  -- the check of a sheet is that of its first modules, and then that of the rest
  first-modules : (ms ks : List Module) (closing : placed.Exp) → checking kinds tp sp (sheet_of (ms ++ ks) closing) ≡
      after (checking_modules kinds tp sp ms) (λ g s. after (check_modules tp sp ks g s) (typing tp sp closing))
  first-modules ms ks closing =
      after-ap start _
      (λ _ s. after (check_modules tp sp ms (at_start kinds) s) (λ g s'. after (check_modules tp sp ks g s') (typing tp sp closing)))
      (λ _ s. ap (λ (o : Out (List ExpandedType) Scope). after o (typing tp sp closing)) (modules-append tp sp ms ks (at_start kinds) s) ∙
      after-assoc (check_modules tp sp ms (at_start kinds) s) (check_modules tp sp ks) (typing tp sp closing)) ∙
      sym (after-assoc start (λ _. check_modules tp sp ms (at_start kinds)) (λ g s. after (check_modules tp sp ks g s) (typing tp sp closing)))

  -- modules that pass are typed
  modules_typed : (ms : List Module) (g : Scope) (ts : List ExpandedType) → checking_modules kinds tp sp ms ≡ good g ts →
      (n : Interfaces) × ModulesTyped (stock_types kinds) [] (map plain_m ms) n
  modules_typed ms g ts e =
      let t = (passing-sound kinds tp sp (sheet_of ms (placed.number 0 (pos 0))) int ts
      (sym (after-assoc start (λ _. check_modules tp sp ms (at_start kinds)) (λ _ s. good int s)) ∙
      ap (λ (o : Out (List ExpandedType) Scope). after o (λ _ s. good int s)) e)).0 in
      (t.all, t.modules_typed)

  module _ (sheet sheet' : Sheet) (x : BodyExchanged sheet sheet') where
    -- the modules up to the one with the other body
    abbrev up_to_it : List Module
    up_to_it = x.before' ++ (x.changed' ∷ [])

    -- what refuses them refuses the new sheet
    refused-there : (f : CheckFault) → checking_modules kinds tp sp up_to_it ≡ bad f → checking kinds tp sp sheet' ≡ bad f
    refused-there f e =
        ap (λ (ms : List Module). checking kinds tp sp (sheet_of ms sheet'.closing))
        (x.modules' ∙ sym (append_assoc x.before' (x.changed' ∷ []) x.behind')) ∙
        (first-modules up_to_it x.behind' sheet'.closing ∙
        ap (λ (o : Out (List ExpandedType) Scope). after o
        (λ g s. after (check_modules tp sp x.behind' g s) (typing tp sp sheet'.closing))) e)

    passed-there : (g : Scope) (ts : List ExpandedType) → checking_modules kinds tp sp up_to_it ≡ good g ts → AcceptedByRules kinds x
    passed-there g ts e =
        let (n, typed) = modules_typed up_to_it g ts e in
        last-accepted (stock_types kinds) (map plain_m x.before') (plain_m x.changed') [] n
        (subst (λ (ms : List language.Module). ModulesTyped (stock_types kinds) [] ms n)
        (map-append plain_m x.before' (x.changed' ∷ [])) typed)

    new-typed : (r : ExpandedType) → Typed kinds sheet r → AcceptedByRules kinds x → Typed kinds sheet' r
    new-typed r t (k, interfaces, accepts) =
        record {
          all = t.all;
          modules_typed = subst (λ (ms : List language.Module). ModulesTyped (stock_types kinds) [] ms t.all) new
              (exchanged (stock_types kinds) (map plain_m x.behind') (plain_m x.changed) body (map plain_m x.before') [] k t.all
              (subst (λ (ms : List language.Module). ModulesTyped (stock_types kinds) [] ms t.all) old t.modules_typed) interfaces
              (subst (λ (ds : List language.Declaration). Accepts k (stock_types kinds) ds body) (sym x.same_interface) accepts));
          closing_typed = subst (λ (p : language.Exp). HasType (seeing [] t.all (stock_types kinds)) [] p r) x.same_closing
              t.closing_typed;
        }
      where
        body : List language.Definition
        body = map plain_f x.changed'.body

        old : map plain_m sheet.modules ≡ map plain_m x.before' ++ (plain_m x.changed ∷ map plain_m x.behind')
        old = ap (map plain_m) x.modules ∙ (map-append plain_m x.before (x.changed ∷ x.behind) ∙
            ap₂ (λ (b a : List language.Module). b ++ (plain_m x.changed ∷ a)) x.same_before x.same_behind)

        made : Name → List language.Declaration → language.Module
        made name interface = record { name = name; interface = interface; body = body }

        new : map plain_m x.before' ++ (with_body (plain_m x.changed) body ∷ map plain_m x.behind') ≡ map plain_m sheet'.modules
        new = ap (λ (m : language.Module). map plain_m x.before' ++ (m ∷ map plain_m x.behind'))
            (ap₂ made x.same_name x.same_interface) ∙
            (sym (map-append plain_m x.before' (x.changed' ∷ x.behind')) ∙ sym (ap (map plain_m) x.modules'))

    accepted-there : (r : ExpandedType) → Typed kinds sheet r → AcceptedByRules kinds x → Accepted kinds tp sp x
    accepted-there r t a f e = elim (passing-complete kinds tp sp sheet' r (new-typed r t a)) [
      | inl p ↦ (let q = refused-there f e in absurd (cc))
      | inr (g, p, y) ↦ (let q = refused-there f e in let z : g ≡ f = cc in subst (λ (h : CheckFault). is_exceeded h ≡ true) z y)
    ]

pub accepting : Accepting
accepting kinds tp sp sheet sheet' x r t = (accepted-there kinds tp sp sheet sheet' x r t, passed-there kinds tp sp sheet sheet' x)

-- Where one body of a sheet that has a type is exchanged for another that its interface accepts, the new sheet passes with the same type, or
-- a limit or a table is exceeded.
pub exchanging-typed : (kinds : Stock) (tp sp : ℕ) (sheet sheet' : Sheet) (x : BodyExchanged sheet sheet') (r : ExpandedType) →
    Typed kinds sheet r → Accepted kinds tp sp x → Passed kinds tp sp sheet' r ⊎ Exceeds (checking kinds tp sp sheet')
exchanging-typed kinds tp sp sheet sheet' x r typed accepted = go (checking_modules kinds tp sp (x.before' ++ (x.changed' ∷ []))) refl
  where
    go : (o : Out (List ExpandedType) Scope) → checking_modules kinds tp sp (x.before' ++ (x.changed' ∷ [])) ≡ o →
        Passed kinds tp sp sheet' r ⊎ Exceeds (checking kinds tp sp sheet')
    go (bad f) q = inr (f, refused-there kinds tp sp sheet sheet' x f q, accepted f q)
    go (good g us) q = passing-complete kinds tp sp sheet' r
        (new-typed kinds tp sp sheet sheet' x r typed (passed-there kinds tp sp sheet sheet' x g us q))

pub exchanging : Exchanging
exchanging kinds tp sp sheet sheet' x r ts e accepted =
    exchanging-typed kinds tp sp sheet sheet' x r (passing-sound kinds tp sp sheet r ts e).0 accepted
