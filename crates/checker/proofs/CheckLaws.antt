-- What the check's answer says by the rules of types.
use Rattle.std.proofs.Common.{◌≡◌, ℕ, ◌≤◌, true, List, length, Ok, Err, Result, sym, refl, ap, ◌∙◌, subst, arith}
use Rattle.language.specs.Pantry.{Stock}
use Rattle.language.specs.Typing.{ExpandedType}
use Rattle.language.proofs.Checks.{passes-computed}
use Rattle.grammar.specs.Plain.{plain}
use Rattle.rules.specs.declared.faults.CheckFault.{CheckFault}
use Rattle.rules.specs.Forms.{Out, bad, good}
use Rattle.rules.specs.Rules as rules
use Rattle.rules.specs.Rules.{depth, member}
use Rattle.rules.specs.Checking.{checking}
use Rattle.rules.specs.Needs.{formed, Within}
use Rattle.rules.specs.Laws.{Typed}
use Rattle.rules.proofs.Passing.{member-shallow, passing-exact, passing-sound, refusing-sound}
use Rattle.rules.proofs.Once.{distinct-types}
use Rattle.rules.proofs.Exchange.{exchanging-typed}
use Rattle.typing.specs.declared.types.TypeEntry.{TypeEntry}
use Rattle.typing.specs.declared.types.Slot.{Slot}
use Rattle.typing.specs.Told.{type_told}
use Rattle.typing.proofs.Rows.{member-at}
use Rattle.typing.proofs.TableTold.{table-told}
use Rattle.checker.specs.Sheets.{places}
use Rattle.checker.specs.Passes.{sheet_in}
use Rattle.checker.specs.Runs.{Passes, Ends}
use Rattle.checker.specs.Laws.{Answered, Promised, Judged, Exchanged}

module _ (stock : Stock) (text : List ℕ) (types : List TypeEntry) (slots : List Slot) (types' : List TypeEntry) (slots' : List Slot) where
  abbrev tp : ℕ
  tp = places types

  abbrev sp : ℕ
  sp = places slots

  -- where the check passes: the type that the number tells is the rules' type
  record Good (k : ℕ) : Type 0 where
    typed : Typed stock (sheet_in text) (type_told text types' k)
    within : Within stock tp sp (plain (sheet_in text))

  passed : (no_types : List TypeEntry) (no_slots : List Slot) (m : Out (List ExpandedType) rules.Scope) (a : ExpandedType) (us : List ExpandedType) (k : ℕ) →
      checking stock tp sp (sheet_in text) ≡ good a us → Passes text m a us (Ok k) no_types no_slots types' slots' → Good k
  passed no_types no_slots m a us k e h =
      let s = passing-sound stock tp sp (sheet_in text) a us e in
      let w = ((passing-exact stock tp sp (sheet_in text) a).0 (e ∙ ap (good a) s.1)).1 in
      let z : h.number ≡ k = (let y = h.result in cc) in
      let there : member a us ≡ true = member-at us h.number a h.tells in
      let formed-there : member a (formed stock (plain (sheet_in text))) ≡ true =
      sym ((distinct-types stock (plain (sheet_in text))).1 a) ∙ (ap (member a) (sym s.1) ∙ there) in
      let shallow = member-shallow tp sp (formed stock (plain (sheet_in text))) a w.shallow formed-there in
      let few : length us ≤ 65535 = (let q = w.types_fit in let y = ap length s.1 in omega arith) in
      let told : type_told text types' k ≡ a = ap (type_told text types') (sym z) ∙ table-told text types' us h.number a few h.rows h.tells shallow in
      record { typed = subst (Typed stock (sheet_in text)) (sym told) s.0; within = w }

  good-by : (no_types : List TypeEntry) (no_slots : List Slot) (m : Out (List ExpandedType) rules.Scope) (o : Out (List ExpandedType) ExpandedType) (k : ℕ) →
      checking stock tp sp (sheet_in text) ≡ o → Ends text m o (Ok k) no_types no_slots types' slots' → Good k
  good-by no_types no_slots m (bad f) k e h = let y = h.0 in let z : ◌≡◌ {A = ℕ} 0 1 = cc in absurd (omega arith)
  good-by no_types no_slots m (good a us) k e h = passed no_types no_slots m a us k e h

  bad-by : (no_types : List TypeEntry) (no_slots : List Slot) (m : Out (List ExpandedType) rules.Scope) (o : Out (List ExpandedType) ExpandedType) (f : CheckFault) →
      checking stock tp sp (sheet_in text) ≡ o → Ends text m o (Err f) no_types no_slots types' slots' → checking stock tp sp (sheet_in text) ≡ bad f
  bad-by no_types no_slots m (bad g) f e h = let y = h.0 in let z : g ≡ f = cc in e ∙ ap bad z
  bad-by no_types no_slots m (good a us) f e h = let y = h.result in let z : ◌≡◌ {A = ℕ} 0 1 = cc in absurd (omega arith)

  -- the answer is that of the check
  abbrev Is : Result ℕ CheckFault → Type 0
  Is r = Answered stock text r types slots types' slots'

  pub promised-by : (r : Result ℕ CheckFault) → Is r → Promised stock text r types'
  promised-by (Ok k) h = (passes-computed stock (plain (sheet_in text)) (type_told text types' k)).1 (record { typed = (good-by _ _ _ _ k refl h).typed })
  promised-by (Err f) h = tt

  pub judged-by : (r : Result ℕ CheckFault) → Is r → Judged stock tp sp text r types'
  judged-by (Ok k) h = let g = good-by _ _ _ _ k refl h in (g.typed, g.within)
  judged-by (Err f) h =
      let e = bad-by _ _ _ _ f refl h in (
        (λ r t w. let p = (passing-exact stock tp sp (sheet_in text) r).1 (t, w) in let z : ◌≡◌ {A = ℕ} 0 1 = cc in absurd (omega arith)),
        refusing-sound stock tp sp (sheet_in text) f e,
      )

  pub exchanged-by : (r : Result ℕ CheckFault) → Is r → Exchanged stock tp sp text r types'
  exchanged-by (Ok k) h = λ text' sheet' end read x accepted. exchanging-typed stock tp sp (sheet_in text) sheet' x (type_told text types' k) (good-by _ _ _ _ k refl h).typed accepted
  exchanged-by (Err f) h = tt
