-- Modules and the closing expression, one after the other.
use Rattle.std.proofs.Common.{◌≡◌, ℕ, zero, suc, ◌+◌, ◌-◌, ◌≤◌, true, false, List, [], Some, Ok, Err, sym, refl, ap, ◌∙◌, subst, arith}
use mathlib.Core.Option.{none, some}
use Rattle.words.specs.declared.keywords.Keyword.TheVariants as kw
use Rattle.grammar.specs.declared.faults.Fault.{Fault}
use Rattle.grammar.specs.declared.next.Next.{Next}
use Rattle.grammar.specs.declared.next.Next.TheVariants.{End, Name, Number, Key, Sign}
use Rattle.grammar.specs.declared.reader.Reader.{Reader}
use Rattle.grammar.specs.Syntax.{Exp, Module, Sheet, inner_e, inner_m, places}
use Rattle.grammar.specs.Productions.{an_exp, a_module}
use Rattle.grammar.specs.Reading.{Out, bad, good, bind, Step, end, word, fault, steps, part_from, sheet_from, closed, ended, begins_module}
use Rattle.grammar.specs.Reading.{add_module}
use Rattle.grammar.specs.Table.{lay_e, lay_m, lay_of}
use Rattle.grammar.specs.Steps.{step_in, next_place, is_key, EndsAt}
use Rattle.grammar.specs.Laying.{State, Outcome, refused, done, after, give, lifted, part_laid, from_m, module_m, lay_sheet, sheet_m, end_by}
use Rattle.grammar.specs.Laying.{end_m, closing_m}
use Rattle.grammar.specs.Readers.{moved, state_of, Kept, NextDone, Gave}
use Rattle.grammar.proofs.Readers.{kept_then}
use Rattle.grammar.proofs.Gives.{gave-ok, gave-err}
use Rattle.grammar.proofs.Openings.{part_step, part-fault}
use Rattle.grammar.proofs.Froms.{module-some}
use Rattle.grammar.proofs.FormSteps.{behind_part}

-- whether a module begins
begins-at : (text : List ℕ) (n : Next) (q : ℕ) → true ≡ is_key kw.Module n → begins_module (step_in text n q) ≡ some (next_place n)
begins-at text (End at) q e = let z : ◌≡◌ {A = ℕ} 0 1 = cc in absurd (omega arith)
begins-at text (Name x) q e = let z : ◌≡◌ {A = ℕ} 0 1 = cc in absurd (omega arith)
begins-at text (Number at v) q e = let z : ◌≡◌ {A = ℕ} 0 1 = cc in absurd (omega arith)
begins-at text (Key at k) q e = rw (← e)
begins-at text (Sign at m) q e = let z : ◌≡◌ {A = ℕ} 0 1 = cc in absurd (omega arith)

ends_at : (text : List ℕ) (n : Next) (q : ℕ) → false ≡ is_key kw.Module n → begins_module (step_in text n q) ≡ none
ends_at text (End at) q e = refl
ends_at text (Name x) q e = refl
ends_at text (Number at v) q e = refl
ends_at text (Key at k) q e = rw (← e)
ends_at text (Sign at m) q e = refl

module _ (v : State) where
  abbrev told : Out Sheet → Outcome ℕ
  told o =
      lifted o (λ s. v.used + (places inner_m s.modules + inner_e s.closing)) (λ s. v.used + (places inner_m s.modules +
      (inner_e s.closing + 1))) (lay_sheet v.used) v

  -- a closing expression that was read, and what stands behind it
  abbrev shut : Out Exp → Out Sheet
  shut o = bind o (λ e q. ended (steps v.text q) (record { modules = []; closing = e }))

  by-step : (st : Step) → steps v.text v.at ≡ st → closed (steps v.text) v.limit v.used v.at
      ≡ shut (part_from 48 (steps v.text) v.limit an_exp v.used st)
  by-step st h =
      ap shut (part_step 48 (steps v.text) v.limit an_exp v.used v.at)
      ∙ ap (λ z. shut (part_from 48 (steps v.text) v.limit an_exp v.used z)) h

  no-module : (modules : ℕ) → begins_module (steps v.text v.at) ≡ none → sheet_m modules v
      ≡ told (closed (steps v.text) v.limit v.used v.at)
  unfolding sheet_m sheet_from
  no-module zero e = rw e
  no-module (suc m) e = rw e

  pub sheet-fault : (modules k e : ℕ) → steps v.text v.at ≡ fault k e → sheet_m modules v ≡ refused k e
  sheet-fault modules k e h =
      no-module modules (ap begins_module h)
      ∙ (ap told (by-step (fault k e) h) ∙ ap (λ o. told (shut o)) (part-fault 48 (steps v.text) v.limit an_exp v.used k e))

  at-end : (q : ℕ) (a : Exp) (p : ℕ) (st : Step)
      → told (ended st (record { modules = []; closing = a }))
      ≡ after (end_by st (behind_part an_exp (moved v q) a p)) (λ _. give (v.used + inner_e a))
  at-end q a p (end e) =
      let i : v.used + (0 + inner_e a) ≡ v.used + inner_e a = omega arith in
      let j : v.used + (0 + (inner_e a + 1)) ≡ v.used + (inner_e a + 1) = omega arith in
      let k : v.used + 0 ≡ v.used = omega arith in
      λ h. done (i h) (record { text = v.text; limit = v.limit; at = e; used = j h; table = lay_e (k h) a v.table })
  at-end q a p (word w m) = refl
  at-end q a p (fault k e) = refl

  closing-by : (q : ℕ) (o : Out Exp) → told (shut o) ≡ after (part_laid an_exp o (moved v q)) (λ close w. after (end_m w) (λ _. give close))
  unfolding end_m
  closing-by q (bad k e) = refl
  closing-by q (good a p) = at-end q a p (steps v.text p)

  pub sheet-closing : (modules : ℕ) (n : Next) (q : ℕ) → steps v.text v.at ≡ step_in v.text n q → false ≡ is_key kw.Module n
      → sheet_m modules v ≡ closing_m n (moved v q)
  unfolding from_m
  sheet-closing modules n q h e =
      no-module modules (ap begins_module h ∙ ends_at v.text n q e)
      ∙ (ap told (by-step (step_in v.text n q) h)
      ∙ closing-by q (part_from 48 (steps v.text) v.limit an_exp v.used (step_in v.text n q)))

  pub sheet-many : (n : Next) (q : ℕ) → steps v.text v.at ≡ step_in v.text n q → true ≡ is_key kw.Module n → sheet_m 0 v
      ≡ refused 7 (next_place n)
  unfolding sheet_m sheet_from
  sheet-many n q h e =
      let i : begins_module (steps v.text v.at) ≡ some (next_place n) = ap begins_module h ∙ begins-at v.text n q e in
      rw i

  -- a module that was read, and the sheet behind it
  abbrev more : ℕ → Out Module → Out Sheet
  more modules o = bind o (λ m q. bind (sheet_from modules (steps v.text) v.limit (v.used + (inner_m m + 1)) q)
      (λ s q. good (add_module m s) q))

  by-module : (modules : ℕ) (n : Next) (q : ℕ) → steps v.text v.at ≡ step_in v.text n q → true ≡ is_key kw.Module n
      → sheet_m (suc modules) v ≡ told (more modules (part_from 50 (steps v.text) v.limit a_module v.used (step_in v.text n q)))
  unfolding sheet_m sheet_from
  by-module modules n q h e =
      let i : begins_module (steps v.text v.at) ≡ some (next_place n) = ap begins_module h ∙ begins-at v.text n q e in
      rw i
      (ap (λ o. told (more modules o)) (part_step 50 (steps v.text) v.limit a_module v.used v.at)
      ∙ ap (λ z. told (more modules (part_from 50 (steps v.text) v.limit a_module v.used z))) h)

  refused-by : (modules q k e : ℕ) (o : Out Module) → part_laid a_module o (moved v q) ≡ refused k e → told (more modules o) ≡ refused k e
  refused-by modules q k e (bad m a) h = cc
  refused-by modules q k e (good a p) h = let z : ◌≡◌ {A = ℕ} 0 1 = cc in absurd (omega arith)

  after-module : (m : Module) (q : ℕ) (o : Out Sheet)
      → told (bind o (λ s q. good (add_module m s) q))
      ≡ lifted o (λ s. (v.used + (inner_m m + 1)) + (places inner_m s.modules + inner_e s.closing))
      (λ s. (v.used + (inner_m m + 1)) + (places inner_m s.modules + (inner_e s.closing + 1))) (lay_sheet (v.used + (inner_m m + 1)))
      (behind_part a_module v m q)
  after-module m q (bad k e) = refl
  after-module m q (good s p) =
      let n = places inner_m s.modules in
      let e = inner_e s.closing in
      let i : v.used + (((inner_m m + 1) + n) + e) ≡ (v.used + (inner_m m + 1)) + (n + e) = omega arith in
      let j : v.used + (((inner_m m + 1) + n) + (e + 1)) ≡ (v.used + (inner_m m + 1)) + (n + (e + 1)) = omega arith in
      let k : v.used + ((inner_m m + 1) + n) ≡ (v.used + (inner_m m + 1)) + n = omega arith in
      λ h. done (i h) (record {
        text = v.text;
        limit = v.limit;
        at = p;
        used = j h;
        table = lay_e (k h) s.closing
            (lay_of inner_m lay_m (v.used + (inner_m m + 1)) s.modules (lay_m v.used m v.table));
      })

  done-by : (modules q x : ℕ) (w : State) (o : Out Module) → part_laid a_module o (moved v q) ≡ done x w → told (more modules o)
      ≡ sheet_m modules w
  unfolding sheet_m
  done-by modules q x w (bad m a) h = let z : ◌≡◌ {A = ℕ} 0 1 = cc in absurd (omega arith)
  done-by modules q x w (good a p) h =
      let i : behind_part a_module v a p ≡ w = cc in
      after-module a p (sheet_from modules (steps v.text) v.limit (v.used + (inner_m a + 1)) p) ∙ ap (sheet_m modules) i

  module _ (modules : ℕ) (n : Next) (q : ℕ) (h : steps v.text v.at ≡ step_in v.text n q) (e : true ≡ is_key kw.Module n) where
    pub sheet-refused : (k a : ℕ) → module_m (next_place n) (moved v q) ≡ refused k a → sheet_m (suc modules) v ≡ refused k a
    unfolding from_m
    sheet-refused k a d =
        by-module modules n q h e
        ∙ refused-by modules q k a (part_from 50 (steps v.text) v.limit a_module v.used (step_in v.text n q))
        (module-some (moved v q) n e ∙ d)

    pub sheet-more : (x : ℕ) (w : State) → module_m (next_place n) (moved v q) ≡ done x w → sheet_m (suc modules) v ≡ sheet_m modules w
    unfolding from_m
    sheet-more x w d =
        by-module modules n q h e
        ∙ done-by modules q x w (part_from 50 (steps v.text) v.limit a_module v.used (step_in v.text n q))
        (module-some (moved v q) n e ∙ d)

-- a reader of a sheet, s at its start and t before a turn, after so many modules
pub record Going (s t : Reader) (modules : ℕ) : Type 0 where
  pub kept : Kept s t
  pub few : modules ≤ 32
  pub on : sheet_m 32 (state_of s) ≡ sheet_m (32 - modules) (state_of t)

pub going-first : (s : Reader) → Going s s 0
going-first s = record { kept = record { same = refl; long = refl; behind = refl }; few = omega arith; on = refl }

-- the turns of the loop: t1 is the reader behind the next word, u at the end of the turn
module _ (s t t1 : Reader) (modules : ℕ) (g : Going s t modules) where
  pub turn-fault : (f : Fault) → NextDone (Err f) t t1 → Gave (sheet_m 32 (state_of s)) (Err f) t1
  turn-fault f p =
      let e = g.on ∙ sheet-fault (state_of t) (32 - modules) _ _ p.0 in
      rw e (ap Some p.1)

  module _ (n : Next) (p : NextDone (Ok n) t t1) where
    pub turn-closing : false ≡ is_key kw.Module n → sheet_m 32 (state_of s) ≡ closing_m n (state_of t1)
    turn-closing e = g.on ∙ (sheet-closing (state_of t) (32 - modules) n t1.words.at p.0 e ∙ ap (closing_m n) (sym p.2))

    module _ (e : true ≡ is_key kw.Module n) where
      pub turn_many : modules ≡ 32 → sheet_m 32 (state_of s) ≡ refused 7 (next_place n)
      turn_many m =
          let i : 32 - modules ≡ 0 = omega arith in
          g.on ∙ (ap (λ k. sheet_m k (state_of t)) i ∙ sheet-many (state_of t) n t1.words.at p.0 e)

      left : (modules ≡ 32 → ⊥) → 32 - modules ≡ suc (32 - (modules + 1))
      left m = omega (arith, g.few)

      pub turn-refused : (at : ℕ) (f : Fault) (u : Reader) → at ≡ next_place n → (modules ≡ 32 → ⊥)
          → Gave (module_m at (state_of t1)) (Err f) u → Gave (sheet_m 32 (state_of s)) (Err f) u
      turn-refused at f u a m d =
          let r = gave-err (module_m at (state_of t1)) f u d in
          let i = ap (λ z. module_m z (moved (state_of t) t1.words.at)) (sym a) ∙ (ap (module_m at) (sym p.2) ∙ r.2) in
          let o = g.on ∙ (ap (λ k. sheet_m k (state_of t)) (left m)
          ∙ sheet-refused (state_of t) (32 - (modules + 1)) n t1.words.at p.0 e r.0 r.1 i) in
          rw o r.3

      pub turn-ok : (at x : ℕ) (u : Reader) → at ≡ next_place n → (modules ≡ 32 → ⊥) → Kept t t1 → Kept t1 u
          → Gave (module_m at (state_of t1)) (Ok x) u → Going s u (modules + 1)
      turn-ok at x u a m k k1 d =
          let i = ap (λ z. module_m z (moved (state_of t) t1.words.at)) (sym a) ∙ (ap (module_m at) (sym p.2)
          ∙ gave-ok (module_m at (state_of t1)) x u d) in
          record {
            kept = kept_then s t u g.kept (kept_then t t1 u k k1);
            few = omega (arith, g.few);
            on = g.on ∙ (ap (λ k. sheet_m k (state_of t)) (left m)
                ∙ sheet-more (state_of t) (32 - (modules + 1)) n t1.words.at p.0 e x (state_of u) i);
          }

-- the text's end
end_step : (text : List ℕ) (n : Next) (q : ℕ) (v : State) → ((at : ℕ) → n ≡ End at → ⊥) → end_by (step_in text n q) v
    ≡ refused 5 (next_place n)
end_step text (End at) q v e = absurd (e at refl)
end_step text (Name x) q v e = refl
end_step text (Number at z) q v e = refl
end_step text (Key at k) q v e = refl
end_step text (Sign at m) q v e = refl

module _ (v : State) where
  pub end-fault : (k e : ℕ) → steps v.text v.at ≡ fault k e → end_m v ≡ refused k e
  unfolding end_m
  end-fault k e h = ap (λ z. end_by z v) h

  pub end-bad : (n : Next) (q : ℕ) → steps v.text v.at ≡ step_in v.text n q → ((at : ℕ) → n ≡ End at → ⊥) → end_m v
      ≡ refused 5 (next_place n)
  unfolding end_m
  end-bad n q h e = ap (λ z. end_by z v) h ∙ end_step v.text n q v e

  pub end-good : (n : Next) (at q : ℕ) → steps v.text v.at ≡ step_in v.text n q → n ≡ End at → EndsAt n q → end_m v
      ≡ done tt (moved v q)
  unfolding end_m
  end-good n at q h e b =
      let i : q ≡ at = subst (λ z. EndsAt z q) e b in
      ap (λ z. end_by z v) (h ∙ ap (λ z. step_in v.text z q) e) ∙ ap (λ z. done tt (moved v z)) (sym i)
