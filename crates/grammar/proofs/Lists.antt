-- Declarations and definitions up to a `]`, one after the other.
use Rattle.std.proofs.Common.{◌≡◌, ℕ, zero, suc, ◌+◌, ◌-◌, ◌<◌, ◌≤◌, min, true, false, List, ◌∷◌, Some, Ok, Err, sym, refl, ap, ◌∙◌, subst, arith}
use mathlib.Core.Option.{none, some}
use Rattle.words.specs.declared.marks.Mark.TheVariants as mk
use Rattle.grammar.specs.declared.next.Next.{Next}
use Rattle.grammar.specs.declared.next.Next.TheVariants.{End, Name, Number, Key, Sign}
use Rattle.grammar.specs.declared.reader.Reader.{Reader}
use Rattle.grammar.specs.Syntax.{places}
use Rattle.grammar.specs.Productions.{Sort, Part, inner}
use Rattle.grammar.specs.Reading.{Out, bad, good, bind, Step, fault, steps, closes, many, many_of, read_part, part_from}
use Rattle.grammar.specs.Table.{lay_of}
use Rattle.grammar.specs.Steps.{step_in, is_mark}
use Rattle.grammar.specs.Laying.{State, Outcome, refused, done, lay, lifted, part_laid, from_m, many_f, many_m}
use Rattle.grammar.specs.declared.faults.Fault.{Fault}
use Rattle.grammar.specs.Readers.{moved, state_of, Kept, NextDone, Gave}
use Rattle.grammar.proofs.Readers.{kept_then}
use Rattle.grammar.proofs.Gives.{gave-ok, gave-err}
use Rattle.grammar.proofs.Sound.{Of, PartRead, part_sound}
use Rattle.grammar.proofs.Openings.{part_step, part-fault}
use Rattle.grammar.proofs.FormSteps.{behind_part}

-- the `]`
closed_at : (text : List ℕ) (n : Next) (q : ℕ) → true ≡ is_mark mk.End n → closes (step_in text n q) ≡ some q
closed_at text (End at) q e = let z : ◌≡◌ {A = ℕ} 0 1 = cc in absurd (omega arith)
closed_at text (Name x) q e = let z : ◌≡◌ {A = ℕ} 0 1 = cc in absurd (omega arith)
closed_at text (Number at v) q e = let z : ◌≡◌ {A = ℕ} 0 1 = cc in absurd (omega arith)
closed_at text (Key at k) q e = let z : ◌≡◌ {A = ℕ} 0 1 = cc in absurd (omega arith)
closed_at text (Sign at mk.Open) q e = let z : ◌≡◌ {A = ℕ} 0 1 = cc in absurd (omega arith)
closed_at text (Sign at mk.Shut) q e = let z : ◌≡◌ {A = ℕ} 0 1 = cc in absurd (omega arith)
closed_at text (Sign at mk.Begin) q e = let z : ◌≡◌ {A = ℕ} 0 1 = cc in absurd (omega arith)
closed_at text (Sign at mk.End) q e = refl
closed_at text (Sign at mk.Comma) q e = let z : ◌≡◌ {A = ℕ} 0 1 = cc in absurd (omega arith)
closed_at text (Sign at mk.Colon) q e = let z : ◌≡◌ {A = ℕ} 0 1 = cc in absurd (omega arith)
closed_at text (Sign at mk.Equal) q e = let z : ◌≡◌ {A = ℕ} 0 1 = cc in absurd (omega arith)
closed_at text (Sign at mk.Arrow) q e = let z : ◌≡◌ {A = ℕ} 0 1 = cc in absurd (omega arith)
closed_at text (Sign at mk.Plus) q e = let z : ◌≡◌ {A = ℕ} 0 1 = cc in absurd (omega arith)
closed_at text (Sign at mk.Minus) q e = let z : ◌≡◌ {A = ℕ} 0 1 = cc in absurd (omega arith)
closed_at text (Sign at mk.Times) q e = let z : ◌≡◌ {A = ℕ} 0 1 = cc in absurd (omega arith)
closed_at text (Sign at mk.Over) q e = let z : ◌≡◌ {A = ℕ} 0 1 = cc in absurd (omega arith)

open_at : (text : List ℕ) (n : Next) (q : ℕ) → false ≡ is_mark mk.End n → closes (step_in text n q) ≡ none
open_at text (End at) q e = refl
open_at text (Name x) q e = refl
open_at text (Number at v) q e = refl
open_at text (Key at k) q e = refl
open_at text (Sign at mk.Open) q e = refl
open_at text (Sign at mk.Shut) q e = refl
open_at text (Sign at mk.Begin) q e = refl
open_at text (Sign at mk.End) q e = let z : ◌≡◌ {A = ℕ} 0 1 = cc in absurd (omega arith)
open_at text (Sign at mk.Comma) q e = refl
open_at text (Sign at mk.Colon) q e = refl
open_at text (Sign at mk.Equal) q e = refl
open_at text (Sign at mk.Arrow) q e = refl
open_at text (Sign at mk.Plus) q e = refl
open_at text (Sign at mk.Minus) q e = refl
open_at text (Sign at mk.Times) q e = refl
open_at text (Sign at mk.Over) q e = refl

module _ (s : Sort) (fuel : ℕ) (v : State) where
  -- what is to be read, after the first step
  abbrev rest : Out (Part s) → Out (List (Part s))
  rest o = bind o (λ a q. bind (many fuel (inner s) (read_part 49 (steps v.text) v.limit s) (steps v.text)
      (v.used + (inner s a + 1)) q) (λ r q. good (a ∷ r) q))

  abbrev told : Out (List (Part s)) → Outcome Unit
  told o = lifted o (λ _. tt) (λ r. v.used + places (inner s) r) (lay_of (inner s) (lay s) v.used) v

  by-step : (st : Step) → steps v.text v.at ≡ st → many_f (suc fuel) s v
      ≡ told (many_of (closes st) (rest (part_from 49 (steps v.text) v.limit s v.used st)))
  unfolding many_f many
  by-step st h =
      ap (λ o. told (many_of (closes (steps v.text v.at)) (rest o))) (part_step 49 (steps v.text) v.limit s v.used v.at)
      ∙ ap (λ z. told (many_of (closes z) (rest (part_from 49 (steps v.text) v.limit s v.used z)))) h

  pub many-fault : (k e : ℕ) → steps v.text v.at ≡ fault k e → many_f (suc fuel) s v ≡ refused k e
  many-fault k e h = by-step (fault k e) h ∙ ap (λ o. told (rest o)) (part-fault 49 (steps v.text) v.limit s v.used k e)

  pub many-closed : (n : Next) (q : ℕ) → steps v.text v.at ≡ step_in v.text n q → true ≡ is_mark mk.End n → many_f (suc fuel) s v
      ≡ done tt (moved v q)
  many-closed n q h e =
      let i : v.used + 0 ≡ v.used = omega arith in
      by-step (step_in v.text n q) h
      ∙ (ap (λ z. told (many_of z (rest (part_from 49 (steps v.text) v.limit s v.used (step_in v.text n q)))))
      (closed_at v.text n q e)
      ∙ (λ j. done tt (record { text = v.text; limit = v.limit; at = q; used = i j; table = v.table })))

  by_part : (n : Next) (q : ℕ) → steps v.text v.at ≡ step_in v.text n q → false ≡ is_mark mk.End n
      → many_f (suc fuel) s v ≡ told (rest (part_from 49 (steps v.text) v.limit s v.used (step_in v.text n q)))
  by_part n q h e =
      by-step (step_in v.text n q) h
      ∙ ap (λ z. told (many_of z (rest (part_from 49 (steps v.text) v.limit s v.used (step_in v.text n q)))))
      (open_at v.text n q e)

  refused-by : (q k e : ℕ) (o : Out (Part s)) → part_laid s o (moved v q) ≡ refused k e → told (rest o) ≡ refused k e
  refused-by q k e (bad m a) h = cc
  refused-by q k e (good a p) h = let z : ◌≡◌ {A = ℕ} 0 1 = cc in absurd (omega arith)

  pub many-refused : (n : Next) (q k e : ℕ) → steps v.text v.at ≡ step_in v.text n q → false ≡ is_mark mk.End n
      → from_m s n 49 (moved v q) ≡ refused k e → many_f (suc fuel) s v ≡ refused k e
  unfolding from_m
  many-refused n q k e h i d = by_part n q h i
      ∙ refused-by q k e (part_from 49 (steps v.text) v.limit s v.used (step_in v.text n q)) d

  after-part : (a : Part s) (q : ℕ) (o : Out (List (Part s)))
      → told (bind o (λ r q. good (a ∷ r) q)) ≡ lifted o (λ _. tt) (λ r. (v.used + (inner s a + 1)) + places (inner s) r)
      (lay_of (inner s) (lay s) (v.used + (inner s a + 1))) (behind_part s v a q)
  after-part a q (bad k e) = refl
  after-part a q (good r p) =
      let i : v.used + ((inner s a + 1) + places (inner s) r) ≡ (v.used + (inner s a + 1)) + places (inner s) r = omega arith in
      λ j. done tt (record {
        text = v.text;
        limit = v.limit;
        at = p;
        used = i j;
        table = lay_of (inner s) (lay s)
            (v.used + (inner s a + 1)) r (lay s v.used a v.table);
      })

  done-by : (q x : ℕ) (w : State) (o : Out (Part s)) → Of (PartRead (steps v.text) v.limit 49 s v.used v.at) o
      → part_laid s o (moved v q) ≡ done x w
      → (told (rest o) ≡ many_f fuel s w) × (v.used < w.used) × (w.used ≤ v.limit)
  unfolding many_f
  done-by q x w (bad m a) p h = let z : ◌≡◌ {A = ℕ} 0 1 = cc in absurd (omega arith)
  done-by q x w (good a r) p h =
      let i : behind_part s v a r ≡ w = cc in
      let j = ap (λ (z : State). z.used) i in (
        after-part a r (many fuel (inner s) (read_part 49 (steps v.text) v.limit s) (steps v.text) (v.used + (inner s a + 1)) r)
            ∙ ap (many_f fuel s) i,
        omega (arith, j),
        omega (arith, j, p.3),
      )

  pub many_more : (n : Next) (q x : ℕ) (w : State) → steps v.text v.at ≡ step_in v.text n q → false ≡ is_mark mk.End n
      → from_m s n 49 (moved v q) ≡ done x w → (many_f (suc fuel) s v ≡ many_f fuel s w) × (v.used < w.used) × (w.used ≤ v.limit)
  unfolding from_m
  many_more n q x w h i d =
      let st = step_in v.text n q in
      let o = part_from 49 (steps v.text) v.limit s v.used st in
      let j : read_part 49 (steps v.text) v.limit s v.used v.at
      ≡ o = part_step 49 (steps v.text) v.limit s v.used v.at
      ∙ ap (part_from 49 (steps v.text) v.limit s v.used) h in
      let p = subst (Of (PartRead (steps v.text) v.limit 49 s v.used v.at)) j (part_sound 49 (steps v.text) v.limit s
      v.used v.at) in
      let t = done-by q x w o p d in
      (by_part n q h i ∙ t.0, t.1, t.2)

-- a reader of a list, s at its start and t before a turn: the whole comes to what is left
pub record Going (sort : Sort) (s t : Reader) : Type 0 where
  pub kept : Kept s t
  pub fuel : ℕ
  pub enough : (state_of s).limit < t.used + suc fuel
  pub on : many_m sort (state_of s) ≡ many_f (suc fuel) sort (state_of t)

pub going-first : (sort : Sort) (s : Reader) → Going sort s s
unfolding many_m
going-first sort s = record {
  kept = record { same = refl; long = refl; behind = refl };
  fuel = (state_of s).limit;
  enough = omega arith;
  on = refl;
}

-- one more part was read
pub going_on : (sort : Sort) (s t u : Reader) (n : Next) (q x : ℕ) → Going sort s t → Kept t u
    → steps (state_of t).text t.words.at ≡ step_in (state_of t).text n q → false ≡ is_mark mk.End n
    → from_m sort n 49 (moved (state_of t) q) ≡ done x (state_of u)
    → Going sort s u × ((state_of s).limit - u.used < (state_of s).limit - t.used)
going_on sort s t u n q x g k h i d = go g.fuel g.enough g.on
  where
    l : (state_of t).limit ≡ (state_of s).limit
    l = ap (λ m. min m 65535) g.kept.long

    go : (fuel : ℕ) → (state_of s).limit < t.used + suc fuel → many_m sort (state_of s) ≡ many_f (suc fuel) sort (state_of t)
        → Going sort s u × ((state_of s).limit - u.used < (state_of s).limit - t.used)
    go zero e o = let m = many_more sort zero (state_of t) n q x (state_of u) h i d in absurd (omega (arith, l, m.1, m.2, e))
    go (suc fuel) e o =
        let m = many_more sort (suc fuel) (state_of t) n q x (state_of u) h i d in (
          record {
            kept = record {
              same = k.same ∙ g.kept.same;
              long = k.long ∙ g.kept.long;
              behind = k.behind
                  ∙ g.kept.behind;
            };
            fuel = fuel;
            enough = omega (arith, m.1, e);
            on = o ∙ m.0;
          },
          omega (arith, l, m.1, m.2),
        )

-- the turns of the loop: s is the reader at the start, t before the turn, t1 behind the next word, u at the end of the turn
module _ (sort : Sort) (s t t1 : Reader) (g : Going sort s t) where
  pub turn-fault : (f : Fault) → NextDone (Err f) t t1 → Gave (many_m sort (state_of s)) (Err f) t1
  turn-fault f p =
      let e = g.on ∙ many-fault sort g.fuel (state_of t) _ _ p.0 in
      rw e (ap Some p.1)

  pub turn-closed : (n : Next) → NextDone (Ok n) t t1 → true ≡ is_mark mk.End n → Gave (many_m sort (state_of s)) (Ok tt) t1
  turn-closed n p i =
      let e = g.on ∙ many-closed sort g.fuel (state_of t) n t1.words.at p.0 i in
      rw e (record { result = refl; state = p.2 })

  pub turn-refused : (n : Next) (f : Fault) (u : Reader) → NextDone (Ok n) t t1 → false ≡ is_mark mk.End n
      → Gave (from_m sort n 49 (state_of t1)) (Err f) u → Gave (many_m sort (state_of s)) (Err f) u
  turn-refused n f u p i d =
      let r = gave-err (from_m sort n 49 (state_of t1)) f u d in
      let e = g.on ∙ many-refused sort g.fuel (state_of t) n t1.words.at r.0 r.1 p.0 i (ap (from_m sort n 49) (sym p.2)
      ∙ r.2) in
      rw e r.3

  pub turn-ok : (n : Next) (x : ℕ) (u : Reader) → Kept t t1 → NextDone (Ok n) t t1 → false ≡ is_mark mk.End n → Kept t1 u
      → Gave (from_m sort n 49 (state_of t1)) (Ok x) u
      → Going sort s u × ((state_of s).limit - u.used < (state_of s).limit - t.used)
  turn-ok n x u k p i k1 d =
      going_on sort s t u n t1.words.at x g (kept_then t t1 u k k1) p.0 i (ap (from_m sort n 49) (sym p.2)
      ∙ gave-ok (from_m sort n 49 (state_of t1)) x u d)
