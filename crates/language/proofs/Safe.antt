-- Type safety, from the tasks that a typed sheet gives and the invariant that every step keeps.
use Rattle.std.proofs.Common.{◌≡◌, ℕ, zero, suc, min, List, [], ◌∷◌, ◌++◌, map, length, get_or, take, replicate, refl, arith, length-take}
use lib.ListN.{length-replicate}
use Rattle.language.specs.Syntax.{Sheet}
use Rattle.language.specs.Tree.{Plan, SheetStands}
use Rattle.language.specs.Typing.{ExpandedType, stock_types, Interfaces, Environment}
use Rattle.language.specs.Reading.{reveal_modules, reveal_environment}
use Rattle.language.specs.Modules.{ModulesTyped, sees_of}
use Rattle.language.specs.Pantry.{Stock, Pantry}
use Rattle.language.specs.Scopes.{table_limit}
use Rattle.language.specs.Machine.{
  Cell,
  blank_cell,
  Frame,
  Store,
  store_of,
  Reason,
  no_cell,
  no_frame,
  too_large,
  divide_by_zero,
  no_rule,
  no_answer,
  stop_number,
}
use Rattle.language.specs.Job.{
  Status,
  running,
  finished,
  stopped,
  answer_for,
  Moment,
  blanked,
  opened,
  Calls,
  no_call,
  finish,
  status,
  advance,
  log,
  AllSuit,
  Reached,
  r_open,
  r_advance,
  answer_of,
  after,
  Suits,
}
use Rattle.language.specs.Fits.{Setting}
use Rattle.language.specs.Points.{ProgramPoint, points_of}
use Rattle.language.specs.Safety.{
  Passes,
  reading_in,
  Sound,
  AllSound,
  setting_of,
  revealed,
  Safety,
  CallSafety,
  with_body,
  sheet_of,
  Exchange,
  WholeSafety,
}
use Rattle.language.proofs.Held.{OneExpression, h-empty, Goal}
use Rattle.language.proofs.Grow.{Free}
use Rattle.language.proofs.Invariant.{h-none, Allowed, GoodStatus}
use Rattle.language.proofs.Begins.{begin-good}
use Rattle.language.proofs.Keeps.{stepping-good}
use Rattle.language.proofs.Order.{parts-see, root-sees}
use Rattle.language.proofs.Sheet.{sheet-tasks}
use Rattle.language.proofs.Readings.{readable}
use Rattle.language.proofs.Exchanged.{exchanged}

blank-free : (n i : ℕ) → get_or (replicate n blank_cell) i blank_cell ≡ blank_cell
blank-free zero i = refl
blank-free (suc n) zero = refl
blank-free (suc n) (suc i) = blank-free n i

-- the tables of an opened job are free
opened-free : (cells : List Cell) (frames : List Frame) → Free (blanked (store_of cells frames)).cells 0
opened-free cells frames =
    let short : length (take table_limit cells) ≡ min table_limit (length cells) = length-take table_limit cells in
    let same : length (replicate (length (take table_limit cells)) blank_cell) ≡ length (take table_limit cells) =
    length-replicate (length (take table_limit cells)) blank_cell in
    (omega arith, λ i h. blank-free (length (take table_limit cells)) i)

allowed-number : (k : Reason) → Allowed k → ¬ (stop_number k ≡ 29)
allowed-number no_cell h = omega arith
allowed-number no_frame h = omega arith
allowed-number too_large h = omega arith
allowed-number divide_by_zero h = omega arith
allowed-number no_rule h = absurd h
allowed-number (no_answer i z) h = omega arith

module _ (plan : Plan) (stock : Stock) (points : List ProgramPoint) where
  abbrev there : Setting
  there = record { tree = plan.tree; stock = stock; points = points }

  module _ (one : OneExpression there) (all : Interfaces) (t : ExpandedType) where
    abbrev goal : Goal
    goal = record { close = plan.close; all = all; result = t }

    abbrev GoodAt : Moment → Type 0
    GoodAt m = GoodStatus there goal m.store m.job.status

    good-sound : (s : Store) (x : Status) (n : ℕ) → GoodStatus there goal s x → Sound there t s (answer_for x n)
    good-sound s (running r) n h = tt
    good-sound s (finished v) n h = h
    good-sound s (stopped k) n h = allowed-number k h

    good-answer : (m : Moment) → GoodAt m → Sound there t m.store (answer_of m.job)
    good-answer m h = good-sound m.store m.job.status m.job.steps h

    good-after : (p : Pantry) (a : ℕ) (m : Moment) → Suits stock p → GoodAt m → GoodAt (after plan p a m)
    good-after p a m q h = stepping-good there one p q goal a m.store m.job.status m.job.steps h

    log-sound : (m : Moment) (calls : Calls) → AllSuit stock calls → GoodAt m → AllSound there t (log plan m calls)
    log-sound m no_call q h = tt
    log-sound m finish q h = (good-answer m h, tt)
    log-sound m (status cs) q h = (good-answer m h, log-sound m cs q h)
    log-sound m (advance p a cs) (q, qs) h =
        (good-answer (after plan p a m) (good-after p a m q h), log-sound (after plan p a m) cs qs (good-after p a m q h))

    reached-good : {cells : List Cell} {frames : List Frame} {m : Moment} → GoodAt (opened plan (store_of cells frames)) →
        Reached plan stock cells frames m → GoodAt m
    reached-good h r_open = h
    reached-good h (r_advance {m = m} p a q r) = good-after p a m q (reached-good h r)

module _ {stock : Stock} {sheet : Sheet} {r : ExpandedType} (t : Passes stock sheet r) (plan : Plan) (st : SheetStands plan sheet) where
  abbrev environments : List Environment
  environments = map (reveal_environment (reading_in t)) (sees_of t.typed.modules_typed)

  abbrev points : List ProgramPoint
  points = points_of plan.tasks plan.close environments

  abbrev all : Interfaces
  all = reveal_modules (reading_in t) t.typed.all

  one-expression : OneExpression (setting_of t plan)
  one-expression = parts-see plan.tree plan.tasks plan.close environments st.inner_parts_first

  -- the opening
  opened-good : (cells : List Cell) (frames : List Frame) →
      GoodAt plan stock points one-expression all (revealed t) (opened plan (store_of cells frames))
  opened-good cells frames =
      begin-good (setting_of t plan) (goal plan stock points one-expression all (revealed t)) (blanked (store_of cells frames)) 0 [] 0
      (opened-free cells frames) h-empty h-none
      (sheet-tasks (reading_in t) st.closing_stands t.typed.closing_typed t.typed.modules_typed
      (root-sees plan.tasks plan.close environments st.roots_ascend)
      (readable t.typed.modules_typed) st.modules_stand)

  logs-sound : (cells : List Cell) (frames : List Frame) (calls : Calls) → AllSuit stock calls →
      AllSound (setting_of t plan) (revealed t) (log plan (opened plan (store_of cells frames)) calls)
  logs-sound cells frames calls q =
      log-sound plan stock points one-expression all (revealed t) (opened plan (store_of cells frames)) calls q (opened-good cells frames)

  calls-sound : (cells : List Cell) (frames : List Frame) (m : Moment) → Reached plan stock cells frames m →
      Sound (setting_of t plan) (revealed t) m.store (answer_of m.job)
  calls-sound cells frames m h =
      good-answer plan stock points one-expression all (revealed t) m
      (reached-good plan stock points one-expression all (revealed t) (opened-good cells frames) h)

pub safety : Safety
safety stock sheet r t = (readable t.typed.modules_typed, λ plan st. logs-sound t plan st)

pub call-safety : CallSafety
call-safety stock sheet r t plan st = calls-sound t plan st

pub exchange : Exchange
exchange stock sheet r t before after m body q (n, i, a) =
    let same : ModulesTyped (stock_types stock) [] (before ++ (m ∷ after)) t.typed.all = rw q at t.typed.modules_typed in
    let u : Passes stock (sheet_of (before ++ (with_body m body ∷ after)) sheet.closing) r =
    record {
      typed = record {
        all = t.typed.all;
        modules_typed = exchanged (stock_types stock) after m body before [] n t.typed.all same i a;
        closing_typed = t.typed.closing_typed;
      };
    } in
    (u, safety stock (sheet_of (before ++ (with_body m body ∷ after)) sheet.closing) r u)

pub whole-safety : WholeSafety
whole-safety stock sheet r t = (safety stock sheet r t, exchange stock sheet r t)
