-- A job: its advances and their laws, its calls, and the log of their answers.
use Rattle.std.specs.Prelude.{◌≡◌, ℕ, zero, suc, ◌+◌, ◌≤◌, min, cond, List, [], ◌∷◌, length, replicate, nat_lt}
use Rattle.language.specs.Tree.{Plan}
use Rattle.language.specs.Pantry.{Stock, Pantry, stock_of, RepliesByKind, Lawful}
use Rattle.language.specs.Machine.{
  Value,
  Cell,
  blank_cell,
  Frame,
  blank_frame,
  Store,
  store_of,
  Registers,
  Program,
  Reason,
  Outcome,
  next,
  done,
  stop,
  begin,
  program_of,
}
use Rattle.language.specs.Step.{step}

-- how a job stands: it goes on with its registers, or keeps its end
pub data Status : Type 0 where
  running : Registers → Status
  finished : Value → Status
  stopped : Reason → Status

-- a job, with the count of the steps that it has made
pub record Job : Type 0 where
  pub status : Status
  pub steps : ℕ

-- what a call answers, each with the count of steps: still going, the closing value, or a stop
pub data Answer : Type 0 where
  going_at : ℕ → Answer
  done_at : Value → ℕ → Answer
  stop_at : Reason → ℕ → Answer

-- the answer of a job that stands so, with its count of steps
abbrev pub answer_for : Status → ℕ → Answer
answer_for (running r) n = going_at n
answer_for (finished v) n = done_at v n
answer_for (stopped k) n = stop_at k n

-- the answer of a job
abbrev pub answer_of : Job → Answer
answer_of j = answer_for j.status j.steps

-- the store and the job as a call leaves them
pub record Moment : Type 0 where
  pub store : Store
  pub job : Job

-- such a moment, by its parts
abbrev pub moment : Store → Status → ℕ → Moment
moment s x n = record { store = s; job = record { status = x; steps = n } }

-- a job makes no more steps than these
abbrev pub step_limit : ℕ
step_limit = 4000000000

-- the store with every place blank
abbrev pub blanked : Store → Store
blanked s = record { cells = replicate (length s.cells) blank_cell; frames = replicate (length s.frames) blank_frame }

-- a job just opened on a store
abbrev pub opened : Plan → Store → Moment
opened plan s = moment (blanked s) (running (begin plan.close 0 [] 0 plan.tasks)) 0

-- what a step came to, at n steps: `more` goes on from the next store and registers; a step that stops is not counted
abbrev pub counting : (Store → Status → ℕ → Moment) → Store → ℕ → Outcome → Moment
counting more s n (next s' r) = more s' (running r) (suc n)
counting more s n (done v) = moment s (finished v) (suc n)
counting more s n (stop k) = moment s (stopped k) n

-- up to so many steps, within the limit; an ended job makes none
abbrev pub stepping : Program → ℕ → Store → Status → ℕ → Moment
stepping w zero s x n = moment s x n
stepping w (suc a) s (running r) n = cond (nat_lt n step_limit) (counting (stepping w a) s n (step w s r)) (moment s (running r) n)
stepping w (suc a) s (finished v) n = moment s (finished v) n
stepping w (suc a) s (stopped k) n = moment s (stopped k) n

-- an advance by an allowance, on the store that is lent
abbrev pub advancing : Program → ℕ → Store → Job → Moment
advancing w a s j = stepping w a s j.status j.steps

-- ── the laws of advances ──

-- an advance by a, and then by b on the store as that left it, is one by a + b
abbrev pub AdvancesAdd : Type 0
AdvancesAdd = (w : Program) (a b : ℕ) (s : Store) (j : Job) →
    advancing w (a + b) s j ≡ advancing w b (advancing w a s j).store (advancing w a s j).job

-- a job that has ended
abbrev pub Ended : Status → Type 0
Ended (running r) = ⊥
Ended (finished v) = Unit {0}
Ended (stopped k) = Unit {0}

-- a job that has ended stays as it is, and leaves whatever store is lent
abbrev pub EndedStays : Type 0
EndedStays = (w : Program) (a : ℕ) (s : Store) (j : Job) → Ended j.status → advancing w a s j ≡ record { store = s; job = j }

-- a job that has made all its steps stays as it is
abbrev pub SpentStays : Type 0
SpentStays = (w : Program) (a : ℕ) (s : Store) (x : Status) →
    advancing w a s (record { status = x; steps = step_limit }) ≡ record { store = s; job = record { status = x; steps = step_limit } }

-- a job that has not ended goes on
abbrev pub Going : Status → Type 0
Going (running r) = Unit {0}
Going (finished v) = ⊥
Going (stopped k) = ⊥

-- What an advance by a, from n steps on, counts: never past the limit, never more than the allowance, and all of that, up to the limit,
-- while the job goes on.
pub record Counted (n a : ℕ) (m : Moment) : Type 0 where
  pub within_limit : n ≤ step_limit → m.job.steps ≤ step_limit
  pub within_allowance : m.job.steps ≤ n + a
  pub going_on : n ≤ step_limit → Going m.job.status → m.job.steps ≡ min (n + a) step_limit

-- so counts every advance
abbrev pub StepsCounted : Type 0
StepsCounted = (w : Program) (a : ℕ) (s : Store) (j : Job) → Counted j.steps a (advancing w a s j)

-- ── logs ──

-- the calls after an opening: advances, each with a pantry and an allowance, and status calls; a finish, if there is one, is the last
pub data Calls : Type 0 where
  no_call : Calls
  finish : Calls
  status : Calls → Calls
  advance : Pantry → ℕ → Calls → Calls

-- an answer, and the store as the answering call left it
pub data Logged : Type 0 where
  logged : Store → Answer → Logged

-- the moment after an advance on the store as it stands
abbrev pub after : Plan → Pantry → ℕ → Moment → Moment
after plan p a m = advancing (program_of plan p) a m.store m.job

-- the answer at a moment
abbrev pub answer_at : Moment → Logged
answer_at m = logged m.store (answer_of m.job)

-- the log of the calls from a moment on: each advance is lent the store as the call before left it
abbrev pub log : Plan → Moment → Calls → List Logged
log plan m no_call = []
log plan m finish = answer_at m ∷ []
log plan m (status cs) = answer_at m ∷ log plan m cs
log plan m (advance p a cs) = answer_at (after plan p a m) ∷ log plan (after plan p a m) cs

-- how many calls there are
abbrev pub call_count : Calls → ℕ
call_count no_call = 0
call_count finish = 1
call_count (status cs) = suc (call_count cs)
call_count (advance p a cs) = suc (call_count cs)

-- The laws of calls. A status call and a finish answer and change nothing. Two advances one behind the other leave what one by both
-- allowances leaves, and so do all calls behind them. Once a job has ended, each call answers its end and leaves the tables.
pub record CallsLaw : Type 0 where
  pub status_keeps : (plan : Plan) (m : Moment) (cs : Calls) → log plan m (status cs) ≡ answer_at m ∷ log plan m cs
  pub finish_keeps : (plan : Plan) (m : Moment) → log plan m finish ≡ answer_at m ∷ []
  pub advances_join : (plan : Plan) (m : Moment) (p : Pantry) (a b : ℕ) (cs : Calls) →
      log plan m (advance p a (advance p b cs)) ≡ answer_at (after plan p a m) ∷ log plan m (advance p (a + b) cs)
  pub end_repeats : (plan : Plan) (m : Moment) (cs : Calls) → Ended m.job.status →
      log plan m cs ≡ replicate (call_count cs) (answer_at m)

-- a pantry of these names and kinds, that replies as they say
pub record Suits (stock : Stock) (p : Pantry) : Type 0 where
  pub same_stock : stock_of p ≡ stock
  pub by_kind : RepliesByKind p

-- every lawful pantry suits its own names and kinds
abbrev pub LawfulSuits : Type 0
LawfulSuits = (p : Pantry) → Lawful p → Suits (stock_of p) p

-- so does every pantry of these calls
abbrev pub AllSuit : Stock → Calls → Type 0
AllSuit k no_call = Unit {0}
AllSuit k finish = Unit {0}
AllSuit k (status cs) = AllSuit k cs
AllSuit k (advance p a cs) = Suits k p × AllSuit k cs

-- a moment that calls have led to from an opening on these tables, with pantries that suit
pub data Reached (plan : Plan) (stock : Stock) (cells : List Cell) (frames : List Frame) : Moment → Type 0 where
  r_open : Reached plan stock cells frames (opened plan (store_of cells frames))
  r_advance : {m : Moment} (p : Pantry) (a : ℕ) → Suits stock p → Reached plan stock cells frames m →
      Reached plan stock cells frames (after plan p a m)
