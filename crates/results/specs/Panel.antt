-- The line on a sheet: the whole way from the bytes of an item file and of a sheet. Assumes nothing.
use Rattle.std.specs.Prelude.{◌≡◌, ℕ, min, cond, List, length, replicate, Some, None, Ok, Err, Option, Result, nat_le}
use Rattle.language.specs.Scopes.{table_limit}
use Rattle.language.specs.Tree.{Plan}
use Rattle.language.specs.Pantry.{Pantry, stock_of}
use Rattle.language.specs.Typing.{ExpandedType}
use Rattle.language.specs.Machine.{blank_cell, blank_frame, store_of}
use Rattle.language.specs.Job.{Answer, answer_of, opened, after}
use Rattle.pantry.specs.declared.faults.LoadFault.{LoadFault}
use Rattle.pantry.specs.File.{fault, records_of}
use Rattle.pantry.specs.Items.{item_pantry}
use Rattle.grammar.specs.Faults.{refusal}
use Rattle.grammar.specs.Syntax.{Sheet}
use Rattle.grammar.specs.Table.{nodes_s}
use Rattle.grammar.specs.Read.{close_of}
use Rattle.grammar.specs.Plan.{plan_of}
use Rattle.grammar.specs.Reading as reading
use Rattle.rules.specs.Forms as check
use Rattle.rules.specs.Checking.{checking}
use Rattle.line.specs.declared.faults.TooShort.{TooShort}
use Rattle.line.specs.declared.outcomes.Refusal.{Refusal}
use Rattle.line.specs.Faults.{layer_of, check_refusal, items_refusal, line_refusal}
use Rattle.line.specs.Answers.{outcome_of}
use Rattle.line.specs.Lines.{refusal_bytes, closing_of, line_of, answer, written}
use Rattle.job.specs.Maps as job
use Rattle.results.specs.declared.setups.Setup.{Setup}
use Rattle.results.specs.declared.tables.Tables.{Tables}
use Rattle.results.specs.declared.tables.Store.{Store}
use Rattle.results.specs.declared.telling.Run.{Run}

-- how many places of a table of that length count
abbrev pub counted : ℕ → ℕ
counted n = min n table_limit

-- what a job answers to one advance by the allowance, opened on tables of so many places
abbrev pub answer_on : Plan → Pantry → (cells frames allowance : ℕ) → Answer
answer_on plan p cells frames allowance =
    answer_of (after plan p allowance (opened plan (store_of (replicate cells blank_cell) (replicate frames blank_frame)))).job

-- the line on a sheet that has this plan and the type a
abbrev pub ran_line : Pantry → Plan → (cells frames allowance : ℕ) → ExpandedType → List ℕ
ran_line p plan cells frames allowance a = line_of p a (outcome_of (answer_on plan p cells frames allowance))

-- the line on a sheet that was checked so
abbrev pub checked_line : Pantry → Plan → (cells frames allowance : ℕ) → check.Out (List ExpandedType) ExpandedType → List ℕ
checked_line p plan cells frames allowance (check.bad f) = refusal_bytes (check_refusal f)
checked_line p plan cells frames allowance (check.good a us) = ran_line p plan cells frames allowance a

-- a text that is refused with that number at that place
abbrev pub text_refusal : ℕ → ℕ → Refusal
text_refusal k at = record { number = k; place = at; layer = layer_of (refusal k at).layer }

-- the line on a text that was read so
abbrev pub read_line : Pantry → List ℕ → (types scope cells frames allowance : ℕ) → reading.Out Sheet → List ℕ
read_line p text types scope cells frames allowance (reading.bad k at) = refusal_bytes (text_refusal k at)
read_line p text types scope cells frames allowance (reading.good sheet end) =
    checked_line p (plan_of text (nodes_s sheet) (close_of sheet)) cells frames allowance
    (checking (stock_of p) (counted types) (counted scope) sheet)

-- the line on a text, with this pantry
abbrev pub text_line : Pantry → List ℕ → Setup → List ℕ
text_line p text s =
    read_line p text s.types s.scope s.cells s.frames s.allowance (reading.reading (counted s.tree) text)

-- the line on a text, where the item file is judged so
abbrev pub file_line : List ℕ → List ℕ → Setup → Option LoadFault → List ℕ
file_line file text s (Some f) = refusal_bytes (items_refusal f)
file_line file text s None = text_line (item_pantry (records_of file)) text s

-- THE LINE on an item file and a text
abbrev pub panel_line : List ℕ → List ℕ → Setup → List ℕ
panel_line file text s = file_line file text s (fault file)

-- what a program prints: the line, or that the buffer is too short for it
abbrev pub printed : List ℕ → List ℕ → Setup → List ℕ
printed file text s = cond (nat_le (length (panel_line file text s)) s.buffer) (panel_line file text s) (refusal_bytes line_refusal)

-- the line bs was written into the buffer xs, or found it too short; ys is the buffer then
pub record Wrote (bs : List ℕ) (r : Result ℕ TooShort) (xs ys : List ℕ) : Type 0 where
  pub answers : r ≡ answer bs xs
  pub leaves : ys ≡ written bs xs

-- how long the lent tables are
abbrev pub lent : Tables → Store → (buffer : ℕ) → Setup
lent t s n = record {
  tree = length t.tree.now;
  types = length t.types.now;
  scope = length t.slots.now;
  cells = length s.cells.now;
  frames = length s.frames.now;
  allowance = s.allowance;
  buffer = n;
}

-- the line on what was run, or was refused
abbrev pub told : Result Run Refusal → List ℕ
told (Ok r) = line_of (item_pantry (records_of r.pantry.file.now)) (closing_of r.closing) (outcome_of (job.answer_of r.answer))
told (Err r) = refusal_bytes r
