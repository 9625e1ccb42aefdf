-- The safety law as it stands on the call that opens a job.
use Rattle.std.specs.Prelude.{◌≡◌, ℕ, List}
use Rattle.language.specs.Syntax as language
use Rattle.language.specs.Tree.{Plan, SheetStands}
use Rattle.language.specs.Typing.{ExpandedType}
use Rattle.language.specs.Pantry.{Pantry, Stock, stock_of, Lawful}
use Rattle.language.specs.Job.{Suits}
use Rattle.language.specs.Safety.{Passes, Safe}
use Rattle.grammar.specs.declared.tree.Node.{Node}
use Rattle.grammar.specs.Syntax.{Sheet}
use Rattle.grammar.specs.Plain.{plain}
use Rattle.grammar.specs.Plan.{plan_of}
use Rattle.grammar.specs.Reading.{good, reading}
use Rattle.grammar.specs.Read.{IsRead}
use Rattle.rules.specs.Checking.{checking}
use Rattle.rules.specs.Laws.{Passed, Exceeds, BodyExchanged, Accepted}
use Rattle.typing.specs.Told.{type_told}
use Rattle.checker.specs.declared.passes.Pass.{Pass}
use Rattle.checker.specs.Stocks.{stock_in}
use Rattle.checker.specs.Passes.{sheet_in}
use Rattle.job.specs.Jobs.{plan_for}

-- The plan stands for the sheet, the rules give the sheet the type r, hidden types are read as their modules define them, and so every
-- log of its jobs is sound: no answer is stop 29, and every closing value fits r in the cells as the answering call left them.
pub record JobsSound (plan : Plan) (stock : Stock) (sheet : language.Sheet) (r : ExpandedType) : Type 0 where
  pub stands : SheetStands plan sheet
  pub passes : Passes stock sheet r
  pub safe : Safe passes

-- Whatever text is read as the sheet but for the body of one module, and for places: where that module's interface accepts the new body,
-- and no limit or table is exceeded, it passes the check with the same type, and every log of its jobs is sound.
abbrev pub Exchanged : Stock → Sheet → ExpandedType → Type 0
Exchanged stock sheet r = (text : List ℕ) (sheet' : Sheet) (end : ℕ) → reading 65535 text ≡ good sheet' end →
    (nodes : List Node) (close : ℕ) → IsRead text nodes close →
    (x : BodyExchanged sheet sheet') (type_places scope_places : ℕ) → Accepted stock type_places scope_places x →
    ¬ (Exceeds (checking stock type_places scope_places sheet')) →
    Passed stock type_places scope_places sheet' r × JobsSound (plan_of text nodes close) stock (plain sheet') r

-- the names and kinds that the pass was checked with
abbrev pub stock_for : Pass → Stock
stock_for p = stock_in p.entries.now

-- the type that it was checked to have
abbrev pub type_for : Pass → ExpandedType
type_for p = type_told p.sheet.text.now p.types.now p.number

-- The law, for the sheet of the pass and its type: its jobs are sound, and so are those of every sheet with one body exchanged. The
-- pantries that suit are, among others, all lawful ones of the names and kinds that the pass was checked with.
pub record SafeRuns (p : Pass) : Type 0 where
  pub sound : JobsSound (plan_for p) (stock_for p) (plain (sheet_in p.sheet.text.now)) (type_for p)
  pub exchanged : Exchanged (stock_for p) (sheet_in p.sheet.text.now) (type_for p)
  pub lawful : (pantry : Pantry) → Lawful pantry → stock_of pantry ≡ stock_for p → Suits (stock_for p) pantry
