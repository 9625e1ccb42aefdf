-- The types of the pantry's entries on the tables.
use Rattle.std.specs.Prelude.{◌≡◌, ℕ, List, ◌∷◌, length, take, drop, Some, Ok, Err, Result}
use Rattle.std.specs.List.{slice_get}
use Rattle.language.specs.Typing.{ExpandedType, int, bool, stock_types}
use Rattle.pantry.specs.declared.entries.Kind.{Kind}
use Rattle.pantry.specs.declared.entries.Kind.TheVariants as kind
use Rattle.pantry.specs.declared.entries.Entry.{Entry}
use Rattle.rules.specs.declared.faults.CheckFault.{CheckFault}
use Rattle.rules.specs.Forms.{Out, bad, good, give, ◌>>◌}
use Rattle.rules.specs.Checking.{enter_all, kind_types}
use Rattle.typing.specs.declared.types.TypeEntry.{TypeEntry}
use Rattle.typing.specs.declared.types.TypeEntry.TheVariants as entry
use Rattle.typing.specs.declared.types.Known.{Known}
use Rattle.typing.specs.Tables.{State, adding, arrow_n}
use Rattle.typing.specs.Stands.{Stands, Stocks}
use Rattle.checker.specs.Stocks.{stock_in}

-- the number of the type of an entry of that kind
abbrev pub kind_n : List ℕ → Kind → State → Out State ℕ
kind_n text kind.Figure = give 0
kind_n text kind.Flag = give 1
kind_n text kind.FigureByItem = arrow_n text 0 0 0
kind_n text kind.FlagByItem = arrow_n text 0 0 1

-- `int` and `bool` stand at their places
pub record Begun (text : List ℕ) (base : List TypeEntry) (tp sp : ℕ) (s : State) (ts : List ExpandedType) : Type 0 where
  pub stands : Stands text tp sp base s ts
  pub int_is : slice_get ts 0 ≡ Some int
  pub bool_is : slice_get ts 1 ≡ Some bool

-- on the way through the entries: those before i are known, and what is left to enter from here is left of the whole
pub record Entering (text : List ℕ) (base : List TypeEntry) (tp sp : ℕ) (entries : List Entry) (ts : List ExpandedType) (i : ℕ) (known : List Known) (s : State) : Type 0 where
  pub told : List ExpandedType
  pub begun : Begun text base tp sp s told
  pub stocks : Stocks told (take i known) (stock_types (stock_in (take i entries)))
  pub rest : enter_all tp sp (kind_types (stock_in entries)) ts ≡ enter_all tp sp (kind_types (stock_in (drop i entries))) told

-- what comes of all entries
abbrev pub AfterKinds : (text : List ℕ) (base : List TypeEntry) (tp sp : ℕ) → List Entry → Out (List ExpandedType) Unit → Result Unit CheckFault → List Known → State → Type 0
AfterKinds text base tp sp entries (bad f) r known s = r ≡ Err f
AfterKinds text base tp sp entries (good x us) r known s =
    (r ≡ Ok tt) × Begun text base tp sp s us × Stocks us (take (length entries) known) (stock_types (stock_in entries))

-- `int` and `bool` on the tables
abbrev pub first_n : State → Out State Unit
first_n = adding 0 entry.Int >> (adding 0 entry.Bool >> give tt)

-- the types that come into the table before anything of a sheet
abbrev pub first_types : List Entry → List ExpandedType
first_types entries = int ∷ bool ∷ kind_types (stock_in entries)
