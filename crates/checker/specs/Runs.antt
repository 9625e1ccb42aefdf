-- The whole check on the tables.
use Rattle.std.specs.Prelude.{◌≡◌, ℕ, List, length, take, drop, replicate, Some, Ok, Err, Result}
use Rattle.std.specs.List.{slice_get}
use Rattle.language.specs.Pantry.{Stock}
use Rattle.language.specs.Typing.{ExpandedType}
use Rattle.pantry.specs.declared.entries.Entry.{Entry}
use Rattle.grammar.specs.declared.tree.Node.{Node}
use Rattle.grammar.specs.Syntax.{Exp, Sheet}
use Rattle.grammar.specs.Table.{exp_at, modules_of}
use Rattle.rules.specs.declared.faults.CheckFault.{CheckFault}
use Rattle.rules.specs.Forms.{Out, bad, good}
use Rattle.rules.specs.Rules as rules
use Rattle.rules.specs.Checking.{checking}
use Rattle.rules.specs.Laws.{checking_modules}
use Rattle.typing.specs.declared.types.TypeEntry.{TypeEntry}
use Rattle.typing.specs.declared.types.TypeEntry.TheVariants as entry
use Rattle.typing.specs.declared.types.Slot.{Slot}
use Rattle.typing.specs.declared.types.Slot.TheVariants as slot
use Rattle.typing.specs.Stands.{Rows, Stands}
use Rattle.typing.specs.Tables.{State}
use Rattle.checker.specs.Sheets.{places}
use Rattle.checker.specs.Stocks.{stock_in}
use Rattle.checker.specs.Modules.{Declared}

abbrev pub state_in : List TypeEntry → ℕ → List Slot → State
state_in types count slots = record { types = types; count = count; slots = slots }

-- Where the check of the modules came to m, the scope table has their declarations in its first `used` places.
pub record Declarations (text : List ℕ) (m : Out (List ExpandedType) rules.Scope) (us : List ExpandedType) (used : ℕ) (slots : List Slot) : Type 0 where
  pub scope : rules.Scope
  pub told : List ExpandedType
  pub came_to : m ≡ good scope told
  pub used_are : used ≡ scope.used
  pub declared : Declared text us slots used scope.modules

-- the check passed with the type a: it is told by its number; the type table stands for the types us in their order, and is as before behind them
pub record Passed (text : List ℕ) (tp sp : ℕ) (base : List TypeEntry) (m : Out (List ExpandedType) rules.Scope) (a : ExpandedType) (us : List ExpandedType) (r : Result (ℕ × ℕ) CheckFault)
    (types : List TypeEntry) (slots : List Slot) : Type 0 where
  pub number : ℕ
  pub used : ℕ
  pub types_then : ℕ
  pub result : r ≡ Ok (number, used)
  pub tells : slice_get us number ≡ Some a
  pub stands : Stands text tp sp base (state_in types types_then slots) us
  pub declarations : Declarations text m us used slots

abbrev pub Answers : (text : List ℕ) (tp sp : ℕ) (base : List TypeEntry) → Out (List ExpandedType) rules.Scope → Out (List ExpandedType) ExpandedType →
    Result (ℕ × ℕ) CheckFault → List TypeEntry → List Slot → Type 0
Answers text tp sp base m (bad f) r types slots = r ≡ Err f
Answers text tp sp base m (good a us) r types slots = Passed text tp sp base m a us r types slots

-- what the check of a sheet answers, with tables of so many places
abbrev pub AnswersFor : (text : List ℕ) (tp sp : ℕ) (base : List TypeEntry) → Stock → Sheet → Result (ℕ × ℕ) CheckFault → List TypeEntry → List Slot → Type 0
AnswersFor text tp sp base kinds sheet r types slots =
    Answers text tp sp base (checking_modules kinds tp sp sheet.modules) (checking kinds tp sp sheet) r types slots

-- what the check of the sheet in the tree answers
abbrev pub AfterAll : (text : List ℕ) (tree : List Node) (close : ℕ) → List Entry → List TypeEntry → List Slot → Result (ℕ × ℕ) CheckFault → List TypeEntry → List Slot → Type 0
AfterAll text tree close entries types slots r types' slots' = (e : Exp) → exp_at 48 text tree close ≡ Some e →
    AnswersFor text (places types) (places slots) types (stock_in entries) (record { modules = modules_of text tree tree; closing = e }) r types' slots'

-- a table of so many blank places
abbrev pub blank_types : List TypeEntry → List TypeEntry
blank_types types = replicate (length types) entry.Blank

abbrev pub blank_slots : List Slot → List Slot
blank_slots slots = replicate (length slots) slot.Blank

-- the same from blank tables
abbrev pub AfterBlank : (text : List ℕ) (tree : List Node) (close : ℕ) → List Entry → List TypeEntry → List Slot → Result (ℕ × ℕ) CheckFault → List TypeEntry → List Slot → Type 0
AfterBlank text tree close entries types slots r types' slots' =
    AfterAll text tree close entries (blank_types types) (blank_slots slots) r types' slots'

-- The check passed with the type a: it is told by its number; the type table has the types us in their order, and the scope table the
-- declarations; behind them both are blank.
pub record Passes (text : List ℕ) (m : Out (List ExpandedType) rules.Scope) (a : ExpandedType) (us : List ExpandedType) (r : Result ℕ CheckFault)
    (no_types : List TypeEntry) (no_slots : List Slot) (types : List TypeEntry) (slots : List Slot) : Type 0 where
  pub number : ℕ
  pub used : ℕ
  pub result : r ≡ Ok number
  pub tells : slice_get us number ≡ Some a
  pub rows : Rows text us (take (length us) types) us
  pub types_rest : drop (length us) types ≡ drop (length us) no_types
  pub declarations : Declarations text m us used slots
  pub slots_rest : drop used slots ≡ drop used no_slots

-- the answer and both tables, by the outcome of the definition, where no_types and no_slots are the tables when blank; a refusal leaves them so
abbrev pub Ends : (text : List ℕ) → Out (List ExpandedType) rules.Scope → Out (List ExpandedType) ExpandedType → Result ℕ CheckFault →
    (no_types : List TypeEntry) (no_slots : List Slot) → List TypeEntry → List Slot → Type 0
Ends text m (bad f) r no_types no_slots types slots = (r ≡ Err f) × (types ≡ no_types) × (slots ≡ no_slots)
Ends text m (good a us) r no_types no_slots types slots = Passes text m a us r no_types no_slots types slots

-- what the check of a sheet comes to, with tables of so many places
abbrev pub EndsFor : (text : List ℕ) → Stock → (tp sp : ℕ) → Sheet → Result ℕ CheckFault → (no_types : List TypeEntry) (no_slots : List Slot) →
    List TypeEntry → List Slot → Type 0
EndsFor text kinds tp sp sheet r no_types no_slots types slots =
    Ends text (checking_modules kinds tp sp sheet.modules) (checking kinds tp sp sheet) r no_types no_slots types slots

-- the same of the sheet in the tree, where every place of the tables is blanked
abbrev pub Checked : (text : List ℕ) (tree : List Node) (close : ℕ) → List Entry → List TypeEntry → List Slot → Result ℕ CheckFault → List TypeEntry → List Slot → Type 0
Checked text tree close entries types slots r types' slots' = (e : Exp) → exp_at 48 text tree close ≡ Some e →
    EndsFor text (stock_in entries) (places types) (places slots) (record { modules = modules_of text tree tree; closing = e }) r (blank_types types) (blank_slots slots) types' slots'
