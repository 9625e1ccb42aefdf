-- What the public check answers, leaves and promises, on tables of any length and content.
use Rattle.std.specs.Prelude.{◌≡◌, ℕ, true, ◌⊎◌, List, ◌++◌, drop, replicate, Ok, Err, Result}
use Rattle.language.specs.Pantry.{Stock}
use Rattle.language.specs.Typing.{ExpandedType}
use Rattle.grammar.specs.Syntax.{Sheet}
use Rattle.grammar.specs.Plain.{plain}
use Rattle.grammar.specs.Reading.{good, reading}
use Rattle.rules.specs.declared.faults.CheckFault.{CheckFault}
use Rattle.rules.specs.Needs.{Within}
use Rattle.rules.specs.Checking.{checking}
use Rattle.rules.specs.Laws.{Typed, Passed, Exceeds, Lacks, BodyExchanged, Accepted}
use Rattle.typing.specs.declared.types.TypeEntry.{TypeEntry}
use Rattle.typing.specs.declared.types.TypeEntry.TheVariants as entry
use Rattle.typing.specs.declared.types.Slot.{Slot}
use Rattle.typing.specs.declared.types.Slot.TheVariants as slot
use Rattle.typing.specs.Told.{type_told}
use Rattle.checker.specs.Passes.{sheet_in, passes_with}
use Rattle.checker.specs.Sheets.{places}
use Rattle.checker.specs.Runs.{EndsFor}

-- a table with its first 65,535 places blank
abbrev pub blanked : {A : Type 0} → A → List A → List A
blanked b xs = replicate (places xs) b ++ drop 65535 xs

-- The answer and both tables are those of the check of the text's sheet, with a pantry of these names and kinds and as many places as
-- the tables have, 65,535 at most. What lies behind those places is as it was.
abbrev pub Answered : Stock → (text : List ℕ) → Result ℕ CheckFault → (types : List TypeEntry) (slots : List Slot) (types' : List TypeEntry) (slots' : List Slot) → Type 0
Answered stock text r types slots types' slots' =
    EndsFor text stock (places types) (places slots) (sheet_in text) r (blanked entry.Blank types) (blanked slot.Blank slots) types' slots'

-- An answer Ok promises that the sheet passes with the type that the number tells: what the call that makes the pass asks for.
abbrev pub Promised : Stock → (text : List ℕ) → Result ℕ CheckFault → List TypeEntry → Type 0
Promised stock text (Ok k) types = passes_with stock text types k ≡ true
Promised stock text (Err f) types = Unit {0}

-- What the answer says by the rules of types. The sheet passes with a type exactly when the rules give it that type and no limit or table is
-- exceeded. Where it is refused, it has no type or lacks what the refusal says: with 8 to 14 it has none.
abbrev pub Judged : Stock → (tp sp : ℕ) → (text : List ℕ) → Result ℕ CheckFault → List TypeEntry → Type 0
Judged stock tp sp text (Ok k) types = Typed stock (sheet_in text) (type_told text types k) × Within stock tp sp (plain (sheet_in text))
Judged stock tp sp text (Err f) types = ((r : ExpandedType) → Typed stock (sheet_in text) r → Within stock tp sp (plain (sheet_in text)) → ⊥) ×
    ((r : ExpandedType) → Typed stock (sheet_in text) r → Lacks stock tp sp (plain (sheet_in text)) f)

-- Whatever text is read as this sheet but for the body of one module, and for places, where that module's interface accepts the new body: with
-- the same pantry and tables it passes with the same type, or a limit or a table is exceeded.
abbrev pub Exchanged : Stock → (tp sp : ℕ) → (text : List ℕ) → Result ℕ CheckFault → List TypeEntry → Type 0
Exchanged stock tp sp text (Ok k) types = (text' : List ℕ) (sheet' : Sheet) (end : ℕ) → reading 65535 text' ≡ good sheet' end →
    (x : BodyExchanged (sheet_in text) sheet') → Accepted stock tp sp x →
    Passed stock tp sp sheet' (type_told text types k) ⊎ Exceeds (checking stock tp sp sheet')
Exchanged stock tp sp text (Err f) types = Unit {0}
