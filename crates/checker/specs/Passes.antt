-- The sheet of a text, and when it passes with the type that a number of the type table tells. Assumes nothing.
use Rattle.std.specs.Prelude.{ℕ, Bool, List, [], pos}
use Rattle.language.specs.Pantry.{Stock}
use Rattle.language.specs.Safety.{passes_as}
use Rattle.grammar.specs.Syntax.{Sheet, number}
use Rattle.grammar.specs.Plain.{plain}
use Rattle.grammar.specs.Reading.{Out, bad, good, reading}
use Rattle.typing.specs.declared.types.TypeEntry.{TypeEntry}
use Rattle.typing.specs.Told.{type_told}

-- the sheet that was read; where a text is refused there is none, and 0 stands for it
abbrev pub sheet_read : Out Sheet → Sheet
sheet_read (bad k e) = record { modules = []; closing = number 0 (pos 0) }
sheet_read (good s e) = s

-- the sheet that a text is read as
abbrev pub sheet_in : List ℕ → Sheet
sheet_in text = sheet_read (reading 65535 text)

-- with a pantry of these names and kinds, the rules give the text's sheet the type that the number tells
abbrev pub passes_with : Stock → List ℕ → List TypeEntry → ℕ → Bool
passes_with stock text types k = passes_as stock (plain (sheet_in text)) (type_told text types k)
