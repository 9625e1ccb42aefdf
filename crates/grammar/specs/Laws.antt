-- The laws of reading. Each is the contract of a function, so that its proof is asked for.
use Rattle.std.specs.Prelude.{◌≡◌, ℕ, ◌-◌, ◌≤◌, ◌↔◌, List, [], ◌∷◌, ◌++◌, length, replicate, Some, Ok, Err, Result}
use Rattle.grammar.specs.Syntax.{Sheet, size, count}
use Rattle.grammar.specs.Productions.{Word, place_of}
use Rattle.grammar.specs.Reading.{reading, steps, good, bad, Step, end, word, fault}
use Rattle.grammar.specs.Derives.{Along, Spells}
use Rattle.grammar.specs.Grammar.{SheetWords, levels_s}
use Rattle.grammar.specs.declared.tree.Node.{Node}
use Rattle.grammar.specs.declared.tree.Node.TheVariants as node
use Rattle.grammar.specs.Table.{nodes_s, laid, lay_s, sheet_at, SpelledS}
use Rattle.grammar.specs.declared.faults.Fault.{Fault}
use Rattle.grammar.specs.Faults.{refusal_of}
use Rattle.grammar.specs.Read.{close_of, IsRead}
use Rattle.grammar.specs.Plain.{plain}
use Rattle.grammar.specs.Plan.{plan_of}
use Rattle.language.specs.Tree.{SheetStands}

-- The text's words are this sheet by the grammar, and no limit is passed.
pub record Lawful (n : ℕ) (text : List ℕ) (s : Sheet) (e : ℕ) : Type 0 where
  pub short : length text ≤ 32768
  pub words : List Word
  pub spells : Spells (steps text) 0 words e
  pub derives : SheetWords words s
  pub nests : levels_s s ≤ 48
  pub modules : count s.modules ≤ 32
  pub fits : size s ≤ n

-- A text's words end at its length, trailing blanks and comments included.
abbrev pub EndsLast : Type 0
EndsLast = (text : List ℕ) (q : ℕ) (ws : List Word) (e : ℕ) → Along (steps text) 0 q ws → steps text q ≡ end e → e ≡ length text

-- A text is read as a sheet exactly when its words are that sheet by the grammar, within the limits.
abbrev pub ReadsExactly : Type 0
ReadsExactly = (n : ℕ) (text : List ℕ) (s : Sheet) (e : ℕ) → (reading n text ≡ good s e) ↔ Lawful n text s e

-- The same words are one sheet at most.
abbrev pub OneReading : Type 0
OneReading = (ws : List Word) (s t : Sheet) → SheetWords ws s → SheetWords ws t → s ≡ t

-- What may follow where a step was refused at e: the word there and anything behind it, or, at the end, nothing; F of all that.
abbrev pub Stops : Step → ℕ → (List Word → Type 0) → Type 0
Stops (end z) e F = (e ≡ z) × F []
Stops (word w m) e F = (e ≡ place_of w) × ((vs : List Word) → F (w ∷ vs))
Stops (fault k z) e F = ⊥

-- The words before the refused one are the beginning of some sheet, and with it no sheet goes on; at the text's end, they are no sheet.
-- Limits are apart.
pub record Refused (text : List ℕ) (e : ℕ) : Type 0 where
  pub before : List Word
  pub at : ℕ
  pub along : Along (steps text) 0 at before
  pub begins : (vs : List Word) × (s : Sheet) × SheetWords (before ++ vs) s
  pub stops : Stops (steps text at) e (λ us. (s : Sheet) → SheetWords (before ++ us) s → ⊥)

-- A refusal 5 stands at the first word with which no sheet goes on.
abbrev pub RefusesFirst : Type 0
RefusesFirst = (n : ℕ) (text : List ℕ) (e : ℕ) → reading n text ≡ bad 5 e → Refused text e

-- A table of n blank places in which a sheet's nodes were laid from place 0 on stands for that sheet, its closing expression in the last
-- of them.
abbrev pub StandsFor : Type 0
StandsFor = (n : ℕ) (text : List ℕ) (s : Sheet) → size s ≤ n → levels_s s ≤ 48 → SpelledS text s
    → sheet_at text (laid 0 (nodes_s s) (replicate n node.Blank)) (size s - 1) ≡ Some s

-- What a reader does to a table is to lay the sheet's nodes in it.
abbrev pub LaysNodes : Type 0
LaysNodes = (s : Sheet) (ns : List Node) → lay_s s ns ≡ laid 0 (nodes_s s) ns

-- The names of a sheet that was read are the parts of the text at their places.
abbrev pub ReadsSpelled : Type 0
ReadsSpelled = (n : ℕ) (text : List ℕ) (s : Sheet) (e : ℕ) → reading n text ≡ good s e → SpelledS text s

-- So a table of n blank places in which the sheet that was read is laid stands for it.
abbrev pub TreeStands : Type 0
TreeStands = (n : ℕ) (text : List ℕ) (s : Sheet) (e : ℕ) → reading n text ≡ good s e
    → sheet_at text (lay_s s (replicate n node.Blank)) (size s - 1) ≡ Some s

-- What an answer means by the grammar: a text is read exactly when its words are a sheet within the limits, and a refusal 5 stands at the
-- first word with which no sheet goes on.
abbrev pub Judged : ℕ → List ℕ → Result ℕ Fault → Type 0
Judged n text (Ok close) = (s : Sheet) × Lawful n text s (length text) × (close ≡ close_of s)
Judged n text (Err f) = ((s : Sheet) (e : ℕ) → Lawful n text s e → ⊥) × ((refusal_of f).number ≡ 5 → Refused text (refusal_of f).place)

-- The plan of the nodes of a sheet that was read stands for that sheet, places forgotten.
abbrev pub PlanStands : Type 0
PlanStands = (n : ℕ) (text : List ℕ) (s : Sheet) (e : ℕ) → reading n text ≡ good s e
    → SheetStands (plan_of text (nodes_s s) (close_of s)) (plain s)

-- What a read sheet holds: the one sheet that its text is read as; its tree and the plan of its tree stand for it.
pub record Holds (text : List ℕ) (tree : List Node) (close : ℕ) : Type 0 where
  pub sheet : Sheet
  pub lawful : Lawful 65535 text sheet (length text)
  pub nodes : tree ≡ nodes_s sheet
  pub stands : sheet_at text tree close ≡ Some sheet
  pub plan : SheetStands (plan_of text tree close) (plain sheet)

-- A read sheet holds all that.
abbrev pub ReadHolds : Type 0
ReadHolds = (text : List ℕ) (tree : List Node) (close : ℕ) → IsRead text tree close → Holds text tree close
