-- The faults of the layers, as refusals.
use Rattle.words.specs.declared.faults.Fault as words
use Rattle.words.specs.Shown.{number_of, place_of}
use Rattle.grammar.specs.declared.faults.Fault as grammar
use Rattle.grammar.specs.declared.faults.Layer.{Layer as TextLayer}
use Rattle.grammar.specs.declared.faults.Layer.TheVariants as text
use Rattle.grammar.specs.Faults as grammar_faults
use Rattle.pantry.specs.declared.faults.LoadFault.{LoadFault}
use Rattle.pantry.specs.Faults as pantry_faults
use Rattle.rules.specs.declared.faults.CheckFault.{CheckFault}
use Rattle.rules.specs.Faults as check_faults
use Rattle.line.specs.declared.outcomes.Refusal.{Refusal}
use Rattle.line.specs.declared.outcomes.Layer.{Layer}
use Rattle.line.specs.declared.outcomes.Layer.TheVariants.{Words, Grammar, Check, Items, Line}

-- a buffer that is too short
abbrev pub line_refusal : Refusal
line_refusal = record { number = 30; place = 0; layer = Line }

-- an unlawful word, or a text that is too long
abbrev pub words_refusal : words.Fault → Refusal
words_refusal f = record { number = number_of f; place = place_of f; layer = Words }

-- the layers that refuse a text
abbrev pub layer_of : TextLayer → Layer
layer_of text.Words = Words
layer_of text.Grammar = Grammar

-- a text that is no sheet
abbrev pub grammar_refusal : grammar.Fault → Refusal
grammar_refusal f =
    record { number = (grammar_faults.refusal_of f).number; place = (grammar_faults.refusal_of f).place; layer = layer_of (grammar_faults.refusal_of f).layer }

-- a sheet that does not pass the check
abbrev pub check_refusal : CheckFault → Refusal
check_refusal f = record { number = check_faults.number_of f; place = check_faults.place_of f; layer = Check }

-- an unlawful item file
abbrev pub items_refusal : LoadFault → Refusal
items_refusal f = record { number = (pantry_faults.refusal_of f).number; place = (pantry_faults.refusal_of f).place; layer = Items }
