-- The code's kinds, answers and entries as the language has them. Assumes nothing.
use Rattle.std.specs.Prelude.{◌≡◌, ℕ, ℤ, Some, None, Ok, Err, Option, Result}
use Rattle.std.proofs.Math.Option.{Option as Maybe, none, some}
use Rattle.language.specs.Names.{Binding, bind}
use Rattle.language.specs.Pantry.{Pantry, fetch, Reply, figure_reply, flag_reply}
use Rattle.language.specs.Pantry.{Kind as Sort, figure_kind, flag_kind, figure_by_item, flag_by_item}
use Rattle.pantry.specs.declared.entries.Kind.{Kind}
use Rattle.pantry.specs.declared.entries.Kind.TheVariants.{Figure, Flag, FigureByItem, FlagByItem}
use Rattle.pantry.specs.declared.entries.Answer.{Answer}
use Rattle.pantry.specs.declared.entries.Answer.TheVariants.{Number, Truth}
use Rattle.pantry.specs.declared.entries.Entry.{Entry}
use Rattle.pantry.specs.declared.faults.NoAnswer.{NoAnswer}

-- a kind of the code as a kind of the language
abbrev pub kind_of : Kind → Sort
kind_of Figure = figure_kind
kind_of Flag = flag_kind
kind_of FigureByItem = figure_by_item
kind_of FlagByItem = flag_by_item

-- an answer of the code as a reply of the language
abbrev pub reply_for : Answer → Reply
reply_for (Number z) = figure_reply z
reply_for (Truth b) = flag_reply b

-- what a fetch gave
abbrev pub answered : Option Answer → Maybe Reply
answered None = none
answered (Some a) = some (reply_for a)

-- the name and the kind that a pantry lists, if any
abbrev pub listed : Option Entry → Maybe (Binding Sort)
listed None = none
listed (Some e) = some (bind e.name.now (kind_of e.kind))

-- the fault that names the entry and the argument
abbrev pub no_answer : ℕ → ℤ → NoAnswer
no_answer i z = record { entry = i; argument = z }

-- what asking for entry i at z comes to
abbrev pub Asked : Pantry → ℕ → ℤ → Result Answer NoAnswer → Type 0
Asked p i z (Ok a) = fetch p i z ≡ some (reply_for a)
Asked p i z (Err f) = (fetch p i z ≡ none) × (f ≡ no_answer i z)
