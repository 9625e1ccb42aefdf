-- Which action the rules ask for, as code decides it.
use Rattle.std.specs.Prelude.{◌≡◌, ℕ, List, Option as Maybe}
use Rattle.std.proofs.Math.Option.{Option}
use Rattle.words.specs.Names.{Name}
use Rattle.language.specs.Step.{on_node}
use Rattle.language.specs.Pantry.{Pantry}
use Rattle.language.specs.Tree as tree
use Rattle.language.specs.Machine as machine
use Rattle.grammar.specs.Plan.{plan_of}
use Rattle.grammar.specs.declared.sheet.ReadSheet.{ReadSheet}
use Rattle.job.specs.declared.actions.Action.{Action}
use Rattle.job.specs.Maps.{decided}

-- whatever the text, and whatever the place of the top frame
abbrev pub Asks : Maybe Action → (List ℕ → ℕ → Option machine.Action) → Type 0
Asks r f = (text : List ℕ) (d : ℕ) → decided text d r ≡ f text d

-- what a job of the sheet reads, with a pantry of this meaning
abbrev pub program_in : ReadSheet → Pantry → machine.Program
program_in s p = machine.program_of (plan_of s.text.now s.tree.now s.close) p

-- the program with this pantry
abbrev pub stocked : Pantry → machine.Program → machine.Program
stocked m w = record { tree = w.tree; close = w.close; pantry = m }

-- whatever the tree and its closing expression
abbrev pub AsksWith : Pantry → Maybe Action → (ℕ → machine.Program → Option machine.Action) → Type 0
AsksWith m r f = (text : List ℕ) (d : ℕ) (w : machine.Program) → decided text d r ≡ f d (stocked m w)

-- `from m take x`, for names m and x
abbrev pub on_qualified : machine.Program → machine.Store → machine.Registers → Name → Name → Option machine.Action
on_qualified w s r m x = on_node w s r 0 0 (tree.qualified_node m x)
