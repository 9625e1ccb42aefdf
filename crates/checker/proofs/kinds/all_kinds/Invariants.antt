use Rattle.std.proofs.Common.{ℕ, List}
use Rattle.language.specs.Typing.{ExpandedType}
use Rattle.typing.specs.Tables.{state_of, Kept}
use Rattle.checker.specs.Sheets.{Base}
use Rattle.checker.specs.Kinds.{Begun, Entering}
use Rattle.checker.proofs.kinds.all_kinds.Given as goal

abbrev pub invariant-loop-i : goal.invariant-loop-i
invariant-loop-i l = Kept l.initial.tables l.tables × ((base : Base) (tp sp : ℕ) (ts : List ExpandedType) →
    Begun l.initial.tables.given.text.now base tp sp (state_of l.initial.tables) ts →
    Entering l.initial.tables.given.text.now base tp sp l.entries ts l.i l.known (state_of l.tables))
