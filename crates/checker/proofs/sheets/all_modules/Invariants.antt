use Rattle.std.proofs.Common.{◌+◌, ◌-◌, ◌≤◌, List, length, drop}
use Rattle.language.specs.Typing.{ExpandedType}
use Rattle.grammar.specs.Syntax.{count}
use Rattle.grammar.specs.Table.{modules_of}
use Rattle.typing.specs.Tables.{state_of, Kept}
use Rattle.checker.specs.Sheets.{places, Base, RulesScope, Start, Going}
use Rattle.checker.proofs.sheets.all_modules.Given as goal

abbrev pub invariant-loop-end : goal.invariant-loop-end
invariant-loop-end l =
    let w = l.initial.tables.given in
    let s = state_of l.initial.tables in
    Kept l.initial.tables l.tables × (l.at.modules + count (modules_of w.text.now w.tree.now (drop l.at.start w.tree.now)) ≤ length l.interfaces) ×
    ((base : Base) (h : RulesScope) (ts : List ExpandedType) → Start w.text.now base w.entries.now s ts h →
    Going w.text.now w.tree.now base w.entries.now (places s.types) (places s.slots) h ts l.interfaces (state_of l.tables) l.at)

abbrev pub decreases-loop-end : goal.decreases-loop-end
decreases-loop-end l = length l.tree - l.at.start
