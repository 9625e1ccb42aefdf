use Rattle.std.proofs.Common.{rules, subst}
use Rattle.typing.specs.Tables.{State, state_of}
use Rattle.checker.specs.Sheets.{places, AfterModule, nodes_checked}
use Rattle.checker.proofs.Advances.{module-ran}
use Rattle.checker.proofs.sheets.module_in.Goals as goal

pub returns-clause-goes : goal.returns-clause-goes
returns-clause-goes c = λ base h ts b.
    let w = c.args.tables.now.given in
    let s = state_of c.args.tables.now in
    subst (λ (v : State). AfterModule w.text.now base w.entries.now (places s.types) (places s.slots) c.args.interfaces.now c.args.m
    (nodes_checked w s c.args.m c.args.nodes.now h ts) c.module-scope.result v)
    (search rules)
    (module-ran (record { text = w.text; tree = w.tree; interfaces = c.args.interfaces; entries = w.entries })
    (places s.types) (places s.slots) base s c.args.used c.args.m c.args.nodes.now h ts c.requires b
    c.module-scope.result c.module-scope.new.tables c.module-scope.ensures.gives)
