use Rattle.std.proofs.Common.{rules, subst}
use Rattle.typing.specs.declared.types.Scope.{Scope}
use Rattle.typing.specs.declared.types.Given.{Given}
use Rattle.typing.specs.Tables.{State, Gave, state_of, type_n}
use Rattle.checker.specs.Sheets.{places, AfterClosing}
use Rattle.checker.proofs.Advances.{closing-ran}
use Rattle.checker.proofs.sheets.closing.Goals as goal

pub returns-clause-goes : goal.returns-clause-goes
returns-clause-goes c = λ base h ts b.
    let w = c.args.tables.now.given in
    let s = state_of c.args.tables.now in
    let seen : Given = record { text = w.text; tree = w.tree; interfaces = c.args.interfaces; entries = w.entries } in
    subst (λ (v : State). AfterClosing w.text.now w.tree.now base (places s.types) (places s.slots) c.args.used c.args.close h ts c.type_of-ty.result v)
    (search rules)
    (closing-ran seen (places s.types) (places s.slots) base s c.args.used c.args.close h ts b c.type_of-ty.result c.type_of-ty.new.self
    (subst (λ (g : Scope). Gave (type_n seen 48 c.args.close g s) c.type_of-ty.result c.type_of-ty.new.self) c.empty_at.ensures c.type_of-ty.ensures.gives))
