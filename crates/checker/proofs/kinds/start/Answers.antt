use Rattle.std.proofs.Common.{List, Err, sym, ap, ◌∙◌, subst}
use Rattle.std.proofs.lemmas.Result.{err_from_is_err_and}
use Rattle.language.specs.Typing.{ExpandedType}
use Rattle.rules.specs.Forms.{Out}
use Rattle.rules.specs.Checking.{enter_all, kind_types}
use Rattle.typing.specs.declared.types.Given.{Given}
use Rattle.typing.specs.Tables.{state_of}
use Rattle.checker.specs.Stocks.{stock_in}
use Rattle.checker.specs.Kinds.{Begun, AfterKinds}
use Rattle.checker.proofs.Starts.{start_first, two}
use Rattle.checker.proofs.kinds.start.Goals as goal

pub returns-in_err-first_types-clause-goes : goal.returns-in_err-first_types-clause-goes
returns-in_err-first_types-clause-goes c =
    let e = c.in_err-first_types.ensures in
    let p = err_from_is_err_and c.from_residual.result c.from_residual.ensures.1 in
    λ base tp sp s.
    start_first c.args.tables.now.given.text.now base tp sp c.args.entries.now (state_of c.args.tables.now) s c.in_err-first_types.field-0.0 c.first_types.new.tables
    c.from_residual.result _ _ e.gives (p.1 ∙ ap Err p.2)

pub returns-clause-goes : goal.returns-clause-goes
returns-clause-goes c =
    let e = c.in_ok-first_types.ensures in
    λ base tp sp s.
    let g = two c.args.tables.now.given.text.now base tp sp c.args.entries.now (state_of c.args.tables.now) s c.first_types.new.tables e.gives in
    let b = subst (λ (w : Given). Begun w.text.now base tp sp (state_of c.first_types.new.tables) g.told) (sym e.kept.given) g.begun in
    subst (λ (o : Out (List ExpandedType) Unit). AfterKinds c.args.tables.now.given.text.now base tp sp c.args.entries.now o c.all_kinds.result
    c.all_kinds.new.known (state_of c.all_kinds.new.tables)) (sym g.is)
    (subst (λ (w : Given). AfterKinds w.text.now base tp sp c.args.entries.now (enter_all tp sp (kind_types (stock_in c.args.entries.now)) g.told) c.all_kinds.result
    c.all_kinds.new.known (state_of c.all_kinds.new.tables)) e.kept.given (c.all_kinds.ensures.goes base tp sp g.told b))
