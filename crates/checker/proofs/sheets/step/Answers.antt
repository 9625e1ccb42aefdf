use Rattle.std.proofs.Common.{◌≡◌, ℕ, ◌+◌, ◌-◌, take, drop, Ok, Err, Result, sym, ap, ◌∙◌, subst, arith}
use Rattle.std.proofs.lemmas.Result.{err_from_is_err_and}
use Rattle.rules.specs.declared.faults.CheckFault.{CheckFault}
use Rattle.typing.specs.Tables.{state_of}
use Rattle.checker.specs.declared.sheets.Progress.{Progress}
use Rattle.checker.specs.Sheets.{places, AfterModules, nodes_checked, ModuleTold}
use Rattle.checker.proofs.Advances.{part_in, kept_more, kept-bad}
use Rattle.checker.proofs.sheets.step.Goals as goal

pub module_in-requires : goal.module_in-requires
module_in-requires c =
    part_in c.args.tables.now.given.text.now c.args.tables.now.given.tree.now c.args.at.start (c.args.end - c.args.at.start) c.requires.holds (let r = c.requires.range in omega arith)

pub returns-in_err-scope-clause-goes : goal.returns-in_err-scope-clause-goes
returns-in_err-scope-clause-goes c =
    let p = err_from_is_err_and c.from_residual.result c.from_residual.ensures.1 in
    λ base h ts b.
    let w = c.args.tables.now.given in
    let s = state_of c.args.tables.now in
    let t = state_of c.module_in.new.tables in
    let z : c.args.at.modules - 0 ≡ c.args.at.modules = omega arith in
    let ns = take (c.args.end - c.args.at.start) (drop c.args.at.start w.tree.now) in
    let e = subst (λ (k : ℕ). ModuleTold w s t (take k c.args.interfaces.now) c.args.at.used c.args.name ns (Err c.in_err-scope.field-0.0)) z c.in_err-scope.ensures.goes in
    subst (λ (r : Result Progress CheckFault). AfterModules w.text.now base w.entries.now (places s.types) (places s.slots) (nodes_checked w s c.args.name ns h ts) r c.args.interfaces.now t)
    (sym (p.1 ∙ ap Err p.2))
    (kept-bad w.text.now base w.entries.now (places s.types) (places s.slots) (take c.args.at.modules c.args.interfaces.now) c.args.interfaces.now c.args.name
    c.in_err-scope.field-0.0 _ t (e base h ts b))

pub returns-clause-goes : goal.returns-clause-goes
returns-clause-goes c = λ base h ts b.
    let w = c.args.tables.now.given in
    let s = state_of c.args.tables.now in
    let t = state_of c.module_in.new.tables in
    let z : c.args.at.modules - 0 ≡ c.args.at.modules = omega arith in
    let ns = take (c.args.end - c.args.at.start) (drop c.args.at.start w.tree.now) in
    let e = subst (λ (k : ℕ). ModuleTold w s t (take k c.args.interfaces.now) c.args.at.used c.args.name ns (Ok c.in_ok-scope.scope)) z c.in_ok-scope.ensures.goes in
    kept_more w.text.now base w.entries.now (places s.types) (places s.slots) c.args.at.modules (c.args.end + 1) c.args.interfaces.now c.args.name
    c.in_ok-scope.scope _ t c.requires.room (e base h ts b)
