use Rattle.std.proofs.Common.{◌≤◌, length, get_or, Ok, Err, sym, ap, ◌∙◌, subst, rules, arith}
use Rattle.std.proofs.lemmas.Result.{err_from_is_err_and}
use Rattle.grammar.specs.declared.tree.Node.TheVariants as node
use Rattle.rules.specs.Forms.{Out}
use Rattle.typing.specs.declared.types.Given.{Given}
use Rattle.typing.specs.Tables.{State, state_of, Gave}
use Rattle.checker.specs.Items.{on_item}
use Rattle.checker.proofs.InOrder.{items-on, items-bad, items-end, kept_trans}
use Rattle.checker.proofs.items.all_items.Goals as goal

pub returns-in_err-found : goal.returns-in_err-found
returns-in_err-found g c =
    let act = g.W.Way.act c.args.way.now in
    let e = c.in_err-found.ensures in
    let p = err_from_is_err_and c.from_residual.result c.from_residual.ensures.1 in
    let o = c.loop-node.invariant.1 ∙ items-bad (act c.args.tables.now.given) c.args.nodes.now c.loop-node.node-index node.Blank c.loop-node.found (state_of c.loop-node.tables) c.in_err-found.field-0.0 c.item.new.tables c.loop-node-test.true
    (subst (λ (w : Given). Gave (on_item (act w) (get_or c.args.nodes.now c.loop-node.node-index node.Blank) c.loop-node.found (state_of c.loop-node.tables)) (Err c.in_err-found.field-0.0) c.item.new.tables) c.loop-node.invariant.0.given e.gives) in
    record {
      kept = kept_trans c.args.tables.now c.loop-node.tables c.item.new.tables c.loop-node.invariant.0 e.kept;
      gives = subst (λ (x : Out State _). Gave x c.from_residual.result c.item.new.tables) (sym o) (p.1 ∙ ap Err p.2);
    }

pub loop-node-preserved : goal.loop-node-preserved
loop-node-preserved g c =
    let act = g.W.Way.act c.args.way.now in
    let e = c.in_ok-found.ensures in (
      kept_trans c.args.tables.now c.loop-node.tables c.item.new.tables c.loop-node.invariant.0 e.kept,
      c.loop-node.invariant.1 ∙ items-on (act c.args.tables.now.given) c.args.nodes.now c.loop-node.node-index node.Blank c.loop-node.found (state_of c.loop-node.tables) c.in_ok-found.found c.item.new.tables c.loop-node-test.true
          (subst (λ (w : Given). Gave (on_item (act w) (get_or c.args.nodes.now c.loop-node.node-index node.Blank) c.loop-node.found (state_of c.loop-node.tables)) (Ok c.in_ok-found.found) c.item.new.tables) c.loop-node.invariant.0.given e.gives),
    )

pub returns : goal.returns
returns g c =
    let h : length c.args.nodes.now ≤ c.loop-node.node-index = omega arith in
    let e = c.loop-node.invariant.1 ∙ items-end (g.W.Way.act c.args.way.now c.args.tables.now.given) c.args.nodes.now c.loop-node.node-index c.loop-node.found (state_of c.loop-node.tables) h in
    record { kept = c.loop-node.invariant.0; gives = rw e (search rules) }
