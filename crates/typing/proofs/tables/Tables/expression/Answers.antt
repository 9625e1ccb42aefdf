use Rattle.std.proofs.Common.{◌-◌, Some, ap, ◌∙◌}
use Rattle.grammar.specs.declared.tree.Node.{Node}
use Rattle.grammar.specs.Table.{type_at, exp_at, exp_in}
use Rattle.typing.specs.Tables.{form_e, on_exp, expand_n, type_n}
use Rattle.typing.proofs.Walks.{exp-deep, exp-inside, exp-step, typing-step, is-expression}
use Rattle.typing.proofs.tables.Tables.expression.Goals as goal

pub bounds : goal.bounds
bounds c = exp-inside _ _ _ _ c.requires

pub unreachable-requires : goal.unreachable-requires
unreachable-requires c = is-expression _ _ _ _ _ c.requires c.in_default.not-Expression

pub returns : goal.returns
returns c =
    let w = c.args.self.now.given in
    let d = exp-deep w.text.now w.tree.now c.args.levels c.args.i c.requires in
    let h = exp-inside w.text.now w.tree.now c.args.levels c.args.i c.requires in
    record {
      deep = d;
      is = exp-step w.text.now w.tree.now c.args.levels c.args.i _ d h ∙
          ap (exp_in w.text.now (type_at (c.args.levels - 1) w.text.now w.tree.now) (exp_at (c.args.levels - 1) w.text.now w.tree.now))
          c.in-Expression.is;
      step = typing-step w c.args.levels c.args.i _ d h ∙
          ap (λ (n : Node). on_exp (form_e w (expand_n w (c.args.levels - 1)) (type_n w (c.args.levels - 1))) (Some n)) c.in-Expression.is;
    }
