use Rattle.std.proofs.Common.{◌-◌, Some, ap, ◌∙◌}
use Rattle.grammar.specs.declared.tree.Node.{Node}
use Rattle.grammar.specs.Table.{type_at, type_in}
use Rattle.typing.specs.Tables.{form_t, on_type, expand_n}
use Rattle.typing.proofs.Walks.{type-deep, type-inside, type-step, expand-step, is-type}
use Rattle.typing.proofs.tables.Tables.written.Goals as goal

pub bounds : goal.bounds
bounds c = type-inside _ _ _ _ c.requires

pub unreachable-requires : goal.unreachable-requires
unreachable-requires c = is-type _ _ _ _ _ c.requires c.in_default.not-Type

pub returns : goal.returns
returns c =
    let w = c.args.self.now.given in
    let d = type-deep w.text.now w.tree.now c.args.levels c.args.i c.requires in
    let h = type-inside w.text.now w.tree.now c.args.levels c.args.i c.requires in
    record {
      deep = d;
      is = type-step w.text.now w.tree.now c.args.levels c.args.i _ d h ∙
          ap (type_in w.text.now (type_at (c.args.levels - 1) w.text.now w.tree.now)) c.in-Type.is;
      step = expand-step w c.args.levels c.args.i _ d h ∙
          ap (λ (n : Node). on_type (form_t w (expand_n w (c.args.levels - 1))) (Some n)) c.in-Type.is;
    }
