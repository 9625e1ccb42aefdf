use Rattle.std.proofs.Common.{sym, ap, ◌∙◌}
use Rattle.language.specs.Machine.{nearest}
use Rattle.language.specs.Step.{handing_value, on_node}
use Rattle.grammar.specs.Plan.{node_of}
use Rattle.grammar.specs.declared.tree.Node.TheVariants.{Expression}
use Rattle.job.specs.Machines.{text_of, program_of, store_of, state_of}
use Rattle.job.proofs.machine.Machine.on_node.Goals as goal

pub returns-in-Variable : goal.returns-in-Variable
returns-in-Variable g c =
    let m = c.args.self.now in
    let p = g.P.Pantry.meaning c.args.pantry.now in
    c.looked_up.ensures p ∙
    (ap (λ x. handing_value (nearest (store_of m).cells c.args.scope x)) c.spelled.ensures ∙
    ap (λ n. on_node (program_of p m) (store_of m) (state_of m) c.args.part c.args.scope (node_of (text_of m) n))
    (sym (c.in-Expression.is ∙ ap Expression c.in-Variable.is)))
