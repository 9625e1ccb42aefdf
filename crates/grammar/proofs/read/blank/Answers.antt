use Rattle.std.proofs.Common.{◌≡◌, ◌++◌, length, take, drop, replicate, ap, ◌∙◌, arith, length-take}
use Rattle.grammar.specs.declared.tree.Node.TheVariants as node
use Rattle.grammar.proofs.Blanks.{fill-all}
use Rattle.grammar.proofs.read.blank.Goals as goal

pub returns : goal.returns
returns c =
    let ns = c.args.tree.now in
    let limit = c.min-limit.result in
    let n : length (take limit ns) ≡ limit = omega (arith, length-take limit ns) in
    ap (λ z. z ++ drop limit ns) (c.fill.ensures.after (λ y h. h) ∙ ap (λ k. replicate k node.Blank) n)
    ∙ fill-all limit ns c.min-limit.ensures
