use Rattle.std.proofs.Common.{◌≡◌, take, drop, arith}
use Rattle.std.proofs.lemmas.Grind.{common_steps}
use Rattle.std.proofs.lemmas.List.{drop_all, take_all, take_rest}
use Rattle.language.specs.Bindings.{part_of}
use Rattle.language.proofs.spans.spelled.Goals as goal

pub returns : goal.returns
unfolding part_of
returns c =
    let rest : c.unwrap_or-rest.result.now ≡ drop c.from.result c.args.text.now = grind (arith, common_steps, drop_all, take_rest) in
    let part : c.unwrap_or.result.now ≡ take c.from-2.result c.unwrap_or-rest.result.now = grind (arith, common_steps, take_all) in
    cc
