use Rattle.std.proofs.Common.{pos, ◌<ℤ◌, sym, arith}
use Rattle.std.proofs.lemmas.Int.{ints}
use Rattle.pantry.proofs.Rows.{found_large}
use Rattle.pantry.proofs.fetching.found.Goals as goal

pub returns-then-argument-from : goal.returns-then-argument-from
returns-then-argument-from c =
    let h : pos 65535 <ℤ c.args.argument = omega (arith, ints) in
    sym (found_large c.args.file.now c.args.argument (λ i. (c.type_inv.file i).fits) h)
