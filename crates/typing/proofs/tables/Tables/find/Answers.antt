use Rattle.std.proofs.Common.{◌<◌, rules, sym, ◌∙◌, arith}
use Rattle.typing.specs.Tables.{found_n}
use Rattle.typing.specs.declared.types.TypeEntry.TheVariants as entry
use Rattle.std.proofs.lemmas.Iterator.Adapters.{position_from-zero}
use Rattle.typing.proofs.Places.{place_within}
use Rattle.typing.proofs.tables.Tables.find.Goals as goal

pub returns-in_err-k : goal.returns-in_err-k
unfolding found_n
returns-in_err-k c = search (rules, position_from-zero)

pub returns : goal.returns
unfolding found_n
returns c =
    let h : c.in_ok-k.k < c.from-count.result = place_within _ _ _ _ entry.Blank (sym c.place_in.ensures ∙ c.in_ok-k.was) in
    let b : c.in_ok-k.k < 65536 = omega arith in
    search (rules, position_from-zero)
