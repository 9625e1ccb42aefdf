use Rattle.std.proofs.Common.{rules, tests}
use Rattle.std.proofs.lemmas.Iterator.{YieldsList-from_slice}
use Rattle.std.proofs.lemmas.Iterator.Search.{find_from_yields_List}
use Rattle.words.specs.Names.{same_name}
use Rattle.typing.specs.declared.types.Known.{Known}
use Rattle.typing.proofs.tables.entry_in.Goals as goal

pub returns : goal.returns
returns c =
    let e = find_from_yields_List (λ (e : Known). same_name e.name.now c.args.name.now) _ _ c.find.result c.find.ensures.ran
    (YieldsList-from_slice c.args.entries.now cc) (λ x b q k. search (rules, tests)) in
    search (rules, e)
