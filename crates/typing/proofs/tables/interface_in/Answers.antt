use Rattle.std.proofs.Common.{◌∙◌, rules, tests}
use Rattle.std.proofs.lemmas.Iterator.{YieldsList-from_slice}
use Rattle.std.proofs.lemmas.Iterator.Search.{find_from_yields_List}
use Rattle.words.specs.Names.{same_name}
use Rattle.language.specs.Bindings.{spelled_in}
use Rattle.typing.specs.declared.types.Interface.{Interface}
use Rattle.typing.proofs.tables.interface_in.Goals as goal

pub returns : goal.returns
returns c =
    c.copied.ensures ∙ find_from_yields_List
    (λ (i : Interface). same_name (spelled_in c.args.text.now i.name) c.args.name.now)
    _ _ _ c.find.ensures.ran (YieldsList-from_slice c.args.interfaces.now cc) (λ x b q k. search (rules, tests))
