use Rattle.std.proofs.Common.{List, ℕ, ◌==◌, rules, tests}
use Rattle.std.proofs.lemmas.Iterator.{YieldsList-from_slice}
use Rattle.std.proofs.lemmas.Iterator.Search.{find_from_yields_List}
use Rattle.pantry.specs.File.{record_of}
use Rattle.pantry.proofs.Rows.{first-mapped}
use Rattle.pantry.proofs.records.find.Goals as goal

pub returns : goal.returns
returns c =
    let e = find_from_yields_List (λ (row : List ℕ). (record_of row).item == c.args.item) _ _ c.find.result c.find.ensures.ran
    (YieldsList-from_slice c.args.rows.now cc) (λ x b q k. search (rules, tests)) in
    search (rules, e, first-mapped c.args.item c.args.rows.now)
