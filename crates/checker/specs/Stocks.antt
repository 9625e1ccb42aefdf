-- The names and kinds of copied entries.
use Rattle.std.specs.Prelude.{List, [], ◌∷◌}
use Rattle.language.specs.Names.{bind}
use Rattle.language.specs.Pantry.{Stock}
use Rattle.pantry.specs.declared.entries.Entry.{Entry}
use Rattle.pantry.specs.Meaning.{kind_of}

abbrev pub stock_in : List Entry → Stock
stock_in [] = []
stock_in (e ∷ es) = bind e.name.now (kind_of e.kind) ∷ stock_in es
