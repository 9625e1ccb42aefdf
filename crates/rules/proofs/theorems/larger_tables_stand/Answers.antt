use Rattle.rules.proofs.theorems.larger_tables_stand.Goals as goal
use Rattle.rules.proofs.Passing.{larger-tables}

pub returns : goal.returns
returns c = larger-tables
