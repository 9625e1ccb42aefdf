use Rattle.typing.proofs.TableTold.{table-told}
use Rattle.typing.proofs.theorems.table_told_stands.Goals as goal

pub returns : goal.returns
returns c = table-told
