use Rattle.typing.proofs.tables.Tables.+expand.Given as goal

abbrev pub decreases-expand : goal.decreases-expand
decreases-expand l = l.levels
