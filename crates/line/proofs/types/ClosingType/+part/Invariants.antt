use Rattle.line.proofs.types.ClosingType.+part.Given as goal

abbrev pub decreases-part : goal.decreases-part
decreases-part g l = l.levels
