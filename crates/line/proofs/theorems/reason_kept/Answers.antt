use Rattle.std.proofs.Common.{◌≡◌, refl}
use Rattle.language.specs.Machine.{Reason, no_cell, no_frame, too_large, divide_by_zero, no_answer, no_rule}
use Rattle.line.specs.Answers.{stop_of}
use Rattle.job.specs.Maps.{reason_of}
use Rattle.line.proofs.theorems.reason_kept.Goals as goal

kept : (k : Reason) → reason_of (stop_of k) ≡ k
kept no_cell = refl
kept no_frame = refl
kept too_large = refl
kept divide_by_zero = refl
kept (no_answer i z) = refl
kept no_rule = refl

pub returns : goal.returns
returns c = kept
