use Rattle.std.proofs.Common.{◌-◌, sym, ap, ◌∙◌}
use Rattle.language.specs.Machine.{without}
use Rattle.job.specs.declared.tables.Frame.TheVariants.{Blank}
use Rattle.job.specs.Maps.{frames_of, stored}
use Rattle.job.proofs.Moved.{frame-written}
use Rattle.job.proofs.perform.removed.Goals as goal

pub returns-in-Removed-clause-is : goal.returns-in-Removed-clause-is
returns-in-Removed-clause-is c text cells =
    frame-written text cells c.args.frames.now c.write.new.table c.saturating_sub-top.result (c.args.count - 1) Blank
    c.write.ensures c.saturating_sub-top.ensures ∙
    ap (λ f. without (frames_of (c.args.count - 1) f) (stored text cells c.args.frames.now)) (sym c.in-Removed.is)
