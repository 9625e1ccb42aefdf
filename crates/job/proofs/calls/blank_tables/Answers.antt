use Rattle.std.proofs.Common.{◌++◌, drop, rules}
use Rattle.job.specs.declared.tables.Cell.TheVariants as cell
use Rattle.job.specs.declared.tables.Frame.TheVariants as frame
use Rattle.job.proofs.Within.{wiped}
use Rattle.job.proofs.Standing.{blanked-is}
use Rattle.job.proofs.calls.blank_tables.Goals as goal

pub returns-clause-is : goal.returns-clause-is
returns-clause-is c p =
    let cells = c.args.cells.now in
    let frames = c.args.frames.now in
    blanked-is p.sheet.text.now cells (c.fill.new.self ++ drop c.limited-c.result cells) frames
    (c.fill-2.new.self ++ drop c.limited-f.result frames)
    (wiped cells c.fill.new.self c.limited-c.result cell.Blank c.limited-c.ensures
    (c.fill.ensures.after (λ y h. search rules))).0
    (wiped frames c.fill-2.new.self c.limited-f.result frame.Blank c.limited-f.ensures
    (c.fill-2.ensures.after (λ y h. search rules))).0

pub returns-clause-behind : goal.returns-clause-behind
returns-clause-behind c =
    let cells = c.args.cells.now in
    let frames = c.args.frames.now in
    record {
      cells_stay = (wiped cells c.fill.new.self c.limited-c.result cell.Blank c.limited-c.ensures
          (c.fill.ensures.after (λ y h. search rules))).1;
      frames_stay = (wiped frames c.fill-2.new.self c.limited-f.result frame.Blank c.limited-f.ensures
          (c.fill-2.ensures.after (λ y h. search rules))).1;
    }
