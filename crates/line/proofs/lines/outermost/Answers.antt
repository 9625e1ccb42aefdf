use Rattle.std.proofs.Common.{arith}
use Rattle.typing.proofs.TableTold.{type-read}
use Rattle.line.proofs.lines.outermost.Goals as goal

pub returns : goal.returns
returns c =
    type-read c.args.closing.text.now c.args.closing.types.now c.args.closing.number 32 _ (omega arith)
    c.entry.ensures
