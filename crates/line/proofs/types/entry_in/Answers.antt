use Rattle.std.proofs.Common.{sym, inl, arith, rules}
use Rattle.typing.proofs.TableTold.{entry_past, entry_here}
use Rattle.line.proofs.types.entry_in.Goals as goal

pub returns-in-65535 : goal.returns-in-65535
returns-in-65535 c = sym (entry_past c.args.types.now c.args.number (inl (omega arith)))

pub returns-in_default : goal.returns-in_default
returns-in_default c = let e = entry_here c.args.types.now c.args.number (omega arith) in search rules
