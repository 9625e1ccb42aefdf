use Rattle.std.proofs.Common.{Some, refl, ap}
use Rattle.std.proofs.lemmas.Result.{err_from_is_err_and}
use Rattle.grammar.specs.Readers.{state_of}
use Rattle.grammar.proofs.Closing.{end-fault, end-bad, end-good}
use Rattle.grammar.proofs.reader.Reader.end_of_text.Goals as goal

pub returns-in_err-next : goal.returns-in_err-next
returns-in_err-next c =
    let p = c.in_err-next.ensures in
    let r = err_from_is_err_and c.from_residual.result c.from_residual.ensures.1 in
    let e = end-fault (state_of c.args.self.now) _ _ p.reads.0 in
    record { kept = p.kept; gives = rw (e, r.1, r.2) (ap Some p.reads.1) }

pub returns-in-End : goal.returns-in-End
returns-in-End c =
    let p = c.in_ok-next.ensures in
    let e = end-good (state_of c.args.self.now) c.in_ok-next.next _ _ p.reads.0 c.in-End.is p.reads.3 in
    record { kept = p.kept; gives = rw e (record { result = refl; state = p.reads.2 }) }

pub returns-in_default : goal.returns-in_default
returns-in_default c =
    let p = c.in_ok-next.ensures in
    let e = end-bad (state_of c.args.self.now) c.in_ok-next.next _ p.reads.0 c.in_default.not-End in
    record { kept = p.kept; gives = rw (e, c.unexpected.ensures) refl }
