use Rattle.std.proofs.Common.{Some, refl, ap}
use Rattle.std.proofs.lemmas.Result.{err_from_is_err_and}
use Rattle.grammar.specs.Laying.{word_m}
use Rattle.grammar.specs.Readers.{state_of}
use Rattle.grammar.proofs.Singles.{single-fault, word-good, word-bad}
use Rattle.grammar.proofs.reader.Reader.expect.Goals as goal

pub returns-in_err-next : goal.returns-in_err-next
unfolding word_m
returns-in_err-next g c =
    let s = c.args.self.now in
    let p = c.in_err-next.ensures in
    let r = err_from_is_err_and c.from_residual.result c.from_residual.ensures.1 in
    let e = single-fault s.words.text.now s.words.at (g.E.Expected.symbol c.args.want) _ _ p.reads.0 in
    record { kept = p.kept; gives = rw (e, r.1, r.2) (ap Some p.reads.1) }

pub returns-then-not-is : goal.returns-then-not-is
unfolding word_m
returns-then-not-is g c =
    let s = c.args.self.now in
    let p = c.in_ok-next.ensures in
    let e = word-bad s.words.text.now s.words.at (g.E.Expected.symbol c.args.want) c.in_ok-next.next _ p.reads.0
    c.if-not-is.ensures in
    record { kept = p.kept; gives = rw (e, c.unexpected.ensures) refl }

pub returns : goal.returns
returns g c =
    let p = c.in_ok-next.ensures in
    let e = word-good (state_of c.args.self.now) (g.E.Expected.symbol c.args.want) c.in_ok-next.next _ p.reads.0
    c.if-not-is.ensures in
    record { kept = p.kept; gives = rw e (record { result = refl; state = p.reads.2 }) }
