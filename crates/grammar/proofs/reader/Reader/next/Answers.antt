use Rattle.std.proofs.Common.{refl}
use Rattle.std.proofs.lemmas.Result.{err_from_is_err_and}
use Rattle.grammar.proofs.Readers.{state-text}
use Rattle.grammar.proofs.Nexts.{word-refusal, next-fault, next-step, next-lawful}
use Rattle.grammar.proofs.reader.Reader.next.Goals as goal

pub returns-in_err-token : goal.returns-in_err-token
returns-in_err-token c =
    let s = c.args.self.now in
    let f = c.in_err-token.field-0.0 in
    let r = err_from_is_err_and c.from_residual.result c.from_residual.ensures.1 in
    record {
      kept = record { same = refl; long = refl; behind = refl };
      reads = rw (r.1, r.2) (next-fault s.words.text.now s.words.at f c.in_err-token.ensures.reads, word-refusal f);
    }

pub next_of-requires : goal.next_of-requires
next_of-requires c =
    let s = c.args.self.now in
    let e = c.in_ok-token.ensures in
    next-lawful s.words.text.now s.words.at c.in_ok-token.token s.short e.part e.small

pub returns : goal.returns
returns c =
    let s = c.args.self.now in
    let e = c.in_ok-token.ensures in
    let n = next-step s.words.text.now s.words.at c.in_ok-token.token s.end _ s.words.within s.ends
    e.reads e.stands e.part in
    record {
      kept = record { same = refl; long = refl; behind = refl };
      reads = rw c.next_of.ensures (n.0, n.1, state-text _ _ _ _ _ _ e.same, n.2);
    }
