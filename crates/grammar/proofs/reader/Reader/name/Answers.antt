use Rattle.std.proofs.Common.{Some, Ok, sym, refl, ap, subst}
use Rattle.std.proofs.lemmas.Result.{err_from_is_err_and}
use Rattle.grammar.specs.Productions.{a_name}
use Rattle.grammar.specs.Steps.{Whole}
use Rattle.grammar.specs.Laying.{name_m}
use Rattle.grammar.proofs.Singles.{single-fault, name-good, name-bad, span-back}
use Rattle.grammar.proofs.reader.Reader.name.Goals as goal

pub returns-in_err-next : goal.returns-in_err-next
unfolding name_m
returns-in_err-next c =
    let s = c.args.self.now in
    let p = c.in_err-next.ensures in
    let r = err_from_is_err_and c.from_residual.result c.from_residual.ensures.1 in
    let e = single-fault s.words.text.now s.words.at a_name _ _ p.reads.0 in
    record { kept = p.kept; gives = rw (e, r.1, r.2) (ap Some p.reads.1) }

pub returns-in-Name : goal.returns-in-Name
unfolding name_m
returns-in-Name c =
    let s = c.args.self.now in
    let x = c.in-Name.name in
    let p = c.in_ok-next.ensures in
    let e = name-good s.words.text.now s.words.at c.in_ok-next.next x _ p.reads.0 c.in-Name.is in
    let b = span-back s.words.text.now s.words.at x (subst (Whole s.words.text.now) c.in-Name.is p.reads.1) in
    record { kept = p.kept; gives = rw e (record { result = ap Ok (sym b); state = p.reads.2 }) }

pub returns-in_default : goal.returns-in_default
unfolding name_m
returns-in_default c =
    let s = c.args.self.now in
    let p = c.in_ok-next.ensures in
    let e = name-bad s.words.text.now s.words.at c.in_ok-next.next _ p.reads.0 c.in_default.not-Name in
    record { kept = p.kept; gives = rw (e, c.unexpected.ensures) refl }
