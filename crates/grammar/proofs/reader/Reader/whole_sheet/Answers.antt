use Rattle.std.proofs.Common.{sym, refl, subst, arith}
use Rattle.std.proofs.lemmas.Result.{err_from_is_err_and}
use Rattle.grammar.specs.Readers.{Gave}
use Rattle.grammar.proofs.Readers.{kept_then}
use Rattle.grammar.proofs.Closing.{going-first, turn-fault, turn-closing, turn_many, turn-refused, turn-ok}
use Rattle.grammar.proofs.reader.Reader.whole_sheet.Goals as goal

pub loop-init : goal.loop-init
loop-init c = going-first c.args.self.now

pub returns-in_err-first : goal.returns-in_err-first
returns-in_err-first c =
    let s = c.args.self.now in
    let t = c.loop.self in
    let t1 = c.next.new.self in
    let g = c.loop.invariant in
    let p = c.in_err-first.ensures in
    let r = err_from_is_err_and c.from_residual.result c.from_residual.ensures.1 in
    record {
      kept = kept_then s t t1 g.kept p.kept;
      gives = rw (r.1, r.2) (turn-fault s t t1 c.loop.counter g c.in_err-first.field-0.0 p.reads);
    }

pub returns-then-not-is : goal.returns-then-not-is
returns-then-not-is c =
    let s = c.args.self.now in
    let t = c.loop.self in
    let t1 = c.next.new.self in
    let u = c.closing.new.self in
    let g = c.loop.invariant in
    let p = c.in_ok-first.ensures in
    let d = c.closing.ensures in
    let e = turn-closing s t t1 c.loop.counter g c.in_ok-first.first p.reads c.if-not-is.ensures in
    record {
      kept = kept_then s t u g.kept (kept_then t t1 u p.kept d.kept);
      gives = subst (λ o. Gave o c.closing.result u) (sym e) d.gives;
    }

pub returns-in_err-module : goal.returns-in_err-module
returns-in_err-module c =
    let s = c.args.self.now in
    let t = c.loop.self in
    let t1 = c.next.new.self in
    let u = c.«module».new.self in
    let g = c.loop.invariant in
    let p = c.in_ok-first.ensures in
    let d = c.in_err-module.ensures in
    let r = err_from_is_err_and c.from_residual-in_err-module.result c.from_residual-in_err-module.ensures.1 in
    record {
      kept = kept_then s t u g.kept (kept_then t t1 u p.kept d.kept);
      gives = rw (r.1, r.2) (turn-refused s t t1 c.loop.counter g c.in_ok-first.first p.reads c.if-not-is.ensures
          c.place.result c.in_err-module.field-0.0 u c.place.ensures (λ z. omega arith) d.gives);
    }

pub loop-preserved : goal.loop-preserved
loop-preserved c =
    let p = c.in_ok-first.ensures in
    let d = c.in_ok-module.ensures in
    turn-ok c.args.self.now c.loop.self c.next.new.self c.loop.counter c.loop.invariant c.in_ok-first.first p.reads
    c.if-not-is.ensures c.place.result c.in_ok-module.field-0 c.«module».new.self c.place.ensures (λ z. omega arith) p.kept
    d.kept d.gives

pub returns-in_err-first-2 : goal.returns-in_err-first-2
returns-in_err-first-2 c =
    let s = c.args.self.now in
    let t = c.loop.self in
    let t1 = c.next-2.new.self in
    let g = c.loop.invariant in
    let p = c.in_err-first-2.ensures in
    let r = err_from_is_err_and c.from_residual-in_err-first-2.result c.from_residual-in_err-first-2.ensures.1 in
    record {
      kept = kept_then s t t1 g.kept p.kept;
      gives = rw (r.1, r.2) (turn-fault s t t1 c.loop.counter g c.in_err-first-2.field-0.0 p.reads);
    }

pub returns-then-is : goal.returns-then-is
returns-then-is c =
    let s = c.args.self.now in
    let t = c.loop.self in
    let t1 = c.next-2.new.self in
    let g = c.loop.invariant in
    let p = c.in_ok-first-2.ensures in
    let e = turn_many s t t1 c.loop.counter g c.in_ok-first-2.first p.reads c.if-is.ensures (omega (arith, g.few)) in
    record { kept = kept_then s t t1 g.kept p.kept; gives = rw (e, c.from.ensures, c.place-then-is.ensures) refl }

pub returns : goal.returns
returns c =
    let s = c.args.self.now in
    let t = c.loop.self in
    let t1 = c.next-2.new.self in
    let u = c.closing-2.new.self in
    let g = c.loop.invariant in
    let p = c.in_ok-first-2.ensures in
    let d = c.closing-2.ensures in
    let e = turn-closing s t t1 c.loop.counter g c.in_ok-first-2.first p.reads c.if-is.ensures in
    record {
      kept = kept_then s t u g.kept (kept_then t t1 u p.kept d.kept);
      gives = subst (λ o. Gave o c.closing-2.result u) (sym e) d.gives;
    }
