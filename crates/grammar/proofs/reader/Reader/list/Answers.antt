use Rattle.std.proofs.lemmas.Result.{err_from_is_err_and}
use Rattle.grammar.proofs.Readers.{kept_then}
use Rattle.grammar.proofs.Lists.{going-first, turn-fault, turn-closed, turn-refused, turn-ok}
use Rattle.grammar.proofs.reader.Reader.list.Goals as goal

pub loop-first-init : goal.loop-first-init
loop-first-init g c = going-first g.L.Listed.sort c.args.self.now

pub returns-in_err-first : goal.returns-in_err-first
returns-in_err-first g c =
    let s = c.args.self.now in
    let t = c.loop-first.self in
    let h = c.loop-first.invariant in
    let p = c.in_err-first.ensures in
    let r = err_from_is_err_and c.from_residual.result c.from_residual.ensures.1 in
    record {
      kept = kept_then s t c.next.new.self h.kept p.kept;
      gives = rw (r.1, r.2) (turn-fault g.L.Listed.sort s t c.next.new.self h c.in_err-first.field-0.0 p.reads);
    }

pub returns-then-is : goal.returns-then-is
returns-then-is g c =
    let s = c.args.self.now in
    let t = c.loop-first.self in
    let h = c.loop-first.invariant in
    let p = c.in_ok-first.ensures in
    record {
      kept = kept_then s t c.next.new.self h.kept p.kept;
      gives = turn-closed g.L.Listed.sort s t c.next.new.self h c.in_ok-first.first p.reads c.if-is.ensures;
    }

pub returns-in_err-read : goal.returns-in_err-read
returns-in_err-read g c =
    let s = c.args.self.now in
    let t = c.loop-first.self in
    let t1 = c.next.new.self in
    let u = c.read.new.reader in
    let h = c.loop-first.invariant in
    let p = c.in_ok-first.ensures in
    let d = c.in_err-read.ensures in
    let r = err_from_is_err_and c.from_residual-in_err-read.result c.from_residual-in_err-read.ensures.1 in
    record {
      kept = kept_then s t u h.kept (kept_then t t1 u p.kept d.kept);
      gives = rw (r.1, r.2) (turn-refused g.L.Listed.sort s t t1 h c.in_ok-first.first c.in_err-read.field-0.0 u
          p.reads c.if-is.ensures d.gives);
    }

pub loop-first-smaller : goal.loop-first-smaller
loop-first-smaller g c =
    let p = c.in_ok-first.ensures in
    let d = c.in_ok-read.ensures in
    (turn-ok g.L.Listed.sort c.args.self.now c.loop-first.self c.next.new.self c.loop-first.invariant
    c.in_ok-first.first c.in_ok-read.field-0 c.read.new.reader p.kept p.reads
    c.if-is.ensures d.kept d.gives).1

pub loop-first-preserved : goal.loop-first-preserved
loop-first-preserved g c =
    let p = c.in_ok-first.ensures in
    let d = c.in_ok-read.ensures in
    (turn-ok g.L.Listed.sort c.args.self.now c.loop-first.self c.next.new.self c.loop-first.invariant
    c.in_ok-first.first c.in_ok-read.field-0 c.read.new.reader p.kept p.reads
    c.if-is.ensures d.kept d.gives).0
