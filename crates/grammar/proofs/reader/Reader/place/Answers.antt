use Rattle.std.proofs.Common.{◌<◌, ◌≤◌, min, length, sym, refl, ⊎_elim, arith, length-set, drop-set-lt}
use Rattle.std.proofs.lemmas.Bool.{lt-ltb, le-ltb}
use Rattle.grammar.specs.Laying.{place_m}
use Rattle.grammar.proofs.Readers.{state-long}
use Rattle.grammar.proofs.reader.Reader.place.Goals as goal

pub returns-then-used-self : goal.returns-then-used-self
unfolding place_m
returns-then-used-self g c =
    let s = c.args.self.now in
    let b : min (length s.tree.now) 65535 ≤ s.used = ⊎_elim (λ h. omega arith) (λ h. omega arith) c.then-used-self.either in
    record {
      kept = record { same = refl; long = refl; behind = refl };
      gives = rw
          (le-ltb s.used (min (length s.tree.now) 65535) b, c.from.ensures) refl;
    }

pub returns : goal.returns
unfolding place_m
returns g c =
    let s = c.args.self.now in
    let b : s.used < min (length s.tree.now) 65535 = omega arith in
    let l = length-set s.tree.now s.used c.node.result in
    record {
      kept = record { same = refl; long = l; behind = drop-set-lt 65535 s.tree.now s.used c.node.result (omega arith) };
      gives = rw (sym c.node.ensures, lt-ltb s.used (min (length s.tree.now) 65535) b) (record { result = refl; state = state-long _ _ _ _ _ _ l });
    }
