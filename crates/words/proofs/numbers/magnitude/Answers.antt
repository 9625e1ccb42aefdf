use Rattle.std.proofs.Common.{ℕ, ◌+◌, ◌-◌, ◌*◌, ◌<◌, List, get_or, drop, fold, sym, arith}
use Rattle.std.proofs.lemmas.List.{at_drop_more}
use Rattle.std.proofs.lemmas.Bool.{lt-leb, cond-false}
use Rattle.words.specs.Words.{value, largest}
use Rattle.words.proofs.Runs.{grows}
use Rattle.words.proofs.numbers.magnitude.Goals as goal

abbrev onward : ℕ → List ℕ → ℕ
onward v bs = fold (λ v b. v * 10 + (b - 48)) v bs

pub returns-then-size-gt-LARGEST : goal.returns-then-size-gt-LARGEST
returns-then-size-gt-LARGEST c =
    let rest = drop (c.loop-digit.digit-index + 1) c.args.digits.now in
    let digit = get_or c.args.digits.now c.loop-digit.digit-index 0 in
    let large : largest < value c.args.digits.now = omega (
      arith,
      c.loop-digit.invariant.1,
      at_drop_more (onward c.loop-digit.size) c.args.digits.now c.loop-digit.digit-index 0 c.loop-digit-test.true,
      grows rest (c.loop-digit.size * 10 + (digit - 48)),
    ) in
    sym (cond-false _ _ _ (lt-leb (value c.args.digits.now) largest large))
