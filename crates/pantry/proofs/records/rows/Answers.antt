use Rattle.std.proofs.Common.{◌≡◌, length, refl, arith, rules}
use Rattle.pantry.specs.File.{header_ok}
use Rattle.pantry.proofs.Rows.{BodyOf, exact-body, rows-are}
use Rattle.pantry.proofs.records.rows.Goals as goal

pub returns-in_default : goal.returns-in_default
unfolding header_ok
returns-in_default c = search rules

pub returns-then-count-gt1000 : goal.returns-then-count-gt1000
unfolding header_ok
returns-then-count-gt1000 c = search rules

pub returns : goal.returns
unfolding header_ok
returns c =
    let b : BodyOf c.args.file.now _ c.as_chunks.result.0.now (length c.as_chunks.result.1.now) = record {
      rows_are = c.as_chunks.ensures.front;
      rows_len = c.as_chunks.ensures.front_len;
      left_is = c.as_chunks.ensures.back_len;
      long = omega arith;
      body_is = refl;
    } in
    let none_left : length c.as_chunks.result.1.now ≡ 0 = grind arith in
    let e = exact-body _ _ _ _ b none_left in
    (search rules, rows-are _ _ _ _ b (omega arith))
