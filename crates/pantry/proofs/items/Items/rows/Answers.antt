use Rattle.std.proofs.Common.{length, refl}
use Rattle.pantry.proofs.Rows.{BodyOf, header_long, rows-accepted}
use Rattle.pantry.proofs.items.Items.rows.Goals as goal

pub returns : goal.returns
returns c =
    let f = c.args.self.now.file.now in
    let b : BodyOf f _ c.as_chunks.result.0.now (length c.as_chunks.result.1.now) = record {
      rows_are = c.as_chunks.ensures.front;
      rows_len = c.as_chunks.ensures.front_len;
      left_is = c.as_chunks.ensures.back_len;
      long = header_long f c.args.self.now.ok;
      body_is = refl;
    } in
    rows-accepted _ _ _ _ b c.args.self.now.ok
