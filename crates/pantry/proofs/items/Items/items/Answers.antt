use Rattle.std.proofs.Common.{◌≡◌, length, pos, ap, arith, w32, to_z}
use Rattle.std.proofs.lemmas.Int.{ints}
use Rattle.std.proofs.lemmas.List.{length-map}
use Rattle.language.specs.Pantry.{figure_reply}
use Rattle.pantry.specs.File.{record_of, records_of}
use Rattle.pantry.specs.FileFacts.{header, few, records_length}
use Rattle.pantry.proofs.items.Items.items.Goals as goal

pub overflow_cast-result : goal.overflow_cast-result
overflow_cast-result c =
    let f = c.args.self.now.file.now in
    omega (arith, ints, length-map c.rows.result.now record_of, ap length c.rows.ensures, records_length f, few f (header f c.args.self.now.ok))

pub returns : goal.returns
returns c =
    let f = c.args.self.now.file.now in
    let e : to_z w32 (length c.rows.result.now) ≡ pos (length (records_of f)) =
    omega (arith, ints, length-map c.rows.result.now record_of, ap length c.rows.ensures, records_length f, few f (header f c.args.self.now.ok)) in
    ap figure_reply e
