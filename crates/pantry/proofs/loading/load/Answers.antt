use Rattle.std.proofs.Common.{◌≡◌, false, refl, Some, None, Ok, Err, sym, ◌∙◌, ap}
use Rattle.std.proofs.lemmas.Result.{err_from_is_err_and}
use Rattle.pantry.specs.declared.faults.LoadFault.TheVariants.{NoItemFile, BadRecord}
use Rattle.pantry.specs.File.{place, header_ok, fault, at_record}
use Rattle.pantry.proofs.Judging.{judged, one_list}
use Rattle.pantry.proofs.Rows.{fault-is}
use Rattle.pantry.proofs.loading.load.Goals as goal

pub returns-in_err-rows : goal.returns-in_err-rows
returns-in_err-rows c =
    let p = err_from_is_err_and c.from_residual.result c.from_residual.ensures.1 in
    let v = c.in_err-rows.ensures in
    let h : header_ok c.args.file.now ≡ false = rw v.ok_part at c.rows.ensures in
    let e : Some NoItemFile ≡ fault c.args.file.now = rw h refl in
    let w = rw v.ok_part at v.value in
    let n : c.in_err-rows.field-0.0 ≡ NoItemFile = cc w in
    let r : c.from_residual.result ≡ Err NoItemFile = p.1 ∙ ap (λ e. Err e) (p.2 ∙ n) in
    rw r record {
      is = e;
      judges = judged c.args.file.now (λ i. (c.type_inv.file i).fits) {A = Unit {0}} (Err NoItemFile) e;
      one_list = one_list c.args.file.now;
    }

pub returns-in-Some : goal.returns-in-Some
returns-in-Some c =
    let h = rw c.in_ok-rows.ensures.ok_part at c.rows.ensures in
    let e : Some (BadRecord (place c.in-Some.k)) ≡ fault c.args.file.now = sym (fault-is _ _ h.0 h.1 ∙ ap at_record (sym c.in-Some.ensures.is)) in
    record {
      is = e;
      judges = judged c.args.file.now (λ i. (c.type_inv.file i).fits) {A = Unit {0}} (Err (BadRecord (place c.in-Some.k))) e;
      one_list = one_list c.args.file.now;
    }

pub returns-in-None : goal.returns-in-None
returns-in-None c =
    let h = rw c.in_ok-rows.ensures.ok_part at c.rows.ensures in
    let e : None ≡ fault c.args.file.now = sym (fault-is _ _ h.0 h.1 ∙ ap at_record (sym c.in-None.ensures.is)) in
    record {
      is = e;
      judges = judged c.args.file.now (λ i. (c.type_inv.file i).fits) {A = Unit {0}} (Ok tt) e;
      one_list = one_list c.args.file.now;
    }
