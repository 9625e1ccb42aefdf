use Rattle.std.proofs.Common.{◌-◌, Some, sym, ap, ◌∙◌, subst}
use Rattle.std.proofs.lemmas.Result.{err_from_is_err_and}
use Rattle.grammar.specs.Productions.{a_type}
use Rattle.grammar.specs.Steps.{Whole}
use Rattle.grammar.specs.Laying.{State, from_m, type_m}
use Rattle.grammar.specs.Readers.{state_of, Gave}
use Rattle.grammar.specs.Starts.{type_start}
use Rattle.grammar.proofs.Gives.{started-ok, started-err}
use Rattle.grammar.proofs.Readers.{kept_then}
use Rattle.grammar.proofs.Froms.{part-refused, part-begun, type-none, type-deep, type-some}
use Rattle.grammar.proofs.reader.Reader.+types.Goals as goal

pub ty-returns-in_err-first : goal.ty-returns-in_err-first
ty-returns-in_err-first t c =
    let p = c.in_err-first.ensures in
    let r = err_from_is_err_and c.from_residual.result c.from_residual.ensures.1 in
    let e = part-refused a_type c.args.levels (state_of c.args.self.now) _ _ p.reads.0 in
    record { kept = p.kept; gives = rw (e, r.1, r.2) (ap Some p.reads.1) }

pub ty-returns-in_err-start : goal.ty-returns-in_err-start
ty-returns-in_err-start t c =
    let v = state_of c.next.new.self in
    let n = c.in_ok-first.first in
    let l = c.args.levels in
    let p = c.in_ok-first.ensures in
    let r = err_from_is_err_and c.from_residual-in_err-start.result c.from_residual-in_err-start.ensures.1 in
    let e = part-begun a_type l (state_of c.args.self.now) n _ p.reads.0 ∙ ap (from_m a_type n l) (sym p.reads.2) in
    record {
      kept = p.kept;
      gives = rw (e, r.1, r.2) (started-err (type_start n) _ l _ (from_m a_type n l v) c.next.new.self c.in_err-start.ensures
          (type-none v n l) (type-deep v n l));
    }

pub ty-returns : goal.ty-returns
ty-returns t c =
    let s = c.args.self.now in
    let v = state_of c.next.new.self in
    let n = c.in_ok-first.first in
    let b = c.in_ok-start.start in
    let l = c.args.levels in
    let p = c.in_ok-first.ensures in
    let d = c.type_form.ensures in
    let h = started-ok (type_start n) _ l b c.in_ok-start.ensures in
    let w : Whole v.text n = subst (λ x. Whole x n) (sym (ap (λ (z : State). z.text) p.reads.2)) p.reads.1 in
    let e = part-begun a_type l (state_of s) n _ p.reads.0
    ∙ (ap (from_m a_type n l) (sym p.reads.2)
    ∙ (type-some v n l b h.0 h.1 w ∙ ap (λ z. type_m z (l - 1) b v) (sym c.place.ensures))) in
    record {
      kept = kept_then s c.next.new.self c.type_form.new.self p.kept d.kept;
      gives = subst (λ o. Gave o c.type_form.result c.type_form.new.self) (sym e) d.gives;
    }
