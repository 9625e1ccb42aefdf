use Rattle.std.proofs.Common.{◌-◌, Some, sym, ap, ◌∙◌, subst, rules}
use Rattle.std.proofs.lemmas.Result.{err_from_is_err_and}
use Rattle.grammar.specs.Productions.{an_exp}
use Rattle.grammar.specs.Laying.{from_m, exp_m}
use Rattle.grammar.specs.Readers.{state_of, Gave}
use Rattle.grammar.specs.Starts.{exp_start}
use Rattle.grammar.proofs.Gives.{started-ok, started-err}
use Rattle.grammar.proofs.Readers.{kept_then}
use Rattle.grammar.proofs.Froms.{part-refused, part-begun, exp-none, exp-deep, exp-some}
use Rattle.grammar.proofs.reader.Reader.+expressions.Goals as goal

pub expression-returns-in_err-first : goal.expression-returns-in_err-first
expression-returns-in_err-first t c =
    let p = c.in_err-first.ensures in
    let r = err_from_is_err_and c.from_residual.result c.from_residual.ensures.1 in
    let e = part-refused an_exp c.args.levels (state_of c.args.self.now) _ _ p.reads.0 in
    record { kept = p.kept; gives = rw (e, r.1, r.2) (ap Some p.reads.1) }

pub expression-returns : goal.expression-returns
expression-returns t c =
    let s = c.args.self.now in
    let n = c.in_ok-first.first in
    let l = c.args.levels in
    let p = c.in_ok-first.ensures in
    let d = c.expression_from.ensures in
    let e = part-begun an_exp l (state_of s) n _ p.reads.0 ∙ ap (from_m an_exp n l) (sym p.reads.2) in
    record {
      kept = kept_then s c.next.new.self c.expression_from.new.self p.kept d.kept;
      gives = subst
          (λ o. Gave o c.expression_from.result c.expression_from.new.self) (sym e) d.gives;
    }

pub expression_from-returns-in_err-start : goal.expression_from-returns-in_err-start
expression_from-returns-in_err-start t c =
    let v = state_of c.args.self.now in
    let n = c.args.first in
    let l = c.args.levels in
    let r = err_from_is_err_and c.from_residual.result c.from_residual.ensures.1 in
    record {
      kept = search rules;
      gives = rw (r.1, r.2) (started-err (exp_start n) _ l _ (from_m an_exp n l v) c.args.self.now c.in_err-start.ensures
          (exp-none v n l) (exp-deep v n l));
    }

pub expression_from-returns : goal.expression_from-returns
expression_from-returns t c =
    let v = state_of c.args.self.now in
    let n = c.args.first in
    let b = c.in_ok-start.start in
    let l = c.args.levels in
    let d = c.expression_form.ensures in
    let s = started-ok (exp_start n) _ l b c.in_ok-start.ensures in
    let e = exp-some v n l b s.0 s.1 c.requires ∙ ap (λ z. exp_m z (l - 1) b v) (sym c.place.ensures) in
    record { kept = d.kept; gives = subst (λ o. Gave o c.expression_form.result c.expression_form.new.self) (sym e) d.gives }
