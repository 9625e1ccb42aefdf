use Rattle.std.proofs.Common.{◌≡◌, ◌<◌, [], length, get_or, Ok, Err, Result, sym, refl, ap, ◌∙◌, subst, arith}
use Rattle.std.proofs.lemmas.Result.{err_from_is_err_and}
use Rattle.pantry.specs.declared.entries.Entry.{Entry}
use Rattle.pantry.specs.declared.entries.Kind.TheVariants as kind
use Rattle.rules.specs.declared.faults.CheckFault.{CheckFault}
use Rattle.rules.specs.Checking.{enter_all, kind_types}
use Rattle.typing.specs.declared.types.Given.{Given}
use Rattle.typing.specs.Tables.{state_of, Gave}
use Rattle.checker.specs.Stocks.{stock_in}
use Rattle.checker.specs.Kinds.{kind_n, AfterKinds}
use Rattle.checker.proofs.InOrder.{kept_trans}
use Rattle.checker.proofs.KindsGo.{entering-start, entering-bad, entering-good, entering-end}
use Rattle.checker.proofs.kinds.all_kinds.Goals as goal

-- what a table is read at past its end
abbrev blank : Entry
blank = record { name = record { ref_ptr = (0, 0); now = [] }; kind = kind.Figure }

pub loop-i-init : goal.loop-i-init
loop-i-init c = (
  record { given = refl; types_same = refl; slots_same = refl; types_long = refl; slots_long = refl },
  λ base tp sp ts b. entering-start c.args.tables.now.given.text.now base tp sp c.args.entries.now ts c.args.known.now (state_of c.args.tables.now) b,
)

pub returns-in_err-of : goal.returns-in_err-of
returns-in_err-of c =
    let e = c.in_err-of.ensures in
    let p = err_from_is_err_and c.from_residual.result c.from_residual.ensures.1 in
    let h = subst (λ (w : Given). Gave (kind_n w.text.now (get_or c.args.entries.now c.loop-i.i blank).kind (state_of c.loop-i.tables)) (Err c.in_err-of.field-0.0) c.kind_number.new.tables)
    c.loop-i.invariant.0.given e.gives in
    record {
      kept = kept_trans c.args.tables.now c.loop-i.tables c.kind_number.new.tables c.loop-i.invariant.0 e.kept;
      goes = λ base tp sp ts b.
          subst (λ (r : Result Unit CheckFault). AfterKinds c.args.tables.now.given.text.now base tp sp c.args.entries.now
          (enter_all tp sp (kind_types (stock_in c.args.entries.now)) ts) r c.loop-i.known (state_of c.kind_number.new.tables)) (sym (p.1 ∙ ap Err p.2))
          (entering-bad c.args.tables.now.given.text.now base tp sp c.args.entries.now ts c.loop-i.i blank c.loop-i.known (state_of c.loop-i.tables)
          c.loop-i-test.true (c.loop-i.invariant.1 base tp sp ts b) c.in_err-of.field-0.0 c.kind_number.new.tables c.loop-i.known
          (state_of c.kind_number.new.tables) h);
    }

pub loop-i-preserved : goal.loop-i-preserved
loop-i-preserved c =
    let e = c.in_ok-of.ensures in
    let h = subst (λ (w : Given). Gave (kind_n w.text.now (get_or c.args.entries.now c.loop-i.i blank).kind (state_of c.loop-i.tables)) (Ok c.in_ok-of.of) c.kind_number.new.tables)
    c.loop-i.invariant.0.given e.gives in
    let l : c.loop-i.i < length c.loop-i.known = (let q = c.requires in omega arith) in (
      kept_trans c.args.tables.now c.loop-i.tables c.kind_number.new.tables c.loop-i.invariant.0 e.kept,
      λ base tp sp ts b. entering-good c.args.tables.now.given.text.now base tp sp c.args.entries.now ts c.loop-i.i blank c.loop-i.known (state_of c.loop-i.tables)
          c.loop-i-test.true (c.loop-i.invariant.1 base tp sp ts b) c.in_ok-of.of c.kind_number.new.tables
          (record { name = (get_or c.args.entries.now c.loop-i.i blank).name; of = c.in_ok-of.of }) h l refl refl,
    )

pub returns : goal.returns
returns c =
    let z : c.loop-i.i ≡ length c.args.entries.now = omega arith in
    record {
      kept = c.loop-i.invariant.0;
      goes = λ base tp sp ts b.
          entering-end c.args.tables.now.given.text.now base tp sp c.args.entries.now ts c.loop-i.i c.loop-i.known (state_of c.loop-i.tables) z
          (c.loop-i.invariant.1 base tp sp ts b);
    }
