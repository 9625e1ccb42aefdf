use Rattle.std.proofs.Common.{◌≡◌, ◌≤◌, List, ℤ, pos, Some, sym, ap, arith, rules, w32, SFits, to_z, of_z}
use Rattle.std.proofs.lemmas.Int.{ints, to_z-of_z}
use mathlib.Core.Option.{some}
use Rattle.language.specs.Pantry.{figure_reply}
use Rattle.pantry.specs.declared.records.Record.{Record}
use Rattle.pantry.specs.Items.{record_for, kcal_in}
use Rattle.pantry.specs.ItemLaws.{found_small}
use Rattle.pantry.proofs.items.Items.kcal.Goals as goal

kcal-out : (rs : List Record) (z : ℤ) (r : Record) → SFits w32 z → Some r ≡ record_for rs (to_z w32 (of_z w32 z)) → r.kcal ≤ 2000000000 →
    some (figure_reply (to_z w32 r.kcal)) ≡ kcal_in (record_for rs z)
kcal-out rs z r s g h =
    let q : Some r ≡ record_for rs z = simp (to_z-of_z w32 z s) at g in
    let e : to_z w32 r.kcal ≡ pos r.kcal = omega (arith, ints) in
    rw (sym q) (ap (λ v. some (figure_reply v)) e)

pub overflow_cast-result : goal.overflow_cast-result
overflow_cast-result c = let s = found_small c.args.self.now.file.now _ _ c.args.self.now.ok (sym c.in_ok-record.ensures) in search rules

pub returns : goal.returns
returns c =
    let s = found_small c.args.self.now.file.now _ _ c.args.self.now.ok (sym c.in_ok-record.ensures) in
    kcal-out _ c.args.argument c.in_ok-record.record c.ranges.argument c.in_ok-record.ensures s
