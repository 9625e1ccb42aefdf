use Rattle.std.proofs.Common.{◌≡◌, ℕ, ◌-◌, ◌≤◌, length, take, ap, ◌∙◌, subst, arith}
use Rattle.language.specs.Pantry.{Stock, stock_of}
use Rattle.checker.specs.Stocks.{stock_in}
use Rattle.checker.specs.Laws.{Answered}
use Rattle.checker.proofs.Copies.{all-copied}
use Rattle.checker.proofs.CheckLaws.{promised-by, judged-by, exchanged-by}
use Rattle.checker.proofs.checks.check.Goals as goal

pub returns : goal.returns
returns g c =
    let p = g.P.Pantry.meaning c.args.pantry.now in
    let few : length p ≤ 64 = (g.P.Pantry.lawful c.args.pantry.now).few in
    let text = c.args.sheet.text.now in
    let types = c.args.types.now in
    let slots = c.args.slots.now in
    let types' = c.check_entries.new.types in
    let slots' = c.check_entries.new.slots in
    let r = c.check_entries.result in
    let n = c.copy_entries-count.result in
    let all : length p ≤ n = omega (arith, few, c.copy_entries-count.ensures.count) in
    let z : n - 0 ≡ n = omega arith in
    let stock : stock_in (take (n - 0) c.copy_entries-count.new.table) ≡ stock_of p =
    ap (λ (k : ℕ). stock_in (take k c.copy_entries-count.new.table)) z ∙ all-copied p n _ all c.copy_entries-count.ensures.copied in
    let h = subst (λ (s : Stock). Answered s text r types slots types' slots') stock c.check_entries.ensures in
    record {
      answered = h;
      promised = promised-by (stock_of p) text types slots types' slots' r h;
      judged = judged-by (stock_of p) text types slots types' slots' r h;
      exchanged = exchanged-by (stock_of p) text types slots types' slots' r h;
    }
