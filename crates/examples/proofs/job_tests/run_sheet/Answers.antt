use Rattle.std.proofs.Common.{◌≡◌, ℕ, ◌≤◌, true, List, length, take, Ok, Err, Some, Result, sym, ◌∙◌, subst, arith}
use Rattle.std.specs.Result.{result_ok}
use Rattle.language.specs.Pantry.{Stock, stock_of}
use Rattle.rules.specs.declared.faults.CheckFault.{CheckFault}
use Rattle.typing.specs.declared.types.TypeEntry.{TypeEntry}
use Rattle.checker.specs.Laws.{Promised}
use Rattle.checker.specs.Stocks.{stock_in}
use Rattle.checker.specs.Passes.{passes_with}
use Rattle.checker.proofs.Copies.{all-copied}
use Rattle.examples.proofs.job_tests.run_sheet.Goals as goal

passed : (s : Stock) (text : List ℕ) (types : List TypeEntry) (r : Result ℕ CheckFault) (k : ℕ) → result_ok r ≡ Some k → Promised s text r types →
    passes_with s text types k ≡ true
passed s text types (Ok j) k e h = let z : j ≡ k = cc in subst (λ (n : ℕ). passes_with s text types n ≡ true) z h
passed s text types (Err f) k e h = let z : ◌≡◌ {A = ℕ} 0 1 = cc in absurd (omega arith)

pub pass-pass-requires : goal.pass-pass-requires
pass-pass-requires g c =
    let p = g.P.Pantry.meaning c.args.pantry.now in
    let few : length p ≤ 64 = (g.P.Pantry.lawful c.args.pantry.now).few in
    let n = c.copy_entries-count.result in
    let all : length p ≤ n = omega (arith, few, c.copy_entries-count.ensures.count) in
    let stock : stock_in (take n c.copy_entries-count.new.table) ≡ stock_of p = all-copied p n _ all c.copy_entries-count.ensures.copied in
    let passes = passed (stock_of p) c.sheet-sheet.result.text.now c.check.new.types c.check.result c.in_ok-number.number
    (sym c.ok-2.ensures.value ∙ c.in_ok-number.ensures.ok_part) c.check.ensures.promised in
    subst (λ (s : Stock). passes_with s c.sheet-sheet.result.text.now c.check.new.types c.in_ok-number.number ≡ true) (sym stock) passes
