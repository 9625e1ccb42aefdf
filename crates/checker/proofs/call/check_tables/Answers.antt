use Rattle.std.proofs.Common.{◌≡◌, ℕ, min, length, drop, replicate, ap, ◌∙◌, arith, rules}
use Rattle.grammar.specs.Table.{modules_of}
use Rattle.typing.specs.declared.types.TypeEntry.TheVariants as entry
use Rattle.typing.specs.declared.types.Slot.TheVariants as slot
use Rattle.checker.specs.Stocks.{stock_in}
use Rattle.checker.proofs.Ends.{cleared, ends-bad, ends-good}
use Rattle.checker.proofs.call.check_tables.Goals as goal

pub returns-in-Ok : goal.returns-in-Ok
returns-in-Ok c =
    let k = c.in-Ok.ensures in
    let m : length c.run_blank.new.slots ≡ length c.args.slots.now = omega arith in
    let f = cleared c.in-Ok.used c.run_blank.new.slots slot.Blank c.min-declared.result c.fill.new.self (c.min-declared.ensures ∙ ap (λ (n : ℕ). min n (length c.run_blank.new.slots)) c.from.ensures) (c.fill.ensures.after (search rules)) in
    λ e q. ends-good c.args.sheet.text.now (stock_in c.args.entries.now) (record { modules = modules_of c.args.sheet.text.now c.args.sheet.tree.now c.args.sheet.tree.now; closing = e })
    c.args.types.now c.args.slots.now c.in-Ok.ty c.in-Ok.used c.run_blank.new.types c.run_blank.new.slots _ (k e q) f.0 (f.1 ∙ ap (λ (n : ℕ). drop c.in-Ok.used (replicate n slot.Blank)) m)

pub returns-in-Err : goal.returns-in-Err
returns-in-Err c =
    let k = c.in-Err.ensures in
    let lt : length c.run_blank.new.types ≡ length c.args.types.now = omega arith in
    let ls : length c.run_blank.new.slots ≡ length c.args.slots.now = omega arith in
    λ e q. ends-bad c.args.sheet.text.now (stock_in c.args.entries.now) (record { modules = modules_of c.args.sheet.text.now c.args.sheet.tree.now c.args.sheet.tree.now; closing = e })
    c.args.types.now c.args.slots.now c.in-Err.fault c.run_blank.new.types c.run_blank.new.slots c.fill-in-Err.new.self c.fill-in-Err-2.new.self
    (k e q) (c.fill-in-Err.ensures.after (search rules) ∙ ap (λ (n : ℕ). replicate n entry.Blank) lt)
    (c.fill-in-Err-2.ensures.after (search rules) ∙ ap (λ (n : ℕ). replicate n slot.Blank) ls)
