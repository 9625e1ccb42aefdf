use Rattle.std.proofs.Common.{◌≡◌, length, arith}
use Rattle.grammar.specs.Table.{modules_of}
use Rattle.checker.specs.Stocks.{stock_in}
use Rattle.checker.specs.Passes.{sheet_in}
use Rattle.checker.proofs.Lent.{told-whole}
use Rattle.checker.proofs.ReadTrees.{read-facts, sheet-in}
use Rattle.checker.proofs.checks.check_entries.Goals as goal

pub returns : goal.returns
returns c =
    let text = c.args.sheet.text.now in
    let tree = c.args.sheet.tree.now in
    let f = read-facts text tree c.args.sheet.close c.args.sheet.read in
    let t : length c.check_tables.new.types ≡ c.min-t.result = omega arith in
    let s : length c.check_tables.new.slots ≡ c.min-s.result = omega arith in
    told-whole text (stock_in c.args.entries.now) (record { modules = modules_of text tree tree; closing = f.sheet.closing }) c.args.types.now
    c.check_tables.new.types c.args.slots.now c.check_tables.new.slots c.min-t.result c.min-s.result
    c.min-t.ensures c.min-s.ensures t s (sheet_in text) (sheet-in text tree c.args.sheet.close f) c.check_tables.result
    (c.check_tables.ensures f.sheet.closing f.closing-is)
