-- What reading a text into a lent table answers and leaves. Assumes nothing.
use Rattle.std.specs.Prelude.{◌≡◌, ℕ, ◌+◌, ◌-◌, min, List, [], ◌++◌, length, drop, replicate, Some, Ok, Err, Result}
use Rattle.grammar.specs.declared.faults.Fault.{Fault}
use Rattle.grammar.specs.declared.tree.Node.{Node}
use Rattle.grammar.specs.declared.tree.Node.TheVariants as node
use Rattle.grammar.specs.Syntax.{Sheet, inner_e, inner_m, places, size}
use Rattle.grammar.specs.Faults.{refusal, told}
use Rattle.grammar.specs.Reading.{Out, bad, good, reading}
use Rattle.grammar.specs.Table.{nodes_s, lay_s}

-- how many places of a table are touched
abbrev pub limit_of : List Node → ℕ
limit_of ns = min (length ns) 65535

-- the table with these places blank
unfoldable pub blanked : List Node → List Node
blanked ns = replicate (limit_of ns) node.Blank ++ drop 65535 ns

-- the place of the closing expression, the last
abbrev pub close_of : Sheet → ℕ
close_of s = places inner_m s.modules + inner_e s.closing

-- the table with the sheet's nodes in front, blank up to the limit
abbrev pub filled : Sheet → List Node → List Node
filled s ns = nodes_s s ++ (replicate (limit_of ns - size s) node.Blank ++ drop 65535 ns)

-- the answer and the table ms, by what is read; ns is the table before. A refusal leaves the table blank.
abbrev pub Answered : Out Sheet → Result ℕ Fault → List Node → List Node → Type 0
Answered (bad k e) r ns ms = (told r ≡ Some (refusal k e)) × (ms ≡ blanked ns)
Answered (good s e) r ns ms = (r ≡ Ok (close_of s)) × (ms ≡ filled s ns)

-- the same before the blanking that a refusal asks for
abbrev pub Filled : Out Sheet → Result ℕ Fault → List Node → List Node → Type 0
Filled (bad k e) r ns ms = (told r ≡ Some (refusal k e)) × (drop 65535 ms ≡ drop 65535 ns)
Filled (good s e) r ns ms = (r ≡ Ok (close_of s)) × (ms ≡ lay_s s ns)

-- the nodes of what is read
abbrev pub nodes_read : Out Sheet → List Node
nodes_read (bad k e) = []
nodes_read (good s e) = nodes_s s

-- the tree is the nodes of the sheet that the text is read as, the closing expression's the last of them
abbrev pub IsRead : List ℕ → List Node → ℕ → Type 0
IsRead text tree close = (tree ≡ nodes_read (reading 65535 text)) × (length tree ≡ close + 1)

-- an answer Ok promises so of the nodes up to the closing expression's
abbrev pub Promises : Result ℕ Fault → List ℕ → List Node → Type 0
Promises (Ok close) text ms = IsRead text (lib.ListN.take (close + 1) ms) close
Promises (Err f) text ms = Unit {0}
