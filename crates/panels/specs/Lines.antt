-- The line that tells what became of a sheet. Assumes nothing.
use Rattle.std.specs.Prelude.{ℕ, ◌+◌, List, ◌++◌, Ok, Err, codes, decimal, Result}
use Rattle.grammar.specs.declared.faults.Fault.{Fault}
use Rattle.grammar.specs.declared.faults.Layer.{Layer}
use Rattle.grammar.specs.Faults.{Refusal, layer_name, refusal, refusal_of}
use Rattle.grammar.specs.Reading.{Out, bad, good}
use Rattle.grammar.specs.Syntax.{Sheet, size}

-- the end of a refusal's line
abbrev pub by_layer : Layer → List ℕ
by_layer layer = codes " by " ++ layer_name layer

-- number, place and layer
abbrev pub refused_bytes : ℕ → ℕ → Layer → List ℕ
refused_bytes number place layer = codes "refused " ++ (decimal number ++ (codes " at " ++ (decimal place ++ by_layer layer)))

abbrev pub refusal_bytes : Refusal → List ℕ
refusal_bytes f = refused_bytes f.number f.place f.layer

-- the number of tree places
abbrev pub read_bytes : ℕ → List ℕ
read_bytes n = codes "read " ++ decimal n

-- what the reader answered; its answer is the place of the last node
abbrev pub answer_bytes : Result ℕ Fault → List ℕ
answer_bytes (Ok close) = read_bytes (close + 1)
answer_bytes (Err f) = refusal_bytes (refusal_of f)

-- the line on a sheet, by what its text is read as
abbrev pub line_of : Out Sheet → List ℕ
line_of (bad k at) = refusal_bytes (refusal k at)
line_of (good s e) = read_bytes (size s)
