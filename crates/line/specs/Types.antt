-- How an expanded type is written.
use Rattle.std.specs.Prelude.{ℕ, List, ◌++◌, codes}
use Rattle.language.specs.Typing.{ExpandedType, int, bool, hidden, ◌⇒◌}

-- a type is written as in the grammar
abbrev pub type_bytes : ExpandedType → List ℕ
type_bytes int = codes "int"
type_bytes bool = codes "bool"
type_bytes (hidden m t) = codes "from " ++ (m ++ (codes " take " ++ t))
type_bytes (a ⇒ b) = codes "(" ++ (type_bytes a ++ (codes " -> " ++ (type_bytes b ++ codes ")")))
