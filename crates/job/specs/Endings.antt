-- How many module bodies are still to end.
use Rattle.std.specs.Prelude.{ℕ, suc, List, [], ◌∷◌, drop}
use Rattle.language.specs.Tree as tree
use Rattle.grammar.specs.Plan.{tasks_of}
use Rattle.grammar.specs.declared.tree.Node.{Node}

-- how many bodies end among these tasks
unfoldable pub ending : List tree.Task → ℕ
ending [] = 0
ending (tree.define x k ∷ ts) = ending ts
ending (tree.end_module m ∷ ts) = suc (ending ts)

-- how many bodies end from a place of the tree on
abbrev pub ends_from : List Node → ℕ → ℕ
ends_from nodes i = ending (tasks_of [] (drop i nodes))
