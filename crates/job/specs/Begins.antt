-- The way from one definition to the next, or to the closing expression.
use Rattle.std.specs.Prelude.{◌≡◌, ℕ, ◌<◌, ◌≤◌, List, ◌∷◌, map, drop, length, Some, None, Option as Maybe}
use Rattle.language.specs.Bindings.{spelled_in}
use Rattle.language.specs.Tree as tree
use Rattle.language.specs.Machine as machine
use Rattle.grammar.specs.Plan.{tasks_of}
use Rattle.job.specs.declared.course.Course.{Course}
use Rattle.job.specs.declared.begin.Task.{Task}
use Rattle.job.specs.declared.begin.Task.TheVariants.{Define, EndModule}
use Rattle.job.specs.Maps.{scope_of}

-- a task, if there is one, before others
abbrev pub before : List ℕ → Maybe Task → List tree.Task → List tree.Task
before text None ts = ts
before text (Some (Define x k)) ts = tree.define (spelled_in text x) k ∷ ts
before text (Some (EndModule m)) ts = tree.end_module (spelled_in text m) ∷ ts

-- the tasks that are left
abbrev pub left_in : List ℕ → Course → List tree.Task
left_in text c = tasks_of text (drop c.next c.tree.now)

-- the registers with which what is left begins, in the scope s
abbrev pub remaining : List ℕ → ℕ → ℕ → Course → ℕ → machine.Registers
remaining text close cells c s = machine.begin close cells (map (scope_of text) c.modules.items) s (left_in text c)

-- the course goes on if a task was found, and else nothing is left
abbrev pub Further : Course → Course → Maybe Task → Type 0
Further c c' None = length c'.tree.now ≤ c'.next
Further c c' (Some t) = (c.next < c'.next) × (c'.next ≤ length c'.tree.now)

-- the next task is taken from those that are left
pub record Takes (c c' : Course) (t : Maybe Task) : Type 0 where
  pub rest : (text : List ℕ) → left_in text c ≡ before text t (left_in text c')
  pub tree : c'.tree ≡ c.tree
  pub modules : c'.modules ≡ c.modules
  pub further : Further c c' t
