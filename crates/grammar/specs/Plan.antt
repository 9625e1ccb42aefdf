-- The plan that a job is given of a tree: its expressions by place, and what is to be done in order. Assumes nothing.
use Rattle.std.specs.Prelude.{ℕ, List, [], ◌∷◌, map}
use Rattle.language.specs.Bindings.{spelled_in}
use Rattle.language.specs.Tree as language
use Rattle.grammar.specs.declared.tree.TypeNode.{TypeNode}
use Rattle.grammar.specs.declared.tree.TypeNode.TheVariants as ty
use Rattle.grammar.specs.declared.tree.ExpNode.{ExpNode}
use Rattle.grammar.specs.declared.tree.ExpNode.TheVariants as ex
use Rattle.grammar.specs.declared.tree.Item.{Item}
use Rattle.grammar.specs.declared.tree.Item.TheVariants as item
use Rattle.grammar.specs.declared.tree.Node.{Node}
use Rattle.grammar.specs.declared.tree.Node.TheVariants as node
use Rattle.grammar.specs.Plain.{plain_o}

-- a type's node with its names spelled out
abbrev pub type_node_of : List ℕ → TypeNode → language.TypeNode
type_node_of text (ty.Int at) = language.int_node
type_node_of text (ty.Bool at) = language.bool_node
type_node_of text (ty.Named t) = language.named_type_node (spelled_in text t)
type_node_of text (ty.From at m t) = language.qualified_type_node (spelled_in text m) (spelled_in text t)
type_node_of text (ty.Arrow at a b) = language.arrow_node a b

-- an expression's node with its names spelled out
abbrev pub exp_node_of : List ℕ → ExpNode → language.Node
exp_node_of text (ex.Number at v) = language.number_node v
exp_node_of text (ex.Boolean at b) = language.boolean_node b
exp_node_of text (ex.Variable x) = language.variable_node (spelled_in text x)
exp_node_of text (ex.From at m x) = language.qualified_node (spelled_in text m) (spelled_in text x)
exp_node_of text (ex.IsZero at a) = language.is_zero_node a
exp_node_of text (ex.Apply at a b) = language.apply_node a b
exp_node_of text (ex.Proc at x t e) = language.proc_node (spelled_in text x) t e
exp_node_of text (ex.Let at x a e) = language.let_node (spelled_in text x) a e
exp_node_of text (ex.If at a b c) = language.conditional_node a b c
exp_node_of text (ex.Letrec at r f x t b e) = language.letrec_node r (spelled_in text f) (spelled_in text x) t b e
exp_node_of text (ex.Binary at o a b) = language.binary_node (plain_o o) a b

-- a node of the tree as the language has it; declarations, definitions and modules are none
abbrev pub node_of : List ℕ → Node → language.Node
node_of text node.Blank = language.no_node
node_of text (node.«Type» n) = language.type_node (type_node_of text n)
node_of text (node.Expression n) = exp_node_of text n
node_of text (node.Item n) = language.no_node

-- what an item has a job do, before the other tasks: a value definition is run, and a module's node ends its body
abbrev pub item_task : List ℕ → Item → List language.Task → List language.Task
item_task text (item.Opaque at t) ts = ts
item_task text (item.Transparent at t a) ts = ts
item_task text (item.Declared x a) ts = ts
item_task text (item.TypeIs at t a) ts = ts
item_task text (item.ValueIs x e) ts = language.define (spelled_in text x) e ∷ ts
item_task text (item.Module at m) ts = language.end_module (spelled_in text m) ∷ ts

-- what a node has a job do, before the other tasks
abbrev pub with_task : List ℕ → Node → List language.Task → List language.Task
with_task text node.Blank ts = ts
with_task text (node.«Type» n) ts = ts
with_task text (node.Expression n) ts = ts
with_task text (node.Item n) ts = item_task text n ts

-- the tasks of the nodes, in order
unfoldable pub tasks_of : List ℕ → List Node → List language.Task
tasks_of text [] = []
tasks_of text (n ∷ ns) = with_task text n (tasks_of text ns)

-- THE PLAN of a tree whose closing expression has the place `root`
abbrev pub plan_of : List ℕ → List Node → ℕ → language.Plan
plan_of text nodes root = record { tree = map (node_of text) nodes; tasks = tasks_of text nodes; close = root }
