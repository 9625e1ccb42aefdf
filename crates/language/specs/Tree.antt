-- The tree as a table of nodes, in which a part is named by its place, and when a plan for a job stands for a sheet.
use Rattle.std.specs.Prelude.{◌≡◌, ℕ, suc, Bool, true, cond, ◌&&◌, List, [], ◌∷◌, ℤ, nat_lt, slice_index_or}
use Rattle.words.specs.Names.{Name}
use Rattle.language.specs.Syntax.{
  WrittenType,
  int_type,
  bool_type,
  named_type,
  qualified_type,
  arrow_type,
  Operator,
  Exp,
  number,
  boolean,
  variable,
  qualified,
  is_zero,
  apply,
  proc,
  let_in,
  conditional,
  letrec,
  binary,
  Definition,
  type_is,
  value_is,
  Module,
  Sheet,
}

-- a part of the tree is named by its place in the table
abbrev pub Part : Type 0
Part = ℕ

-- a written type, with its own parts by their places
pub data TypeNode : Type 0 where
  int_node bool_node : TypeNode
  named_type_node : Name → TypeNode
  qualified_type_node : Name → Name → TypeNode
  arrow_node : Part → Part → TypeNode

-- what stands at a place: nothing that a job needs, a type, or an expression
pub data Node : Type 0 where
  no_node : Node
  type_node : TypeNode → Node
  number_node : ℤ → Node
  boolean_node : Bool → Node
  variable_node : Name → Node
  qualified_node : Name → Name → Node
  is_zero_node : Part → Node
  apply_node : Part → Part → Node
  proc_node : Name → Part → Part → Node
  let_node : Name → Part → Part → Node
  conditional_node : Part → Part → Part → Node
  letrec_node : Part → Name → Name → Part → Part → Part → Node
  binary_node : Operator → Part → Part → Node

-- what stands at place j; past the end nothing does
abbrev pub node_at : List Node → Part → Node
node_at tree j = slice_index_or tree j no_node

-- the expressions that are parts of this one
abbrev pub children : Node → List Part
children no_node = []
children (type_node y) = []
children (number_node z) = []
children (boolean_node b) = []
children (variable_node x) = []
children (qualified_node m x) = []
children (is_zero_node k) = k ∷ []
children (apply_node k l) = k ∷ (l ∷ [])
children (proc_node x t k) = k ∷ []
children (let_node x k l) = k ∷ (l ∷ [])
children (conditional_node k l n) = k ∷ (l ∷ (n ∷ []))
children (letrec_node u f x t k l) = k ∷ (l ∷ [])
children (binary_node o k l) = k ∷ (l ∷ [])

-- part j of the tree stands for the type
abbrev pub TypeStands : List Node → Part → WrittenType → Type 0
TypeStands tree j int_type = node_at tree j ≡ type_node int_node
TypeStands tree j bool_type = node_at tree j ≡ type_node bool_node
TypeStands tree j (named_type t) = node_at tree j ≡ type_node (named_type_node t)
TypeStands tree j (qualified_type m t) = node_at tree j ≡ type_node (qualified_type_node m t)
TypeStands tree j (arrow_type a b) = (k : Part) × (l : Part) × (node_at tree j ≡ type_node (arrow_node k l)) × TypeStands tree k a ×
    TypeStands tree l b

-- part j of the tree stands for the expression
abbrev pub Stands : List Node → Part → Exp → Type 0
Stands tree j (number z) = node_at tree j ≡ number_node z
Stands tree j (boolean b) = node_at tree j ≡ boolean_node b
Stands tree j (variable x) = node_at tree j ≡ variable_node x
Stands tree j (qualified m x) = node_at tree j ≡ qualified_node m x
Stands tree j (is_zero a) = (k : Part) × (node_at tree j ≡ is_zero_node k) × Stands tree k a
Stands tree j (apply a b) = (k : Part) × (l : Part) × (node_at tree j ≡ apply_node k l) × Stands tree k a × Stands tree l b
Stands tree j (proc x t a) = (i : Part) × (k : Part) × (node_at tree j ≡ proc_node x i k) × TypeStands tree i t × Stands tree k a
Stands tree j (let_in x a b) = (k : Part) × (l : Part) × (node_at tree j ≡ let_node x k l) × Stands tree k a × Stands tree l b
Stands tree j (conditional a b c) = (k : Part) × (l : Part) × (n : Part) × (node_at tree j ≡ conditional_node k l n) × Stands tree k a ×
    Stands tree l b × Stands tree n c
Stands tree j (letrec u f x t a b) = (h : Part) × (i : Part) × (k : Part) × (l : Part) × (node_at tree j ≡ letrec_node h f x i k l) ×
    TypeStands tree h u × TypeStands tree i t × Stands tree k a × Stands tree l b
Stands tree j (binary o a b) = (k : Part) × (l : Part) × (node_at tree j ≡ binary_node o k l) × Stands tree k a × Stands tree l b

-- What a job does of a sheet's modules: run a value definition of a body, or end a module's body. Type definitions need no running.
pub data Task : Type 0 where
  define : Name → Part → Task
  end_module : Name → Task

-- the definitions of a body stand as the first of these tasks, with `rest` behind them
pub data BodyStands (tree : List Node) (rest : List Task) : List Definition → List Task → Type 0 where
  b_none : BodyStands tree rest [] rest
  b_skip : {t : Name} {u : WrittenType} {ds : List Definition} {ts : List Task} → BodyStands tree rest ds ts →
      BodyStands tree rest (type_is t u ∷ ds) ts
  b_task : {x : Name} {a : Exp} {j : Part} {ds : List Definition} {ts : List Task} → Stands tree j a → BodyStands tree rest ds ts →
      BodyStands tree rest (value_is x a ∷ ds) (define x j ∷ ts)

-- the modules stand as these tasks: each body, then its end
pub data ModulesStand (tree : List Node) : List Module → List Task → Type 0 where
  m_none : ModulesStand tree [] []
  m_more : {m : Module} {ms : List Module} {rest ts : List Task} → ModulesStand tree ms rest →
      BodyStands tree (end_module m.name ∷ rest) m.body ts → ModulesStand tree (m ∷ ms) ts

-- ── the order of parts ──

-- the roots: the expressions of the definitions, and the closing one
abbrev pub roots_of : List Task → Part → List Part
roots_of [] close = close ∷ []
roots_of (define x j ∷ ts) close = j ∷ roots_of ts close
roots_of (end_module m ∷ ts) close = roots_of ts close

-- all of these stand behind j
abbrev pub all_behind : Part → List Part → Bool
all_behind j [] = true
all_behind j (q ∷ qs) = nat_lt j q && all_behind j qs

-- each stands behind those before it
abbrev pub ascending : List Part → Bool
ascending [] = true
ascending (q ∷ qs) = all_behind q qs && ascending qs

-- no root stands at k or between k and j
abbrev pub none_between : Part → Part → List Part → Bool
none_between k j [] = true
none_between k j (q ∷ qs) = cond (nat_lt q j) (nat_lt q k) true && none_between k j qs

-- these parts of part j stand before it, with no root between
abbrev pub parts_before : List Part → Part → List Part → Bool
parts_before roots j [] = true
parts_before roots j (k ∷ ks) = (nat_lt k j && none_between k j roots) && parts_before roots j ks

-- so do the parts of each of these nodes, the first of which stands at place i
abbrev pub inner_first : List Part → Part → List Node → Bool
inner_first roots i [] = true
inner_first roots i (n ∷ ns) = parts_before roots i (children n) && inner_first roots (suc i) ns

-- what a job is given of a sheet: the tree, the tasks in order, and the closing expression
pub record Plan : Type 0 where
  pub tree : List Node
  pub tasks : List Task
  pub close : Part

-- The plan stands for the sheet. The order of parts is that of a table filled as the text is read: inner parts first, root after root.
pub record SheetStands (plan : Plan) (sheet : Sheet) : Type 0 where
  pub modules_stand : ModulesStand plan.tree sheet.modules plan.tasks
  pub closing_stands : Stands plan.tree plan.close sheet.closing
  pub roots_ascend : ascending (roots_of plan.tasks plan.close) ≡ true
  pub inner_parts_first : inner_first (roots_of plan.tasks plan.close) 0 plan.tree ≡ true
