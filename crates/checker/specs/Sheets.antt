-- The modules of a sheet, found by going forward through the tree, and its closing expression.
use Rattle.std.specs.Prelude.{◌≡◌, ℕ, suc, ◌≤◌, min, List, [], ◌∷◌, ◌++◌, ◌-◌, length, take, drop, Some, None, Ok, Err, Option, Result}
use Rattle.std.specs.List.{slice_get}
use Rattle.language.specs.declared.spans.Span.{Span}
use Rattle.language.specs.Typing.{ExpandedType, int, bool, Interfaces}
use Rattle.grammar.specs.declared.tree.Item.{Item}
use Rattle.grammar.specs.declared.tree.Item.TheVariants as item
use Rattle.grammar.specs.declared.tree.Node.{Node}
use Rattle.grammar.specs.declared.tree.Node.TheVariants as node
use Rattle.rules.specs.declared.faults.CheckFault.{CheckFault}
use Rattle.rules.specs.Forms.{Out, bad, good}
use Rattle.rules.specs.Rules as rules
use Rattle.rules.specs.Checking.{check_module, check_modules}
use Rattle.grammar.specs.Syntax.{Exp}
use Rattle.grammar.specs.Table.{name_in, exp_at, modules_of}
use Rattle.typing.specs.declared.types.TypeEntry.{TypeEntry}
use Rattle.typing.specs.declared.types.Slot.{Slot}
use Rattle.typing.specs.declared.types.Scope.{Scope}
use Rattle.typing.specs.declared.types.Interface.{Interface}
use Rattle.typing.specs.declared.types.Known.{Known}
use Rattle.typing.specs.declared.types.Given.{Given}
use Rattle.typing.specs.Tables.{State}
use Rattle.typing.specs.Stands.{Stands, AllDeclare, Stocks}
use Rattle.checker.specs.Modules.{declarations_of, definitions_of, interface_at, Declared}
use Rattle.checker.specs.declared.sheets.Progress.{Progress}

abbrev pub end_of_item : Item → Option Span
end_of_item (item.Opaque at x) = None
end_of_item (item.Transparent at x t) = None
end_of_item (item.Declared x t) = None
end_of_item (item.TypeIs at x t) = None
end_of_item (item.ValueIs x p) = None
end_of_item (item.Module at m) = Some m

-- the name of the module that ends with this node
abbrev pub end_of : Node → Option Span
end_of node.Blank = None
end_of (node.«Type» n) = None
end_of (node.Expression n) = None
end_of (node.Item x) = end_of_item x

abbrev pub or_end : Option Span → ℕ → Option (ℕ × Span) → Option (ℕ × Span)
or_end None k o = o
or_end (Some m) k o = Some (k, m)

-- the place and the name of the first module that ends among the nodes, of which the first stands at the place k
abbrev pub module_end : ℕ → List Node → Option (ℕ × Span)
module_end k [] = None
module_end k (x ∷ ns) = or_end (end_of x) k (module_end (suc k) ns)

-- between two modules: what the tables have of the earlier ones and of the pantry is what is seen by the rules
pub record Seen (text : List ℕ) (entries : List Known) (interfaces : List Interface) (ts : List ExpandedType) (slots : List Slot) (used : ℕ) (h : rules.Scope) : Type 0 where
  pub int_is : slice_get ts 0 ≡ Some int
  pub bool_is : slice_get ts 1 ≡ Some bool
  pub modules : AllDeclare text ts slots used interfaces h.modules
  pub stock : Stocks ts entries h.stock
  pub used_is : used ≡ h.used
  pub low : used ≤ 65535
  pub none : h.names ≡ []
  pub declared : Declared text ts slots used h.modules

abbrev pub places : {A : Type 0} → List A → ℕ
places xs = min (length xs) 65535

-- the tables stand for what the rules have between two modules
pub record Between (text : List ℕ) (base : List TypeEntry) (entries : List Known) (tp sp : ℕ) (interfaces : List Interface) (s : State) (used : ℕ)
    (ts : List ExpandedType) (h : rules.Scope) : Type 0 where
  pub stands : Stands text tp sp base s ts
  pub seen : Seen text entries interfaces ts s.slots used h

-- what the check of all modules answers
abbrev pub AfterModules : (text : List ℕ) (base : List TypeEntry) (entries : List Known) (tp sp : ℕ) → Out (List ExpandedType) rules.Scope → Result Progress CheckFault →
    List Interface → State → Type 0
AfterModules text base entries tp sp (bad f) r interfaces s = r ≡ Err f
AfterModules text base entries tp sp (good h ts) r interfaces s =
    (p : Progress) × (r ≡ Ok p) × Between text base entries tp sp (take p.modules interfaces) s p.used ts h

-- what a contract names
abbrev pub Base : Type 0
Base = List TypeEntry

abbrev pub RulesScope : Type 0
RulesScope = rules.Scope

-- by the rules: the module m, whose declarations and definitions are among the nodes
abbrev pub check_nodes : (text : List ℕ) (tree : List Node) (tp sp : ℕ) → Span → List Node → RulesScope → List ExpandedType → Out (List ExpandedType) RulesScope
check_nodes text tree tp sp m ns h ts = check_module tp sp (record {
  at = 0;
  name = name_in text m;
  interface = declarations_of text tree ns;
  body = definitions_of text tree ns;
}) h ts

-- what the check of one module answers: the scope of its interface
abbrev pub AfterModule : (text : List ℕ) (base : List TypeEntry) (entries : List Known) (tp sp : ℕ) → List Interface → Span → Out (List ExpandedType) rules.Scope →
    Result Scope CheckFault → State → Type 0
AfterModule text base entries tp sp interfaces m (bad f) r s = r ≡ Err f
AfterModule text base entries tp sp interfaces m (good h ts) r s =
    (g : Scope) × (r ≡ Ok g) × Between text base entries tp sp (interfaces ++ (interface_at m g ∷ [])) s g.used ts h

-- before the first module
abbrev pub Start : List ℕ → Base → List Known → State → List ExpandedType → RulesScope → Type 0
Start text base entries s ts h = Between text base entries (places s.types) (places s.slots) [] s 0 ts h

-- after the last: what the rules have, from the tables before to the tables after
abbrev pub Finish : List ℕ → List Node → Base → List Known → State → List ExpandedType → RulesScope → Result Progress CheckFault →
    List Interface → State → Type 0
Finish text tree base entries s ts h r interfaces' s' =
    AfterModules text base entries (places s.types) (places s.slots)
    (check_modules (places s.types) (places s.slots) (modules_of text tree tree) h ts) r interfaces' s'

-- on the way through the modules: what is left to check from here is left of the whole
pub record Going (text : List ℕ) (tree : List Node) (base : List TypeEntry) (entries : List Known) (tp sp : ℕ) (h₀ : rules.Scope) (ts₀ : List ExpandedType)
    (interfaces : List Interface) (s : State) (at : Progress) : Type 0 where
  pub scope : rules.Scope
  pub told : List ExpandedType
  pub between : Between text base entries tp sp (take at.modules interfaces) s at.used told scope
  pub rest : check_modules tp sp (modules_of text tree tree) h₀ ts₀ ≡ check_modules tp sp (modules_of text tree (drop at.start tree)) scope told

-- what the closing expression comes to: the number of its type; the declarations stay
pub record Closed (text : List ℕ) (base : List TypeEntry) (tp sp used : ℕ) (modules : Interfaces) (a : ExpandedType) (us : List ExpandedType) (r : Result ℕ CheckFault)
    (s : State) : Type 0 where
  pub number : ℕ
  pub result : r ≡ Ok number
  pub tells : slice_get us number ≡ Some a
  pub stands : Stands text tp sp base s us
  pub declared : Declared text us s.slots used modules

abbrev pub ClosedBy : (text : List ℕ) (base : List TypeEntry) (tp sp used : ℕ) (modules : Interfaces) → Out (List ExpandedType) ExpandedType → Result ℕ CheckFault →
    State → Type 0
ClosedBy text base tp sp used modules (bad f) r s = r ≡ Err f
ClosedBy text base tp sp used modules (good a us) r s = Closed text base tp sp used modules a us r s

abbrev pub AfterClosing : (text : List ℕ) (tree : List Node) (base : List TypeEntry) (tp sp used : ℕ) (close : ℕ) → rules.Scope → List ExpandedType →
    Result ℕ CheckFault → State → Type 0
AfterClosing text tree base tp sp used close h ts r s = (e : Exp) → exp_at 48 text tree close ≡ Some e →
    ClosedBy text base tp sp used h.modules (rules.typing tp sp e h ts) r s

-- CONTRACTS: WHAT A CHECK COMES TO, ON WHAT IT READS, FROM ONE STATE OF THE TABLES TO ANOTHER

abbrev pub BetweenIn : Given → State → Base → List Interface → (used : ℕ) → List ExpandedType → RulesScope → Type 0
BetweenIn w s base interfaces used ts h = Between w.text.now base w.entries.now (places s.types) (places s.slots) interfaces s used ts h

-- by the rules: the module of these nodes
abbrev pub nodes_checked : Given → State → Span → List Node → RulesScope → List ExpandedType → Out (List ExpandedType) RulesScope
nodes_checked w s m ns h ts = check_nodes w.text.now w.tree.now (places s.types) (places s.slots) m ns h ts

-- one module
abbrev pub ModuleTold : Given → (s t : State) → List Interface → (used : ℕ) → Span → List Node → Result Scope CheckFault → Type 0
ModuleTold w s t interfaces used m ns r = (base : Base) (h : RulesScope) (ts : List ExpandedType) → BetweenIn w s base interfaces used ts h →
    AfterModule w.text.now base w.entries.now (places s.types) (places s.slots) interfaces m (nodes_checked w s m ns h ts) r t

-- the next module, whose interface is kept with those of the earlier ones
abbrev pub StepTold : Given → (s t : State) (interfaces interfaces' : List Interface) → Progress → (end : ℕ) → Span → Result Progress CheckFault → Type 0
StepTold w s t interfaces interfaces' at end m r = (base : Base) (h : RulesScope) (ts : List ExpandedType) →
    BetweenIn w s base (take at.modules interfaces) at.used ts h →
    AfterModules w.text.now base w.entries.now (places s.types) (places s.slots)
    (nodes_checked w s m (take (end - at.start) (drop at.start w.tree.now)) h ts) r interfaces' t

-- all modules
abbrev pub ModulesTold : Given → (s t : State) (interfaces' : List Interface) → Result Progress CheckFault → Type 0
ModulesTold w s t interfaces' r = (base : Base) (h : RulesScope) (ts : List ExpandedType) → Start w.text.now base w.entries.now s ts h →
    Finish w.text.now w.tree.now base w.entries.now s ts h r interfaces' t

-- the closing expression
abbrev pub ClosingTold : Given → (s t : State) → List Interface → (used close : ℕ) → Result ℕ CheckFault → Type 0
ClosingTold w s t interfaces used close r = (base : Base) (h : RulesScope) (ts : List ExpandedType) → BetweenIn w s base interfaces used ts h →
    AfterClosing w.text.now w.tree.now base (places s.types) (places s.slots) used close h ts r t
