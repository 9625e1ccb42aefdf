-- Declarations, definitions, matching and modules on the tables go as the rules have it.
use Rattle.std.proofs.Common.{◌≡◌, ℕ, suc, ◌<◌, ◌≤◌, true, List, [], ◌∷◌, length, get_or, is_some, Some, None, Option, refl, arith}
use Rattle.std.proofs.lemmas.Bool.{false≢true}
use Rattle.language.specs.declared.spans.Span.{Span}
use Rattle.language.specs.Names.{lookup}
use Rattle.language.specs.Bindings.{part_of, option_of}
use Rattle.language.specs.Typing.{ExpandedType}
use Rattle.grammar.specs.declared.tree.Item.{Item}
use Rattle.grammar.specs.declared.tree.Item.TheVariants as item
use Rattle.grammar.specs.declared.tree.Node.{Node}
use Rattle.grammar.specs.declared.tree.Node.TheVariants as node
use Rattle.grammar.specs.Syntax.{Exp, Declaration, Definition}
use Rattle.grammar.specs.Table.{name_in, type_at, exp_at, Addition, nothing, declares, defines, ends, addition_by, addition_of, addition}
use Rattle.rules.specs.declared.faults.CheckFault.TheVariants.{Repeated}
use Rattle.rules.specs.Forms.{Out, after, give}
use Rattle.rules.specs.ItemForms.{neither, opaque_f, type_is_f, value_is_f}
use Rattle.rules.specs.Rules as rules
use Rattle.rules.specs.Rules.{types_of, values_of, item_rules, supplied_by, expanding}
use Rattle.rules.specs.Checking.{declare, declare_all, define, define_all}
use Rattle.typing.specs.declared.types.TypeEntry.{TypeEntry}
use Rattle.typing.specs.declared.types.Scope.{Scope}
use Rattle.typing.specs.declared.types.Given.{Given}
use Rattle.typing.specs.Tables.{State, Check, tables, expand_n, type_n}
use Rattle.typing.specs.Stands.{Stands, Scoped}
use Rattle.typing.proofs.Alike.{Tells, Alike, alike-good, next-refl, alike-less, then-alike, want-alike, Both, neither as neither-there, each}
use Rattle.typing.proofs.Rows.{hide-alike}
use Rattle.typing.proofs.Scopes.{scoped-next, type-named, value-named, Inner, enter-alike, enter-type-alike}
use Rattle.typing.proofs.Simulation.{On, Goes, type-here, ExpHere, exp-here}
use Rattle.checker.specs.Items.{item_tables, is_fresh, declare_item, define_item, on_item, all_items, NodeHolds}
use Rattle.checker.specs.Modules.{with_declaration, declarations_of, with_definition, definitions_of}

neither-both : {A B C D : Type 0} {R : A → B → Type 0} {Q : C → D → Type 0} {o : Option A} {p : Option B} {o' : Option C} {p' : Option D} → Both R o p → Both Q o' p' →
    neither o o' ≡ neither p p'
neither-both neither-there neither-there = refl
neither-both neither-there (each r) = refl
neither-both (each r) h = refl

pub on-all : {A : Type 0} (o : Option A) → On o (λ a. Unit {0})
on-all None = tt
on-all (Some a) = tt

-- every node holds
pub data Each (P : Node → Type 0) : List Node → Type 0 where
  each_none : Each P []
  each_more : {x : Node} {xs : List Node} → P x → Each P xs → Each P (x ∷ xs)

pub all-each : (P : Node → Type 0) (d : Node) (ns : List Node) → ((k : ℕ) → k < length ns → P (get_or ns k d)) → Each P ns
all-each P d [] h = each_none
all-each P d (x ∷ xs) h = each_more (h 0 (omega arith)) (all-each P d xs (λ k l. h (suc k) (omega arith)))

module _ (w : Given) (tp sp : ℕ) (base : List TypeEntry) where
  abbrev text : List ℕ
  text = w.text.now

  -- checks of an item, on the tables and by the rules
  abbrev Steps : Type 0
  Steps = Scope → State → Out State Scope

  abbrev Rules : Type 0
  Rules = rules.Scope → List ExpandedType → Out (List ExpandedType) rules.Scope

  -- the two checks of an item go alike, wherever they begin alike
  abbrev pub ItemGoes : Steps → Rules → Type 0
  ItemGoes f p = (first : ℕ) (g : Scope) (h : rules.Scope) (s : State) (ts : List ExpandedType) → Stands text tp sp base s ts →
      Scoped w first ts s.slots g h → Alike text tp sp base (Inner w tp sp base first g.used) g.used s ts (f g s) (p h ts)

  fresh-is : (first : ℕ) (g : Scope) (h : rules.Scope) (s : State) (ts : List ExpandedType) (x : Span) → Scoped w first ts s.slots g h →
      is_fresh w g x s ≡ neither (option_of (lookup (types_of h.names) (name_in text x).bytes)) (option_of (lookup (values_of h.names) (name_in text x).bytes))
  fresh-is first g h s ts x c = neither-both (type-named w tp sp base first s ts g h x c) (value-named w tp sp base first s ts g h x c)

  -- an item that says nothing
  give-goes : ItemGoes (λ g. give g) (λ h. give h)
  give-goes first g h s ts st c = alike-good (next-refl text tp sp base g.used s ts st) (record { scoped = c; outside = omega arith })

  type-is-goes : (at : ℕ) (x : Span) {f : Check} {p : rules.Scope → List ExpandedType → Out (List ExpandedType) ExpandedType} → Goes w tp sp base f p →
      ItemGoes (λ g. type_is_f (tables w) (item_tables w) at x f g) (λ h. type_is_f (rules.rules tp sp) (item_rules tp sp) at (name_in text x) p h)
  type-is-goes at x F first g h s ts st c =
      want-alike text tp sp base _ _ (Repeated x.place) _ _ _ (fresh-is first g h s ts x c) refl (λ _.
      then-alike text tp sp base _ _ (F first g h s ts st c) (λ i a s₁ ts₁ n₁ r₁.
      enter-type-alike w tp sp base first at i a s₁ ts₁ g h x n₁.stands (scoped-next w tp sp base first s s₁ ts ts₁ g h n₁ c) r₁))

  value-is-goes : (at : ℕ) (x : Span) {f : Check} {p : rules.Scope → List ExpandedType → Out (List ExpandedType) ExpandedType} → Goes w tp sp base f p →
      ItemGoes (λ g. value_is_f (tables w) (item_tables w) at x f g) (λ h. value_is_f (rules.rules tp sp) (item_rules tp sp) at (name_in text x) p h)
  value-is-goes at x F first g h s ts st c =
      want-alike text tp sp base _ _ (Repeated x.place) _ _ _ (fresh-is first g h s ts x c) refl (λ _.
      then-alike text tp sp base _ _ (F first g h s ts st c) (λ i a s₁ ts₁ n₁ r₁.
      enter-alike w tp sp base first at i a s₁ ts₁ g h x n₁.stands (scoped-next w tp sp base first s s₁ ts ts₁ g h n₁ c) r₁))

  hide-goes : (at : ℕ) (m x : Span) (u : ℕ) (s : State) (ts : List ExpandedType) → Stands text tp sp base s ts →
      Alike text tp sp base Tells u s ts ((item_tables w).hide at m x s) ((item_rules tp sp).hide at (name_in text m) (name_in text x) ts)
  unfolding part_of
  hide-goes at m x u s ts st = hide-alike text tp sp base at m x u s ts st

  opaque-goes : (at : ℕ) (m x : Span) →
      ItemGoes (λ g. opaque_f (tables w) (item_tables w) at m x g) (λ h. opaque_f (rules.rules tp sp) (item_rules tp sp) at (name_in text m) (name_in text x) h)
  opaque-goes at m x first g h s ts st c =
      want-alike text tp sp base _ _ (Repeated x.place) _ _ _ (fresh-is first g h s ts x c) refl (λ _.
      then-alike text tp sp base _ _ (hide-goes at m x g.used s ts st) (λ i a s₁ ts₁ n₁ r₁.
      enter-type-alike w tp sp base first at i a s₁ ts₁ g h x n₁.stands (scoped-next w tp sp base first s s₁ ts ts₁ g h n₁ c) r₁))

  -- what a node declares or defines, by the rules
  abbrev declare_on : Span → Addition → Rules
  declare_on m nothing = give
  declare_on m (declares d) = declare tp sp (name_in text m) d
  declare_on m (defines d) = give
  declare_on m (ends at x) = give

  abbrev define_on : Addition → Rules
  define_on nothing = give
  define_on (declares d) = give
  define_on (defines d) = define tp sp d
  define_on (ends at x) = give

  abbrev tree : List Node
  tree = w.tree.now

  -- a part that is there
  with_part : {A : Type 0} {f : Steps} (o : Option A) (k : A → Addition) (P : A → Type 0) (on : Addition → Rules) → is_some o ≡ true → On o P →
      ((a : A) → P a → ItemGoes f (on (k a))) → ItemGoes f (on (addition_by o k))
  with_part None k P on h p go = absurd (false≢true h)
  with_part (Some a) k P on h p go = go a p

  declare-goes : (m : Span) (x : Item) → NodeHolds w (node.Item x) → ItemGoes (declare_item w m x) (declare_on m (addition_of text tree x))
  unfolding declare_item
  declare-goes m (item.Opaque at x) h = opaque-goes at m x
  declare-goes m (item.Transparent at x t) h =
      with_part (type_at 48 text tree t) _ (λ a. Goes w tp sp base (expand_n w 48 t) (expanding tp sp a)) (declare_on m) h (type-here w tp sp base 48 t) (λ a p. type-is-goes at x p)
  declare-goes m (item.Declared x t) h =
      with_part (type_at 48 text tree t) _ (λ a. Goes w tp sp base (expand_n w 48 t) (expanding tp sp a)) (declare_on m) h (type-here w tp sp base 48 t) (λ a p. value-is-goes x.place x p)
  declare-goes m (item.TypeIs at x t) h =
      with_part (type_at 48 text tree t) _ (λ a. Unit {0}) (declare_on m) h (on-all (type_at 48 text tree t)) (λ a p. give-goes)
  declare-goes m (item.ValueIs x p) h =
      with_part (exp_at 48 text tree p) _ (λ a. Unit {0}) (declare_on m) h (on-all (exp_at 48 text tree p)) (λ a p. give-goes)
  declare-goes m (item.Module at x) h = give-goes

  on-goes : (l i : ℕ) (o : Option Exp) → On o (ExpHere w tp sp base l i) → On o (λ a. Goes w tp sp base (type_n w l i) (rules.typing tp sp a))
  on-goes l i None h = tt
  on-goes l i (Some a) h = h.goes

  define-goes : (x : Item) → NodeHolds w (node.Item x) → ItemGoes (define_item w x) (define_on (addition_of text tree x))
  unfolding define_item
  define-goes (item.Opaque at x) h = give-goes
  define-goes (item.Transparent at x t) h =
      with_part (type_at 48 text tree t) _ (λ a. Unit {0}) define_on h (on-all (type_at 48 text tree t)) (λ a p. give-goes)
  define-goes (item.Declared x t) h =
      with_part (type_at 48 text tree t) _ (λ a. Unit {0}) define_on h (on-all (type_at 48 text tree t)) (λ a p. give-goes)
  define-goes (item.TypeIs at x t) h =
      with_part (type_at 48 text tree t) _ (λ a. Goes w tp sp base (expand_n w 48 t) (expanding tp sp a)) define_on h (type-here w tp sp base 48 t) (λ a p. type-is-goes at x p)
  define-goes (item.ValueIs x p) h =
      with_part (exp_at 48 text tree p) _ (λ a. Goes w tp sp base (type_n w 48 p) (rules.typing tp sp a)) define_on h (on-goes 48 p (exp_at 48 text tree p) (exp-here w tp sp base 48 p))
      (λ a q. value-is-goes x.place x q)
  define-goes (item.Module at x) h = give-goes

  -- a node, item or not
  declare-node : (m : Span) (x : Node) → NodeHolds w x → ItemGoes (on_item (declare_item w m) x) (declare_on m (addition text tree x))
  declare-node m node.Blank h = give-goes
  declare-node m (node.«Type» n) h = give-goes
  declare-node m (node.Expression n) h = give-goes
  declare-node m (node.Item x) h = declare-goes m x h

  define-node : (x : Node) → NodeHolds w x → ItemGoes (on_item (define_item w) x) (define_on (addition text tree x))
  define-node node.Blank h = give-goes
  define-node (node.«Type» n) h = give-goes
  define-node (node.Expression n) h = give-goes
  define-node (node.Item x) h = define-goes x h

  -- one item, then the rest
  item-then : (first u : ℕ) {f : Steps} {p : Rules} (k : Scope → State → Out State Scope) (l : rules.Scope → List ExpandedType → Out (List ExpandedType) rules.Scope)
      (g : Scope) (h : rules.Scope) (s : State) (ts : List ExpandedType) → u ≤ g.used → Stands text tp sp base s ts → Scoped w first ts s.slots g h → ItemGoes f p →
      ((g' : Scope) (h' : rules.Scope) (s' : State) (ts' : List ExpandedType) → u ≤ g'.used → Stands text tp sp base s' ts' → Scoped w first ts' s'.slots g' h' →
      Alike text tp sp base (Inner w tp sp base first u) u s' ts' (k g' s') (l h' ts')) →
      Alike text tp sp base (Inner w tp sp base first u) u s ts (after (f g s) k) (after (p h ts) l)
  item-then first u k l g h s ts low st c F go =
      then-alike text tp sp base k l (alike-less text tp sp base g.used u low (F first g h s ts st c)) (λ g' h' s' ts' n r.
      go g' h' s' ts' (let z = r.outside in omega arith) n.stands r.scoped)

  -- what a declaration adds, then the rest
  declare-then : (m : Span) (a : Addition) (ds : List Declaration) (h : rules.Scope) (ts : List ExpandedType) →
      declare_all tp sp (name_in text m) (with_declaration a ds) h ts ≡ after (declare_on m a h ts) (declare_all tp sp (name_in text m) ds)
  declare-then m nothing ds h ts = refl
  declare-then m (declares d) ds h ts = refl
  declare-then m (defines d) ds h ts = refl
  declare-then m (ends at x) ds h ts = refl

  define-then : (a : Addition) (ds : List Definition) (h : rules.Scope) (ts : List ExpandedType) →
      define_all tp sp (with_definition a ds) h ts ≡ after (define_on a h ts) (define_all tp sp ds)
  define-then nothing ds h ts = refl
  define-then (declares d) ds h ts = refl
  define-then (defines d) ds h ts = refl
  define-then (ends at x) ds h ts = refl

  pub declare-all-goes : (m : Span) (first u : ℕ) {ns : List Node} → Each (NodeHolds w) ns → (g : Scope) (h : rules.Scope) (s : State) (ts : List ExpandedType) → u ≤ g.used →
      Stands text tp sp base s ts → Scoped w first ts s.slots g h →
      Alike text tp sp base (Inner w tp sp base first u) u s ts (all_items (declare_item w m) ns g s) (declare_all tp sp (name_in text m) (declarations_of text tree ns) h ts)
  unfolding all_items
  declare-all-goes m first u each_none g h s ts low st c = alike-good (next-refl text tp sp base u s ts st) (record { scoped = c; outside = low })
  declare-all-goes m first u {ns = x ∷ xs} (each_more e es) g h s ts low st c =
      rw (declare-then m (addition text tree x) (declarations_of text tree xs) h ts)
      (item-then first u (all_items (declare_item w m) xs) (declare_all tp sp (name_in text m) (declarations_of text tree xs)) g h s ts low st c (declare-node m x e)
      (λ g' h' s' ts' low' st' c'. declare-all-goes m first u es g' h' s' ts' low' st' c'))

  pub define-all-goes : (first u : ℕ) {ns : List Node} → Each (NodeHolds w) ns → (g : Scope) (h : rules.Scope) (s : State) (ts : List ExpandedType) → u ≤ g.used →
      Stands text tp sp base s ts → Scoped w first ts s.slots g h →
      Alike text tp sp base (Inner w tp sp base first u) u s ts (all_items (define_item w) ns g s) (define_all tp sp (definitions_of text tree ns) h ts)
  unfolding all_items
  define-all-goes first u each_none g h s ts low st c = alike-good (next-refl text tp sp base u s ts st) (record { scoped = c; outside = low })
  define-all-goes first u {ns = x ∷ xs} (each_more e es) g h s ts low st c =
      rw (define-then (addition text tree x) (definitions_of text tree xs) h ts)
      (item-then first u (all_items (define_item w) xs) (define_all tp sp (definitions_of text tree xs)) g h s ts low st c (define-node x e)
      (λ g' h' s' ts' low' st' c'. define-all-goes first u es g' h' s' ts' low' st' c'))
