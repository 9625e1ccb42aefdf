-- Matching and modules on the tables go as the rules have it.
use Rattle.std.proofs.Common.{◌≡◌, ℕ, zero, suc, ◌+◌, ◌<◌, ◌≤◌, Bool, true, false, cond, not, ◌&&◌, eqb, List, [], ◌∷◌, ◌++◌, take, drop, is_some, Some, None, Option, sym, refl, ap, ◌∙◌, subst, add-one, arith}
use mathlib.Core.Option.{Option as Maybe, some}
use lib.ListN.{get_elem?}
use Rattle.std.specs.List.{slice_get}
use Rattle.std.proofs.lemmas.Bool.{false≢true}
use Rattle.words.specs.Names.{Name, same_name}
use Rattle.language.specs.declared.spans.Span.{Span}
use Rattle.language.specs.Names.{bind, lookup, pantry_name}
use Rattle.language.specs.Bindings.{part_of, spelled_in}
use Rattle.language.specs.Typing as typing
use Rattle.language.specs.Typing.{ExpandedType, Interfaces}
use Rattle.language.specs.TypeOf.{same_type}
use Rattle.language.specs.Check.{is_none}
use Rattle.language.specs.Modules.{Made}
use Rattle.grammar.specs.declared.tree.Item.{Item}
use Rattle.grammar.specs.declared.tree.Item.TheVariants as item
use Rattle.grammar.specs.declared.tree.Node.{Node}
use Rattle.grammar.specs.declared.tree.Node.TheVariants as node
use Rattle.grammar.specs.Syntax.{Declaration}
use Rattle.grammar.specs.Table.{name_in, type_at, exp_at, Addition, nothing, declares, defines, ends, addition_by, addition_of, addition}
use Rattle.rules.specs.declared.faults.CheckFault.TheVariants.{Repeated, Missing, Mismatch}
use Rattle.rules.specs.Forms.{Out, after, give}
use Rattle.rules.specs.ItemForms.{match_opaque_f, match_f}
use Rattle.rules.specs.Rules as rules
use Rattle.rules.specs.Rules.{item_rules, supplied_by, expanding}
use Rattle.rules.specs.Checking.{outside, onto, interface_of, match, match_all, check_body, check_module}
use Rattle.typing.specs.declared.types.TypeEntry.{TypeEntry}
use Rattle.typing.specs.declared.types.Slot.{Slot}
use Rattle.typing.specs.declared.types.Slot.TheVariants as slot
use Rattle.typing.specs.declared.types.Scope.{Scope}
use Rattle.typing.specs.declared.types.Interface.{Interface}
use Rattle.typing.specs.declared.types.Given.{Given}
use Rattle.typing.specs.Tables.{State, Check, tables, expand_n}
use Rattle.typing.specs.Stands.{Stands, Holding, no_name, type_name, value_name, declares as declared, AllDeclare, none_declares, one_declares, Scoped}
use Rattle.typing.proofs.Alike.{More, Nothing, Alike, alike-good, next-refl, alike-less, then-alike, want-alike, known_alike, Both, neither, each}
use Rattle.typing.proofs.Rows.{same-tells}
use Rattle.typing.proofs.Scopes.{elem-front, scoped-next, BothDeclare, neither-declares, both-declare, interface-both}
use Rattle.typing.proofs.Simulation.{On, Goes, type-here}
use Rattle.checker.specs.Items.{or_else, definition, definition_n, item_tables, match_item, on_item, all_items, empty_at, body_n, no_interface, is_new, module_n, NodeHolds}
use Rattle.checker.specs.Modules.{with_declaration, declarations_of, definitions_of, Ahead, no_more, type_ahead, value_ahead, interface_at, Left}
use Rattle.checker.proofs.Declares.{then-with, modules-stay}
use Rattle.checker.proofs.ItemsGo.{Each, each_none, each_more, on-all, declare-all-goes, define-all-goes}

-- the place k of a table, and those behind it
drop-elem : {A : Type 0} (xs : List A) (k u : ℕ) (y : A) → k < u → get_elem? xs k ≡ some y → drop k (take u xs) ≡ y ∷ drop (suc k) (take u xs)
drop-elem [] k u y l e = let z : ◌≡◌ {A = ℕ} 0 1 = cc in absurd (omega arith)
drop-elem (x ∷ xs) k zero y l e = absurd (omega arith)
drop-elem (x ∷ xs) zero (suc u) y l e = let z : x ≡ y = cc in rw z
drop-elem (x ∷ xs) (suc k) (suc u) y l e = drop-elem xs k u y (omega arith) e

drop-take : {A : Type 0} (xs : List A) (u : ℕ) → drop u (take u xs) ≡ []
drop-take xs zero = refl
drop-take [] (suc u) = refl
drop-take (x ∷ xs) (suc u) = drop-take xs u

module _ {text : List ℕ} {ts : List ExpandedType} {slots : List Slot} {used : ℕ} where
  ahead-low : {k : ℕ} {ms : List Made} → Ahead text ts slots used k ms → k ≤ used
  ahead-low no_more = omega arith
  ahead-low (type_ahead p q r h) = omega (arith, ahead-low h)
  ahead-low (value_ahead p q r h) = omega (arith, ahead-low h)

  ahead-kept : {k : ℕ} {ms : List Made} (us : List ExpandedType) (rs : List Slot) → take used rs ≡ take used slots → More ts us →
      Ahead text ts slots used k ms → Ahead text us rs used k ms
  ahead-kept us rs e m no_more = no_more
  ahead-kept us rs e m (type_ahead {k = k} p q r h) =
      type_ahead (elem-front used slots rs k (omega (arith, ahead-low h)) e ∙ p) q (m _ _ r) (ahead-kept us rs e m h)
  ahead-kept us rs e m (value_ahead {k = k} p q r h) =
      value_ahead (elem-front used slots rs k (omega (arith, ahead-low h)) e ∙ p) q (m _ _ r) (ahead-kept us rs e m h)

  -- the names of a scope, in the order of their places
  holding-ahead : {first u t v : ℕ} {later ms : List Made} → Holding text ts slots first u t v later → Ahead text ts slots used u ms → Ahead text ts slots used first (onto later ms)
  holding-ahead no_name h = h
  holding-ahead (type_name p q r o n) h = holding-ahead n (type_ahead p q r h)
  holding-ahead (value_name p q r o n) h = holding-ahead n (value_ahead p q r h)

-- what the search for a definition gives
abbrev Supplies : List ℕ → List ExpandedType → List Slot → ℕ → ℕ × ℕ → ExpandedType × List Made → Type 0
Supplies text ts slots used d e = (slice_get ts d.0 ≡ Some e.0) × Ahead text ts slots used d.1 e.1

module _ {text : List ℕ} {ts : List ExpandedType} {slots : List Slot} {used : ℕ} where
  this-or : (c : Bool) (d : ℕ × ℕ) (e : ExpandedType × List Made) (o : Option (ℕ × ℕ)) (p : Option (ExpandedType × List Made)) →
      Supplies text ts slots used d e → Both (Supplies text ts slots used) o p → Both (Supplies text ts slots used) (or_else c d o) (cond c (Some e) p)
  this-or true d e o p r h = each r
  this-or false d e o p r h = h

  supplied-both : {k : ℕ} {ms : List Made} (of_type : Bool) (x : Name) → Ahead text ts slots used k ms →
      Both (Supplies text ts slots used) (definition text of_type x k (drop k (take used slots))) (supplied_by of_type x ms)
  supplied-both of_type x no_more = rw (drop-take slots used) neither
  supplied-both true x (type_ahead {k = k} {b = b} {x = y} {a = a} {ms = ms} p q r h) =
      rw (drop-elem slots k used (slot.OfType b) (omega (arith, ahead-low h)) p, q)
      (this-or (same_name y x) (b.value, k + 1) (a, ms) _ _ (r, subst (λ (n : ℕ). Ahead text ts slots used n ms) (sym (add-one k)) h) (supplied-both true x h))
  supplied-both false x (type_ahead {k = k} {b = b} p q r h) =
      rw (drop-elem slots k used (slot.OfType b) (omega (arith, ahead-low h)) p) (supplied-both false x h)
  supplied-both true x (value_ahead {k = k} {b = b} p q r h) =
      rw (drop-elem slots k used (slot.OfValue b) (omega (arith, ahead-low h)) p) (supplied-both true x h)
  supplied-both false x (value_ahead {k = k} {b = b} {x = y} {a = a} {ms = ms} p q r h) =
      rw (drop-elem slots k used (slot.OfValue b) (omega (arith, ahead-low h)) p, q)
      (this-or (same_name y x) (b.value, k + 1) (a, ms) _ _ (r, subst (λ (n : ℕ). Ahead text ts slots used n ms) (sym (add-one k)) h) (supplied-both false x h))

module _ (w : Given) (tp sp : ℕ) (base : List TypeEntry) where
  abbrev text : List ℕ
  text = w.text.now

  abbrev tree : List Node
  tree = w.tree.now

  -- the search on the tables and by the rules
  supplies : (of_type : Bool) (x : Span) (body : Scope) (s : State) (ts : List ExpandedType) (k : ℕ) (left : List Made) →
      Ahead text ts s.slots body.used k left →
      Both (Supplies text ts s.slots body.used) (definition_n text of_type x body.used k s) (supplied_by of_type (name_in text x).bytes left)
  unfolding definition_n part_of
  supplies of_type x body s ts k left h = supplied-both of_type (name_in text x).bytes h

  module _ (first : ℕ) (body : Scope) (seen : rules.Scope) where
    -- what is left of the definitions
    abbrev Lefts : State → List ExpandedType → ℕ → List Made → Type 0
    Lefts s ts k left = Ahead text ts s.slots body.used k left

    -- the two checks of a declaration against the definitions go alike
    abbrev MatchGoes : (ℕ → State → Out State ℕ) → (List Made → List ExpandedType → Out (List ExpandedType) (List Made)) → Type 0
    MatchGoes f p = (k : ℕ) (left : List Made) (s : State) (ts : List ExpandedType) → Stands text tp sp base s ts → Scoped w first ts s.slots body seen →
        Lefts s ts k left → Alike text tp sp base Lefts body.used s ts (f k s) (p left ts)

    give-match : MatchGoes (λ k. give k) (λ left. give left)
    give-match k left s ts st c a = alike-good (next-refl text tp sp base body.used s ts st) a

    opaque-match : (x : Span) → MatchGoes (match_opaque_f (tables w) (item_tables w) x body) (match_opaque_f (rules.rules tp sp) (item_rules tp sp) (name_in text x) seen)
    opaque-match x k left s ts st c a =
        then-alike text tp sp base _ _
        (known_alike text tp sp base {R = λ s ts. Supplies text ts s.slots body.used} (Missing x.place) _ refl st (supplies true x body s ts k left a))
        (λ d e s₁ ts₁ n₁ r₁. alike-good (next-refl text tp sp base body.used s₁ ts₁ n₁.stands) r₁.1)

    type-match : (of_type : Bool) (x : Span) {f : Check} {p : rules.Scope → List ExpandedType → Out (List ExpandedType) ExpandedType} → Goes w tp sp base f p →
        MatchGoes (match_f (tables w) (item_tables w) of_type x f body) (match_f (rules.rules tp sp) (item_rules tp sp) of_type (name_in text x) p seen)
    type-match of_type x F k left s ts st c a =
        then-alike text tp sp base _ _
        (known_alike text tp sp base {R = λ s ts. Supplies text ts s.slots body.used} (Missing x.place) _ refl st (supplies of_type x body s ts k left a))
        (λ d e s₁ ts₁ n₁ r₁.
        then-alike text tp sp base _ _ (F first body seen s₁ ts₁ n₁.stands (scoped-next w tp sp base first s s₁ ts ts₁ body seen n₁ c)) (λ i b s₂ ts₂ n₂ r₂.
        want-alike text tp sp base (eqb i d.0) (same_type b e.0) (Mismatch x.place) _ _ _
        (same-tells ts₂ i d.0 b e.0 n₂.stands.distinct r₂ (n₂.more d.0 e.0 r₁.0)) refl (λ _.
        alike-good (next-refl text tp sp base body.used s₂ ts₂ n₂.stands) (ahead-kept ts₂ s₂.slots n₂.front n₂.more r₁.1))))

    -- what a declaration asks for, by the rules
    abbrev match_on : Addition → List Made → List ExpandedType → Out (List ExpandedType) (List Made)
    match_on nothing = give
    match_on (declares d) = match tp sp seen d
    match_on (defines d) = give
    match_on (ends at x) = give

    with-match : {A : Type 0} {f : ℕ → State → Out State ℕ} (o : Option A) (k : A → Addition) (P : A → Type 0) → is_some o ≡ true → On o P →
        ((a : A) → P a → MatchGoes f (match_on (k a))) → MatchGoes f (match_on (addition_by o k))
    with-match None k P h p go = absurd (false≢true h)
    with-match (Some a) k P h p go = go a p

    match-goes : (x : Item) → NodeHolds w (node.Item x) → MatchGoes (match_item w body x) (match_on (addition_of text tree x))
    unfolding match_item
    match-goes (item.Opaque at x) h = opaque-match x
    match-goes (item.Transparent at x t) h =
        with-match (type_at 48 text tree t) _ (λ a. Goes w tp sp base (expand_n w 48 t) (expanding tp sp a)) h (type-here w tp sp base 48 t) (λ a p. type-match true x p)
    match-goes (item.Declared x t) h =
        with-match (type_at 48 text tree t) _ (λ a. Goes w tp sp base (expand_n w 48 t) (expanding tp sp a)) h (type-here w tp sp base 48 t) (λ a p. type-match false x p)
    match-goes (item.TypeIs at x t) h = with-match (type_at 48 text tree t) _ (λ a. Unit {0}) h (on-all (type_at 48 text tree t)) (λ a p. give-match)
    match-goes (item.ValueIs x p) h = with-match (exp_at 48 text tree p) _ (λ a. Unit {0}) h (on-all (exp_at 48 text tree p)) (λ a p. give-match)
    match-goes (item.Module at x) h = give-match

    match-node : (x : Node) → NodeHolds w x → MatchGoes (on_item (match_item w body) x) (match_on (addition text tree x))
    match-node node.Blank h = give-match
    match-node (node.«Type» n) h = give-match
    match-node (node.Expression n) h = give-match
    match-node (node.Item x) h = match-goes x h

    match-then : (a : Addition) (ds : List Declaration) (left : List Made) (ts : List ExpandedType) →
        match_all tp sp seen (with_declaration a ds) left ts ≡ after (match_on a left ts) (match_all tp sp seen ds)
    match-then nothing ds left ts = refl
    match-then (declares d) ds left ts = refl
    match-then (defines d) ds left ts = refl
    match-then (ends at x) ds left ts = refl

    match-all-goes : {ns : List Node} → Each (NodeHolds w) ns → MatchGoes (all_items (match_item w body) ns) (match_all tp sp seen (declarations_of text tree ns))
    unfolding all_items
    match-all-goes each_none k left s ts st c a = alike-good (next-refl text tp sp base body.used s ts st) a
    match-all-goes {ns = x ∷ xs} (each_more e es) k left s ts st c a =
        rw (match-then (addition text tree x) (declarations_of text tree xs) left ts)
        (then-alike text tp sp base (all_items (match_item w body) xs) (match_all tp sp seen (declarations_of text tree xs)) (match-node x e k left s ts st c a) (λ k' left' s₁ ts₁ n₁ r₁.
        match-all-goes es k' left' s₁ ts₁ n₁.stands (scoped-next w tp sp base first s s₁ ts ts₁ body seen n₁ c) r₁))

  -- nothing of an interface or body in scope yet
  empty-scoped : (first : ℕ) (g : Scope) (h : rules.Scope) (s : State) (ts : List ExpandedType) → Scoped w first ts s.slots g h →
      Scoped w g.used ts s.slots (empty_at g.used) (outside h)
  empty-scoped first g h s ts c = record {
    int_is = c.int_is;
    bool_is = c.bool_is;
    modules = c.modules;
    stock = c.stock;
    used = c.used;
    low = c.low;
    names = no_name;
  }

  body-goes : {ns : List Node} → Each (NodeHolds w) ns → (first : ℕ) (g : Scope) (h : rules.Scope) (s : State) (ts : List ExpandedType) → Stands text tp sp base s ts →
      Scoped w first ts s.slots g h →
      Alike text tp sp base Nothing g.used s ts (body_n w ns g.used s) (check_body tp sp (declarations_of text tree ns) (definitions_of text tree ns) h ts)
  body-goes es first g h s ts st c =
      then-alike text tp sp base _ _ (define-all-goes w tp sp base g.used g.used es (empty_at g.used) (outside h) s ts (omega arith) st (empty-scoped first g h s ts c)) (λ body seen s₁ ts₁ n₁ r₁.
      then-alike text tp sp base _ _
      (alike-less text tp sp base body.used g.used r₁.outside
      (match-all-goes g.used body seen es g.used (onto seen.names []) s₁ ts₁ n₁.stands r₁.scoped (holding-ahead r₁.scoped.names no_more))) (λ k left s₂ ts₂ n₂ r₂.
      alike-good (next-refl text tp sp base g.used s₂ ts₂ n₂.stands) tt))

  -- one interface more
  all_more : {ts : List ExpandedType} {ss : List Slot} {n : ℕ} {is : List Interface} {js : Interfaces} {x : Name} {ms : List Made} {first used : ℕ} (i : Interface) →
      AllDeclare text ts ss n is js → spelled_in text i.name ≡ x → used ≤ n → Holding text ts ss first used i.types i.values ms →
      AllDeclare text ts ss n (is ++ (i ∷ [])) (js ++ (bind x (interface_of ms) ∷ []))
  all_more i none_declares q l h = one_declares (declared q l h) none_declares
  all_more i (one_declares d ds) q l h = one_declares d (all_more i ds q l h)

  no-interface : {ts : List ExpandedType} {ss : List Slot} {n : ℕ} {o : Option Interface} {p : Maybe typing.Interface} → BothDeclare text ts ss n o p → no_interface o ≡ is_none p
  no-interface neither-declares = refl
  no-interface (both-declare l h) = refl

  new_is : (first : ℕ) (g : Scope) (h : rules.Scope) (s : State) (ts : List ExpandedType) (m : Span) → Scoped w first ts s.slots g h →
      is_new w m ≡ (is_none (lookup h.modules (name_in text m).bytes) && not (same_name pantry_name (name_in text m).bytes))
  unfolding part_of
  new_is first g h s ts m c = rw (no-interface (interface-both text ts s.slots g.used (name_in text m).bytes c.modules))

  spelled_is : (m : Span) → spelled_in text m ≡ (name_in text m).bytes
  unfolding part_of
  spelled_is m = refl

  -- A MODULE, whose nodes are ns: its name, interface and body
  pub module-goes : {ns : List Node} → Each (NodeHolds w) ns → (at : ℕ) (m : Span) (used : ℕ) (h : rules.Scope) (s : State) (ts : List ExpandedType) → Stands text tp sp base s ts →
      Scoped w used ts s.slots (empty_at used) h →
      Alike text tp sp base (Left w m used h.modules) used s ts (module_n w m ns used s)
      (check_module tp sp (record { at = at; name = name_in text m; interface = declarations_of text tree ns; body = definitions_of text tree ns }) h ts)
  module-goes {ns} es at m used h s ts st c =
      want-alike text tp sp base (is_new w m) _ (Repeated m.place) _ _ _ (new_is used (empty_at used) h s ts m c) refl (λ _.
      then-with text base tp sp _ _ (declare-all-goes w tp sp base m used used es (empty_at used) (outside h) s ts (omega arith) st (empty-scoped used (empty_at used) h s ts c)) (λ g face s₁ ts₁ q₁ n₁ r₁.
      alike-less text tp sp base g.used used r₁.outside (
      then-alike text tp sp base _ _ (body-goes es used g face s₁ ts₁ n₁.stands r₁.scoped) (λ _ _ s₂ ts₂ n₂ r₂.
      let c₂ = scoped-next w tp sp base used s₁ s₂ ts₁ ts₂ g face n₂ r₁.scoped in
      alike-good (next-refl text tp sp base g.used s₂ ts₂ n₂.stands) (record {
        int_is = c₂.int_is;
        bool_is = c₂.bool_is;
        modules = all_more (interface_at m g) c₂.modules (spelled_is m) (omega arith) c₂.names;
        stock = c₂.stock;
        used = c₂.used;
        low = c₂.low;
        none = refl;
        outside = r₁.outside;
        own = face.names;
        own_declared = c₂.names;
        modules_are = ap (λ (js : Interfaces). js ++ (bind (name_in text m).bytes (interface_of face.names) ∷ []))
            (modules-stay tp sp (name_in text m) (declarations_of text tree ns) (outside h) face ts ts₁ q₁) ∙
            ap (λ (x : Name). h.modules ++ (bind x (interface_of face.names) ∷ [])) (sym (spelled_is m));
      })))))
