-- The modules of the tree, one after the other.
use Rattle.std.proofs.Common.{◌≡◌, ℕ, suc, ◌+◌, ◌<◌, ◌≤◌, List, [], ◌∷◌, length, get_or, take, drop, Some, None, Option, refl, ap, ◌∙◌, add-one, arith, drop-cons}
use Rattle.std.proofs.lemmas.List.{drop_all}
use Rattle.language.specs.declared.spans.Span.{Span}
use Rattle.grammar.specs.declared.tree.Item.{Item}
use Rattle.grammar.specs.declared.tree.Item.TheVariants as item
use Rattle.grammar.specs.declared.tree.Node.{Node}
use Rattle.grammar.specs.declared.tree.Node.TheVariants as node
use Rattle.grammar.specs.Syntax.{Module}
use Rattle.grammar.specs.Table.{name_in, type_at, exp_at, Addition, nothing, declares, defines, ends, addition_by, addition_of, addition, gather, modules_of}
use Rattle.checker.specs.Modules.{declarations_of, definitions_of}
use Rattle.checker.specs.Sheets.{end_of_item, end_of, or_end, module_end}

-- the search for a module's end, one place on
module _ (ns : List Node) (i : ℕ) (d : Node) where
  pub end-here : (m : Span) → i < length ns → end_of (get_or ns i d) ≡ Some m → module_end i (drop i ns) ≡ Some (i, m)
  end-here m h e = rw (drop-cons ns i d h, e)

  pub end_on : i < length ns → end_of (get_or ns i d) ≡ None → module_end i (drop i ns) ≡ module_end (i + 1) (drop (i + 1) ns)
  end_on h e = rw (drop-cons ns i d h, e, add-one i)

pub end_none : (ns : List Node) (i : ℕ) → length ns ≤ i → module_end i (drop i ns) ≡ None
end_none ns i h = rw (drop_all i ns h)

-- an addition that ends no module
abbrev Inside : Addition → Type 0
Inside nothing = Unit {0}
Inside (declares d) = Unit {0}
Inside (defines d) = Unit {0}
Inside (ends at m) = ⊥

module _ (text : List ℕ) (tree : List Node) where
  by-inside : {A : Type 0} (o : Option A) (k : A → Addition) → ((a : A) → Inside (k a)) → Inside (addition_by o k)
  by-inside None k h = tt
  by-inside (Some a) k h = h a

  item-inside : (x : Item) → end_of_item x ≡ None → Inside (addition_of text tree x)
  item-inside (item.Opaque at x) e = tt
  item-inside (item.Transparent at x t) e = by-inside (type_at 48 text tree t) _ (λ a. tt)
  item-inside (item.Declared x t) e = by-inside (type_at 48 text tree t) _ (λ a. tt)
  item-inside (item.TypeIs at x t) e = by-inside (type_at 48 text tree t) _ (λ a. tt)
  item-inside (item.ValueIs x p) e = by-inside (exp_at 48 text tree p) _ (λ a. tt)
  item-inside (item.Module at m) e = let z : ◌≡◌ {A = ℕ} 0 1 = cc in absurd (omega arith)

  node-inside : (x : Node) → end_of x ≡ None → Inside (addition text tree x)
  node-inside node.Blank e = tt
  node-inside (node.«Type» n) e = tt
  node-inside (node.Expression n) e = tt
  node-inside (node.Item x) e = item-inside x e

  none-gathered : (a : Addition) → Inside a → gather a [] ≡ []
  none-gathered nothing h = refl
  none-gathered (declares d) h = refl
  none-gathered (defines d) h = refl
  none-gathered (ends at m) h = absurd h

  -- a module with the declarations and definitions of some nodes
  abbrev pub section_of : ℕ → Span → List Node → Module
  section_of at m ns = record { at = at; name = name_in text m; interface = declarations_of text tree ns; body = definitions_of text tree ns }

  one-gathered : (a : Addition) (at : ℕ) (m : Span) (x : Node) (ns : List Node) (ms : List Module) → Inside a → addition text tree x ≡ a →
      gather a (section_of at m ns ∷ ms) ≡ section_of at m (x ∷ ns) ∷ ms
  one-gathered nothing at m x ns ms h e = rw e
  one-gathered (declares d) at m x ns ms h e = rw e
  one-gathered (defines d) at m x ns ms h e = rw e
  one-gathered (ends at' m') at m x ns ms h e = absurd h

  none-on : (k : ℕ) (x : Node) (ns : List Node) (o : Option Span) → end_of x ≡ o → (module_end (suc k) ns ≡ None → modules_of text tree ns ≡ []) →
      or_end o k (module_end (suc k) ns) ≡ None → gather (addition text tree x) (modules_of text tree ns) ≡ []
  none-on k x ns None p more q = ap (gather (addition text tree x)) (more q) ∙ none-gathered (addition text tree x) (node-inside x p)
  none-on k x ns (Some m) p more q = let z : ◌≡◌ {A = ℕ} 0 1 = cc in absurd (omega arith)

  -- behind the last module's end there is none
  pub no-section : (k : ℕ) (ns : List Node) → module_end k ns ≡ None → modules_of text tree ns ≡ []
  no-section k [] e = refl
  no-section k (x ∷ ns) e = none-on k x ns (end_of x) refl (no-section (suc k) ns) e

  ended : (x : Node) (m : Span) → end_of x ≡ Some m → (at : ℕ) × (addition text tree x ≡ ends at (name_in text m))
  ended node.Blank m e = let z : ◌≡◌ {A = ℕ} 0 1 = cc in absurd (omega arith)
  ended (node.«Type» n) m e = let z : ◌≡◌ {A = ℕ} 0 1 = cc in absurd (omega arith)
  ended (node.Expression n) m e = let z : ◌≡◌ {A = ℕ} 0 1 = cc in absurd (omega arith)
  ended (node.Item (item.Opaque at x)) m e = let z : ◌≡◌ {A = ℕ} 0 1 = cc in absurd (omega arith)
  ended (node.Item (item.Transparent at x t)) m e = let z : ◌≡◌ {A = ℕ} 0 1 = cc in absurd (omega arith)
  ended (node.Item (item.Declared x t)) m e = let z : ◌≡◌ {A = ℕ} 0 1 = cc in absurd (omega arith)
  ended (node.Item (item.TypeIs at x t)) m e = let z : ◌≡◌ {A = ℕ} 0 1 = cc in absurd (omega arith)
  ended (node.Item (item.ValueIs x p)) m e = let z : ◌≡◌ {A = ℕ} 0 1 = cc in absurd (omega arith)
  ended (node.Item (item.Module at n)) m e = let z : n ≡ m = cc in (at, rw z)

  -- the first module among the nodes: its own are the i before its end
  pub record Section (k e : ℕ) (m : Span) (ns : List Node) : Type 0 where
    pub at : ℕ
    pub size : ℕ
    pub end_is : e ≡ k + size
    pub within : size < length ns
    pub modules_are : modules_of text tree ns ≡ section_of at m (take size ns) ∷ modules_of text tree (drop (size + 1) ns)

  section-on : (k : ℕ) (x : Node) (ns : List Node) (e : ℕ) (m : Span) (o : Option Span) → end_of x ≡ o →
      (module_end (suc k) ns ≡ Some (e, m) → Section (suc k) e m ns) → or_end o k (module_end (suc k) ns) ≡ Some (e, m) → Section k e m (x ∷ ns)
  section-on k x ns e m None p more q =
      let r = more q in
      record {
        at = r.at;
        size = suc r.size;
        end_is = (let z = r.end_is in omega arith);
        within = (let z = r.within in omega arith);
        modules_are = ap (gather (addition text tree x)) r.modules_are ∙
            (one-gathered (addition text tree x) r.at m x (take r.size ns) (modules_of text tree (drop (r.size + 1) ns)) (node-inside x p) refl ∙
            (let u : suc r.size + 1 ≡ suc (r.size + 1) = omega arith in rw u));
      }
  section-on k x ns e m (Some n) p more q =
      let b : ◌≡◌ {A = ℕ × Span} (k, n) (e, m) = cc in
      let z : n ≡ m = ap (λ (c : ℕ × Span). c.1) b in
      let y : k ≡ e = ap (λ (c : ℕ × Span). c.0) b in
      let a = ended x n p in
      record {
        at = a.0;
        size = 0;
        end_is = omega arith;
        within = omega arith;
        modules_are = ap (λ (b : Addition). gather b (modules_of text tree ns)) a.1 ∙
            ap (λ (v : Span). section_of a.0 v [] ∷ modules_of text tree ns) z;
      }

  pub section : (k : ℕ) (ns : List Node) (e : ℕ) (m : Span) → module_end k ns ≡ Some (e, m) → Section k e m ns
  section k [] e m q = let z : ◌≡◌ {A = ℕ} 0 1 = cc in absurd (omega arith)
  section k (x ∷ ns) e m q = section-on k x ns e m (end_of x) refl (section (suc k) ns e m) q
