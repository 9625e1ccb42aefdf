-- From one module to the next.
use Rattle.std.proofs.Common.{◌≡◌, ℕ, suc, ◌+◌, ◌-◌, ◌<◌, ◌≤◌, min, List, [], ◌∷◌, ◌++◌, length, take, drop, set, Some, None, Ok, Err, Option, Result, sym, refl, ◌∙◌, subst, arith, length-drop, length-take, get_or-drop, get_or-take}
use Rattle.std.proofs.lemmas.List.{take_more_set}
use Rattle.language.specs.declared.spans.Span.{Span}
use Rattle.language.specs.Typing.{ExpandedType}
use Rattle.grammar.specs.declared.tree.Node.{Node}
use Rattle.grammar.specs.declared.tree.Node.TheVariants as node
use Rattle.grammar.specs.Syntax.{Exp}
use Rattle.grammar.specs.Table.{exp_at}
use Rattle.rules.specs.declared.faults.CheckFault.{CheckFault}
use Rattle.rules.specs.Forms.{Out, bad, good}
use Rattle.rules.specs.Rules as rules
use Rattle.typing.specs.declared.types.TypeEntry.{TypeEntry}
use Rattle.typing.specs.declared.types.Scope.{Scope}
use Rattle.typing.specs.declared.types.Interface.{Interface}
use Rattle.typing.specs.declared.types.Known.{Known}
use Rattle.typing.specs.declared.types.Given.{Given}
use Rattle.typing.specs.declared.tables.Tables.{Tables}
use Rattle.typing.specs.Tables.{State, state_of, Gave, type_n}
use Rattle.typing.specs.Stands.{Stands, Scoped, no_name}
use Rattle.typing.proofs.Simulation.{On, Goes, ExpHere, exp-here}
use Rattle.typing.proofs.Alike.{Tells, Alike, alike-bad, alike-good}
use Rattle.checker.specs.Items.{empty_at, module_n, NodeIn, AllIn, NodeHolds}
use Rattle.checker.specs.Modules.{interface_at, Left, Declared, more_declared}
use Rattle.checker.specs.Sheets.{Between, AfterModule, AfterModules, ClosedBy, AfterClosing, check_nodes}
use Rattle.checker.proofs.Declares.{declared-kept}
use Rattle.checker.proofs.ItemsGo.{all-each}
use Rattle.checker.proofs.MatchingGoes.{module-goes}

-- a part of the tree holds where the tree does
pub part_in : (text : List ℕ) (tree : List Node) (start n : ℕ) → AllIn text tree tree → start + n ≤ length tree → AllIn text tree (take n (drop start tree))
part_in text tree start n h l k q =
    let r : suc k ≤ min n (length tree - start) = simp (length-take, length-drop) at q in
    let b : k < n = omega arith in
    subst (NodeIn text tree) (sym (get_or-take n (drop start tree) k node.Blank b ∙ get_or-drop start tree k node.Blank)) (h (start + k) (omega arith))

module _ (w : Given) (tp sp : ℕ) (base : List TypeEntry) (s : State) (used : ℕ) (m : Span) (ns : List Node)
    (h : rules.Scope) (ts : List ExpandedType) (holds : AllIn w.text.now w.tree.now ns)
    (b : Between w.text.now base w.entries.now tp sp w.interfaces.now s used ts h) where
  abbrev text : List ℕ
  text = w.text.now

  scoped : Scoped w used ts s.slots (empty_at used) h
  scoped = record {
    int_is = b.seen.int_is;
    bool_is = b.seen.bool_is;
    stock = b.seen.stock;
    used = b.seen.used_is;
    low = b.seen.low;
    modules = b.seen.modules;
    names = rw b.seen.none no_name;
  }

  goes : Alike text tp sp base (Left w m used h.modules) used s ts (module_n w m ns used s) (check_nodes text w.tree.now tp sp m ns h ts)
  goes = module-goes w tp sp base (all-each (NodeHolds w) node.Blank ns holds) 0 m used h s ts b.stands scoped

  after-ran : {o : Out State Scope} {p : Out (List ExpandedType) rules.Scope} (r : Result Scope CheckFault) (t : Tables) →
      Alike text tp sp base (Left w m used h.modules) used s ts o p → Gave o r t →
      AfterModule text base w.entries.now tp sp w.interfaces.now m p r (state_of t)
  after-ran r t alike-bad e = e
  after-ran r t (alike-good {a = g} {b = k} {s' = s'} {ts' = us} n l) e =
      let d = declared-kept used us s'.slots (omega arith) n.front n.more b.seen.declared in (
        g,
        e.result,
        subst (λ (v : State). Between text base w.entries.now tp sp (w.interfaces.now ++ (interface_at m g ∷ [])) v g.used us k) (sym e.state) (record {
          stands = n.stands;
          seen = record {
            int_is = l.int_is;
            bool_is = l.bool_is;
            stock = l.stock;
            used_is = l.used;
            low = l.low;
            none = l.none;
            modules = l.modules;
            declared = subst (Declared text us s'.slots g.used) (sym l.modules_are) (more_declared _ d l.own_declared);
          };
        }),
      )

  pub module-ran : (r : Result Scope CheckFault) (t : Tables) → Gave (module_n w m ns used s) r t →
      AfterModule text base w.entries.now tp sp w.interfaces.now m (check_nodes text w.tree.now tp sp m ns h ts) r (state_of t)
  module-ran r t e = after-ran r t goes e

module _ (w : Given) (tp sp : ℕ) (base : List TypeEntry) (s : State) (used close : ℕ) (h : rules.Scope) (ts : List ExpandedType)
    (b : Between w.text.now base w.entries.now tp sp w.interfaces.now s used ts h) where
  closed-ran : {o : Out State ℕ} {p : Out (List ExpandedType) ExpandedType} (r : Result ℕ CheckFault) (t : Tables) →
      Alike w.text.now tp sp base Tells used s ts o p → Gave o r t → ClosedBy w.text.now base tp sp used h.modules p r (state_of t)
  closed-ran r t alike-bad e = e
  closed-ran r t (alike-good {a = k} {b = a} {s' = s'} {ts' = us} n q) e = record {
    number = k;
    result = e.result;
    tells = q;
    stands = subst (λ (v : State). Stands w.text.now tp sp base v us) (sym e.state) n.stands;
    declared = subst (λ (v : State). Declared w.text.now us v.slots used h.modules) (sym e.state)
        (declared-kept used us s'.slots (omega arith) n.front n.more b.seen.declared);
  }

  typed : (o : Option Exp) → On o (ExpHere w tp sp base 48 close) → (e : Exp) → o ≡ Some e → Goes w tp sp base (type_n w 48 close) (rules.typing tp sp e)
  typed None g e q = let z : ◌≡◌ {A = ℕ} 0 1 = cc in absurd (omega arith)
  typed (Some x) g e q = let z : x ≡ e = cc in subst (λ (y : Exp). Goes w tp sp base (type_n w 48 close) (rules.typing tp sp y)) z g.goes

  pub closing-ran : (r : Result ℕ CheckFault) (t : Tables) → Gave (type_n w 48 close (empty_at used) s) r t →
      AfterClosing w.text.now w.tree.now base tp sp used close h ts r (state_of t)
  closing-ran r t e x q =
      closed-ran r t (typed (exp_at 48 w.text.now w.tree.now close) (exp-here w tp sp base 48 close) x q used (empty_at used) h s ts b.stands
      (record {
        int_is = b.seen.int_is;
        bool_is = b.seen.bool_is;
        stock = b.seen.stock;
        used = b.seen.used_is;
        low = b.seen.low;
        modules = b.seen.modules;
        names = rw b.seen.none no_name;
      })) e

-- the interface of the module is kept behind those of the earlier ones
pub kept_more : (text : List ℕ) (base : List TypeEntry) (entries : List Known) (tp sp modules end : ℕ) (interfaces : List Interface) (m : Span) (g : Scope)
    (p : Out (List ExpandedType) rules.Scope) (s : State) → modules < length interfaces →
    AfterModule text base entries tp sp (take modules interfaces) m p (Ok g) s →
    AfterModules text base entries tp sp p (Ok (record { modules = modules + 1; start = end; used = g.used })) (set interfaces modules (interface_at m g)) s
kept_more text base entries tp sp modules end interfaces m g (bad f) s l h = let z : ◌≡◌ {A = ℕ} 0 1 = cc in absurd (omega arith)
kept_more text base entries tp sp modules end interfaces m g (good k us) s l h =
    let x : h.0 ≡ g = (let e = h.1 in cc) in
    let b = subst (λ (v : Scope). Between text base entries tp sp (take modules interfaces ++ (interface_at m v ∷ [])) s v.used us k) x h.2 in (
      record { modules = modules + 1; start = end; used = g.used },
      refl,
      subst (λ (js : List Interface). Between text base entries tp sp js s g.used us k) (sym (take_more_set interfaces modules (interface_at m g) l)) b,
    )

pub kept-bad : (text : List ℕ) (base : List TypeEntry) (entries : List Known) (tp sp : ℕ) (interfaces interfaces' : List Interface) (m : Span) (f : CheckFault)
    (p : Out (List ExpandedType) rules.Scope) (s : State) →
    AfterModule text base entries tp sp interfaces m p (Err f) s → AfterModules text base entries tp sp p (Err f) interfaces' s
kept-bad text base entries tp sp interfaces interfaces' m f (bad e) s h = let z : f ≡ e = cc in rw z
kept-bad text base entries tp sp interfaces interfaces' m f (good k us) s h =
    let e = h.1 in let z : ◌≡◌ {A = ℕ} 0 1 = cc in absurd (omega arith)
