-- Through all modules of the tree.
use Rattle.std.proofs.Common.{◌≡◌, ℕ, ◌+◌, ◌-◌, ◌<◌, ◌≤◌, List, ◌∷◌, length, take, drop, Some, None, Ok, Err, Result, sym, refl, ap, ◌∙◌, subst, arith, length-drop, drop-drop}
use Rattle.language.specs.declared.spans.Span.{Span}
use Rattle.language.specs.Typing.{ExpandedType}
use Rattle.grammar.specs.declared.tree.Node.{Node}
use Rattle.grammar.specs.Syntax.{Module, count}
use Rattle.grammar.specs.Table.{modules_of}
use Rattle.rules.specs.declared.faults.CheckFault.{CheckFault}
use Rattle.rules.specs.Forms.{Out, bad, good, after}
use Rattle.rules.specs.Rules as rules
use Rattle.rules.specs.Checking.{check_modules}
use Rattle.typing.specs.declared.types.TypeEntry.{TypeEntry}
use Rattle.typing.specs.Tables.{State}
use Rattle.typing.specs.declared.types.Interface.{Interface}
use Rattle.typing.specs.declared.types.Known.{Known}
use Rattle.checker.specs.declared.sheets.Progress.{Progress}
use Rattle.checker.specs.Sheets.{module_end, places, Between, AfterModules, check_nodes, Going}
use Rattle.checker.proofs.Sections.{Section, section, section_of, no-section}

module _ (text : List ℕ) (tree : List Node) (start end : ℕ) (name : Span) (found : module_end start (drop start tree) ≡ Some (end, name)) where
  here : Section text tree start end name (drop start tree)
  here = section text tree start (drop start tree) end name found

  -- the module's nodes stand in the tree
  pub range : (start ≤ end) × (end < length tree)
  range =
      let a = here.end_is in
      let l : here.size < length tree - start = simp length-drop at here.within in
      (omega arith, omega arith)

  size_is : here.size ≡ end - start
  size_is = let a = here.end_is in omega arith

  behind : drop (here.size + 1) (drop start tree) ≡ drop (end + 1) tree
  behind =
      let a = here.end_is in
      let z : start + (here.size + 1) ≡ end + 1 = omega arith in
      drop-drop (here.size + 1) start tree ∙ ap (λ (n : ℕ). drop n tree) z

  modules_are : modules_of text tree (drop start tree) ≡
      section_of text tree here.at name (take (end - start) (drop start tree)) ∷ modules_of text tree (drop (end + 1) tree)
  modules_are =
      here.modules_are ∙ (ap (λ (n : ℕ). section_of text tree here.at name (take n (drop start tree)) ∷ modules_of text tree (drop (here.size + 1) (drop start tree))) size_is ∙
      ap (λ (ns : List Node). section_of text tree here.at name (take (end - start) (drop start tree)) ∷ modules_of text tree ns) behind)

  pub one_more : count (modules_of text tree (drop start tree)) ≡ count (modules_of text tree (drop (end + 1) tree)) + 1
  one_more = ap count modules_are

  -- by the rules: this module, then the rest
  pub this-first : (tp sp : ℕ) (h : rules.Scope) (ts : List ExpandedType) →
      check_modules tp sp (modules_of text tree (drop start tree)) h ts ≡
      after (check_nodes text tree tp sp name (take (end - start) (drop start tree)) h ts) (check_modules tp sp (modules_of text tree (drop (end + 1) tree)))
  this-first tp sp h ts = ap (λ (ms : List Module). check_modules tp sp ms h ts) modules_are

module _ (text : List ℕ) (tree : List Node) (base : List TypeEntry) (entries : List Known) (tp sp : ℕ) (h₀ : rules.Scope) (ts₀ : List ExpandedType) where
  -- what a step promises, wherever it begins
  abbrev Steps : List Interface → State → Progress → ℕ → Span → ℕ → ℕ → Result Progress CheckFault → List Interface → State → Type 0
  Steps interfaces s at end name p q r interfaces' s' = (base : List TypeEntry) (h : rules.Scope) (ts : List ExpandedType) →
      Between text base entries p q (take at.modules interfaces) s at.used ts h →
      AfterModules text base entries p q (check_nodes text tree p q name (take (end - at.start) (drop at.start tree)) h ts) r interfaces' s'

  module _ (interfaces : List Interface) (s : State) (at : Progress) (end : ℕ) (name : Span)
      (found : module_end at.start (drop at.start tree) ≡ Some (end, name)) (g : Going text tree base entries tp sp h₀ ts₀ interfaces s at)
      (interfaces' : List Interface) (s' : State) where
    all_first : check_modules tp sp (modules_of text tree tree) h₀ ts₀ ≡
        after (check_nodes text tree tp sp name (take (end - at.start) (drop at.start tree)) g.scope g.told) (check_modules tp sp (modules_of text tree (drop (end + 1) tree)))
    all_first = g.rest ∙ this-first text tree at.start end name found tp sp g.scope g.told

    on-good : (p : Progress) (o : Out (List ExpandedType) rules.Scope) → check_nodes text tree tp sp name (take (end - at.start) (drop at.start tree)) g.scope g.told ≡ o →
        AfterModules text base entries tp sp o (Ok p) interfaces' s' → p.start ≡ end + 1 → Going text tree base entries tp sp h₀ ts₀ interfaces' s' p
    on-good p (bad f) e a q = let z : ◌≡◌ {A = ℕ} 0 1 = cc in absurd (omega arith)
    on-good p (good k us) e a q =
        let p' = a.0 in
        let x : p' ≡ p = (let z = a.1 in cc) in
        record {
          scope = k;
          told = us;
          between = subst (λ (v : Progress). Between text base entries tp sp (take v.modules interfaces') s' v.used us k) x a.2;
          rest = all_first ∙ (ap (λ (o : Out (List ExpandedType) rules.Scope). after o (check_modules tp sp (modules_of text tree (drop (end + 1) tree)))) e ∙
              ap (λ (n : ℕ). check_modules tp sp (modules_of text tree (drop n tree)) k us) (sym q));
        }

    -- the promise, with the places that the tables had at the start
    moved : (r : Result Progress CheckFault) → places s.types ≡ tp → places s.slots ≡ sp →
        Steps interfaces s at end name (places s.types) (places s.slots) r interfaces' s' → Steps interfaces s at end name tp sp r interfaces' s'
    moved r et es steps =
        subst (λ (q : ℕ). Steps interfaces s at end name tp q r interfaces' s') es
        (subst (λ (p : ℕ). Steps interfaces s at end name p (places s.slots) r interfaces' s') et steps)

    pub going_on : (p : Progress) → places s.types ≡ tp → places s.slots ≡ sp →
        Steps interfaces s at end name (places s.types) (places s.slots) (Ok p) interfaces' s' → p.start ≡ end + 1 →
        Going text tree base entries tp sp h₀ ts₀ interfaces' s' p
    going_on p et es steps q = on-good p _ refl (moved (Ok p) et es steps base g.scope g.told g.between) q

    on-bad : (f : CheckFault) (o : Out (List ExpandedType) rules.Scope) → check_nodes text tree tp sp name (take (end - at.start) (drop at.start tree)) g.scope g.told ≡ o →
        AfterModules text base entries tp sp o (Err f) interfaces' s' → check_modules tp sp (modules_of text tree tree) h₀ ts₀ ≡ bad f
    on-bad f (bad e) q a =
        let z : e ≡ f = cc in
        all_first ∙ (ap (λ (o : Out (List ExpandedType) rules.Scope). after o (check_modules tp sp (modules_of text tree (drop (end + 1) tree)))) q ∙ ap bad z)
    on-bad f (good k us) q a = let y = a.1 in let z : ◌≡◌ {A = ℕ} 0 1 = cc in absurd (omega arith)

    pub going-bad : (f : CheckFault) → places s.types ≡ tp → places s.slots ≡ sp →
        Steps interfaces s at end name (places s.types) (places s.slots) (Err f) interfaces' s' →
        AfterModules text base entries tp sp (check_modules tp sp (modules_of text tree tree) h₀ ts₀) (Err f) interfaces' s'
    going-bad f et es steps = rw (on-bad f _ refl (moved (Err f) et es steps base g.scope g.told g.between))

  pub gone : (interfaces : List Interface) (s : State) (at : Progress) → module_end at.start (drop at.start tree) ≡ None →
      Going text tree base entries tp sp h₀ ts₀ interfaces s at →
      AfterModules text base entries tp sp (check_modules tp sp (modules_of text tree tree) h₀ ts₀) (Ok at) interfaces s
  gone interfaces s at e g =
      rw (g.rest ∙ ap (λ (ms : List Module). check_modules tp sp ms g.scope g.told) (no-section text tree at.start (drop at.start tree) e)) (at, refl, g.between)
