-- The whole check, from the first types to the closing expression.
use Rattle.std.proofs.Common.{◌≡◌, ℕ, List, [], length, take, Some, Ok, Err, Result, refl, ap, ◌∙◌, subst, arith}
use Rattle.std.specs.List.{slice_get}
use Rattle.language.specs.Typing.{ExpandedType, stock_types}
use Rattle.pantry.specs.declared.entries.Entry.{Entry}
use Rattle.grammar.specs.declared.tree.Node.{Node}
use Rattle.grammar.specs.Syntax.{Exp}
use Rattle.grammar.specs.Table.{exp_at, modules_of}
use Rattle.rules.specs.declared.faults.CheckFault.{CheckFault}
use Rattle.rules.specs.Forms.{Out, bad, good, after}
use Rattle.rules.specs.Rules as rules
use Rattle.rules.specs.Checking.{at_start, enter_all, check_modules, checking}
use Rattle.rules.specs.Laws.{checking_modules}
use Rattle.typing.specs.declared.types.TypeEntry.{TypeEntry}
use Rattle.typing.specs.declared.types.Slot.{Slot}
use Rattle.typing.specs.declared.types.Interface.{Interface}
use Rattle.typing.specs.declared.types.Known.{Known}
use Rattle.typing.specs.Stands.{Stands, Stocks, rows_none, none_declares}
use Rattle.checker.specs.declared.sheets.Progress.{Progress}
use Rattle.typing.specs.Tables.{State}
use Rattle.checker.specs.Sheets.{places, Between, AfterModules, Start, Finish, ClosedBy, AfterClosing}
use Rattle.checker.specs.Stocks.{stock_in}
use Rattle.checker.specs.Kinds.{first_types, AfterKinds}
use Rattle.checker.specs.Modules.{none_declared}
use Rattle.checker.specs.Runs.{state_in, Answers}

-- a table with no type yet
pub none-stands : (text : List ℕ) (types : List TypeEntry) (slots : List Slot) → Stands text (places types) (places slots) types (state_in types 0 slots) []
none-stands text types slots = record {
  count = refl;
  fits = omega arith;
  types_long = refl;
  slots_long = refl;
  rows = rows_none;
  rest = refl;
  distinct = λ i j a p q. (let z : ◌≡◌ {A = ℕ} 0 1 = cc in absurd (omega arith));
}

-- a refusal
pub answers-bad : (text : List ℕ) (tp sp : ℕ) (base : List TypeEntry) (m : Out (List ExpandedType) rules.Scope) (o : Out (List ExpandedType) ExpandedType) (f : CheckFault) (r : Result (ℕ × ℕ) CheckFault)
    (types : List TypeEntry) (slots : List Slot) → o ≡ bad f → r ≡ Err f → Answers text tp sp base m o r types slots
answers-bad text tp sp base m o f r types slots e q = rw e q

-- the tables come back as they were left
pub lent-back : (text : List ℕ) (tp sp : ℕ) (base : List TypeEntry) (m : Out (List ExpandedType) rules.Scope) (o : Out (List ExpandedType) ExpandedType) (r : Result (ℕ × ℕ) CheckFault)
    (types : List TypeEntry) (slots : List Slot) {types' : List TypeEntry} {slots' : List Slot} → Answers text tp sp base m o r types slots → types ≡ types' → slots ≡ slots' →
    Answers text tp sp base m o r types' slots'
lent-back text tp sp base m o r types slots {types'} a p q =
    subst (λ (v : List Slot). Answers text tp sp base m o r types' v) q (subst (λ (v : List TypeEntry). Answers text tp sp base m o r v slots) p a)

module _ (text : List ℕ) (tree : List Node) (base : List TypeEntry) (tp sp : ℕ) (entries : List Entry) (e : Exp) where
  -- by the rules: the whole check
  abbrev whole : Out (List ExpandedType) ExpandedType
  whole = checking (stock_in entries) tp sp (record { modules = modules_of text tree tree; closing = e })

  -- the check of all modules
  abbrev pub modules_whole : Out (List ExpandedType) rules.Scope
  modules_whole = checking_modules (stock_in entries) tp sp (modules_of text tree tree)

  -- the modules, and what is behind them
  abbrev modules_then : List ExpandedType → Out (List ExpandedType) rules.Scope
  modules_then = check_modules tp sp (modules_of text tree tree) (at_start (stock_in entries))

  abbrev closing_then : rules.Scope → List ExpandedType → Out (List ExpandedType) ExpandedType
  closing_then g = rules.typing tp sp e g

  -- after the first types
  pub record One (ks : List Known) (s : State) : Type 0 where
    pub told : List ExpandedType
    pub between : Between text base ks tp sp [] s 0 told (at_start (stock_in entries))
    pub is : whole ≡ after (modules_then told) closing_then
    pub modules-is : modules_whole ≡ modules_then told

  pub one-bad : (f : CheckFault) (known : List Known) (s : State) →
      AfterKinds text base tp sp entries (enter_all tp sp (first_types entries) []) (Err f) known s → whole ≡ bad f
  one-bad f known s h = ap (λ (o : Out (List ExpandedType) Unit). after o (λ _ ts. after (modules_then ts) closing_then)) (go (enter_all tp sp (first_types entries) []) h)
    where
      go : (o : Out (List ExpandedType) Unit) → AfterKinds text base tp sp entries o (Err f) known s → o ≡ bad f
      go (bad g) h = let z : g ≡ f = cc in ap bad z
      go (good x us) h = let y = h.0 in let z : ◌≡◌ {A = ℕ} 0 1 = cc in absurd (omega arith)

  pub one : (known ks : List Known) (s : State) → take (length entries) known ≡ ks →
      AfterKinds text base tp sp entries (enter_all tp sp (first_types entries) []) (Ok tt) known s → One ks s
  one known ks s ke h = go (enter_all tp sp (first_types entries) []) refl h
    where
      go : (o : Out (List ExpandedType) Unit) → enter_all tp sp (first_types entries) [] ≡ o → AfterKinds text base tp sp entries o (Ok tt) known s → One ks s
      go (bad g) q h = let z : ◌≡◌ {A = ℕ} 0 1 = cc in absurd (omega arith)
      go (good x us) q h =
          let b = h.1 in
          record {
            told = us;
            between = record {
              stands = b.stands;
              seen = record { int_is = b.int_is; bool_is = b.bool_is; modules = none_declares; stock = subst (λ (v : List Known). Stocks us v (stock_types (stock_in entries))) ke h.2; used_is = refl; low = omega arith; none = refl; declared = none_declared };
            };
            is = ap (λ (o : Out (List ExpandedType) Unit). after o (λ _ ts. after (modules_then ts) closing_then)) q;
            modules-is = ap (λ (o : Out (List ExpandedType) Unit). after o (λ _. modules_then)) q;
          }

  -- after the modules
  pub record All (known : List Known) (p : Progress) (is : List Interface) (s : State) : Type 0 where
    pub scope : rules.Scope
    pub told : List ExpandedType
    pub between : Between text base known tp sp is s p.used told scope
    pub rest-is : whole ≡ closing_then scope told
    pub modules_are : modules_whole ≡ good scope told

  module _ (ks : List Known) (s₁ : State) (g : One ks s₁) (et : places s₁.types ≡ tp) (es : places s₁.slots ≡ sp)
      (r : Result Progress CheckFault) (interfaces : List Interface) (s₂ : State)
      (steps : (b : List TypeEntry) (h : rules.Scope) (ts : List ExpandedType) → Start text b ks s₁ ts h →
      Finish text tree b ks s₁ ts h r interfaces s₂) where
    -- what the modules promise, with the places that the tables had at the start
    abbrev Promise : ℕ → ℕ → Type 0
    Promise p q = Between text base ks p q [] s₁ 0 g.told (at_start (stock_in entries)) →
        AfterModules text base ks p q (check_modules p q (modules_of text tree tree) (at_start (stock_in entries)) g.told) r interfaces s₂

    promised : AfterModules text base ks tp sp (modules_then g.told) r interfaces s₂
    promised = subst (λ (q : ℕ). Promise tp q) es (subst (λ (p : ℕ). Promise p (places s₁.slots)) et (steps base (at_start (stock_in entries)) g.told)) g.between

    pub all-bad : (f : CheckFault) → r ≡ Err f → whole ≡ bad f
    all-bad f q = g.is ∙ ap (λ (o : Out (List ExpandedType) rules.Scope). after o closing_then) (go (modules_then g.told) promised)
      where
        go : (o : Out (List ExpandedType) rules.Scope) → AfterModules text base ks tp sp o r interfaces s₂ → o ≡ bad f
        go (bad e) h = let z : e ≡ f = cc in ap bad z
        go (good k us) h = let y = h.1 in let z : ◌≡◌ {A = ℕ} 0 1 = cc in absurd (omega arith)

    pub all : (p : Progress) (is : List Interface) → r ≡ Ok p → take p.modules interfaces ≡ is → All ks p is s₂
    all p is q ie = go (modules_then g.told) refl promised
      where
        go : (o : Out (List ExpandedType) rules.Scope) → modules_then g.told ≡ o → AfterModules text base ks tp sp o r interfaces s₂ →
            All ks p is s₂
        go (bad e) y h = let z : ◌≡◌ {A = ℕ} 0 1 = cc in absurd (omega arith)
        go (good k us) y h =
            let x : h.0 ≡ p = (let v = h.1 in cc) in
            record {
              scope = k;
              told = us;
              between = subst (λ (js : List Interface). Between text base ks tp sp js s₂ p.used us k) ie
                  (subst (λ (v : Progress). Between text base ks tp sp (take v.modules interfaces) s₂ v.used us k) x h.2);
              rest-is = g.is ∙ ap (λ (o : Out (List ExpandedType) rules.Scope). after o closing_then) y;
              modules_are = g.modules-is ∙ y;
            }

  module _ (known : List Known) (p : Progress) (close : ℕ) (is : List Interface) (s₂ : State) (g : All known p is s₂)
      (et : places s₂.types ≡ tp) (es : places s₂.slots ≡ sp) (there : exp_at 48 text tree close ≡ Some e)
      (r : Result ℕ CheckFault) (s₃ : State)
      (ends : (b : List TypeEntry) (h : rules.Scope) (ts : List ExpandedType) →
      Between text b known (places s₂.types) (places s₂.slots) is s₂ p.used ts h →
      AfterClosing text tree b (places s₂.types) (places s₂.slots) p.used close h ts r s₃) where
    abbrev Last : ℕ → ℕ → Type 0
    Last m q = Between text base known m q is s₂ p.used g.told g.scope →
        AfterClosing text tree base m q p.used close g.scope g.told r s₃

    last : ClosedBy text base tp sp p.used g.scope.modules (closing_then g.scope g.told) r s₃
    last = subst (λ (q : ℕ). Last tp q) es (subst (λ (m : ℕ). Last m (places s₂.slots)) et (ends base g.scope g.told)) g.between e there

    pub closed-bad : (f : CheckFault) → r ≡ Err f → whole ≡ bad f
    closed-bad f q = g.rest-is ∙ go (closing_then g.scope g.told) last
      where
        go : (o : Out (List ExpandedType) ExpandedType) → ClosedBy text base tp sp p.used g.scope.modules o r s₃ → o ≡ bad f
        go (bad e) h = let z : e ≡ f = cc in ap bad z
        go (good a us) h = let y = h.result in let z : ◌≡◌ {A = ℕ} 0 1 = cc in absurd (omega arith)

    pub closed : (k : ℕ) → r ≡ Ok k → Answers text tp sp base modules_whole whole (Ok (k, p.used)) s₃.types s₃.slots
    closed k q = rw g.rest-is (go (closing_then g.scope g.told) last)
      where
        go : (o : Out (List ExpandedType) ExpandedType) → ClosedBy text base tp sp p.used g.scope.modules o r s₃ → Answers text tp sp base modules_whole o (Ok (k, p.used)) s₃.types s₃.slots
        go (bad e) h = let z : ◌≡◌ {A = ℕ} 0 1 = cc in absurd (omega arith)
        go (good a us) h =
            let x : h.number ≡ k = (let y = h.result in cc) in
            record {
              number = k;
              used = p.used;
              types_then = s₃.count;
              result = refl;
              tells = subst (λ (v : ℕ). slice_get us v ≡ Some a) x h.tells;
              stands = h.stands;
              declarations = record { scope = g.scope; told = g.told; came_to = g.modules_are; used_are = g.between.seen.used_is; declared = h.declared };
            }
