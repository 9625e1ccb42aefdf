-- The check of a place of the tree goes as the check, by the rules, of what stands there.
use Rattle.std.proofs.Common.{◌≡◌, ℕ, zero, suc, eqb, List, Some, None, Option, refl, ap}
use Rattle.std.specs.List.{slice_get}
use Rattle.language.specs.declared.spans.Span.{Span}
use Rattle.language.specs.Typing.{ExpandedType, int, bool, result_of}
use Rattle.language.specs.TypeOf.{same_type}
use Rattle.grammar.specs.declared.tree.Operator.{Operator}
use Rattle.grammar.specs.declared.tree.Operator.TheVariants as op
use Rattle.grammar.specs.declared.tree.TypeNode.{TypeNode}
use Rattle.grammar.specs.declared.tree.TypeNode.TheVariants as ty
use Rattle.grammar.specs.declared.tree.ExpNode.{ExpNode}
use Rattle.grammar.specs.declared.tree.ExpNode.TheVariants as ex
use Rattle.grammar.specs.declared.tree.Node.{Node}
use Rattle.grammar.specs.declared.tree.Node.TheVariants as node
use Rattle.grammar.specs.Syntax.{WrittenType, Exp}
use Rattle.grammar.specs.Plain.{plain_o}
use Rattle.grammar.specs.Table.{of, name_in, type_of, type_in, type_at, exp_of, exp_in, exp_at}
use Rattle.rules.specs.declared.faults.CheckFault.TheVariants.{UnknownValue, UnknownType, Unwanted, NoArrow}
use Rattle.rules.specs.Forms.{Out, give, arrow_t, is_zero_f, binary_f, apply_f, proc_f, let_f, conditional_f, body_f, letrec_f}
use Rattle.rules.specs.Rules as rules
use Rattle.rules.specs.Rules.{expanding, typing}
use Rattle.typing.specs.declared.types.TypeEntry.{TypeEntry}
use Rattle.typing.specs.declared.types.Scope.{Scope}
use Rattle.typing.specs.declared.types.Given.{Given}
use Rattle.typing.specs.Tables.{State, Check, tables, place_of, place_in, placed, form_t, on_type, expand_n, form_e, on_exp, type_n, result_n}
use Rattle.typing.specs.Stands.{Stands, Scoped}
use Rattle.typing.proofs.Alike.{Tells, Nothing, Alike, alike-good, next-refl, alike-less, then-alike, want-alike, want-last, known_alike}
use Rattle.typing.proofs.Rows.{same-tells, entry-sides, arrow-alike}
use Rattle.typing.proofs.Scopes.{scoped-next, type-named, value-named, type-taken, value_taken, enter-alike}

-- what holds of what is there
abbrev pub On : {A : Type 0} → Option A → (A → Type 0) → Type 0
On None P = Unit {0}
On (Some a) P = P a

on_of : {A B : Type 0} (o : Option A) (f : A → Option B) (P : A → Type 0) (Q : B → Type 0) → On o P → ((a : A) → P a → On (f a) Q) → On (of o f) Q
on_of None f P Q h k = tt
on_of (Some a) f P Q h k = k a h

on-more : {A : Type 0} (o : Option A) (P Q : A → Type 0) → ((a : A) → P a → Q a) → On o P → On o Q
on-more None P Q f h = tt
on-more (Some a) P Q f h = f a h

module _ (w : Given) (tp sp : ℕ) (base : List TypeEntry) where
  abbrev text : List ℕ
  text = w.text.now

  -- a check by the rules
  abbrev Checks : Type 0
  Checks = rules.Scope → List ExpandedType → Out (List ExpandedType) ExpandedType

  -- the two checks of a part go alike, wherever they begin alike
  abbrev pub Goes : Check → Checks → Type 0
  Goes f p = (first : ℕ) (g : Scope) (h : rules.Scope) (s : State) (ts : List ExpandedType) → Stands text tp sp base s ts →
      Scoped w first ts s.slots g h → Alike text tp sp base Tells g.used s ts (f g s) (p h ts)

  give-int : Goes (λ g. give 0) (λ h. give int)
  give-int first g h s ts st c = alike-good (next-refl text tp sp base g.used s ts st) c.int_is

  give-bool : Goes (λ g. give 1) (λ h. give bool)
  give-bool first g h s ts st c = alike-good (next-refl text tp sp base g.used s ts st) c.bool_is

  result-tells : (o : Operator) (ts : List ExpandedType) → slice_get ts 0 ≡ Some int → slice_get ts 1 ≡ Some bool → slice_get ts (result_n o) ≡ Some (result_of (plain_o o))
  result-tells op.Plus ts i b = i
  result-tells op.Minus ts i b = i
  result-tells op.Times ts i b = i
  result-tells op.Over ts i b = i
  result-tells op.Less ts i b = b

  arrow-goes : (at : ℕ) {f k : Check} {p q : Checks} → Goes f p → Goes k q →
      Goes (λ g. arrow_t (tables w) at (f g) (k g)) (λ h. arrow_t (rules.rules tp sp) at (p h) (q h))
  arrow-goes at F K first g h s ts st c =
      then-alike text tp sp base _ _ (F first g h s ts st c) (λ i x s₁ ts₁ n₁ r₁.
      then-alike text tp sp base _ _ (K first g h s₁ ts₁ n₁.stands (scoped-next w tp sp base first s s₁ ts ts₁ g h n₁ c)) (λ j y s₂ ts₂ n₂ r₂.
      arrow-alike text tp sp base at i j x y g.used s₂ ts₂ n₂.stands (n₂.more i x r₁) r₂))

  zero-goes : (m n : ℕ) {f : Check} {p : Checks} → m ≡ n → Goes f p → Goes (λ g. is_zero_f (tables w) (f g) m) (λ h. is_zero_f (rules.rules tp sp) (p h) n)
  zero-goes m n q F first g h s ts st c =
      then-alike text tp sp base _ _ (F first g h s ts st c) (λ i x s₁ ts₁ n₁ r₁.
      let c₁ = scoped-next w tp sp base first s s₁ ts ts₁ g h n₁ c in
      want-alike text tp sp base (eqb i 0) (same_type x int) _ _ _ _ (same-tells ts₁ i 0 x int n₁.stands.distinct r₁ c₁.int_is) (ap Unwanted q) (λ _.
      alike-good (next-refl text tp sp base g.used s₁ ts₁ n₁.stands) c₁.bool_is))

  binary-goes : (o : Operator) (m n m' n' : ℕ) {f k : Check} {p q : Checks} → m ≡ n → m' ≡ n' → Goes f p → Goes k q →
      Goes (λ g. binary_f (tables w) (result_n o) (f g) m (k g) m') (λ h. binary_f (rules.rules tp sp) (result_of (plain_o o)) (p h) n (q h) n')
  binary-goes o m n m' n' e e' F K first g h s ts st c =
      then-alike text tp sp base _ _ (F first g h s ts st c) (λ i x s₁ ts₁ n₁ r₁.
      let c₁ = scoped-next w tp sp base first s s₁ ts ts₁ g h n₁ c in
      then-alike text tp sp base _ _ (K first g h s₁ ts₁ n₁.stands c₁) (λ j y s₂ ts₂ n₂ r₂.
      let c₂ = scoped-next w tp sp base first s₁ s₂ ts₁ ts₂ g h n₂ c₁ in
      want-alike text tp sp base (eqb i 0) (same_type x int) _ _ _ _ (same-tells ts₂ i 0 x int n₂.stands.distinct (n₂.more i x r₁) c₂.int_is) (ap Unwanted e) (λ _.
      want-alike text tp sp base (eqb j 0) (same_type y int) _ _ _ _ (same-tells ts₂ j 0 y int n₂.stands.distinct r₂ c₂.int_is) (ap Unwanted e') (λ _.
      alike-good (next-refl text tp sp base g.used s₂ ts₂ n₂.stands) (result-tells o ts₂ c₂.int_is c₂.bool_is)))))

  apply-goes : (m n m' n' : ℕ) {f k : Check} {p q : Checks} → m ≡ n → m' ≡ n' → Goes f p → Goes k q →
      Goes (λ g. apply_f (tables w) (f g) m (k g) m') (λ h. apply_f (rules.rules tp sp) (p h) n (q h) n')
  apply-goes m n m' n' e e' F K first g h s ts st c =
      then-alike text tp sp base _ _ (F first g h s ts st c) (λ i x s₁ ts₁ n₁ r₁.
      then-alike text tp sp base _ _ (K first g h s₁ ts₁ n₁.stands (scoped-next w tp sp base first s s₁ ts ts₁ g h n₁ c)) (λ j y s₂ ts₂ n₂ r₂.
      then-alike text tp sp base _ _
      (known_alike text tp sp base {R = λ s ts (k : ℕ × ℕ) (a : ExpandedType × ExpandedType). (slice_get ts k.0 ≡ Some a.0) × (slice_get ts k.1 ≡ Some a.1)}
      (NoArrow m) (NoArrow n) (ap NoArrow e) n₂.stands (entry-sides text tp sp base s₂ ts₂ i x n₂.stands (n₂.more i x r₁))) (λ k z s₃ ts₃ n₃ r₃.
      want-alike text tp sp base (eqb j k.0) (same_type y z.0) _ _ _ _
      (same-tells ts₃ j k.0 y z.0 n₃.stands.distinct (n₃.more j y r₂) r₃.0) (ap Unwanted e') (λ _.
      alike-good (next-refl text tp sp base g.used s₃ ts₃ n₃.stands) r₃.1))))

  proc-goes : (at : ℕ) (x : Span) {f k : Check} {p q : Checks} → Goes f p → Goes k q →
      Goes (λ g. proc_f (tables w) at x f k g) (λ h. proc_f (rules.rules tp sp) at (name_in text x) p q h)
  proc-goes at x F K first g h s ts st c =
      then-alike text tp sp base _ _ (F first g h s ts st c) (λ i a s₁ ts₁ n₁ r₁.
      then-alike text tp sp base _ _ (enter-alike w tp sp base first at i a s₁ ts₁ g h x n₁.stands (scoped-next w tp sp base first s s₁ ts ts₁ g h n₁ c) r₁) (λ g' h' s₂ ts₂ n₂ r₂.
      then-alike text tp sp base _ _ (alike-less text tp sp base g'.used g.used r₂.outside (K first g' h' s₂ ts₂ n₂.stands r₂.scoped)) (λ j b s₃ ts₃ n₃ r₃.
      arrow-alike text tp sp base at i j a b g.used s₃ ts₃ n₃.stands (n₃.more i a (n₂.more i a r₁)) r₃)))

  let-goes : (at : ℕ) (x : Span) {f k : Check} {p q : Checks} → Goes f p → Goes k q →
      Goes (λ g. let_f (tables w) at x f k g) (λ h. let_f (rules.rules tp sp) at (name_in text x) p q h)
  let-goes at x F K first g h s ts st c =
      then-alike text tp sp base _ _ (F first g h s ts st c) (λ i a s₁ ts₁ n₁ r₁.
      then-alike text tp sp base _ _ (enter-alike w tp sp base first at i a s₁ ts₁ g h x n₁.stands (scoped-next w tp sp base first s s₁ ts ts₁ g h n₁ c) r₁) (λ g' h' s₂ ts₂ n₂ r₂.
      alike-less text tp sp base g'.used g.used r₂.outside (K first g' h' s₂ ts₂ n₂.stands r₂.scoped)))

  conditional-goes : (m n m' n' : ℕ) {f k l : Check} {p q r : Checks} → m ≡ n → m' ≡ n' → Goes f p → Goes k q → Goes l r →
      Goes (λ g. conditional_f (tables w) (f g) m (k g) (l g) m') (λ h. conditional_f (rules.rules tp sp) (p h) n (q h) (r h) n')
  conditional-goes m n m' n' e e' F K L first g h s ts st c =
      then-alike text tp sp base _ _ (F first g h s ts st c) (λ i x s₁ ts₁ n₁ r₁.
      let c₁ = scoped-next w tp sp base first s s₁ ts ts₁ g h n₁ c in
      then-alike text tp sp base _ _ (K first g h s₁ ts₁ n₁.stands c₁) (λ j y s₂ ts₂ n₂ r₂.
      let c₂ = scoped-next w tp sp base first s₁ s₂ ts₁ ts₂ g h n₂ c₁ in
      then-alike text tp sp base _ _ (L first g h s₂ ts₂ n₂.stands c₂) (λ k z s₃ ts₃ n₃ r₃.
      let c₃ = scoped-next w tp sp base first s₂ s₃ ts₂ ts₃ g h n₃ c₂ in
      want-alike text tp sp base (eqb i 1) (same_type x bool) _ _ _ _
      (same-tells ts₃ i 1 x bool n₃.stands.distinct (n₃.more i x (n₂.more i x r₁)) c₃.bool_is) (ap Unwanted e) (λ _.
      want-alike text tp sp base (eqb k j) (same_type z y) _ _ _ _ (same-tells ts₃ k j z y n₃.stands.distinct r₃ (n₃.more j y r₂)) (ap Unwanted e') (λ _.
      alike-good (next-refl text tp sp base g.used s₃ ts₃ n₃.stands) (n₃.more j y r₂))))))

  body-goes : (at : ℕ) (x : Span) (m n : ℕ) {f : Check} {p : Checks} → m ≡ n → Goes f p →
      (i : ℕ) (a : ExpandedType) (j : ℕ) (b : ExpandedType) (first : ℕ) (g : Scope) (h : rules.Scope) (s : State) (ts : List ExpandedType) →
      Stands text tp sp base s ts → Scoped w first ts s.slots g h → slice_get ts i ≡ Some a → slice_get ts j ≡ Some b →
      Alike text tp sp base Nothing g.used s ts (body_f (tables w) at x i j f m g s) (body_f (rules.rules tp sp) at (name_in text x) a b p n h ts)
  body-goes at x m n e F i a j b first g h s ts st c ra rb =
      then-alike text tp sp base _ _ (enter-alike w tp sp base first at i a s ts g h x st c ra) (λ g' h' s₁ ts₁ n₁ r₁.
      then-alike text tp sp base _ _ (alike-less text tp sp base g'.used g.used r₁.outside (F first g' h' s₁ ts₁ n₁.stands r₁.scoped)) (λ k z s₂ ts₂ n₂ r₂.
      want-last text tp sp base (eqb k j) (same_type z b) _ _
      (same-tells ts₂ k j z b n₂.stands.distinct r₂ (n₂.more j b (n₁.more j b rb))) (ap Unwanted e) n₂.stands))

  letrec-goes : (at : ℕ) (f x : Span) (m n : ℕ) {u t b r : Check} {u' t' b' r' : Checks} → m ≡ n → Goes u u' → Goes t t' → Goes b b' → Goes r r' →
      Goes (λ g. letrec_f (tables w) at f x u t b m r g) (λ h. letrec_f (rules.rules tp sp) at (name_in text f) (name_in text x) u' t' b' n r' h)
  letrec-goes at f x m n e U T B R first g h s ts st c =
      then-alike text tp sp base _ _ (U first g h s ts st c) (λ j b s₁ ts₁ n₁ r₁.
      let c₁ = scoped-next w tp sp base first s s₁ ts ts₁ g h n₁ c in
      then-alike text tp sp base _ _ (T first g h s₁ ts₁ n₁.stands c₁) (λ i a s₂ ts₂ n₂ r₂.
      let c₂ = scoped-next w tp sp base first s₁ s₂ ts₁ ts₂ g h n₂ c₁ in
      then-alike text tp sp base _ _ (arrow-alike text tp sp base at i j a b g.used s₂ ts₂ n₂.stands r₂ (n₂.more j b r₁)) (λ k ab s₃ ts₃ n₃ r₃.
      let c₃ = scoped-next w tp sp base first s₂ s₃ ts₂ ts₃ g h n₃ c₂ in
      then-alike text tp sp base _ _ (enter-alike w tp sp base first at k ab s₃ ts₃ g h f n₃.stands c₃ r₃) (λ g' h' s₄ ts₄ n₄ r₄.
      let b₄ = n₄.more j b (n₃.more j b (n₂.more j b r₁)) in
      let a₄ = n₄.more i a (n₃.more i a r₂) in
      alike-less text tp sp base g'.used g.used r₄.outside (
      then-alike text tp sp base _ _ (body-goes at x m n e B i a j b first g' h' s₄ ts₄ n₄.stands r₄.scoped a₄ b₄) (λ _ _ s₅ ts₅ n₅ r₅.
      R first g' h' s₅ ts₅ n₅.stands (scoped-next w tp sp base first s₄ s₅ ts₄ ts₅ g' h' n₅ r₄.scoped)))))))

  -- a written type at a place of the tree
  abbrev TypeHere : ℕ → ℕ → WrittenType → Type 0
  TypeHere l i t = Goes (expand_n w l i) (expanding tp sp t)

  type-form : (l : ℕ) → ((i : ℕ) → On (type_at l text w.tree.now i) (TypeHere l i)) → (x : TypeNode) →
      On (type_of text (type_at l text w.tree.now) x) (λ t. Goes (form_t w (expand_n w l) x) (expanding tp sp t))
  type-form l ih (ty.Int at) = give-int
  type-form l ih (ty.Bool at) = give-bool
  type-form l ih (ty.Named x) = λ first g h s ts st c.
      known_alike text tp sp base (UnknownType x.place) _ refl st (type-named w tp sp base first s ts g h x c)
  type-form l ih (ty.From at m t) = λ first g h s ts st c.
      known_alike text tp sp base (UnknownType at) _ refl st (type-taken w tp sp base first s ts g h m t c)
  type-form l ih (ty.Arrow at j k) =
      on_of (type_at l text w.tree.now j) _ (TypeHere l j) _ (ih j) (λ a p.
      on_of (type_at l text w.tree.now k) _ (TypeHere l k) _ (ih k) (λ b q. arrow-goes at p q))

  type-node : (l : ℕ) → ((i : ℕ) → On (type_at l text w.tree.now i) (TypeHere l i)) → (o : Option Node) →
      On (of o (type_in text (type_at l text w.tree.now))) (λ t. Goes (on_type (form_t w (expand_n w l)) o) (expanding tp sp t))
  type-node l ih None = tt
  type-node l ih (Some node.Blank) = tt
  type-node l ih (Some (node.«Type» n)) = type-form l ih n
  type-node l ih (Some (node.Expression n)) = tt
  type-node l ih (Some (node.Item n)) = tt

  -- THE CHECK OF A WRITTEN TYPE goes as the rules have it, for each place that stands for one
  pub type-here : (l i : ℕ) → On (type_at l text w.tree.now i) (λ t. Goes (expand_n w l i) (expanding tp sp t))
  unfolding type_at expand_n
  type-here zero i = tt
  type-here (suc l) i = type-node l (type-here l) (slice_get w.tree.now i)

  -- an expression at a place of the tree
  pub record ExpHere (l i : ℕ) (e : Exp) : Type 0 where
    pub goes : Goes (type_n w l i) (typing tp sp e)
    pub place_is : placed w i ≡ rules.place_of e

  record FormHere (l : ℕ) (x : ExpNode) (e : Exp) : Type 0 where
    pub goes : Goes (form_e w (expand_n w l) (type_n w l) x) (typing tp sp e)
    pub place_is : place_of x ≡ rules.place_of e

  -- the expression, and the type, at a place
  abbrev exp_on : ℕ → ℕ → Option Exp
  exp_on l i = exp_at l text w.tree.now i

  abbrev type_on : ℕ → ℕ → Option WrittenType
  type_on l i = type_at l text w.tree.now i

  exp-form : (l : ℕ) → ((i : ℕ) → On (exp_on l i) (ExpHere l i)) → (x : ExpNode) →
      On (exp_of text (type_at l text w.tree.now) (exp_at l text w.tree.now) x) (FormHere l x)
  exp-form l ih (ex.Number at v) = record { goes = give-int; place_is = refl }
  exp-form l ih (ex.Boolean at b) = record { goes = give-bool; place_is = refl }
  exp-form l ih (ex.Variable x) = record {
    goes = λ first g h s ts st c.
        known_alike text tp sp base (UnknownValue x.place) _ refl st (value-named w tp sp base first s ts g h x c);
    place_is = refl;
  }
  exp-form l ih (ex.From at m x) = record {
    goes = λ first g h s ts st c.
        known_alike text tp sp base (UnknownValue at) _ refl st (value_taken w tp sp base first s ts g h m x c);
    place_is = refl;
  }
  exp-form l ih (ex.IsZero at j) =
      on_of (exp_on l j) _ (ExpHere l j) _ (ih j) (λ a p. record { goes = zero-goes _ _ p.place_is p.goes; place_is = refl })
  exp-form l ih (ex.Apply at j k) =
      on_of (exp_on l j) _ (ExpHere l j) _ (ih j) (λ a p. on_of (exp_on l k) _ (ExpHere l k) _ (ih k) (λ b q.
      record { goes = apply-goes _ _ _ _ p.place_is q.place_is p.goes q.goes; place_is = refl }))
  exp-form l ih (ex.Proc at x t j) =
      on_of (type_on l t) _ (TypeHere l t) _ (type-here l t) (λ u r. on_of (exp_on l j) _ (ExpHere l j) _ (ih j) (λ a p.
      record { goes = proc-goes at x r p.goes; place_is = refl }))
  exp-form l ih (ex.Let at x j k) =
      on_of (exp_on l j) _ (ExpHere l j) _ (ih j) (λ a p. on_of (exp_on l k) _ (ExpHere l k) _ (ih k) (λ b q.
      record { goes = let-goes at x p.goes q.goes; place_is = refl }))
  exp-form l ih (ex.If at i j k) =
      on_of (exp_on l i) _ (ExpHere l i) _ (ih i) (λ a p. on_of (exp_on l j) _ (ExpHere l j) _ (ih j) (λ b q.
      on_of (exp_on l k) _ (ExpHere l k) _ (ih k) (λ c r.
      record { goes = conditional-goes _ _ _ _ p.place_is r.place_is p.goes q.goes r.goes; place_is = refl })))
  exp-form l ih (ex.Letrec at u f x t j k) =
      on_of (type_on l u) _ (TypeHere l u) _ (type-here l u) (λ v s. on_of (type_on l t) _ (TypeHere l t) _ (type-here l t) (λ z r.
      on_of (exp_on l j) _ (ExpHere l j) _ (ih j) (λ a p. on_of (exp_on l k) _ (ExpHere l k) _ (ih k) (λ b q.
      record { goes = letrec-goes at f x _ _ p.place_is s r p.goes q.goes; place_is = refl }))))
  exp-form l ih (ex.Binary at o j k) =
      on_of (exp_on l j) _ (ExpHere l j) _ (ih j) (λ a p. on_of (exp_on l k) _ (ExpHere l k) _ (ih k) (λ b q.
      record { goes = binary-goes o _ _ _ _ p.place_is q.place_is p.goes q.goes; place_is = refl }))

  record NodeHere (l : ℕ) (o : Option Node) (e : Exp) : Type 0 where
    pub goes : Goes (on_exp (form_e w (expand_n w l) (type_n w l)) o) (typing tp sp e)
    pub place_is : place_in o ≡ rules.place_of e

  exp-node : (l : ℕ) → ((i : ℕ) → On (exp_on l i) (ExpHere l i)) → (o : Option Node) →
      On (of o (exp_in text (type_at l text w.tree.now) (exp_at l text w.tree.now))) (NodeHere l o)
  exp-node l ih None = tt
  exp-node l ih (Some node.Blank) = tt
  exp-node l ih (Some (node.«Type» n)) = tt
  exp-node l ih (Some (node.Expression n)) =
      on-more (exp_of text (type_at l text w.tree.now) (exp_at l text w.tree.now) n) (FormHere l n) (NodeHere l (Some (node.Expression n)))
      (λ e f. record { goes = f.goes; place_is = f.place_is }) (exp-form l ih n)
  exp-node l ih (Some (node.Item n)) = tt

  -- THE CHECK OF AN EXPRESSION goes as the rules have it, for each place that stands for one
  pub exp-here : (l i : ℕ) → On (exp_at l text w.tree.now i) (ExpHere l i)
  unfolding exp_at type_n placed
  exp-here zero i = tt
  exp-here (suc l) i =
      on-more (exp_at (suc l) text w.tree.now i) (NodeHere l (slice_get w.tree.now i)) (ExpHere (suc l) i)
      (λ e f. record { goes = f.goes; place_is = f.place_is }) (exp-node l (exp-here l) (slice_get w.tree.now i))
