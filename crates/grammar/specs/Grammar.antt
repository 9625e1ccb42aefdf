-- THE GRAMMAR: which words are a type, an expression, a declaration, a definition, a module, a sheet, and which one.
-- A part's place is that of its first word. Limits are apart. Assumes nothing.
use Rattle.std.specs.Prelude.{ℕ, ◌+◌, max, true, false, List, [], ◌∷◌, ◌++◌, ℤ}
use Rattle.words.specs.declared.keywords.Keyword.TheVariants.{Module as ModuleWord, Interface, Body, Opaque, Transparent}
use Rattle.words.specs.declared.keywords.Keyword.TheVariants.{«Type» as TypeWord, Int, Bool, From, Take, True, False, IsZero, Proc, Let}
use Rattle.words.specs.declared.keywords.Keyword.TheVariants.{In, If, Then, Else, Letrec, Less}
use Rattle.words.specs.declared.marks.Mark.TheVariants.{Open, Shut, Begin, End, Comma, Colon, Equal, Arrow, Plus, Minus, Times, Over}
use Rattle.grammar.specs.declared.tree.Operator.{Operator}
use Rattle.grammar.specs.Syntax.{Name, WrittenType, Exp, Declaration, Definition, Module, Sheet}
use Rattle.grammar.specs.Syntax as is
use Rattle.grammar.specs.declared.tree.Operator.TheVariants as operator
use Rattle.grammar.specs.Productions.{Word, name, number, key, mark}

-- the forms of a type, a constructor for each
pub data TypeWords : List Word → WrittenType → Type 0 where
  int_type : (p : ℕ) → TypeWords (key p Int ∷ []) (is.int_type p)
  bool_type : (p : ℕ) → TypeWords (key p Bool ∷ []) (is.bool_type p)
  named_type : (t : Name) → TypeWords (name t ∷ []) (is.named_type t)
  qualified_type : (p q : ℕ) (m t : Name) → TypeWords (key p From ∷ name m ∷ key q Take ∷ name t ∷ []) (is.qualified_type p m t)
  arrow_type : (p q r : ℕ) {us vs : List Word} {a b : WrittenType} → TypeWords us a → TypeWords vs b
      → TypeWords (mark p Open ∷ (us ++ (mark q Arrow ∷ (vs ++ (mark r Shut ∷ []))))) (is.arrow_type p a b)

-- one of `+ - * / less?`
pub data OperatorWord : Word → ℕ → Operator → Type 0 where
  plus : (p : ℕ) → OperatorWord (mark p Plus) p operator.Plus
  minus : (p : ℕ) → OperatorWord (mark p Minus) p operator.Minus
  times : (p : ℕ) → OperatorWord (mark p Times) p operator.Times
  over : (p : ℕ) → OperatorWord (mark p Over) p operator.Over
  less : (p : ℕ) → OperatorWord (key p Less) p operator.Less

-- the forms of an expression; `binary` is an operation on a pair, whose sides stand in brackets with a comma between
pub data ExpWords : List Word → Exp → Type 0 where
  numeral : (p : ℕ) (v : ℤ) → ExpWords (number p v ∷ []) (is.number p v)
  true_word : (p : ℕ) → ExpWords (key p True ∷ []) (is.boolean p true)
  false_word : (p : ℕ) → ExpWords (key p False ∷ []) (is.boolean p false)
  variable : (x : Name) → ExpWords (name x ∷ []) (is.variable x)
  qualified : (p q : ℕ) (m x : Name) → ExpWords (key p From ∷ name m ∷ key q Take ∷ name x ∷ []) (is.qualified p m x)
  is_zero : (p q r : ℕ) {us : List Word} {a : Exp} → ExpWords us a
      → ExpWords (key p IsZero ∷ mark q Open ∷ (us ++ (mark r Shut ∷ []))) (is.is_zero p a)
  apply : (p q : ℕ) {us vs : List Word} {a b : Exp} → ExpWords us a → ExpWords vs b
      → ExpWords (mark p Open ∷ (us ++ (vs ++ (mark q Shut ∷ [])))) (is.apply p a b)
  proc : (p q r o : ℕ) (x : Name) {us vs : List Word} {t : WrittenType} {e : Exp} → TypeWords us t → ExpWords vs e
      → ExpWords (key p Proc ∷ mark q Open ∷ name x ∷ mark r Colon ∷ (us ++ (mark o Shut ∷ vs))) (is.proc p x t e)
  let_in : (p q r : ℕ) (x : Name) {us vs : List Word} {a e : Exp} → ExpWords us a → ExpWords vs e
      → ExpWords (key p Let ∷ name x ∷ mark q Equal ∷ (us ++ (key r In ∷ vs))) (is.let_in p x a e)
  conditional : (p q r : ℕ) {us vs ws : List Word} {a b c : Exp} → ExpWords us a → ExpWords vs b → ExpWords ws c
      → ExpWords (key p If ∷ (us ++ (key q Then ∷ (vs ++ (key r Else ∷ ws))))) (is.conditional p a b c)
  letrec : (p q r o n i : ℕ) (f x : Name) {ts us vs ws : List Word} {s t : WrittenType} {a e : Exp} → TypeWords ts s → TypeWords us t
      → ExpWords vs a → ExpWords ws e
      → ExpWords (key p Letrec ∷ (ts ++ (name f ∷ mark q Open ∷ name x ∷ mark r Colon ∷
      (us ++ (mark o Shut ∷ mark n Equal ∷ (vs ++ (key i In ∷ ws))))))) (is.letrec p s f x t a e)
  binary : (p q r o : ℕ) {w : Word} {op : Operator} {us vs : List Word} {a b : Exp} → OperatorWord w p op → ExpWords us a → ExpWords vs b
      → ExpWords (w ∷ mark q Open ∷ (us ++ (mark r Comma ∷ (vs ++ (mark o Shut ∷ []))))) (is.binary p op a b)

-- the forms of a declaration
pub data DeclarationWords : List Word → Declaration → Type 0 where
  opaque_type : (p : ℕ) (t : Name) → DeclarationWords (key p Opaque ∷ name t ∷ []) (is.opaque_type p t)
  transparent_type : (p q : ℕ) (t : Name) {us : List Word} {a : WrittenType} → TypeWords us a
      → DeclarationWords (key p Transparent ∷ name t ∷ mark q Equal ∷ us) (is.transparent_type p t a)
  value_of_type : (q : ℕ) (x : Name) {us : List Word} {a : WrittenType} → TypeWords us a
      → DeclarationWords (name x ∷ mark q Colon ∷ us) (is.value_of_type x a)

-- the forms of a definition
pub data DefinitionWords : List Word → Definition → Type 0 where
  type_is : (p q : ℕ) (t : Name) {us : List Word} {a : WrittenType} → TypeWords us a
      → DefinitionWords (key p TypeWord ∷ name t ∷ mark q Equal ∷ us) (is.type_is p t a)
  value_is : (q : ℕ) (x : Name) {us : List Word} {e : Exp} → ExpWords us e → DefinitionWords (name x ∷ mark q Equal ∷ us) (is.value_is x e)

-- any number of parts, one behind the other
pub data Each {A : Type 0} (D : List Word → A → Type 0) : List Word → List A → Type 0 where
  no_more : Each D [] []
  one_more : {us vs : List Word} {a : A} {r : List A} → D us a → Each D vs r → Each D (us ++ vs) (a ∷ r)

-- a module: its name, its interface in brackets, its body in brackets
pub data ModuleWords : List Word → Module → Type 0 where
  module_of : (p q r o n i j : ℕ) (m : Name) {us vs : List Word} {ds : List Declaration} {fs : List Definition}
      → Each DeclarationWords us ds → Each DefinitionWords vs fs
      → ModuleWords (key p ModuleWord ∷ name m ∷ key q Interface ∷ mark r Begin ∷ (us ++ (mark o End ∷ key n Body ∷ mark i Begin ∷
      (vs ++ (mark j End ∷ [])))))
      (record { at = p; name = m; interface = ds; body = fs })

-- modules, as many as there are, and the closing expression
pub data SheetWords : List Word → Sheet → Type 0 where
  sheet : {us vs : List Word} {ms : List Module} {e : Exp} → Each ModuleWords us ms → ExpWords vs e
      → SheetWords (us ++ vs) (record { modules = ms; closing = e })

-- how deep a type or an expression nests: what has no parts is 1 deep, and each form adds 1 to the deepest of its parts
abbrev pub levels_t : WrittenType → ℕ
levels_t (is.int_type p) = 1
levels_t (is.bool_type p) = 1
levels_t (is.named_type t) = 1
levels_t (is.qualified_type p m t) = 1
levels_t (is.arrow_type p a b) = max (levels_t a) (levels_t b) + 1

-- the levels of an expression
abbrev pub levels_e : Exp → ℕ
levels_e (is.number p v) = 1
levels_e (is.boolean p b) = 1
levels_e (is.variable x) = 1
levels_e (is.qualified p m x) = 1
levels_e (is.is_zero p a) = levels_e a + 1
levels_e (is.apply p a b) = max (levels_e a) (levels_e b) + 1
levels_e (is.proc p x t e) = max (levels_t t) (levels_e e) + 1
levels_e (is.let_in p x a e) = max (levels_e a) (levels_e e) + 1
levels_e (is.conditional p a b c) = max (levels_e a) (max (levels_e b) (levels_e c)) + 1
levels_e (is.letrec p r f x t a e) = max (max (levels_t r) (levels_t t)) (max (levels_e a) (levels_e e)) + 1
levels_e (is.binary p o a b) = max (levels_e a) (levels_e b) + 1

-- the deepest type or expression of a declaration, a definition, a module, a sheet
abbrev pub levels_d : Declaration → ℕ
levels_d (is.opaque_type p t) = 0
levels_d (is.transparent_type p t a) = levels_t a
levels_d (is.value_of_type x a) = levels_t a

-- of a definition
abbrev pub levels_f : Definition → ℕ
levels_f (is.type_is p t a) = levels_t a
levels_f (is.value_is x e) = levels_e e

-- of several parts, the deepest
abbrev pub deepest : {A : Type 0} → (A → ℕ) → List A → ℕ
deepest f [] = 0
deepest f (a ∷ r) = max (f a) (deepest f r)

-- of a module
abbrev pub levels_m : Module → ℕ
levels_m m = max (deepest levels_d m.interface) (deepest levels_f m.body)

-- of a sheet
abbrev pub levels_s : Sheet → ℕ
levels_s s = max (deepest levels_m s.modules) (levels_e s.closing)
