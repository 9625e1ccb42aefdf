-- The grammar, as a table: each form of a type, an expression, a declaration, a definition and a module, with its symbols in order.
-- The first symbol of a form is one word, and no two forms of one sort begin alike. Assumes nothing.
use Rattle.std.specs.Prelude.{ℕ, ◌+◌, true, false, cond, List, [], ◌∷◌, ℤ, ◌==◌}
use Rattle.std.proofs.Math.Option.{Option, none, some}
use Rattle.words.specs.declared.keywords.Keyword.{Keyword}
use Rattle.words.specs.declared.keywords.Keyword.TheVariants as kw
use Rattle.words.specs.declared.marks.Mark.{Mark}
use Rattle.words.specs.declared.marks.Mark.TheVariants as mk
use Rattle.grammar.specs.declared.tree.Operator.{Operator}
use Rattle.grammar.specs.Syntax.{Name, WrittenType, Exp, Declaration, Definition, Module, inner_t, inner_e, inner_d, inner_f, inner_m, places}
use Rattle.grammar.specs.Syntax as is
use Rattle.grammar.specs.declared.tree.Operator.TheVariants as operator

-- a word with its place: a name with its spelling, a number with what it stands for, a keyword or a mark
pub data Word : Type 0 where
  name : (x : Name) → Word
  number : (at : ℕ) (v : ℤ) → Word
  key : (at : ℕ) (k : Keyword) → Word
  mark : (at : ℕ) (m : Mark) → Word

-- the place of a word
abbrev pub place_of : Word → ℕ
place_of (name x) = x.place
place_of (number at v) = at
place_of (key at k) = at
place_of (mark at m) = at

-- keywords and marks are told apart by a number of theirs
abbrev pub key_code : Keyword → ℕ
key_code kw.Module = 0
key_code kw.Interface = 1
key_code kw.Body = 2
key_code kw.Opaque = 3
key_code kw.Transparent = 4
key_code kw.«Type» = 5
key_code kw.Int = 6
key_code kw.Bool = 7
key_code kw.From = 8
key_code kw.Take = 9
key_code kw.True = 10
key_code kw.False = 11
key_code kw.IsZero = 12
key_code kw.Proc = 13
key_code kw.Let = 14
key_code kw.In = 15
key_code kw.If = 16
key_code kw.Then = 17
key_code kw.Else = 18
key_code kw.Letrec = 19
key_code kw.Less = 20

-- the number of a mark
abbrev pub mark_code : Mark → ℕ
mark_code mk.Open = 0
mark_code mk.Shut = 1
mark_code mk.Begin = 2
mark_code mk.End = 3
mark_code mk.Comma = 4
mark_code mk.Colon = 5
mark_code mk.Equal = 6
mark_code mk.Arrow = 7
mark_code mk.Plus = 8
mark_code mk.Minus = 9
mark_code mk.Times = 10
mark_code mk.Over = 11

-- a symbol that is one word: a certain keyword or mark, any name, any number
pub data Single : Type 0 where
  «the» : Keyword → Single
  sign : Mark → Single
  a_name : Single
  a_number : Single

-- what the word of such a symbol holds
abbrev pub Held : Single → Type 0
Held («the» k) = Unit {0}
Held (sign m) = Unit {0}
Held a_name = Name
Held a_number = ℤ

-- what the symbol holds, if the word is one of it
abbrev pub takes : (m : Single) → Word → Option (Held m)
takes («the» k) (name x) = none
takes («the» k) (number at v) = none
takes («the» k) (key at j) = cond (key_code j == key_code k) (some tt) none
takes («the» k) (mark at m) = none
takes (sign m) (name x) = none
takes (sign m) (number at v) = none
takes (sign m) (key at k) = none
takes (sign m) (mark at j) = cond (mark_code j == mark_code m) (some tt) none
takes a_name (name x) = some x
takes a_name (number at v) = none
takes a_name (key at k) = none
takes a_name (mark at m) = none
takes a_number (name x) = none
takes a_number (number at v) = some v
takes a_number (key at k) = none
takes a_number (mark at m) = none

-- the sorts of part
pub data Sort : Type 0 where
  a_type an_exp a_declaration a_definition a_module : Sort

-- the parts of each sort
abbrev pub Part : Sort → Type 0
Part a_type = WrittenType
Part an_exp = Exp
Part a_declaration = Declaration
Part a_definition = Definition
Part a_module = Module

-- the places that the proper parts of a part take in the tree
abbrev pub inner : (s : Sort) → Part s → ℕ
inner a_type = inner_t
inner an_exp = inner_e
inner a_declaration = inner_d
inner a_definition = inner_f
inner a_module = inner_m

-- a symbol: one word, one part, or any number of parts up to and with a `]`
pub data Symbol : Type 0 where
  one : Single → Symbol
  part : Sort → Symbol
  parts : Sort → Symbol

-- what symbols in order hold
abbrev pub Values : List Symbol → Type 0
Values [] = Unit {0}
Values (one m ∷ ss) = Held m × Values ss
Values (part s ∷ ss) = Part s × Values ss
Values (parts s ∷ ss) = List (Part s) × Values ss

-- the forms
pub data FormT : Type 0 where
  t_int t_bool t_name t_from t_arrow : FormT

-- of expressions
pub data FormE : Type 0 where
  e_number e_true e_false e_name e_from e_zero e_apply e_proc e_let e_if e_letrec : FormE
  e_op : Operator → FormE

-- of declarations
pub data FormD : Type 0 where
  d_opaque d_transparent d_value : FormD

-- of definitions
pub data FormF : Type 0 where
  f_type f_value : FormF

-- of modules
pub data FormM : Type 0 where
  m_module : FormM

-- the forms of each sort
abbrev pub Form : Sort → Type 0
Form a_type = FormT
Form an_exp = FormE
Form a_declaration = FormD
Form a_definition = FormF
Form a_module = FormM

-- the operators as they are written
abbrev pub op_sign : Operator → Single
op_sign operator.Plus = sign mk.Plus
op_sign operator.Minus = sign mk.Minus
op_sign operator.Times = sign mk.Times
op_sign operator.Over = sign mk.Over
op_sign operator.Less = «the» kw.Less

-- THE PRODUCTIONS: each form's first word, and the symbols behind it.
abbrev pub first : (s : Sort) → Form s → Single
first a_type t_int = «the» kw.Int
first a_type t_bool = «the» kw.Bool
first a_type t_name = a_name
first a_type t_from = «the» kw.From
first a_type t_arrow = sign mk.Open
first an_exp e_number = a_number
first an_exp e_true = «the» kw.True
first an_exp e_false = «the» kw.False
first an_exp e_name = a_name
first an_exp e_from = «the» kw.From
first an_exp e_zero = «the» kw.IsZero
first an_exp e_apply = sign mk.Open
first an_exp e_proc = «the» kw.Proc
first an_exp e_let = «the» kw.Let
first an_exp e_if = «the» kw.If
first an_exp e_letrec = «the» kw.Letrec
first an_exp (e_op o) = op_sign o
first a_declaration d_opaque = «the» kw.Opaque
first a_declaration d_transparent = «the» kw.Transparent
first a_declaration d_value = a_name
first a_definition f_type = «the» kw.«Type»
first a_definition f_value = a_name
first a_module m_module = «the» kw.Module

-- the symbols behind the first word
abbrev pub rest : (s : Sort) → Form s → List Symbol
rest a_type t_int = []
rest a_type t_bool = []
rest a_type t_name = []
rest a_type t_from = one a_name ∷ one («the» kw.Take) ∷ one a_name ∷ []
rest a_type t_arrow = part a_type ∷ one (sign mk.Arrow) ∷ part a_type ∷ one (sign mk.Shut) ∷ []
rest an_exp e_number = []
rest an_exp e_true = []
rest an_exp e_false = []
rest an_exp e_name = []
rest an_exp e_from = one a_name ∷ one («the» kw.Take) ∷ one a_name ∷ []
rest an_exp e_zero = one (sign mk.Open) ∷ part an_exp ∷ one (sign mk.Shut) ∷ []
rest an_exp e_apply = part an_exp ∷ part an_exp ∷ one (sign mk.Shut) ∷ []
rest an_exp e_proc = one (sign mk.Open) ∷ one a_name ∷ one (sign mk.Colon) ∷ part a_type ∷ one (sign mk.Shut) ∷ part an_exp ∷ []
rest an_exp e_let = one a_name ∷ one (sign mk.Equal) ∷ part an_exp ∷ one («the» kw.In) ∷ part an_exp ∷ []
rest an_exp e_if = part an_exp ∷ one («the» kw.Then) ∷ part an_exp ∷ one («the» kw.Else) ∷ part an_exp ∷ []
rest an_exp e_letrec =
    part a_type ∷ one a_name ∷ one (sign mk.Open) ∷ one a_name ∷ one (sign mk.Colon) ∷ part a_type ∷ one (sign mk.Shut)
    ∷ one (sign mk.Equal) ∷ part an_exp ∷ one («the» kw.In) ∷ part an_exp ∷ []
rest an_exp (e_op o) = one (sign mk.Open) ∷ part an_exp ∷ one (sign mk.Comma) ∷ part an_exp ∷ one (sign mk.Shut) ∷ []
rest a_declaration d_opaque = one a_name ∷ []
rest a_declaration d_transparent = one a_name ∷ one (sign mk.Equal) ∷ part a_type ∷ []
rest a_declaration d_value = one (sign mk.Colon) ∷ part a_type ∷ []
rest a_definition f_type = one a_name ∷ one (sign mk.Equal) ∷ part a_type ∷ []
rest a_definition f_value = one (sign mk.Equal) ∷ part an_exp ∷ []
rest a_module m_module =
    one a_name ∷ one («the» kw.Interface) ∷ one (sign mk.Begin) ∷ parts a_declaration
    ∷ one («the» kw.Body) ∷ one (sign mk.Begin) ∷ parts a_definition ∷ []

-- the part that a form gives, from the place of its first word, what that holds, and the values of the symbols behind it
abbrev pub build : (s : Sort) → ℕ → (f : Form s) → Held (first s f) → Values (rest s f) → Part s
build a_type at t_int h v = is.int_type at
build a_type at t_bool h v = is.bool_type at
build a_type at t_name h v = is.named_type h
build a_type at t_from h v = is.qualified_type at v.0 v.1.1.0
build a_type at t_arrow h v = is.arrow_type at v.0 v.1.1.0
build an_exp at e_number h v = is.number at h
build an_exp at e_true h v = is.boolean at true
build an_exp at e_false h v = is.boolean at false
build an_exp at e_name h v = is.variable h
build an_exp at e_from h v = is.qualified at v.0 v.1.1.0
build an_exp at e_zero h v = is.is_zero at v.1.0
build an_exp at e_apply h v = is.apply at v.0 v.1.0
build an_exp at e_proc h v = is.proc at v.1.0 v.1.1.1.0 v.1.1.1.1.1.0
build an_exp at e_let h v = is.let_in at v.0 v.1.1.0 v.1.1.1.1.0
build an_exp at e_if h v = is.conditional at v.0 v.1.1.0 v.1.1.1.1.0
build an_exp at e_letrec h v =
    is.letrec at v.0 v.1.0 v.1.1.1.0 v.1.1.1.1.1.0 v.1.1.1.1.1.1.1.1.0 v.1.1.1.1.1.1.1.1.1.1.0
build an_exp at (e_op o) h v = is.binary at o v.1.0 v.1.1.1.0
build a_declaration at d_opaque h v = is.opaque_type at v.0
build a_declaration at d_transparent h v = is.transparent_type at v.0 v.1.1.0
build a_declaration at d_value h v = is.value_of_type h v.1.0
build a_definition at f_type h v = is.type_is at v.0 v.1.1.0
build a_definition at f_value h v = is.value_is h v.1.0
build a_module at m_module h v = record { at = at; name = v.0; interface = v.1.1.1.0; body = v.1.1.1.1.1.1.0 }

-- all forms of a sort
abbrev pub forms : (s : Sort) → List (Form s)
forms a_type = t_int ∷ t_bool ∷ t_name ∷ t_from ∷ t_arrow ∷ []
forms an_exp =
    e_number ∷ e_true ∷ e_false ∷ e_name ∷ e_from ∷ e_zero ∷ e_apply ∷ e_proc ∷ e_let ∷ e_if ∷ e_letrec
    ∷ e_op operator.Plus ∷ e_op operator.Minus ∷ e_op operator.Times ∷ e_op operator.Over ∷ e_op operator.Less ∷ []
forms a_declaration = d_opaque ∷ d_transparent ∷ d_value ∷ []
forms a_definition = f_type ∷ f_value ∷ []
forms a_module = m_module ∷ []

-- a form of the sort, and what its first word holds
abbrev pub Opening : Sort → Type 0
Opening s = (f : Form s) × Held (first s f)

-- the first that there is
abbrev pub first_of : {A B : Type 0} → Option A → (A → B) → Option B → Option B
first_of none k o = o
first_of (some a) k o = some (k a)

-- the first of the forms that begins by the word
abbrev pub chosen_of : (s : Sort) → List (Form s) → Word → Option (Opening s)
chosen_of s [] w = none
chosen_of s (f ∷ fs) w = first_of (takes (first s f) w) (λ h. (f, h)) (chosen_of s fs w)

-- the form that begins by the word
unfoldable pub chosen : (s : Sort) → Word → Option (Opening s)
chosen s w = chosen_of s (forms s) w

-- the places that values take in the tree
abbrev pub size_v : (ss : List Symbol) → Values ss → ℕ
size_v [] v = 0
size_v (one m ∷ ss) v = size_v ss v.1
size_v (part s ∷ ss) v = (inner s v.0 + 1) + size_v ss v.1
size_v (parts s ∷ ss) v = places (inner s) v.0 + size_v ss v.1
