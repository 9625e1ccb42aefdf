-- Reading into a table, step by step: what is read is laid in the table as soon as it is read. Assumes nothing.
use Rattle.std.specs.Prelude.{ℕ, suc, ◌+◌, List, slice_set}
use Rattle.language.specs.declared.spans.Span.{Span}
use Rattle.words.specs.declared.keywords.Keyword.{Keyword}
use Rattle.words.specs.declared.keywords.Keyword.TheVariants as kw
use Rattle.words.specs.declared.marks.Mark.{Mark}
use Rattle.words.specs.declared.marks.Mark.TheVariants as mk
use Rattle.grammar.specs.declared.tree.Operator.{Operator}
use Rattle.grammar.specs.declared.tree.TypeNode.TheVariants as ty
use Rattle.grammar.specs.declared.tree.ExpNode.TheVariants as ex
use Rattle.grammar.specs.declared.tree.Item.TheVariants as item
use Rattle.grammar.specs.declared.tree.Node.{Node}
use Rattle.grammar.specs.declared.tree.Node.TheVariants as node
use Rattle.grammar.specs.declared.forms.TypeStart.{TypeStart}
use Rattle.grammar.specs.declared.forms.TypeStart.TheVariants as tstart
use Rattle.grammar.specs.declared.forms.ExpStart.{ExpStart}
use Rattle.grammar.specs.declared.forms.ExpStart.TheVariants as estart
use Rattle.grammar.specs.declared.forms.DeclarationStart.{DeclarationStart}
use Rattle.grammar.specs.declared.forms.DeclarationStart.TheVariants as dstart
use Rattle.grammar.specs.declared.forms.DefinitionStart.{DefinitionStart}
use Rattle.grammar.specs.declared.forms.DefinitionStart.TheVariants as fstart
use Rattle.grammar.specs.declared.next.Next.{Next}
use Rattle.grammar.specs.Productions.{Single, «the», sign, a_name, Sort, a_type, an_exp, a_declaration, a_definition, a_module, Part, inner, Opening}
use Rattle.grammar.specs.Productions.{place_of}
use Rattle.grammar.specs.Syntax.{Sheet, inner_e, inner_m, places}
use Rattle.grammar.specs.Steps.{step_in}
use Rattle.grammar.specs.Reading.{Out, bad, good, Step, end, word, fault, steps, single, room, many, read_part, part_from, formed, sheet_from}
use Rattle.grammar.specs.Table.{span_of, lay_t, lay_e, lay_d, lay_f, lay_m, lay_of}

-- where a reader is: the text and the place in it, the table, how many places of it may be used and how many are
pub record State : Type 0 where
  pub text : List ℕ
  pub limit : ℕ
  pub at : ℕ
  pub used : ℕ
  pub table : List Node

-- a refusal, or an answer and where the reader is then
pub data Outcome (A : Type 0) : Type 0 where
  refused : (number at : ℕ) → Outcome A
  done : A → State → Outcome A

-- what follows, unless it was refused
abbrev pub after : {A B : Type 0} → Outcome A → (A → State → Outcome B) → Outcome B
after (refused k e) f = refused k e
after (done a v) f = f a v

-- a step that gives an A
abbrev pub M : Type 0 → Type 0
M A = State → Outcome A

-- one step, then the next, which may use its answer
infixl 10 ◌>>=◌
abbrev pub ◌>>=◌ : {A B : Type 0} → M A → (A → M B) → M B
◌>>=◌ m f v = after (m v) f

-- one step, then the next
infixl 10 ◌>>◌
abbrev pub ◌>>◌ : {A B : Type 0} → M A → M B → M B
◌>>◌ m f v = after (m v) (λ _. f)

-- an answer that needs no step
abbrev pub give : {A : Type 0} → A → M A
give a v = done a v

-- what is read, as an answer, with the places that it takes, laid in the table
abbrev pub lifted : {A B : Type 0} → Out A → (A → B) → (A → ℕ) → (A → List Node → List Node) → M B
lifted (bad k e) value used laid v = refused k e
lifted (good a q) value used laid v = done (value a) (record {
  text = v.text;
  limit = v.limit;
  at = q;
  used = used a;
  table = laid a
      v.table;
})

-- one word of a symbol
unfoldable pub word_m : Single → M Unit
word_m m v = lifted (single m (steps v.text) v.at) (λ _. tt) (λ _. v.used) (λ _ ns. ns) v

-- one mark
abbrev pub mark_m : Mark → M Unit
mark_m m = word_m (sign m)

-- one keyword
abbrev pub key_m : Keyword → M Unit
key_m k = word_m («the» k)

-- one name, as a span
unfoldable pub name_m : M Span
name_m v = lifted (single a_name (steps v.text) v.at) span_of (λ _. v.used) (λ _ ns. ns) v

-- a node put into the next free place, which is the answer; `at` is the place of its part
unfoldable pub place_m : Node → ℕ → M ℕ
place_m n at v = lifted (room v.limit v.used at n v.at) (λ _. v.used) (λ _. v.used + 1) (λ n ns. slice_set ns v.used n) v

-- how a part is laid
abbrev pub lay : (s : Sort) → ℕ → Part s → List Node → List Node
lay a_type = lay_t
lay an_exp = lay_e
lay a_declaration = lay_d
lay a_definition = lay_f
lay a_module = lay_m

-- a part that is read, with the place of its node
abbrev pub part_laid : (s : Sort) → Out (Part s) → M ℕ
part_laid s o v = lifted o (λ a. v.used + inner s a) (λ a. v.used + (inner s a + 1)) (lay s v.used) v

-- a part of at most l levels
unfoldable pub part_m : Sort → ℕ → M ℕ
part_m s l v = part_laid s (read_part l (steps v.text) v.limit s v.used v.at) v

-- a part whose first word was read before
unfoldable pub from_m : Sort → Next → ℕ → M ℕ
from_m s n l v = part_laid s (part_from l (steps v.text) v.limit s v.used (step_in v.text n v.at)) v

-- a form behind its first word, which stands at `at`; its parts have at most l levels
abbrev pub form_m : (s : Sort) → Opening s → ℕ → ℕ → M ℕ
form_m s o at l v = part_laid s (formed (steps v.text) v.limit (read_part l (steps v.text) v.limit) s v.used o at v.at) v

-- THE FORMS, each behind its first word

-- a name taken from a module, `m take x`
abbrev pub taken_m : M (Span × Span)
taken_m = do
  m ← name_m
  key_m kw.Take
  x ← name_m
  give (m, x)

-- `from m take t`
abbrev pub qualified_type_m : ℕ → M ℕ
qualified_type_m at = do
  mt ← taken_m
  place_m (node.«Type» (ty.From at mt.0 mt.1)) at

-- `(T -> T)`
abbrev pub arrow_m : ℕ → ℕ → M ℕ
arrow_m at l = do
  a ← part_m a_type l
  mark_m mk.Arrow
  b ← part_m a_type l
  mark_m mk.Shut
  place_m (node.«Type» (ty.Arrow at a b)) at

-- a type by its form
abbrev pub type_m : ℕ → ℕ → TypeStart → M ℕ
type_m at l tstart.Int = place_m (node.«Type» (ty.Int at)) at
type_m at l tstart.Bool = place_m (node.«Type» (ty.Bool at)) at
type_m at l (tstart.Named x) = place_m (node.«Type» (ty.Named x)) at
type_m at l tstart.From = qualified_type_m at
type_m at l tstart.Arrow = arrow_m at l

-- `from m take x`
abbrev pub qualified_m : ℕ → M ℕ
qualified_m at = do
  mx ← taken_m
  place_m (node.Expression (ex.From at mx.0 mx.1)) at

-- `zero?(E)`
abbrev pub is_zero_m : ℕ → ℕ → M ℕ
is_zero_m at l = do
  mark_m mk.Open
  a ← part_m an_exp l
  mark_m mk.Shut
  place_m (node.Expression (ex.IsZero at a)) at

-- `(E E)`
abbrev pub apply_m : ℕ → ℕ → M ℕ
apply_m at l = do
  a ← part_m an_exp l
  b ← part_m an_exp l
  mark_m mk.Shut
  place_m (node.Expression (ex.Apply at a b)) at

-- a parameter with its type, `(x : T)`
abbrev pub parameter_m : ℕ → M (Span × ℕ)
parameter_m l = do
  mark_m mk.Open
  x ← name_m
  mark_m mk.Colon
  t ← part_m a_type l
  mark_m mk.Shut
  give (x, t)

-- `proc (x : T) E`
abbrev pub proc_m : ℕ → ℕ → M ℕ
proc_m at l = do
  xt ← parameter_m l
  e ← part_m an_exp l
  place_m (node.Expression (ex.Proc at xt.0 xt.1 e)) at

-- what is bound, and where: `= E in E`
abbrev pub bound_m : ℕ → M (ℕ × ℕ)
bound_m l = do
  mark_m mk.Equal
  a ← part_m an_exp l
  key_m kw.In
  e ← part_m an_exp l
  give (a, e)

-- `let x = E in E`
abbrev pub let_m : ℕ → ℕ → M ℕ
let_m at l = do
  x ← name_m
  ae ← bound_m l
  place_m (node.Expression (ex.Let at x ae.0 ae.1)) at

-- `if E then E else E`
abbrev pub if_m : ℕ → ℕ → M ℕ
if_m at l = do
  a ← part_m an_exp l
  key_m kw.Then
  b ← part_m an_exp l
  key_m kw.Else
  c ← part_m an_exp l
  place_m (node.Expression (ex.If at a b c)) at

-- `letrec T f (x : T) = E in E`
abbrev pub letrec_m : ℕ → ℕ → M ℕ
letrec_m at l = do
  r ← part_m a_type l
  f ← name_m
  xt ← parameter_m l
  be ← bound_m l
  place_m (node.Expression (ex.Letrec at r f xt.0 xt.1 be.0 be.1)) at

-- a pair, `(E,E)`
abbrev pub pair_m : ℕ → M (ℕ × ℕ)
pair_m l = do
  mark_m mk.Open
  a ← part_m an_exp l
  mark_m mk.Comma
  b ← part_m an_exp l
  mark_m mk.Shut
  give (a, b)

-- an operator on a pair
abbrev pub binary_m : ℕ → Operator → ℕ → M ℕ
binary_m at o l = do
  ab ← pair_m l
  place_m (node.Expression (ex.Binary at o ab.0 ab.1)) at

-- an expression by its form
abbrev pub exp_m : ℕ → ℕ → ExpStart → M ℕ
exp_m at l (estart.Number v) = place_m (node.Expression (ex.Number at v)) at
exp_m at l (estart.Boolean b) = place_m (node.Expression (ex.Boolean at b)) at
exp_m at l (estart.Variable x) = place_m (node.Expression (ex.Variable x)) at
exp_m at l estart.From = qualified_m at
exp_m at l estart.IsZero = is_zero_m at l
exp_m at l estart.Apply = apply_m at l
exp_m at l estart.Proc = proc_m at l
exp_m at l estart.Let = let_m at l
exp_m at l estart.If = if_m at l
exp_m at l estart.Letrec = letrec_m at l
exp_m at l (estart.Binary o) = binary_m at o l

-- declarations or definitions up to a `]`, at most `fuel` of them; a tree of n places has room for no more than n
unfoldable pub many_f : ℕ → Sort → M Unit
many_f fuel s v =
    lifted (many fuel (inner s) (read_part 49 (steps v.text) v.limit s) (steps v.text) v.used v.at)
    (λ _. tt) (λ r. v.used + places (inner s) r) (lay_of (inner s) (lay s) v.used) v

-- as many as the tree has places for
unfoldable pub many_m : Sort → M Unit
many_m s v = many_f (suc v.limit) s v

-- `opaque t`
abbrev pub opaque_m : ℕ → M ℕ
opaque_m at = do
  t ← name_m
  place_m (node.Item (item.Opaque at t)) at

-- a type's name and what it is, `t = T`
abbrev pub equated_m : ℕ → M (Span × ℕ)
equated_m l = do
  t ← name_m
  mark_m mk.Equal
  a ← part_m a_type l
  give (t, a)

-- `transparent t = T`
abbrev pub transparent_m : ℕ → ℕ → M ℕ
transparent_m at l = do
  ta ← equated_m l
  place_m (node.Item (item.Transparent at ta.0 ta.1)) at

-- `x : T`
abbrev pub declared_m : Span → ℕ → ℕ → M ℕ
declared_m x at l = do
  mark_m mk.Colon
  a ← part_m a_type l
  place_m (node.Item (item.Declared x a)) at

-- a declaration by its form
abbrev pub declaration_m : ℕ → ℕ → DeclarationStart → M ℕ
declaration_m at l dstart.Opaque = opaque_m at
declaration_m at l dstart.Transparent = transparent_m at l
declaration_m at l (dstart.Value x) = declared_m x at l

-- `type t = T`
abbrev pub type_is_m : ℕ → ℕ → M ℕ
type_is_m at l = do
  ta ← equated_m l
  place_m (node.Item (item.TypeIs at ta.0 ta.1)) at

-- `x = E`
abbrev pub value_is_m : Span → ℕ → ℕ → M ℕ
value_is_m x at l = do
  mark_m mk.Equal
  e ← part_m an_exp l
  place_m (node.Item (item.ValueIs x e)) at

-- a definition by its form
abbrev pub definition_m : ℕ → ℕ → DefinitionStart → M ℕ
definition_m at l fstart.Named = type_is_m at l
definition_m at l (fstart.Value x) = value_is_m x at l

-- a keyword and the list that it heads, `[` parts `]`
abbrev pub headed_m : Keyword → Sort → M Unit
headed_m k s = do
  key_m k
  mark_m mk.Begin
  many_m s

-- a module behind its first word
abbrev pub module_m : ℕ → M ℕ
module_m at = do
  m ← name_m
  headed_m kw.Interface a_declaration
  headed_m kw.Body a_definition
  place_m (node.Item (item.Module at m)) at

-- how a sheet is laid from the place u on
abbrev pub lay_sheet : ℕ → Sheet → List Node → List Node
lay_sheet u s ns = lay_e (u + places inner_m s.modules) s.closing (lay_of inner_m lay_m u s.modules ns)

-- a sheet of at most so many modules; the answer is the place of its closing expression
unfoldable pub sheet_m : ℕ → M ℕ
sheet_m modules v =
    lifted (sheet_from modules (steps v.text) v.limit v.used v.at) (λ s. v.used + (places inner_m s.modules + inner_e
    s.closing))
    (λ s. v.used + (places inner_m s.modules + (inner_e s.closing + 1))) (lay_sheet v.used) v

-- the text's end
abbrev pub end_by : Step → M Unit
end_by (end e) v = done tt (record { text = v.text; limit = v.limit; at = e; used = v.used; table = v.table })
end_by (word w q) v = refused 5 (place_of w)
end_by (fault k e) v = refused k e

-- nothing but blanks and comments up to the end
unfoldable pub end_m : M Unit
end_m v = end_by (steps v.text v.at) v

-- the closing expression, whose first word was read before, and the end
abbrev pub closing_m : Next → M ℕ
closing_m n = do
  close ← from_m an_exp n 48
  end_m
  give close
