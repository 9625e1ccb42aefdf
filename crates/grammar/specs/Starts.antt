-- The forms of types and expressions by what begins them, as code tells them apart. Assumes nothing.
use Rattle.std.specs.Prelude.{ℕ, true, false, cond, List, Some, None, Ok, Err, Option, Result, ◌==◌}
use Rattle.words.specs.declared.keywords.Keyword.{Keyword}
use Rattle.words.specs.declared.keywords.Keyword.TheVariants as kw
use Rattle.words.specs.declared.marks.Mark.{Mark}
use Rattle.words.specs.declared.marks.Mark.TheVariants as mk
use Rattle.grammar.specs.declared.tree.Operator.TheVariants as operator
use Rattle.grammar.specs.declared.faults.Fault.{Fault}
use Rattle.grammar.specs.declared.faults.Fault.TheVariants.{Unexpected, TooDeep}
use Rattle.grammar.specs.declared.next.Next.{Next}
use Rattle.grammar.specs.declared.next.Next.TheVariants.{End, Name, Number, Key, Sign}
use Rattle.grammar.specs.declared.forms.TypeStart.{TypeStart}
use Rattle.grammar.specs.declared.forms.TypeStart.TheVariants as ty
use Rattle.grammar.specs.declared.forms.ExpStart.{ExpStart}
use Rattle.grammar.specs.declared.forms.ExpStart.TheVariants as ex
use Rattle.grammar.specs.declared.forms.DeclarationStart.{DeclarationStart}
use Rattle.grammar.specs.declared.forms.DeclarationStart.TheVariants as de
use Rattle.grammar.specs.declared.forms.DefinitionStart.{DefinitionStart}
use Rattle.grammar.specs.declared.forms.DefinitionStart.TheVariants as df
use Rattle.grammar.specs.Productions.{Opening, a_type, an_exp, a_declaration, a_definition}
use Rattle.grammar.specs.Productions as p
use Rattle.grammar.specs.Reading.{Out, bad}
use Rattle.grammar.specs.Table.{name_in}

-- by a keyword
abbrev pub type_key : Keyword → Option TypeStart
type_key kw.Module = None
type_key kw.Interface = None
type_key kw.Body = None
type_key kw.Opaque = None
type_key kw.Transparent = None
type_key kw.«Type» = None
type_key kw.Int = Some ty.Int
type_key kw.Bool = Some ty.Bool
type_key kw.From = Some ty.From
type_key kw.Take = None
type_key kw.True = None
type_key kw.False = None
type_key kw.IsZero = None
type_key kw.Proc = None
type_key kw.Let = None
type_key kw.In = None
type_key kw.If = None
type_key kw.Then = None
type_key kw.Else = None
type_key kw.Letrec = None
type_key kw.Less = None

-- by a mark
abbrev pub type_mark : Mark → Option TypeStart
type_mark mk.Open = Some ty.Arrow
type_mark mk.Shut = None
type_mark mk.Begin = None
type_mark mk.End = None
type_mark mk.Comma = None
type_mark mk.Colon = None
type_mark mk.Equal = None
type_mark mk.Arrow = None
type_mark mk.Plus = None
type_mark mk.Minus = None
type_mark mk.Times = None
type_mark mk.Over = None

-- the form of the type that begins so
abbrev pub type_start : Next → Option TypeStart
type_start (End at) = None
type_start (Name x) = Some (ty.Named x)
type_start (Number at v) = None
type_start (Key at k) = type_key k
type_start (Sign at m) = type_mark m

-- the form among the productions
abbrev pub open_t : List ℕ → TypeStart → Opening a_type
open_t text ty.Int = (p.t_int, tt)
open_t text ty.Bool = (p.t_bool, tt)
open_t text (ty.Named x) = (p.t_name, name_in text x)
open_t text ty.From = (p.t_from, tt)
open_t text ty.Arrow = (p.t_arrow, tt)

-- by a keyword
abbrev pub exp_key : Keyword → Option ExpStart
exp_key kw.Module = None
exp_key kw.Interface = None
exp_key kw.Body = None
exp_key kw.Opaque = None
exp_key kw.Transparent = None
exp_key kw.«Type» = None
exp_key kw.Int = None
exp_key kw.Bool = None
exp_key kw.From = Some ex.From
exp_key kw.Take = None
exp_key kw.True = Some (ex.Boolean true)
exp_key kw.False = Some (ex.Boolean false)
exp_key kw.IsZero = Some ex.IsZero
exp_key kw.Proc = Some ex.Proc
exp_key kw.Let = Some ex.Let
exp_key kw.In = None
exp_key kw.If = Some ex.If
exp_key kw.Then = None
exp_key kw.Else = None
exp_key kw.Letrec = Some ex.Letrec
exp_key kw.Less = Some (ex.Binary operator.Less)

-- by a mark
abbrev pub exp_mark : Mark → Option ExpStart
exp_mark mk.Open = Some ex.Apply
exp_mark mk.Shut = None
exp_mark mk.Begin = None
exp_mark mk.End = None
exp_mark mk.Comma = None
exp_mark mk.Colon = None
exp_mark mk.Equal = None
exp_mark mk.Arrow = None
exp_mark mk.Plus = Some (ex.Binary operator.Plus)
exp_mark mk.Minus = Some (ex.Binary operator.Minus)
exp_mark mk.Times = Some (ex.Binary operator.Times)
exp_mark mk.Over = Some (ex.Binary operator.Over)

-- the form of the expression that begins so
abbrev pub exp_start : Next → Option ExpStart
exp_start (End at) = None
exp_start (Name x) = Some (ex.Variable x)
exp_start (Number at v) = Some (ex.Number v)
exp_start (Key at k) = exp_key k
exp_start (Sign at m) = exp_mark m

-- the form among the productions
abbrev pub open_e : List ℕ → ExpStart → Opening an_exp
open_e text (ex.Number v) = (p.e_number, v)
open_e text (ex.Boolean true) = (p.e_true, tt)
open_e text (ex.Boolean false) = (p.e_false, tt)
open_e text (ex.Variable x) = (p.e_name, name_in text x)
open_e text ex.From = (p.e_from, tt)
open_e text ex.IsZero = (p.e_zero, tt)
open_e text ex.Apply = (p.e_apply, tt)
open_e text ex.Proc = (p.e_proc, tt)
open_e text ex.Let = (p.e_let, tt)
open_e text ex.If = (p.e_if, tt)
open_e text ex.Letrec = (p.e_letrec, tt)
open_e text (ex.Binary operator.Plus) = (p.e_op operator.Plus, tt)
open_e text (ex.Binary operator.Minus) = (p.e_op operator.Minus, tt)
open_e text (ex.Binary operator.Times) = (p.e_op operator.Times, tt)
open_e text (ex.Binary operator.Over) = (p.e_op operator.Over, tt)
open_e text (ex.Binary operator.Less) = (p.e_op operator.Less, tt)

-- by a keyword
abbrev pub declaration_key : Keyword → Option DeclarationStart
declaration_key kw.Module = None
declaration_key kw.Interface = None
declaration_key kw.Body = None
declaration_key kw.Opaque = Some de.Opaque
declaration_key kw.Transparent = Some de.Transparent
declaration_key kw.«Type» = None
declaration_key kw.Int = None
declaration_key kw.Bool = None
declaration_key kw.From = None
declaration_key kw.Take = None
declaration_key kw.True = None
declaration_key kw.False = None
declaration_key kw.IsZero = None
declaration_key kw.Proc = None
declaration_key kw.Let = None
declaration_key kw.In = None
declaration_key kw.If = None
declaration_key kw.Then = None
declaration_key kw.Else = None
declaration_key kw.Letrec = None
declaration_key kw.Less = None

-- the form of the declaration that begins so
abbrev pub declaration_start : Next → Option DeclarationStart
declaration_start (End at) = None
declaration_start (Name x) = Some (de.Value x)
declaration_start (Number at v) = None
declaration_start (Key at k) = declaration_key k
declaration_start (Sign at m) = None

-- the form among the productions
abbrev pub open_d : List ℕ → DeclarationStart → Opening a_declaration
open_d text de.Opaque = (p.d_opaque, tt)
open_d text de.Transparent = (p.d_transparent, tt)
open_d text (de.Value x) = (p.d_value, name_in text x)

-- by a keyword
abbrev pub definition_key : Keyword → Option DefinitionStart
definition_key kw.Module = None
definition_key kw.Interface = None
definition_key kw.Body = None
definition_key kw.Opaque = None
definition_key kw.Transparent = None
definition_key kw.«Type» = Some df.Named
definition_key kw.Int = None
definition_key kw.Bool = None
definition_key kw.From = None
definition_key kw.Take = None
definition_key kw.True = None
definition_key kw.False = None
definition_key kw.IsZero = None
definition_key kw.Proc = None
definition_key kw.Let = None
definition_key kw.In = None
definition_key kw.If = None
definition_key kw.Then = None
definition_key kw.Else = None
definition_key kw.Letrec = None
definition_key kw.Less = None

-- the form of the definition that begins so
abbrev pub definition_start : Next → Option DefinitionStart
definition_start (End at) = None
definition_start (Name x) = Some (df.Value x)
definition_start (Number at v) = None
definition_start (Key at k) = definition_key k
definition_start (Sign at m) = None

-- the form among the productions
abbrev pub open_f : List ℕ → DefinitionStart → Opening a_definition
open_f text df.Named = (p.f_type, tt)
open_f text (df.Value x) = (p.f_value, name_in text x)

-- the form that begins at a place, or its refusal: no form begins so, or no level is left
abbrev pub started : {S : Type 0} → Option S → ℕ → ℕ → Result S Fault
started None at l = Err (Unexpected at)
started (Some b) at l = cond (l == 0) (Err (TooDeep at)) (Ok b)

-- a form that was begun, or refusal 5 there
abbrev pub begun : {S B : Type 0} → Option S → ℕ → (S → Out B) → Out B
begun None at f = bad 5 at
begun (Some b) at f = f b
