-- How keywords and marks are spelled, and which of them some bytes spell. Assumes nothing.
use Rattle.std.specs.Prelude.{ℕ, cond, List, [], ◌∷◌, Some, None, codes, Option}
use Rattle.std.specs.Str.{bytes_eq}
use Rattle.words.specs.declared.keywords.Keyword.{Keyword}
use Rattle.words.specs.declared.keywords.Keyword.TheVariants.{Module, Interface, Body, Opaque, Transparent, «Type», Int, Bool, From}
use Rattle.words.specs.declared.keywords.Keyword.TheVariants.{Take, True, False, IsZero, Proc, Let, In, If, Then, Else, Letrec, Less}
use Rattle.words.specs.declared.marks.Mark.{Mark}
use Rattle.words.specs.declared.marks.Mark.TheVariants.{Open, Shut, Begin, End, Comma, Colon, Equal, Arrow, Plus, Minus, Times, Over}

-- the bytes of a keyword
abbrev pub spelled : Keyword → List ℕ
spelled Module = codes "module"
spelled Interface = codes "interface"
spelled Body = codes "body"
spelled Opaque = codes "opaque"
spelled Transparent = codes "transparent"
spelled «Type» = codes "type"
spelled Int = codes "int"
spelled Bool = codes "bool"
spelled From = codes "from"
spelled Take = codes "take"
spelled True = codes "true"
spelled False = codes "false"
spelled IsZero = codes "zero?"
spelled Proc = codes "proc"
spelled Let = codes "let"
spelled In = codes "in"
spelled If = codes "if"
spelled Then = codes "then"
spelled Else = codes "else"
spelled Letrec = codes "letrec"
spelled Less = codes "less?"

-- all keywords
abbrev pub keywords : List Keyword
keywords =
    Module ∷ Interface ∷ Body ∷ Opaque ∷ Transparent ∷ «Type» ∷ Int ∷ Bool ∷ From ∷ Take ∷ True ∷ False ∷
    IsZero ∷ Proc ∷ Let ∷ In ∷ If ∷ Then ∷ Else ∷ Letrec ∷ Less ∷ []

-- the first of the list whose spelling the bytes are
abbrev pub first_spelled : {A : Type 0} → (A → List ℕ) → List A → List ℕ → Option A
first_spelled f [] w = None
first_spelled f (k ∷ ks) w = cond (bytes_eq w (f k)) (Some k) (first_spelled f ks w)

-- which keyword some bytes are
abbrev pub keyword_of : List ℕ → Option Keyword
keyword_of w = first_spelled spelled keywords w

-- the bytes of a mark
abbrev pub drawn : Mark → List ℕ
drawn Open = codes "("
drawn Shut = codes ")"
drawn Begin = codes "["
drawn End = codes "]"
drawn Comma = codes ","
drawn Colon = codes ":"
drawn Equal = codes "="
drawn Arrow = codes "->"
drawn Plus = codes "+"
drawn Minus = codes "-"
drawn Times = codes "*"
drawn Over = codes "/"

-- the marks of one byte that begin no other word
abbrev pub marks : List Mark
marks = Open ∷ Shut ∷ Begin ∷ End ∷ Comma ∷ Colon ∷ Equal ∷ Plus ∷ Times ∷ Over ∷ []

-- which mark a byte is
abbrev pub mark_of : ℕ → Option Mark
mark_of b = first_spelled drawn marks (b ∷ [])
