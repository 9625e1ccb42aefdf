-- The tree as a table of nodes, children by place, inner parts first; and what a table stands for. A name is a span of the text.
-- Assumes nothing.
use Rattle.std.specs.Prelude.{◌≡◌, ℕ, zero, suc, ◌+◌, List, [], ◌∷◌, ◌++◌, length, Some, None, Option, slice_set}
use Rattle.std.specs.List.{slice_get}
use Rattle.language.specs.declared.spans.Span.{Span}
use Rattle.language.specs.Bindings.{spelled_in}
use Rattle.grammar.specs.declared.tree.TypeNode.{TypeNode}
use Rattle.grammar.specs.declared.tree.TypeNode.TheVariants as ty
use Rattle.grammar.specs.declared.tree.ExpNode.{ExpNode}
use Rattle.grammar.specs.declared.tree.ExpNode.TheVariants as ex
use Rattle.grammar.specs.declared.tree.Item.{Item}
use Rattle.grammar.specs.declared.tree.Item.TheVariants as item
use Rattle.grammar.specs.declared.tree.Node.{Node}
use Rattle.grammar.specs.declared.tree.Node.TheVariants as node
use Rattle.grammar.specs.Syntax.{Name, WrittenType, Exp, Declaration, Definition, Module, Sheet, inner_t, inner_e, inner_d, inner_f, inner_m}
use Rattle.grammar.specs.Syntax.{places}
use Rattle.grammar.specs.Syntax as is

-- the part of the text that spells a name
abbrev pub span_of : Name → Span
span_of x = record { place = x.place; len = length x.bytes }

-- the name that stands there in the text
abbrev pub name_in : List ℕ → Span → Name
name_in text s = record { place = s.place; bytes = spelled_in text s }

-- The nodes of a type, laid from the place u on; its own is the last, at u + inner_t t.
abbrev pub nodes_t : ℕ → WrittenType → List Node
nodes_t u (is.int_type at) = node.«Type» (ty.Int at) ∷ []
nodes_t u (is.bool_type at) = node.«Type» (ty.Bool at) ∷ []
nodes_t u (is.named_type t) = node.«Type» (ty.Named (span_of t)) ∷ []
nodes_t u (is.qualified_type at m t) = node.«Type» (ty.From at (span_of m) (span_of t)) ∷ []
nodes_t u (is.arrow_type at a b) =
    let v = u + (inner_t a + 1) in
    nodes_t u a ++ (nodes_t v b ++ (node.«Type» (ty.Arrow at (u + inner_t a) (v + inner_t b)) ∷ []))

-- the nodes of an expression
abbrev pub nodes_e : ℕ → Exp → List Node
nodes_e u (is.number at v) = node.Expression (ex.Number at v) ∷ []
nodes_e u (is.boolean at b) = node.Expression (ex.Boolean at b) ∷ []
nodes_e u (is.variable x) = node.Expression (ex.Variable (span_of x)) ∷ []
nodes_e u (is.qualified at m x) = node.Expression (ex.From at (span_of m) (span_of x)) ∷ []
nodes_e u (is.is_zero at a) = nodes_e u a ++ (node.Expression (ex.IsZero at (u + inner_e a)) ∷ [])
nodes_e u (is.apply at a b) =
    let v = u + (inner_e a + 1) in
    nodes_e u a ++ (nodes_e v b ++ (node.Expression (ex.Apply at (u + inner_e a) (v + inner_e b)) ∷ []))
nodes_e u (is.proc at x t e) =
    let v = u + (inner_t t + 1) in
    nodes_t u t ++ (nodes_e v e ++ (node.Expression (ex.Proc at (span_of x) (u + inner_t t) (v + inner_e e)) ∷ []))
nodes_e u (is.let_in at x a e) =
    let v = u + (inner_e a + 1) in
    nodes_e u a ++ (nodes_e v e ++ (node.Expression (ex.Let at (span_of x) (u + inner_e a) (v + inner_e e)) ∷ []))
nodes_e u (is.conditional at a b c) =
    let v = u + (inner_e a + 1) in
    let w = v + (inner_e b + 1) in
    nodes_e u a ++ (nodes_e v b ++ (nodes_e w c ++ (node.Expression (ex.If at (u + inner_e a) (v + inner_e b) (w + inner_e c)) ∷ [])))
nodes_e u (is.letrec at r f x t b e) =
    let v = u + (inner_t r + 1) in
    let w = v + (inner_t t + 1) in
    let z = w + (inner_e b + 1) in
    nodes_t u r ++ (nodes_t v t ++ (nodes_e w b ++ (nodes_e z e ++ (node.Expression (ex.Letrec at (u + inner_t r) (span_of f) (span_of x)
    (v + inner_t t) (w + inner_e b) (z + inner_e e)) ∷ []))))
nodes_e u (is.binary at o a b) =
    let v = u + (inner_e a + 1) in
    nodes_e u a ++ (nodes_e v b ++ (node.Expression (ex.Binary at o (u + inner_e a) (v + inner_e b)) ∷ []))

-- of a declaration
abbrev pub nodes_d : ℕ → Declaration → List Node
nodes_d u (is.opaque_type at t) = node.Item (item.Opaque at (span_of t)) ∷ []
nodes_d u (is.transparent_type at t a) = nodes_t u a ++ (node.Item (item.Transparent at (span_of t) (u + inner_t a)) ∷ [])
nodes_d u (is.value_of_type x a) = nodes_t u a ++ (node.Item (item.Declared (span_of x) (u + inner_t a)) ∷ [])

-- of a definition
abbrev pub nodes_f : ℕ → Definition → List Node
nodes_f u (is.type_is at t a) = nodes_t u a ++ (node.Item (item.TypeIs at (span_of t) (u + inner_t a)) ∷ [])
nodes_f u (is.value_is x e) = nodes_e u e ++ (node.Item (item.ValueIs (span_of x) (u + inner_e e)) ∷ [])

-- several parts, one behind the other
abbrev pub nodes_of : {A : Type 0} → (A → ℕ) → (ℕ → A → List Node) → ℕ → List A → List Node
nodes_of inner nodes u [] = []
nodes_of inner nodes u (a ∷ r) = nodes u a ++ nodes_of inner nodes (u + (inner a + 1)) r

-- a module's node stands behind its declarations and definitions, which are those since the module before
abbrev pub nodes_m : ℕ → Module → List Node
nodes_m u m = nodes_of inner_d nodes_d u m.interface ++ (nodes_of inner_f nodes_f (u + places inner_d m.interface) m.body ++
    (node.Item (item.Module m.at (span_of m.name)) ∷ []))

-- The nodes of a sheet, from place 0 on
abbrev pub nodes_s : Sheet → List Node
nodes_s s = nodes_of inner_m nodes_m 0 s.modules ++ nodes_e (places inner_m s.modules) s.closing

-- a table in which nodes are laid from the place u on, one after the other
abbrev pub laid : {A : Type 0} → ℕ → List A → List A → List A
laid u [] ns = ns
laid u (r ∷ rs) ns = laid (u + 1) rs (slice_set ns u r)

-- The table after a part was laid in it from the place u on, its parts one after the other and then its own node: what a reader does.
-- It is `laid u (nodes u part) ns` (the law is proved), and computes part by part.
abbrev pub lay_t : ℕ → WrittenType → List Node → List Node
lay_t u (is.int_type at) ns = slice_set ns u (node.«Type» (ty.Int at))
lay_t u (is.bool_type at) ns = slice_set ns u (node.«Type» (ty.Bool at))
lay_t u (is.named_type t) ns = slice_set ns u (node.«Type» (ty.Named (span_of t)))
lay_t u (is.qualified_type at m t) ns = slice_set ns u (node.«Type» (ty.From at (span_of m) (span_of t)))
lay_t u (is.arrow_type at a b) ns =
    let v = u + (inner_t a + 1) in
    slice_set (lay_t v b (lay_t u a ns)) (v + (inner_t b + 1)) (node.«Type» (ty.Arrow at (u + inner_t a) (v + inner_t b)))

-- the same for an expression
abbrev pub lay_e : ℕ → Exp → List Node → List Node
lay_e u (is.number at v) ns = slice_set ns u (node.Expression (ex.Number at v))
lay_e u (is.boolean at b) ns = slice_set ns u (node.Expression (ex.Boolean at b))
lay_e u (is.variable x) ns = slice_set ns u (node.Expression (ex.Variable (span_of x)))
lay_e u (is.qualified at m x) ns = slice_set ns u (node.Expression (ex.From at (span_of m) (span_of x)))
lay_e u (is.is_zero at a) ns = slice_set (lay_e u a ns) (u + (inner_e a + 1)) (node.Expression (ex.IsZero at (u + inner_e a)))
lay_e u (is.apply at a b) ns =
    let v = u + (inner_e a + 1) in
    slice_set (lay_e v b (lay_e u a ns)) (v + (inner_e b + 1)) (node.Expression (ex.Apply at (u + inner_e a) (v + inner_e b)))
lay_e u (is.proc at x t e) ns =
    let v = u + (inner_t t + 1) in
    slice_set (lay_e v e (lay_t u t ns)) (v + (inner_e e + 1)) (node.Expression (ex.Proc at (span_of x) (u + inner_t t) (v + inner_e e)))
lay_e u (is.let_in at x a e) ns =
    let v = u + (inner_e a + 1) in
    slice_set (lay_e v e (lay_e u a ns)) (v + (inner_e e + 1)) (node.Expression (ex.Let at (span_of x) (u + inner_e a) (v + inner_e e)))
lay_e u (is.conditional at a b c) ns =
    let v = u + (inner_e a + 1) in
    let w = v + (inner_e b + 1) in
    slice_set (lay_e w c (lay_e v b (lay_e u a ns))) (w + (inner_e c + 1)) (node.Expression (ex.If at (u + inner_e a) (v + inner_e b) (w + inner_e c)))
lay_e u (is.letrec at r f x t b e) ns =
    let v = u + (inner_t r + 1) in
    let w = v + (inner_t t + 1) in
    let z = w + (inner_e b + 1) in
    slice_set (lay_e z e (lay_e w b (lay_t v t (lay_t u r ns)))) (z + (inner_e e + 1)) (node.Expression (ex.Letrec at (u + inner_t r) (span_of f)
    (span_of x) (v + inner_t t) (w + inner_e b) (z + inner_e e)))
lay_e u (is.binary at o a b) ns =
    let v = u + (inner_e a + 1) in
    slice_set (lay_e v b (lay_e u a ns)) (v + (inner_e b + 1)) (node.Expression (ex.Binary at o (u + inner_e a) (v + inner_e b)))

-- for a declaration
abbrev pub lay_d : ℕ → Declaration → List Node → List Node
lay_d u (is.opaque_type at t) ns = slice_set ns u (node.Item (item.Opaque at (span_of t)))
lay_d u (is.transparent_type at t a) ns = slice_set (lay_t u a ns) (u + (inner_t a + 1)) (node.Item (item.Transparent at (span_of t) (u + inner_t a)))
lay_d u (is.value_of_type x a) ns = slice_set (lay_t u a ns) (u + (inner_t a + 1)) (node.Item (item.Declared (span_of x) (u + inner_t a)))

-- for a definition
abbrev pub lay_f : ℕ → Definition → List Node → List Node
lay_f u (is.type_is at t a) ns = slice_set (lay_t u a ns) (u + (inner_t a + 1)) (node.Item (item.TypeIs at (span_of t) (u + inner_t a)))
lay_f u (is.value_is x e) ns = slice_set (lay_e u e ns) (u + (inner_e e + 1)) (node.Item (item.ValueIs (span_of x) (u + inner_e e)))

-- for several parts, one behind the other
abbrev pub lay_of : {A : Type 0} → (A → ℕ) → (ℕ → A → List Node → List Node) → ℕ → List A → List Node → List Node
lay_of inner lay u [] ns = ns
lay_of inner lay u (a ∷ r) ns = lay_of inner lay (u + (inner a + 1)) r (lay u a ns)

-- for a module
abbrev pub lay_m : ℕ → Module → List Node → List Node
lay_m u m ns =
    let v = u + places inner_d m.interface in
    slice_set (lay_of inner_f lay_f v m.body (lay_of inner_d lay_d u m.interface ns)) (v + places inner_f m.body)
    (node.Item (item.Module m.at (span_of m.name)))

-- for a sheet, from place 0 on
abbrev pub lay_s : Sheet → List Node → List Node
lay_s s ns = lay_e (places inner_m s.modules) s.closing (lay_of inner_m lay_m 0 s.modules ns)

-- WHAT A TABLE STANDS FOR, with the text
abbrev pub of : {A B : Type 0} → Option A → (A → Option B) → Option B
of None f = None
of (Some a) f = f a

-- the type of a type's node, by those of its parts
abbrev pub type_of : List ℕ → (ℕ → Option WrittenType) → TypeNode → Option WrittenType
type_of text part (ty.Int at) = Some (is.int_type at)
type_of text part (ty.Bool at) = Some (is.bool_type at)
type_of text part (ty.Named t) = Some (is.named_type (name_in text t))
type_of text part (ty.From at m t) = Some (is.qualified_type at (name_in text m) (name_in text t))
type_of text part (ty.Arrow at a b) = of (part a) (λ a. of (part b) (λ b. Some (is.arrow_type at a b)))

-- the type of a node, if it is one
abbrev pub type_in : List ℕ → (ℕ → Option WrittenType) → Node → Option WrittenType
type_in text part node.Blank = None
type_in text part (node.«Type» n) = type_of text part n
type_in text part (node.Expression n) = None
type_in text part (node.Item n) = None

-- the type, at most `levels` deep, at the place i
unfoldable pub type_at : ℕ → List ℕ → List Node → ℕ → Option WrittenType
type_at zero text ns i = None
type_at (suc levels) text ns i = of (slice_get ns i) (type_in text (type_at levels text ns))

-- the expression of an expression's node, by those of its parts
abbrev pub exp_of : List ℕ → (ℕ → Option WrittenType) → (ℕ → Option Exp) → ExpNode → Option Exp
exp_of text type part (ex.Number at v) = Some (is.number at v)
exp_of text type part (ex.Boolean at b) = Some (is.boolean at b)
exp_of text type part (ex.Variable x) = Some (is.variable (name_in text x))
exp_of text type part (ex.From at m x) = Some (is.qualified at (name_in text m) (name_in text x))
exp_of text type part (ex.IsZero at a) = of (part a) (λ a. Some (is.is_zero at a))
exp_of text type part (ex.Apply at a b) = of (part a) (λ a. of (part b) (λ b. Some (is.apply at a b)))
exp_of text type part (ex.Proc at x t e) = of (type t) (λ t. of (part e) (λ e. Some (is.proc at (name_in text x) t e)))
exp_of text type part (ex.Let at x a e) = of (part a) (λ a. of (part e) (λ e. Some (is.let_in at (name_in text x) a e)))
exp_of text type part (ex.If at a b c) = of (part a) (λ a. of (part b) (λ b. of (part c) (λ c. Some (is.conditional at a b c))))
exp_of text type part (ex.Letrec at r f x t b e) =
    of (type r) (λ r. of (type t) (λ t. of (part b) (λ b. of (part e) (λ e.
    Some (is.letrec at r (name_in text f) (name_in text x) t b e)))))
exp_of text type part (ex.Binary at o a b) = of (part a) (λ a. of (part b) (λ b. Some (is.binary at o a b)))

-- the expression of a node, if it is one
abbrev pub exp_in : List ℕ → (ℕ → Option WrittenType) → (ℕ → Option Exp) → Node → Option Exp
exp_in text type part node.Blank = None
exp_in text type part (node.«Type» n) = None
exp_in text type part (node.Expression n) = exp_of text type part n
exp_in text type part (node.Item n) = None

-- the expression, at most `levels` deep, at the place i
unfoldable pub exp_at : ℕ → List ℕ → List Node → ℕ → Option Exp
exp_at zero text ns i = None
exp_at (suc levels) text ns i = of (slice_get ns i) (exp_in text (type_at levels text ns) (exp_at levels text ns))

-- what a node adds to the modules: nothing, a declaration, a definition, or the end of a module
pub data Addition : Type 0 where
  nothing : Addition
  declares : Declaration → Addition
  defines : Definition → Addition
  ends : ℕ → Name → Addition

-- what a part adds, if it stands there
abbrev pub addition_by : {A : Type 0} → Option A → (A → Addition) → Addition
addition_by None f = nothing
addition_by (Some a) f = f a

-- what an item adds
abbrev pub addition_of : List ℕ → List Node → Item → Addition
addition_of text ns (item.Opaque at t) = declares (is.opaque_type at (name_in text t))
addition_of text ns (item.Transparent at t a) = addition_by (type_at 48 text ns a) (λ a. declares (is.transparent_type at (name_in text t) a))
addition_of text ns (item.Declared x a) = addition_by (type_at 48 text ns a) (λ a. declares (is.value_of_type (name_in text x) a))
addition_of text ns (item.TypeIs at t a) = addition_by (type_at 48 text ns a) (λ a. defines (is.type_is at (name_in text t) a))
addition_of text ns (item.ValueIs x e) = addition_by (exp_at 48 text ns e) (λ e. defines (is.value_is (name_in text x) e))
addition_of text ns (item.Module at m) = ends at (name_in text m)

-- what a node adds
abbrev pub addition : List ℕ → List Node → Node → Addition
addition text ns node.Blank = nothing
addition text ns (node.«Type» n) = nothing
addition text ns (node.Expression n) = nothing
addition text ns (node.Item n) = addition_of text ns n

-- the first of the modules that end behind has one more declaration or definition, in front of its others
abbrev pub declare : Declaration → List Module → List Module
declare d [] = []
declare d (m ∷ ms) = record { at = m.at; name = m.name; interface = d ∷ m.interface; body = m.body } ∷ ms

-- or one more definition
abbrev pub define : Definition → List Module → List Module
define d [] = []
define d (m ∷ ms) = record { at = m.at; name = m.name; interface = m.interface; body = d ∷ m.body } ∷ ms

-- the modules with what was added
abbrev pub gather : Addition → List Module → List Module
gather nothing ms = ms
gather (declares d) ms = declare d ms
gather (defines d) ms = define d ms
gather (ends at m) ms = record { at = at; name = m; interface = []; body = [] } ∷ ms

-- the modules of some nodes of the table ns, going forward through them
abbrev pub modules_of : List ℕ → List Node → List Node → List Module
modules_of text ns [] = []
modules_of text ns (r ∷ rs) = gather (addition text ns r) (modules_of text ns rs)

-- THE SHEET that a table stands for, whose closing expression has the place `root`
unfoldable pub sheet_at : List ℕ → List Node → ℕ → Option Sheet
sheet_at text ns root = of (exp_at 48 text ns root) (λ e. Some (record { modules = modules_of text ns ns; closing = e }))

-- WHERE NAMES STAND: a name's bytes are the part of the text at its place
abbrev pub Spelled : List ℕ → Name → Type 0
Spelled text x = spelled_in text (span_of x) ≡ x.bytes

-- so for the names of a type
abbrev pub SpelledT : List ℕ → WrittenType → Type 0
SpelledT text (is.int_type at) = Unit {0}
SpelledT text (is.bool_type at) = Unit {0}
SpelledT text (is.named_type t) = Spelled text t
SpelledT text (is.qualified_type at m t) = Spelled text m × Spelled text t
SpelledT text (is.arrow_type at a b) = SpelledT text a × SpelledT text b

-- of an expression
abbrev pub SpelledE : List ℕ → Exp → Type 0
SpelledE text (is.number at v) = Unit {0}
SpelledE text (is.boolean at b) = Unit {0}
SpelledE text (is.variable x) = Spelled text x
SpelledE text (is.qualified at m x) = Spelled text m × Spelled text x
SpelledE text (is.is_zero at a) = SpelledE text a
SpelledE text (is.apply at a b) = SpelledE text a × SpelledE text b
SpelledE text (is.proc at x t e) = Spelled text x × SpelledT text t × SpelledE text e
SpelledE text (is.let_in at x a e) = Spelled text x × SpelledE text a × SpelledE text e
SpelledE text (is.conditional at a b c) = SpelledE text a × SpelledE text b × SpelledE text c
SpelledE text (is.letrec at r f x t b e) = Spelled text f × Spelled text x × SpelledT text r × SpelledT text t × SpelledE text b
    × SpelledE text e
SpelledE text (is.binary at o a b) = SpelledE text a × SpelledE text b

-- of a declaration
abbrev pub SpelledD : List ℕ → Declaration → Type 0
SpelledD text (is.opaque_type at t) = Spelled text t
SpelledD text (is.transparent_type at t a) = Spelled text t × SpelledT text a
SpelledD text (is.value_of_type x a) = Spelled text x × SpelledT text a

-- of a definition
abbrev pub SpelledF : List ℕ → Definition → Type 0
SpelledF text (is.type_is at t a) = Spelled text t × SpelledT text a
SpelledF text (is.value_is x e) = Spelled text x × SpelledE text e

-- so for each of them
abbrev pub Every : {A : Type 0} → (A → Type 0) → List A → Type 0
Every P [] = Unit {0}
Every P (a ∷ r) = P a × Every P r

-- of a module
abbrev pub SpelledM : List ℕ → Module → Type 0
SpelledM text m = Spelled text m.name × Every (SpelledD text) m.interface × Every (SpelledF text) m.body

-- of a sheet
abbrev pub SpelledS : List ℕ → Sheet → Type 0
SpelledS text s = Every (SpelledM text) s.modules × SpelledE text s.closing
