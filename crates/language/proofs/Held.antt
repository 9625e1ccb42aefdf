-- What fits, as the proofs keep it: `Fits`, and besides that what the procedures' bodies see is there already.
use Rattle.std.proofs.Common.{◌≡◌, ℕ, zero, suc, ◌≤◌, Bool, List, [], ◌∷◌, ◌++◌, ℤ, refl}
use mathlib.Core.List.{Memᴰ}
use mathlib.Core.Option.{some}
use lib.ListN.{get_elem?}
use Rattle.words.specs.Names.{Name}
use Rattle.language.specs.Names.{bind, lookup}
use Rattle.language.specs.Syntax.{WrittenType}
use Rattle.language.specs.Tree.{Part, Node, proc_node, letrec_node, node_at, TypeStands, children, Task, define, end_module}
use Rattle.language.specs.Typing.{
  ExpandedType,
  int,
  bool,
  ◌⇒◌,
  Context,
  Interface,
  Environment,
  expand,
  kind_type,
  stock_types,
  Interfaces,
}
use Rattle.language.proofs.Rows.{Typed, rows-typed}
use Rattle.language.specs.Points.{EnvironmentAt}
use Rattle.language.specs.Pantry.{Kind, EntryNumber}
use Rattle.language.specs.Scopes.{Scope}
use Rattle.language.specs.Machine.{Value, integer, boolean, closure, pantry_procedure, Cell, value_cell, letrec_cell, cell_at}
use Rattle.language.specs.Fits.{Setting, Fits, f_integer, f_boolean, f_proc, f_rec, f_stock, ScopeFits, s_empty, s_value, s_letrec}

-- Part j is seen with e, whose interfaces are among those of the ended modules n, and whose pantry is the pantry.
pub record Seen (w : Setting) (n : Interfaces) (j : Part) (e : Environment) : Type 0 where
  pub at : EnvironmentAt w.points j e
  pub earlier : (m : Name) (i : Interface) → lookup e.modules m ≡ some i → lookup n m ≡ some i
  pub stock-is : e.stock ≡ stock_types w.stock

-- each part belongs to the same expression as the parts that it has
abbrev pub OneExpression : Setting → Type 0
OneExpression w = (j k : Part) (e : Environment) → Memᴰ k (children (node_at w.tree j)) →
    EnvironmentAt w.points j e → EnvironmentAt w.points k e

-- so they are seen likewise
pub seen-part : {w : Setting} {n : Interfaces} {j k : Part} {e : Environment} {q : Node} → OneExpression w → Seen w n j e →
    node_at w.tree j ≡ q → Memᴰ k (children q) → Seen w n k e
seen-part {j = j} {k = k} {e = e} one s q h = record { at = one j k e (rw q h) s.at; earlier = s.earlier; stock-is = s.stock-is }

-- the first, second and third part of a form
pub one : {k : Part} {l : List Part} → Memᴰ k (k ∷ l)
one = Memᴰ.head refl

pub two : {j k : Part} {l : List Part} → Memᴰ k (j ∷ (k ∷ l))
two = Memᴰ.tail (Memᴰ.head refl)

pub three : {i j k : Part} {l : List Part} → Memᴰ k (i ∷ (j ∷ (k ∷ l)))
three = Memᴰ.tail (Memᴰ.tail (Memᴰ.head refl))

mutual
  pub data Held (w : Setting) (n : Interfaces) (cs : List Cell) : Value → ExpandedType → Type 0 where
    v-integer : {z : ℤ} → Held w n cs (integer z) int
    v-boolean : {b : Bool} → Held w n cs (boolean b) bool
    v-proc : {j i k : Part} {s : Scope} {x : Name} {e : Environment} {g : Context} {a b : ExpandedType} →
        node_at w.tree j ≡ proc_node x i k → Seen w n j e → ScopeHeld w n cs s g → Typed w.tree e (bind x a ∷ g) k b →
        Held w n cs (closure j s) (a ⇒ b)
    v-rec : {c : ℕ} {o : Scope} {j h i k l : Part} (u t : WrittenType) {f x : Name} {e : Environment} {a b : ExpandedType}
        {g : Context} → cell_at cs c ≡ letrec_cell f j o → o ≤ c → node_at w.tree j ≡ letrec_node h f x i k l → Seen w n j e →
        TypeStands w.tree i t → expand e t ≡ some a → TypeStands w.tree h u → expand e u ≡ some b →
        Typed w.tree e (bind x a ∷ (bind f (a ⇒ b) ∷ g)) k b → ScopeHeld w n cs o g → Held w n cs (closure j (suc c)) (a ⇒ b)
    v-stock : {i : EntryNumber} {x : Name} {k : Kind} {a b : ExpandedType} → get_elem? w.stock i ≡ some (bind x k) →
        kind_type k ≡ (a ⇒ b) → Held w n cs (pantry_procedure i) (a ⇒ b)

  pub data ScopeHeld (w : Setting) (n : Interfaces) (cs : List Cell) : Scope → Context → Type 0 where
    h-empty : ScopeHeld w n cs zero []
    h-value : {i : ℕ} {o : Scope} {x : Name} {v : Value} {a : ExpandedType} {g : Context} → cell_at cs i ≡ value_cell x v o → o ≤ i →
        Held w n cs v a → ScopeHeld w n cs o g → ScopeHeld w n cs (suc i) (bind x a ∷ g)
    h-letrec : {c : ℕ} {o : Scope} {j h i k l : Part} (u t : WrittenType) {f x : Name} {e : Environment} {a b : ExpandedType}
        {g : Context} → cell_at cs c ≡ letrec_cell f j o → o ≤ c → node_at w.tree j ≡ letrec_node h f x i k l → Seen w n j e →
        TypeStands w.tree i t → expand e t ≡ some a → TypeStands w.tree h u → expand e u ≡ some b →
        Typed w.tree e (bind x a ∷ (bind f (a ⇒ b) ∷ g)) k b → ScopeHeld w n cs o g → ScopeHeld w n cs (suc c) (bind f (a ⇒ b) ∷ g)

mutual
  pub held_fits : {w : Setting} {n : Interfaces} {cs : List Cell} {v : Value} {a : ExpandedType} → Held w n cs v a → Fits w cs v a
  held_fits v-integer = f_integer
  held_fits v-boolean = f_boolean
  held_fits (v-proc q s g t) = let (x, h, u) = rows-typed t in f_proc q s.at (scope-fits g) h u
  held_fits (v-rec u t c k q s ta ha tb hb b g) = let (x, h, d) = rows-typed b in f_rec u t c q s.at ta ha tb hb (scope-fits g) h d
  held_fits (v-stock q h) = f_stock q h

  scope-fits : {w : Setting} {n : Interfaces} {cs : List Cell} {s : Scope} {g : Context} → ScopeHeld w n cs s g → ScopeFits w cs s g
  scope-fits h-empty = s_empty
  scope-fits (h-value q k f g) = s_value q (held_fits f) (scope-fits g)
  scope-fits (h-letrec u t c k q s ta ha tb hb b g) = let (x, h, d) = rows-typed b in
      s_letrec c (f_rec u t c q s.at ta ha tb hb (scope-fits g) h d) (scope-fits g)

-- What a typed sheet promises a job, with every hidden type read as its module defines it.
-- Each name that the interface declares has that type in the body.
abbrev pub Covers : Context → Context → Type 0
Covers g declared = (x : Name) (a : ExpandedType) → lookup declared x ≡ some a → lookup g x ≡ some a

-- the closing expression: its part, the interfaces that it sees, and its type
pub record Goal : Type 0 where
  pub close : Part
  pub all : Interfaces
  pub result : ExpandedType

-- `TasksTyped w goal n g ts`: after modules with the interfaces n, in a body whose names so far are g, the tasks ts
-- and then the closing expression are typed as `goal` says
pub data TasksTyped (w : Setting) (goal : Goal) : Interfaces → Context → List Task → Type 0 where
  k-close : {g : Context} {e : Environment} → Seen w goal.all goal.close e → Typed w.tree e [] goal.close goal.result →
      TasksTyped w goal goal.all g []
  k-define : {n : Interfaces} {g : Context} {x : Name} {j : Part} {ts : List Task} {e : Environment} {a : ExpandedType} → Seen w n j e →
      Typed w.tree e g j a → TasksTyped w goal n (bind x a ∷ g) ts → TasksTyped w goal n g (define x j ∷ ts)
  k-finish : {n : Interfaces} {g : Context} {m : Name} {ts : List Task} (i : Interface) → Covers g i.values →
      TasksTyped w goal (n ++ (bind m i ∷ [])) [] ts → TasksTyped w goal n g (end_module m ∷ ts)
