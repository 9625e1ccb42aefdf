-- When a value fits a type, in cells as they stand.
use Rattle.std.specs.Prelude.{◌≡◌, ℕ, zero, suc, Bool, List, [], ◌∷◌, ℤ}
use Rattle.std.proofs.Math.Option.{some}
use Rattle.std.proofs.Math.ListN.{get_elem?}
use Rattle.words.specs.Names.{Name}
use Rattle.language.specs.Names.{bind}
use Rattle.language.specs.Syntax.{WrittenType, Exp}
use Rattle.language.specs.Tree.{Part, Node, node_at, proc_node, letrec_node, TypeStands, Stands}
use Rattle.language.specs.Typing.{ExpandedType, int, bool, ◌⇒◌, Context, Environment, HasType, expand, kind_type}
use Rattle.language.specs.Points.{ProgramPoint, EnvironmentAt}
use Rattle.language.specs.Pantry.{Kind, EntryNumber, Stock}
use Rattle.language.specs.Scopes.{Scope}
use Rattle.language.specs.Machine.{Value, integer, boolean, closure, pantry_procedure, Cell, value_cell, letrec_cell, cell_at}

-- what a value is judged by: the tree, the pantry's names and kinds, and the environment of each root
pub record Setting : Type 0 where
  pub tree : List Node
  pub stock : Stock
  pub points : List ProgramPoint

mutual
  -- `Fits w cs v a`: in the cells cs the value v fits the type a.
  pub data Fits (w : Setting) (cs : List Cell) : Value → ExpandedType → Type 0 where
    -- Plain values:
    f_integer : {z : ℤ} → Fits w cs (integer z) int
    f_boolean : {b : Bool} → Fits w cs (boolean b) bool
    -- A `proc` with the scope that it kept: some types g fit the bindings of that scope, and with them, and with the parameter of type a,
    -- the body has the type b where it stands in the sheet.
    f_proc : {j i k : Part} {s : Scope} {p : Exp} {x : Name} {e : Environment} {g : Context} {a b : ExpandedType} →
        node_at w.tree j ≡ proc_node x i k → EnvironmentAt w.points j e → ScopeFits w cs s g →
        Stands w.tree k p → HasType e (bind x a ∷ g) p b → Fits w cs (closure j s) (a ⇒ b)
    -- A `letrec` procedure, whose scope begins at its own cell: the same, but its own name has the type that the `letrec` states.
    f_rec : {c : ℕ} {o : Scope} {j h i k l : Part} {p : Exp} (u t : WrittenType) {f x : Name} {e : Environment} {g : Context}
        {a b a' b' : ExpandedType} → cell_at cs c ≡ letrec_cell f j o → node_at w.tree j ≡ letrec_node h f x i k l →
        EnvironmentAt w.points j e → TypeStands w.tree i t → expand e t ≡ some a' → TypeStands w.tree h u →
        expand e u ≡ some b' → ScopeFits w cs o g → Stands w.tree k p → HasType e (bind x a ∷ (bind f (a' ⇒ b') ∷ g)) p b →
        Fits w cs (closure j (suc c)) (a ⇒ b)
    -- A procedure of the pantry has the type of its kind.
    f_stock : {i : EntryNumber} {x : Name} {k : Kind} {a b : ExpandedType} → get_elem? w.stock i ≡ some (bind x k) →
        kind_type k ≡ (a ⇒ b) → Fits w cs (pantry_procedure i) (a ⇒ b)

  -- the bindings of the scope, the nearest first, fit these types
  pub data ScopeFits (w : Setting) (cs : List Cell) : Scope → Context → Type 0 where
    s_empty : ScopeFits w cs zero []
    s_value : {i : ℕ} {o : Scope} {x : Name} {v : Value} {a : ExpandedType} {g : Context} → cell_at cs i ≡ value_cell x v o →
        Fits w cs v a → ScopeFits w cs o g → ScopeFits w cs (suc i) (bind x a ∷ g)
    s_letrec : {c : ℕ} {o : Scope} {j : Part} {f : Name} {a : ExpandedType} {g : Context} → cell_at cs c ≡ letrec_cell f j o →
        Fits w cs (closure j (suc c)) a → ScopeFits w cs o g → ScopeFits w cs (suc c) (bind f a ∷ g)
