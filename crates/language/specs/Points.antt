-- The environment of each part of a sheet's tree.
use Rattle.std.specs.Prelude.{◌≡◌, cond, List, [], ◌∷◌, nat_le}
use mathlib.Core.List.{Memᴰ}
use Rattle.std.proofs.Math.Option.{Option, none, some}
use Rattle.language.specs.Tree.{Part, node_at, children, Task, define, end_module, Plan, SheetStands}
use Rattle.language.specs.Syntax.{Sheet}
use Rattle.language.specs.Typing.{Environment}

-- a root of the tree (a definition's expression or the closing one) and its environment
pub data ProgramPoint : Type 0 where
  point : Part → Environment → ProgramPoint

-- the roots of the tasks and the closing one, with the environments es in order
abbrev pub points_of : List Task → Part → List Environment → List ProgramPoint
points_of [] close [] = []
points_of [] close (e ∷ es) = point close e ∷ []
points_of (define x j ∷ ts) close [] = []
points_of (define x j ∷ ts) close (e ∷ es) = point j e ∷ points_of ts close es
points_of (end_module m ∷ ts) close es = points_of ts close es

-- The environment of part j. Inner parts stand before outer ones, so the first root at or behind j is the one that j is a part of.
abbrev pub environment_at : List ProgramPoint → Part → Option Environment
environment_at [] j = none
environment_at (point q e ∷ ps) j = cond (nat_le j q) (some e) (environment_at ps j)

-- the same as a relation
abbrev pub EnvironmentAt : List ProgramPoint → Part → Environment → Type 0
EnvironmentAt ps j e = environment_at ps j ≡ some e

-- Each root has the environment that is listed with it, and each part that of the form that it is a part of: so every part of a sheet
-- has one environment, that of its root.
abbrev pub PartsSee : Type 0
PartsSee = (plan : Plan) (sheet : Sheet) → SheetStands plan sheet → (es : List Environment) →
    ((j : Part) (e : Environment) → Memᴰ (point j e) (points_of plan.tasks plan.close es) →
    EnvironmentAt (points_of plan.tasks plan.close es) j e) ×
    ((j k : Part) (e : Environment) → Memᴰ k (children (node_at plan.tree j)) →
    EnvironmentAt (points_of plan.tasks plan.close es) j e → EnvironmentAt (points_of plan.tasks plan.close es) k e)
