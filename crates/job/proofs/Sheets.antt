-- A sheet that was read: its nodes are a plan of it, within the limits.
use Rattle.std.proofs.Common.{◌≡◌, ℕ, suc, ◌≤◌, List, [], ◌∷◌, map, length, sym, refl, ap, ◌∙◌, subst, arith}
use Rattle.language.specs.Syntax as language
use Rattle.language.specs.Tree as tree
use Rattle.language.specs.Tree.{SheetStands, BodyStands, b_none, b_skip, b_task, ModulesStand, m_none, m_more}
use Rattle.grammar.specs.declared.tree.Item.TheVariants as item
use Rattle.grammar.specs.declared.tree.Node.{Node}
use Rattle.grammar.specs.declared.tree.Node.TheVariants as node
use Rattle.grammar.specs.Syntax.{Sheet, Module, count}
use Rattle.grammar.specs.Plain.{plain_m, plain}
use Rattle.grammar.specs.Plan.{tasks_of, plan_of}
use Rattle.grammar.specs.Reading.{good, reading}
use Rattle.grammar.specs.Read.{IsRead}
use Rattle.grammar.proofs.Laid.{length-nodes_s}
use Rattle.grammar.proofs.Exactly.{exactly}
use Rattle.grammar.proofs.Plans.{read-holds}
use Rattle.checker.specs.Passes.{sheet_read, sheet_in}
use Rattle.job.specs.Endings.{ending, ends_from}

-- how many bodies end: one for each module
body-ending : {t : List tree.Node} {rest ts : List tree.Task} {ds : List language.Definition} → BodyStands t rest ds ts → ending ts ≡
    ending rest
unfolding ending
body-ending b_none = refl
body-ending (b_skip b) = body-ending b
body-ending (b_task s b) = body-ending b

modules-ending : {t : List tree.Node} {ms : List language.Module} {ts : List tree.Task} → ModulesStand t ms ts → ending ts ≡ length ms
unfolding ending
modules-ending m_none = refl
modules-ending (m_more m b) = body-ending b ∙ ap suc (modules-ending m)

-- whatever the text
ending-same : (text : List ℕ) (ns : List Node) → ending (tasks_of [] ns) ≡ ending (tasks_of text ns)
unfolding ending tasks_of
ending-same text [] = refl
ending-same text (node.Blank ∷ ns) = ending-same text ns
ending-same text (node.«Type» t ∷ ns) = ending-same text ns
ending-same text (node.Expression e ∷ ns) = ending-same text ns
ending-same text (node.Item (item.Opaque at t) ∷ ns) = ending-same text ns
ending-same text (node.Item (item.Transparent at t a) ∷ ns) = ending-same text ns
ending-same text (node.Item (item.Declared x a) ∷ ns) = ending-same text ns
ending-same text (node.Item (item.TypeIs at t a) ∷ ns) = ending-same text ns
ending-same text (node.Item (item.ValueIs x e) ∷ ns) = ending-same text ns
ending-same text (node.Item (item.Module at m) ∷ ns) = ap suc (ending-same text ns)

length-count : (ms : List Module) → length (map plain_m ms) ≡ count ms
length-count [] = refl
length-count (m ∷ ms) = let e = length-count ms in omega arith

-- the nodes are a plan of the sheet, in the limits of the tables and of the modules
pub record Planned (text : List ℕ) (nodes : List Node) (close : ℕ) : Type 0 where
  pub stands : SheetStands (plan_of text nodes close) (plain (sheet_in text))
  pub short : length nodes ≤ 65535
  pub few : ends_from nodes 0 ≤ 32

-- a sheet that was read
pub planned : (text : List ℕ) (nodes : List Node) (close : ℕ) → IsRead text nodes close → Planned text nodes close
planned text nodes close h =
    let d = read-holds text nodes close h in
    let q : reading 65535 text ≡ good d.sheet (length text) = (exactly 65535 text d.sheet (length text)).1 d.lawful in
    let len = ap length d.nodes ∙ length-nodes_s d.sheet in
    let bodies : ending (tasks_of text nodes) ≡ count d.sheet.modules = modules-ending d.plan.modules_stand ∙ length-count
    d.sheet.modules in
    let P : Sheet → Type 0 = λ s. SheetStands (plan_of text nodes close) (plain s) in
    record {
      stands = subst P (sym (ap sheet_read q)) d.plan;
      short = omega (arith, len, d.lawful.fits);
      few = omega (arith, ending-same text nodes, bodies, d.lawful.modules);
    }
