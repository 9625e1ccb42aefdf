-- What is left of the tree, place by place.
use Rattle.std.specs.Option.{MatchOption, option_copied}
use Rattle.std.specs.List.{HoldsAt}
use denote.Bor.{Bor}
use Rattle.std.proofs.Common.{◌≡◌, ℕ, suc, ◌+◌, ◌<◌, ◌≤◌, List, [], length, get_or, drop, ap, ◌∙◌, sym, add-one, drop-cons, arith, Some, None, Option as Maybe}
use Rattle.std.proofs.lemmas.List.{drop_all}
use Rattle.language.specs.Names.{Binding}
use Rattle.language.specs.Scopes.{Scope}
use Rattle.language.specs.Tree as tree
use Rattle.language.specs.Machine as machine
use Rattle.grammar.specs.Plan.{tasks_of, with_task}
use Rattle.grammar.specs.declared.tree.Item.TheVariants as item
use Rattle.grammar.specs.declared.tree.Node.{Node}
use Rattle.grammar.specs.declared.tree.Node.TheVariants as node
use Rattle.language.specs.declared.spans.Span.{Span}
use Rattle.job.specs.declared.begin.Task.{Task}
use Rattle.job.specs.declared.begin.Task.TheVariants.{EndModule}
use Rattle.job.specs.Endings.{ending, ends_from}
use Rattle.job.specs.Begins.{before}

-- the tasks from a place on
pub task-at : (text : List ℕ) (nodes : List Node) (i : ℕ) (d : Node) (t : Maybe Task) → i < length nodes →
    ((ts : List tree.Task) → with_task text (get_or nodes i d) ts ≡ before text t ts) →
    tasks_of text (drop i nodes) ≡ before text t (tasks_of text (drop (i + 1) nodes))
unfolding tasks_of
task-at text nodes i d t l h =
    ap (tasks_of text) (drop-cons nodes i d l) ∙
    (h (tasks_of text (drop (suc i) nodes)) ∙
    ap (λ (k : ℕ). before text t (tasks_of text (drop k nodes))) (sym (add-one i)))

pub no-tasks : (text : List ℕ) (nodes : List Node) (i : ℕ) → length nodes ≤ i → tasks_of text (drop i nodes) ≡ []
unfolding tasks_of
no-tasks text nodes i l = ap (tasks_of text) (drop_all i nodes l)

-- a module's task leaves one body less
pub ends-module : (ts us : List tree.Task) (m : Span) → ts ≡ before [] (Some (EndModule m)) us → ending ts ≡ suc (ending us)
unfolding ending
ends-module ts us m e = ap ending e

abbrev closed : ℕ → ℕ → List (Binding Scope) → List tree.Task → machine.Registers
closed close cells hs ts = record {
  control = machine.evaluate close 0;
  target = machine.closing;
  pending = ts;
  module_scopes = hs;
  cell_count = cells;
  frame_count = 0;
}

-- nothing is left but the closing expression
pub at-close : (close cells : ℕ) (hs hs' : List (Binding Scope)) (s : ℕ) (ts us : List tree.Task) → hs ≡ hs' → ts ≡ [] → us ≡ [] →
    closed close cells hs ts ≡ machine.begin close cells hs' s us
at-close close cells hs hs' s ts us q e f =
    ap (λ (h : List (Binding Scope)). closed close cells h ts) q ∙
    (ap (closed close cells hs') e ∙ ap (machine.begin close cells hs' s) (sym f))

-- a place of the tree that was read
pub read-there : (nodes : List Node) (i k : ℕ) (n : Node) (o : Maybe (Bor Node)) → k ≡ i → Some n ≡ option_copied o →
    MatchOption o (length nodes ≤ k) (λ x. (k < length nodes) × HoldsAt (λ y. x.now ≡ y) nodes k) →
    (i < length nodes) × ((d : Node) → get_or nodes i d ≡ n)
read-there nodes i k n None e f h = absurd (cc)
read-there nodes i k n (Some x) e f h =
    let l : i < length nodes = let b = h.0 in omega arith in
    let v : n ≡ x.now = cc in
    (l, λ d. ap (λ (j : ℕ). get_or nodes j d) (sym e) ∙ (sym (h.1 d) ∙ sym v))

-- a node's task leaves no more bodies
with-more : (n : Node) (ts : List tree.Task) → ending ts ≤ ending (with_task [] n ts)
unfolding ending
with-more node.Blank ts = omega arith
with-more (node.«Type» t) ts = omega arith
with-more (node.Expression e) ts = omega arith
with-more (node.Item (item.Opaque at t)) ts = omega arith
with-more (node.Item (item.Transparent at t a)) ts = omega arith
with-more (node.Item (item.Declared x a)) ts = omega arith
with-more (node.Item (item.TypeIs at t a)) ts = omega arith
with-more (node.Item (item.ValueIs x e)) ts = omega arith
with-more (node.Item (item.Module at m)) ts = omega arith

pub fewer-from : (nodes : List Node) (i : ℕ) → i < length nodes → ends_from nodes (i + 1) ≤ ends_from nodes i
unfolding tasks_of
fewer-from nodes i l =
    let rest = tasks_of [] (drop (suc i) nodes) in
    let here : ends_from nodes i ≡ ending (with_task [] (get_or nodes i node.Blank) rest) =
    ap (λ ns. ending (tasks_of [] ns)) (drop-cons nodes i node.Blank l) in
    let on : ends_from nodes (i + 1) ≡ ending rest = ap (λ (k : ℕ). ends_from nodes k) (add-one i) in
    omega (arith, here, on, with-more (get_or nodes i node.Blank) rest)
