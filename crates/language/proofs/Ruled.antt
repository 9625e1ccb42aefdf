-- The step function asks for the action that the rules ask for, and for no other.
use Rattle.std.proofs.Common.{◌≡◌, ℕ, zero, suc, Bool, true, false, cond, pos, refl}
use mathlib.Core.Option.{Option, none, some}
use lib.ListN.{get_elem?}
use Rattle.words.specs.Names.{Name, same_name}
use Rattle.language.specs.Names.{pantry_name, lookup}
use Rattle.language.specs.Syntax.{Operator}
use Rattle.language.specs.Tree.{
  Part,
  Node,
  node_at,
  number_node,
  boolean_node,
  variable_node,
  qualified_node,
  is_zero_node,
  apply_node,
  proc_node,
  let_node,
  conditional_node,
  letrec_node,
  binary_node,
  no_node,
  type_node,
}
use Rattle.language.specs.Pantry.{Entry, by_item}
use Rattle.language.specs.Scopes.{Scope}
use Rattle.language.specs.Machine.{
  Value,
  integer,
  boolean,
  closure,
  pantry_procedure,
  Frame,
  blank_frame,
  await_first,
  await_second,
  frame_at,
  Store,
  Control,
  evaluate,
  return,
  Target,
  defining,
  closing,
  Registers,
  Program,
  nearest,
  plain,
  fetched,
  kept,
  Action,
  hands,
  puts_down,
  replaces,
}
use Rattle.language.specs.Rules.{
  first_part,
  second_part,
  Procedure,
  procedure,
  procedure_at,
  Numbered,
  numbered,
  entry_for,
  Top,
  Rule,
  of_number,
  of_boolean,
  of_variable,
  of_proc,
  of_module,
  of_plain_entry,
  of_entry_by_item,
  of_letrec,
  of_form,
  to_left,
  to_zero,
  to_right,
  to_entry,
  to_let,
  to_procedure,
  to_test,
  to_definition,
  to_end,
}
use Rattle.language.specs.Step.{
  handing_value,
  from_entry,
  from_module,
  on_node,
  on_first,
  calling,
  fetching,
  applying,
  computing,
  on_second,
  on_frame,
  ending,
  on_return,
  on_control,
  rule_for,
}

module _ (w : Program) (s : Store) (r : Registers) where
  -- what the function asks for, a rule does
  abbrev Follows : Option Action → Type 0
  Follows none = Unit {0}
  Follows (some a) = Rule w s r a

  value-rule : (m : Option Value) → ((v : Value) → m ≡ some v → Rule w s r (hands kept (plain v))) → Follows (handing_value m)
  value-rule none f = tt
  value-rule (some v) f = f v refl

  entry-rule : {j : Part} {sc : Scope} {m x : Name} → r.control ≡ evaluate j sc → node_at w.tree j ≡ qualified_node m x →
      same_name pantry_name m ≡ true → (e : Option Numbered) → entry_for w.pantry x ≡ e → Follows (from_entry e)
  entry-rule c q p none f = tt
  entry-rule c q p (some (numbered i k)) f = go (by_item k) refl
    where
      go : (b : Bool) → by_item k ≡ b → Rule w s r (cond b (hands kept (plain (pantry_procedure i))) (hands kept (fetched i (pos 0))))
      go true e = of_entry_by_item c q p f e
      go false e = of_plain_entry c q p f e

  module-rule : {j : Part} {sc : Scope} {m x : Name} → r.control ≡ evaluate j sc → node_at w.tree j ≡ qualified_node m x →
      same_name pantry_name m ≡ false → (o : Option Scope) → lookup r.module_scopes m ≡ o → Follows (handing_value (from_module s o x))
  module-rule c q p none f = tt
  module-rule {x = x} c q p (some o) f = value-rule (nearest s.cells o x) (λ v h. of_module c q p f h)

  node-rule : (j : Part) (sc : Scope) → r.control ≡ evaluate j sc → (n : Node) → node_at w.tree j ≡ n → Follows (on_node w s r j sc n)
  node-rule j sc c no_node q = tt
  node-rule j sc c (type_node y) q = tt
  node-rule j sc c (number_node z) q = of_number c q
  node-rule j sc c (boolean_node b) q = of_boolean c q
  node-rule j sc c (variable_node x) q = value-rule (nearest s.cells sc x) (λ v h. of_variable c q h)
  node-rule j sc c (qualified_node m x) q = go (same_name pantry_name m) refl
    where
      go : (b : Bool) → same_name pantry_name m ≡ b →
          Follows (cond b (from_entry (entry_for w.pantry x)) (handing_value (from_module s (lookup r.module_scopes m) x)))
      go true p = entry-rule c q p (entry_for w.pantry x) refl
      go false p = module-rule c q p (lookup r.module_scopes m) refl
  node-rule j sc c (is_zero_node k) q = of_form c (rw q refl)
  node-rule j sc c (apply_node k l) q = of_form c (rw q refl)
  node-rule j sc c (proc_node x t k) q = of_proc c q
  node-rule j sc c (let_node x k l) q = of_form c (rw q refl)
  node-rule j sc c (conditional_node k l n) q = of_form c (rw q refl)
  node-rule j sc c (letrec_node u f x t k l) q = of_letrec c q
  node-rule j sc c (binary_node o k l) q = of_form c (rw q refl)

  first-rule : (d : ℕ) (j : Part) (sc : Scope) (v : Value) → r.control ≡ return v → Top s r d (await_first j sc) → (n : Node) →
      node_at w.tree j ≡ n → Follows (on_first d j sc v n)
  first-rule d j sc v c p no_node q = tt
  first-rule d j sc v c p (type_node y) q = tt
  first-rule d j sc v c p (number_node z) q = tt
  first-rule d j sc v c p (boolean_node b) q = tt
  first-rule d j sc v c p (variable_node x) q = tt
  first-rule d j sc v c p (qualified_node m x) q = tt
  first-rule d j sc (integer z) c p (is_zero_node k) q = to_zero c p q
  first-rule d j sc (boolean b) c p (is_zero_node k) q = tt
  first-rule d j sc (closure i o) c p (is_zero_node k) q = tt
  first-rule d j sc (pantry_procedure i) c p (is_zero_node k) q = tt
  first-rule d j sc v c p (apply_node k l) q = to_left c p (rw q refl)
  first-rule d j sc v c p (proc_node x t k) q = tt
  first-rule d j sc v c p (let_node x k l) q = to_let c p q
  first-rule d j sc (integer z) c p (conditional_node k l n) q = tt
  first-rule d j sc (boolean b) c p (conditional_node k l n) q = to_test c p q
  first-rule d j sc (closure i o) c p (conditional_node k l n) q = tt
  first-rule d j sc (pantry_procedure i) c p (conditional_node k l n) q = tt
  first-rule d j sc v c p (letrec_node u f x t k l) q = tt
  first-rule d j sc v c p (binary_node o k l) q = to_left c p (rw q refl)

  applying-rule : (d : ℕ) (j k l : Part) (sc : Scope) (u v : Value) → r.control ≡ return v → Top s r d (await_second j sc u) →
      node_at w.tree j ≡ apply_node k l → Follows (applying w d u v)
  applying-rule d j k l sc (integer z) v c p q = tt
  applying-rule d j k l sc (boolean b) v c p q = tt
  applying-rule d j k l sc (closure i o) v c p q = go (procedure_at (node_at w.tree i)) refl
    where
      go : (m : Option Procedure) → procedure_at (node_at w.tree i) ≡ m → Follows (calling d o v m)
      go none e = tt
      go (some (procedure x b)) e = to_procedure c p q e
  applying-rule d j k l sc (pantry_procedure i) (integer z) c p q = go (get_elem? w.pantry i) refl
    where
      go : (m : Option Entry) → get_elem? w.pantry i ≡ m → Follows (fetching d i z m)
      go none e = tt
      go (some n) e = to_entry c p q e
  applying-rule d j k l sc (pantry_procedure i) (boolean b) c p q = tt
  applying-rule d j k l sc (pantry_procedure i) (closure m o) c p q = tt
  applying-rule d j k l sc (pantry_procedure i) (pantry_procedure m) c p q = tt

  computing-rule : (d : ℕ) (j k l : Part) (sc : Scope) (o : Operator) (u v : Value) → r.control ≡ return v →
      Top s r d (await_second j sc u) → node_at w.tree j ≡ binary_node o k l → Follows (computing d o u v)
  computing-rule d j k l sc o (integer a) (integer b) c p q = to_right c p q
  computing-rule d j k l sc o (integer a) (boolean b) c p q = tt
  computing-rule d j k l sc o (integer a) (closure i m) c p q = tt
  computing-rule d j k l sc o (integer a) (pantry_procedure i) c p q = tt
  computing-rule d j k l sc o (boolean b) v c p q = tt
  computing-rule d j k l sc o (closure i m) v c p q = tt
  computing-rule d j k l sc o (pantry_procedure i) v c p q = tt

  second-rule : (d : ℕ) (j : Part) (sc : Scope) (u v : Value) → r.control ≡ return v → Top s r d (await_second j sc u) → (n : Node) →
      node_at w.tree j ≡ n → Follows (on_second w d u v n)
  second-rule d j sc u v c p no_node q = tt
  second-rule d j sc u v c p (type_node y) q = tt
  second-rule d j sc u v c p (number_node z) q = tt
  second-rule d j sc u v c p (boolean_node b) q = tt
  second-rule d j sc u v c p (variable_node x) q = tt
  second-rule d j sc u v c p (qualified_node m x) q = tt
  second-rule d j sc u v c p (is_zero_node k) q = tt
  second-rule d j sc u v c p (apply_node k l) q = applying-rule d j k l sc u v c p q
  second-rule d j sc u v c p (proc_node x t k) q = tt
  second-rule d j sc u v c p (let_node x k l) q = tt
  second-rule d j sc u v c p (conditional_node k l n) q = tt
  second-rule d j sc u v c p (letrec_node h f x t k l) q = tt
  second-rule d j sc u v c p (binary_node o k l) q = computing-rule d j k l sc o u v c p q

  frame-rule : (d : ℕ) (v : Value) → r.control ≡ return v → r.frame_count ≡ suc d → (f : Frame) → frame_at s.frames d ≡ f →
      Follows (on_frame w d v f)
  frame-rule d v c e blank_frame q = tt
  frame-rule d v c e (await_first j sc) q = first-rule d j sc v c (record { count = e; frame = q }) (node_at w.tree j) refl
  frame-rule d v c e (await_second j sc u) q = second-rule d j sc u v c (record { count = e; frame = q }) (node_at w.tree j) refl

  ending-rule : (v : Value) → r.control ≡ return v → r.frame_count ≡ zero → (t : Target) → r.target ≡ t → Follows (ending v t)
  ending-rule v c e (defining x sc) q = to_definition c e q
  ending-rule v c e closing q = to_end c e q

  return-rule : (v : Value) → r.control ≡ return v → (d : ℕ) → r.frame_count ≡ d → Follows (on_return w s r v d)
  return-rule v c zero e = ending-rule v c e r.target refl
  return-rule v c (suc d) e = frame-rule d v c e (frame_at s.frames d) refl

  control-rule : (c : Control) → r.control ≡ c → Follows (on_control w s r c)
  control-rule (evaluate j sc) q = node-rule j sc q (node_at w.tree j) refl
  control-rule (return v) q = return-rule v q r.frame_count refl

  follows : Follows (rule_for w s r)
  follows = control-rule r.control refl

  pub rule-of : (a : Action) → rule_for w s r ≡ some a → Rule w s r a
  rule-of a q = rw q at follows

  -- what a rule does, the function asks for
  form-node : (j : Part) (sc : Scope) (k : Part) (n : Node) → first_part n ≡ some k →
      on_node w s r j sc n ≡ some (puts_down (await_first j sc) k sc)
  form-node j sc k no_node h = cc
  form-node j sc k (type_node y) h = cc
  form-node j sc k (number_node z) h = cc
  form-node j sc k (boolean_node b) h = cc
  form-node j sc k (variable_node x) h = cc
  form-node j sc k (qualified_node m x) h = cc
  form-node j sc k (is_zero_node i) h = cc
  form-node j sc k (apply_node i l) h = cc
  form-node j sc k (proc_node x t i) h = cc
  form-node j sc k (let_node x i l) h = cc
  form-node j sc k (conditional_node i l n) h = cc
  form-node j sc k (letrec_node u f x t i l) h = cc
  form-node j sc k (binary_node o i l) h = cc

  left-node : (d : ℕ) (j : Part) (sc : Scope) (v : Value) (l : Part) (n : Node) → second_part n ≡ some l →
      on_first d j sc v n ≡ some (replaces d (await_second j sc v) l sc)
  left-node d j sc v l no_node h = cc
  left-node d j sc v l (type_node y) h = cc
  left-node d j sc v l (number_node z) h = cc
  left-node d j sc v l (boolean_node b) h = cc
  left-node d j sc v l (variable_node x) h = cc
  left-node d j sc v l (qualified_node m x) h = cc
  left-node d j sc v l (is_zero_node i) h = cc
  left-node d j sc v l (apply_node i k) h = cc
  left-node d j sc v l (proc_node x t i) h = cc
  left-node d j sc v l (let_node x i k) h = cc
  left-node d j sc v l (conditional_node i k n) h = cc
  left-node d j sc v l (letrec_node u f x t i k) h = cc
  left-node d j sc v l (binary_node o i k) h = cc

  pub rule-asked : (a : Action) → Rule w s r a → rule_for w s r ≡ some a
  rule-asked a (of_number c q) = rw (c, q) refl
  rule-asked a (of_boolean c q) = rw (c, q) refl
  rule-asked a (of_variable c q h) = rw (c, q, h) refl
  rule-asked a (of_proc c q) = rw (c, q) refl
  rule-asked a (of_module c q p h k) = rw (c, q, p, h, k) refl
  rule-asked a (of_plain_entry c q p h k) = rw (c, q, p, h, k) refl
  rule-asked a (of_entry_by_item c q p h k) = rw (c, q, p, h, k) refl
  rule-asked a (of_letrec c q) = rw (c, q) refl
  rule-asked a (of_form {j = j} {k = k} {sc = sc} c h) = rw c (form-node j sc k (node_at w.tree j) h)
  rule-asked a (to_left {d = d} {j = j} {l = l} {sc = sc} {v = v} c p h) =
      rw (c, p.count, p.frame) (left-node d j sc v l (node_at w.tree j) h)
  rule-asked a (to_zero c p q) = rw (c, p.count, p.frame, q) refl
  rule-asked a (to_right c p q) = rw (c, p.count, p.frame, q) refl
  rule-asked a (to_entry c p q h) = rw (c, p.count, p.frame, q, h) refl
  rule-asked a (to_let c p q) = rw (c, p.count, p.frame, q) refl
  rule-asked a (to_procedure c p q h) = rw (c, p.count, p.frame, q, h) refl
  rule-asked a (to_test c p q) = rw (c, p.count, p.frame, q) refl
  rule-asked a (to_definition c e q) = rw (c, e, q) refl
  rule-asked a (to_end c e q) = rw (c, e, q) refl
