-- The step rules, one constructor for each: its premises, and the action that it asks for.
use Rattle.std.specs.Prelude.{◌≡◌, ℕ, zero, suc, Bool, true, false, cond, List, [], ◌∷◌, ℤ, pos}
use Rattle.std.proofs.Math.Option.{Option, none, some}
use Rattle.std.proofs.Math.ListN.{get_elem?}
use Rattle.words.specs.Names.{Name, same_name}
use Rattle.language.specs.Names.{pantry_name, Binding, bind, lookup}
use Rattle.language.specs.Syntax.{Operator}
use Rattle.language.specs.Tree.{
  Part,
  Node,
  node_at,
  number_node,
  boolean_node,
  variable_node,
  qualified_node,
  is_zero_node,
  apply_node,
  proc_node,
  let_node,
  conditional_node,
  letrec_node,
  binary_node,
  no_node,
  type_node,
}
use Rattle.language.specs.Pantry.{Kind, EntryNumber, Entry, Pantry, by_item}
use Rattle.language.specs.Scopes.{Scope}
use Rattle.language.specs.Machine.{
  Value,
  integer,
  boolean,
  closure,
  pantry_procedure,
  value_cell,
  letrec_cell,
  Frame,
  await_first,
  await_second,
  frame_at,
  Store,
  evaluate,
  return,
  defining,
  closing,
  Registers,
  Program,
  no_rule,
  Outcome,
  stop,
  nearest,
  plain,
  operation,
  fetched,
  is_zeroℤ,
  kept,
  removed,
  Action,
  hands,
  binds,
  branches,
  puts_down,
  replaces,
  defines,
  ends,
  perform,
}

-- the first part of a form that waits in a frame
abbrev pub first_part : Node → Option Part
first_part no_node = none
first_part (type_node y) = none
first_part (number_node z) = none
first_part (boolean_node b) = none
first_part (variable_node x) = none
first_part (qualified_node m x) = none
first_part (is_zero_node k) = some k
first_part (apply_node k l) = some k
first_part (proc_node x t k) = none
first_part (let_node x k l) = some k
first_part (conditional_node k l n) = some k
first_part (letrec_node u f x t k l) = none
first_part (binary_node o k l) = some k

-- the second part of a form that waits for two
abbrev pub second_part : Node → Option Part
second_part no_node = none
second_part (type_node y) = none
second_part (number_node z) = none
second_part (boolean_node b) = none
second_part (variable_node x) = none
second_part (qualified_node m x) = none
second_part (is_zero_node k) = none
second_part (apply_node k l) = some l
second_part (proc_node x t k) = none
second_part (let_node x k l) = none
second_part (conditional_node k l n) = none
second_part (letrec_node u f x t k l) = none
second_part (binary_node o k l) = some l

-- a parameter and a body
pub data Procedure : Type 0 where
  procedure : Name → Part → Procedure

-- those of a `proc` or `letrec` part
abbrev pub procedure_at : Node → Option Procedure
procedure_at no_node = none
procedure_at (type_node y) = none
procedure_at (number_node z) = none
procedure_at (boolean_node b) = none
procedure_at (variable_node x) = none
procedure_at (qualified_node m x) = none
procedure_at (is_zero_node k) = none
procedure_at (apply_node k l) = none
procedure_at (proc_node x t k) = some (procedure x k)
procedure_at (let_node x k l) = none
procedure_at (conditional_node k l n) = none
procedure_at (letrec_node u f x t k l) = some (procedure x k)
procedure_at (binary_node o k l) = none

-- an entry's number and kind
pub data Numbered : Type 0 where
  numbered : EntryNumber → Kind → Numbered

-- the entries by their names, with their numbers from i on
abbrev pub numbered_from : EntryNumber → Pantry → List (Binding Numbered)
numbered_from i [] = []
numbered_from i (e ∷ p) = bind e.name (numbered i e.kind) ∷ numbered_from (suc i) p

-- the number and kind of the pantry's entry of that name
abbrev pub entry_for : Pantry → Name → Option Numbered
entry_for p x = lookup (numbered_from zero p) x

-- the topmost frame is f, at place d
pub record Top (s : Store) (r : Registers) (d : ℕ) (f : Frame) : Type 0 where
  pub count : r.frame_count ≡ suc d
  pub frame : frame_at s.frames d ≡ f

-- `Rule w s r a`: in the store s, with the registers r, some rule has its premises and asks for the action a
pub data Rule (w : Program) (s : Store) (r : Registers) : Action → Type 0 where
  -- literals, names and procedures: a value at once; a procedure remembers the scope it was made in
  of_number : {j : Part} {sc : Scope} {z : ℤ} → r.control ≡ evaluate j sc → node_at w.tree j ≡ number_node z →
      Rule w s r (hands kept (plain (integer z)))
  of_boolean : {j : Part} {sc : Scope} {b : Bool} → r.control ≡ evaluate j sc → node_at w.tree j ≡ boolean_node b →
      Rule w s r (hands kept (plain (boolean b)))
  of_variable : {j : Part} {sc : Scope} {x : Name} {v : Value} → r.control ≡ evaluate j sc → node_at w.tree j ≡ variable_node x →
      nearest s.cells sc x ≡ some v → Rule w s r (hands kept (plain v))
  of_proc : {j : Part} {sc : Scope} {x : Name} {t k : Part} → r.control ≡ evaluate j sc → node_at w.tree j ≡ proc_node x t k →
      Rule w s r (hands kept (plain (closure j sc)))
  of_module : {j : Part} {sc o : Scope} {m x : Name} {v : Value} → r.control ≡ evaluate j sc → node_at w.tree j ≡ qualified_node m x →
      same_name pantry_name m ≡ false → lookup r.module_scopes m ≡ some o → nearest s.cells o x ≡ some v →
      Rule w s r (hands kept (plain v))
  -- entries of the pantry: a plain one is asked at argument 0, one by item becomes a procedure
  of_plain_entry : {j : Part} {sc : Scope} {m x : Name} {i : EntryNumber} {k : Kind} → r.control ≡ evaluate j sc →
      node_at w.tree j ≡ qualified_node m x → same_name pantry_name m ≡ true → entry_for w.pantry x ≡ some (numbered i k) →
      by_item k ≡ false → Rule w s r (hands kept (fetched i (pos 0)))
  of_entry_by_item : {j : Part} {sc : Scope} {m x : Name} {i : EntryNumber} {k : Kind} → r.control ≡ evaluate j sc →
      node_at w.tree j ≡ qualified_node m x → same_name pantry_name m ≡ true → entry_for w.pantry x ≡ some (numbered i k) →
      by_item k ≡ true → Rule w s r (hands kept (plain (pantry_procedure i)))
  -- a recursive procedure gets its cell, and evaluation goes on with the part in which it is known
  of_letrec : {j : Part} {sc : Scope} {f x : Name} {u t k l : Part} → r.control ≡ evaluate j sc →
      node_at w.tree j ≡ letrec_node u f x t k l → Rule w s r (binds kept (letrec_cell f j sc) l)
  -- every form that needs the value of a part first: it waits in a frame
  of_form : {j k : Part} {sc : Scope} → r.control ≡ evaluate j sc → first_part (node_at w.tree j) ≡ some k →
      Rule w s r (puts_down (await_first j sc) k sc)
  -- the first of two values has come: the frame keeps it and waits for the second
  to_left : {d : ℕ} {j l : Part} {sc : Scope} {v : Value} → r.control ≡ return v → Top s r d (await_first j sc) →
      second_part (node_at w.tree j) ≡ some l → Rule w s r (replaces d (await_second j sc v) l sc)
  -- the last value that a frame waited for has come, and the frame goes: with a result,
  to_zero : {d : ℕ} {j k : Part} {sc : Scope} {z : ℤ} → r.control ≡ return (integer z) → Top s r d (await_first j sc) →
      node_at w.tree j ≡ is_zero_node k → Rule w s r (hands (removed d) (plain (boolean (is_zeroℤ z))))
  to_right : {d : ℕ} {j k l : Part} {sc : Scope} {o : Operator} {a b : ℤ} → r.control ≡ return (integer b) →
      Top s r d (await_second j sc (integer a)) → node_at w.tree j ≡ binary_node o k l → Rule w s r (hands (removed d) (operation o a b))
  -- with the pantry's answer,
  to_entry : {d : ℕ} {j k l : Part} {sc : Scope} {i : EntryNumber} {z : ℤ} {e : Entry} → r.control ≡ return (integer z) →
      Top s r d (await_second j sc (pantry_procedure i)) → node_at w.tree j ≡ apply_node k l → get_elem? w.pantry i ≡ some e →
      Rule w s r (hands (removed d) (fetched i z))
  -- with a new binding and the body that sees it (a procedure's body in the scope that the procedure remembers),
  to_let : {d : ℕ} {j k l : Part} {sc : Scope} {x : Name} {v : Value} → r.control ≡ return v → Top s r d (await_first j sc) →
      node_at w.tree j ≡ let_node x k l → Rule w s r (binds (removed d) (value_cell x v sc) l)
  to_procedure : {d : ℕ} {j k l q b : Part} {sc o : Scope} {x : Name} {v : Value} → r.control ≡ return v →
      Top s r d (await_second j sc (closure q o)) → node_at w.tree j ≡ apply_node k l →
      procedure_at (node_at w.tree q) ≡ some (procedure x b) → Rule w s r (binds (removed d) (value_cell x v o) b)
  -- or with the branch that the test chose
  to_test : {d : ℕ} {j k l n : Part} {sc : Scope} {b : Bool} → r.control ≡ return (boolean b) → Top s r d (await_first j sc) →
      node_at w.tree j ≡ conditional_node k l n → Rule w s r (branches d (cond b l n) sc)
  -- nothing waits: the value is that of a definition, which gets its cell, or the closing one
  to_definition : {x : Name} {sc : Scope} {v : Value} → r.control ≡ return v → r.frame_count ≡ zero → r.target ≡ defining x sc →
      Rule w s r (defines x v sc)
  to_end : {v : Value} → r.control ≡ return v → r.frame_count ≡ zero → r.target ≡ closing → Rule w s r (ends v)

-- a step does what a rule asks for; where none has its premises it stops for want of one
pub data Steps (w : Program) (s : Store) (r : Registers) : Outcome → Type 0 where
  by_rule : {a : Action} → Rule w s r a → Steps w s r (perform w s r a)
  by_none : ((a : Action) → ¬ Rule w s r a) → Steps w s r (stop no_rule)
