-- What the functions of the reader do, by the definitions of reading. Assumes nothing.
use Rattle.std.specs.Prelude.{◌≡◌, ℕ, min, List, length, drop, Some, Ok, Err, Result}
use Rattle.grammar.specs.declared.faults.Fault.{Fault}
use Rattle.grammar.specs.declared.next.Next.{Next}
use Rattle.grammar.specs.declared.reader.Reader.{Reader}
use Rattle.grammar.specs.Faults.{refusal_of, refusal, told}
use Rattle.grammar.specs.Steps.{step_in, Whole, EndsAt}
use Rattle.grammar.specs.Reading.{fault, steps}
use Rattle.grammar.specs.Laying.{State, Outcome, refused, done, M}

-- the text that a reader reads
abbrev pub text_of : Reader → List ℕ
text_of s = s.words.text.now

-- The table is the one that was lent, as long as it was, and untouched behind the limit.
pub record Kept (s t : Reader) : Type 0 where
  pub same : t.tree.ghost_name ≡ s.tree.ghost_name
  pub long : length t.tree.now ≡ length s.tree.now
  pub behind : drop 65535 t.tree.now ≡ drop 65535 s.tree.now

-- where a reader is
abbrev pub state_of : Reader → State
state_of s = record {
  text = s.words.text.now;
  limit = min (length s.tree.now) 65535;
  at = s.words.at;
  used = s.used;
  table = s.tree.now;
}

-- the answer is a, and the reader is in the state v
pub record Done {A : Type 0} (a : A) (v : State) (r : Result A Fault) (t : Reader) : Type 0 where
  pub result : r ≡ Ok a
  pub state : state_of t ≡ v

-- what an outcome says of the answer and of the reader after
abbrev pub Gave : {A : Type 0} → Outcome A → Result A Fault → Reader → Type 0
Gave (refused k e) r t = told r ≡ Some (refusal k e)
Gave (done a v) r t = Done a v r t

-- what a function of the reader does, from s to t: the table is the lent one, and the answer and what is laid are the steps'
pub record Gives {A : Type 0} (m : M A) (r : Result A Fault) (s t : Reader) : Type 0 where
  pub kept : Kept s t
  pub gives : Gave (m (state_of s)) r t

-- the state behind the next word
abbrev pub moved : State → ℕ → State
moved v q = record { text = v.text; limit = v.limit; at = q; used = v.used; table = v.table }

-- the next word, or the end, was read
abbrev pub NextDone : Result Next Fault → Reader → Reader → Type 0
NextDone (Ok n) s t = (steps (text_of s) s.words.at ≡ step_in (text_of s) n t.words.at) × Whole (text_of s) n
    × (state_of t ≡ moved (state_of s) t.words.at) × EndsAt n t.words.at
NextDone (Err f) s t = (steps (text_of s) s.words.at ≡ fault (refusal_of f).number (refusal_of f).place)
    × (refusal_of f ≡ refusal (refusal_of f).number (refusal_of f).place)
