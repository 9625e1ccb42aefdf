-- Type safety: no job of a typed sheet stops for want of a rule, every closing value fits the sheet's type, and both hold after one
-- module's body is exchanged for another that its interface accepts.
use Rattle.std.specs.Prelude.{◌≡◌, Bool, true, ◌↔◌, List, [], ◌∷◌, ◌++◌, map}
use Rattle.language.specs.Names.{bind}
use Rattle.language.specs.Syntax.{Exp, Definition, Module, Sheet}
use Rattle.language.specs.Tree.{Plan, SheetStands}
use Rattle.language.specs.Typing.{ExpandedType, Context, Interface, stock_types, Interfaces}
use Rattle.language.specs.Points.{points_of}
use Rattle.language.specs.Modules.{Outward, Accepts, hides_of, sees_of, SheetTyped}
use Rattle.language.specs.Check.{agrees, check_of}
use Rattle.language.specs.Reading.{Reading, reveal, reveal_environment, Reveals, reading_of}
use Rattle.language.specs.Pantry.{Stock}
use Rattle.language.specs.Machine.{Cell, Frame, Store, store_of, stop_number}
use Rattle.language.specs.Job.{Answer, going_at, done_at, stop_at, answer_of, Moment, opened, Calls, Logged, logged, log, AllSuit, Reached}
use Rattle.language.specs.Fits.{Setting, Fits}

-- with a pantry of these names and kinds, the rules give the sheet the type r
pub record Passes (stock : Stock) (sheet : Sheet) (r : ExpandedType) : Type 0 where
  pub typed : SheetTyped (stock_types stock) sheet r

-- the same as a test, for a struct's ghost field, which takes no relation
abbrev pub passes_as : Stock → Sheet → ExpandedType → Bool
passes_as stock sheet r = agrees (check_of (stock_types stock) sheet) r

-- the test and the relation agree
abbrev pub PassesComputed : Type 0
PassesComputed = (stock : Stock) (sheet : Sheet) (r : ExpandedType) → (passes_as stock sheet r ≡ true) ↔ Passes stock sheet r

-- hidden types read as the modules of the sheet define them
abbrev pub reading_in : {stock : Stock} {sheet : Sheet} {r : ExpandedType} → Passes stock sheet r → Reading
reading_in t = reading_of (hides_of t.typed.modules_typed)

-- an answer is sound: a closing value fits the type r in the cells of the store, and a stop is not 29
abbrev pub Sound : Setting → ExpandedType → Store → Answer → Type 0
Sound w r s (going_at n) = Unit {0}
Sound w r s (done_at v n) = Fits w s.cells v r
Sound w r s (stop_at k n) = ¬ (stop_number k ≡ 29)

-- every answer of the log is sound
abbrev pub AllSound : Setting → ExpandedType → List Logged → Type 0
AllSound w r [] = Unit {0}
AllSound w r (logged s a ∷ ls) = Sound w r s a × AllSound w r ls

-- what the values of a job of the sheet are judged by: each environment with its hidden types read
abbrev pub setting_of : {stock : Stock} {sheet : Sheet} {r : ExpandedType} → Passes stock sheet r → Plan → Setting
setting_of {stock} t plan = record {
  tree = plan.tree;
  stock = stock;
  points = points_of plan.tasks plan.close (map (reveal_environment (reading_in t)) (sees_of t.typed.modules_typed));
}

-- the sheet's type, read so
abbrev pub revealed : {stock : Stock} {sheet : Sheet} {r : ExpandedType} → Passes stock sheet r → ExpandedType
revealed {r = r} t = reveal (reading_in t) r

-- Every log of every job of the sheet is sound: for each plan that stands for it, for tables of any length and content at the opening,
-- for any calls, and for any pantries that suit.
abbrev pub LogsSound : {stock : Stock} {sheet : Sheet} {r : ExpandedType} → Passes stock sheet r → Type 0
LogsSound {stock} {sheet} t = (plan : Plan) → SheetStands plan sheet →
    (cells : List Cell) (frames : List Frame) (calls : Calls) → AllSuit stock calls →
    AllSound (setting_of t plan) (revealed t) (log plan (opened plan (store_of cells frames)) calls)

-- the reading does read each hidden type as its module defines it, and by it every log is sound
abbrev pub Safe : {stock : Stock} {sheet : Sheet} {r : ExpandedType} → Passes stock sheet r → Type 0
Safe t = Reveals (reading_in t) (hides_of t.typed.modules_typed) × LogsSound t

-- so for every typed sheet
abbrev pub Safety : Type 0
Safety = (stock : Stock) (sheet : Sheet) (r : ExpandedType) (t : Passes stock sheet r) → Safe t

-- the same a call at a time, for the contract of each call: at every moment that calls have led to, the answer is sound
abbrev pub CallSafety : Type 0
CallSafety = (stock : Stock) (sheet : Sheet) (r : ExpandedType) (t : Passes stock sheet r) (plan : Plan) → SheetStands plan sheet →
    (cells : List Cell) (frames : List Frame) (m : Moment) → Reached plan stock cells frames m →
    Sound (setting_of t plan) (revealed t) m.store (answer_of m.job)

-- ── exchange ──

-- a module with another body
abbrev pub with_body : Module → List Definition → Module
with_body m body = record { name = m.name; interface = m.interface; body = body }

-- a sheet, by its parts
abbrev pub sheet_of : List Module → Exp → Sheet
sheet_of ms closing = record { modules = ms; closing = closing }

-- the interfaces n, and then those of the modules ms, are n'
pub data InterfacesAfter (s : Context) : Interfaces → List Module → Interfaces → Type 0 where
  i_none : {n : Interfaces} → InterfacesAfter s n [] n
  i_more : {n n' : Interfaces} {m : Module} {ms : List Module} {i : Interface} → Outward n s m.name [] [] m.interface i →
      InterfacesAfter s (n ++ (bind m.name i ∷ [])) ms n' → InterfacesAfter s n (m ∷ ms) n'

-- behind the modules `before`, the interface of m accepts the body
abbrev pub AcceptsThere : Stock → List Module → Module → List Definition → Type 0
AcceptsThere stock before m body = (n : Interfaces) ×
    InterfacesAfter (stock_types stock) [] before n × Accepts n (stock_types stock) m.interface body

-- the sheet with one module's body exchanged for another that its interface accepts has the same type, and every log of its jobs is sound
abbrev pub Exchanges : {stock : Stock} {sheet : Sheet} {r : ExpandedType} → Passes stock sheet r → Type 0
Exchanges {stock} {sheet} {r} t = (before after : List Module) (m : Module) (body : List Definition) →
    sheet.modules ≡ before ++ (m ∷ after) → AcceptsThere stock before m body →
    (u : Passes stock (sheet_of (before ++ (with_body m body ∷ after)) sheet.closing) r) × Safe u

-- so for every typed sheet
abbrev pub Exchange : Type 0
Exchange = (stock : Stock) (sheet : Sheet) (r : ExpandedType) (t : Passes stock sheet r) → Exchanges t

-- both in one statement, for the contract of the call that opens a job
abbrev pub WholeSafety : Type 0
WholeSafety = (stock : Stock) (sheet : Sheet) (r : ExpandedType) (t : Passes stock sheet r) → Safe t × Exchanges t
