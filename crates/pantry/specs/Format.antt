-- The item file told by what is written: the records, and the bytes that stand for them. Assumes nothing.
use Rattle.std.specs.Prelude.{◌≡◌, ℕ, ◌+◌, ◌*◌, ◌/◌, ◌%◌, ◌^◌, ◌<◌, ◌≤◌, true, List, [], ◌∷◌, ◌++◌, length, ℤ, pos, Ok, Err, codes, Result, ◌==◌, ◌≢◌, slice_index_or}
use Rattle.std.proofs.Math.Option.{none, some}
use Rattle.language.specs.Pantry.{Pantry, fetch, in_range, figure_reply, flag_reply, max_magnitude}
use Rattle.pantry.specs.declared.records.Record.{Record}
use Rattle.pantry.specs.declared.faults.LoadFault.{LoadFault}
use Rattle.pantry.specs.declared.faults.LoadFault.TheVariants.{NoItemFile, BadRecord}

-- a number in two bytes, high byte first
abbrev pub two_bytes : ℕ → List ℕ
two_bytes n = n / 256 ∷ n % 256 ∷ []

-- a number in four bytes
abbrev pub four_bytes : ℕ → List ℕ
four_bytes n = two_bytes (n / 65536) ++ two_bytes (n % 65536)

-- a record in seven bytes
abbrev pub record_bytes : Record → List ℕ
record_bytes r = two_bytes r.item ++ four_bytes r.kcal ++ r.flag ∷ []

-- records one after another
abbrev pub records_bytes : List Record → List ℕ
records_bytes [] = []
records_bytes (r ∷ rs) = record_bytes r ++ records_bytes rs

-- the file of these records: letters, version, count, records
abbrev pub file_of : List Record → List ℕ
file_of rs = codes "NUT" ++ two_bytes 1 ++ two_bytes (length rs) ++ records_bytes rs

-- record k of the list
abbrev pub nth : List Record → ℕ → Record
nth rs k = slice_index_or rs k record { item = 0; kcal = 0; flag = 0 }

-- each number has its width: 16, 32 and 8 bits
pub record InWidth (r : Record) : Type 0 where
  pub item : r.item < 2 ^ 16
  pub kcal : r.kcal < 2 ^ 32
  pub flag : r.flag < 2 ^ 8

-- the bytes are the file of these records, which are at most 1,000
pub record Encodes (f : List ℕ) (rs : List Record) : Type 0 where
  pub few : length rs ≤ 1000
  pub in_width : (k : ℕ) → k < length rs → InWidth (nth rs k)
  pub bytes : f ≡ file_of rs

-- record k is lawful: its item is new, its figure is one, its flag is 0 or 1
pub record LawfulAt (rs : List Record) (k : ℕ) : Type 0 where
  pub fresh : (j : ℕ) → j < k → (nth rs j).item ≡ (nth rs k).item → ⊥
  pub figure : (nth rs k).kcal ≤ max_magnitude
  pub flag : (nth rs k).flag ≤ 1

-- record k is the first that is not lawful, and it begins there
pub record FirstUnlawful (rs : List Record) (k place : ℕ) : Type 0 where
  pub within : k < length rs
  pub before : (j : ℕ) → j < k → LawfulAt rs j
  pub here : LawfulAt rs k → ⊥
  pub place_is : place ≡ 7 + 7 * k

-- what loading answers: the file is accepted exactly when it is that of a list of lawful records; else the fault is 16 exactly when it
-- is that of no list of records, and 17 at the first record that is not lawful
abbrev pub Judged : {A : Type 0} → List ℕ → Result A LoadFault → Type 0
Judged f (Ok a) = (rs : List Record) × (Encodes f rs) × ((k : ℕ) → k < length rs → LawfulAt rs k)
Judged f (Err NoItemFile) = (rs : List Record) → Encodes f rs → ⊥
Judged f (Err (BadRecord p)) = (rs : List Record) × (k : ℕ) × (Encodes f rs) × (FirstUnlawful rs k p)

-- a file is that of one list of records at most
abbrev pub OneList : List ℕ → Type 0
OneList f = (rs qs : List Record) → Encodes f rs → Encodes f qs → rs ≡ qs

-- what the pantry over the file of these records gives: the figure and the flag of the record that has the item, and none exactly
-- where no record has it; the count for every argument
pub record Serves (rs : List Record) (p : Pantry) : Type 0 where
  pub kcal : (k : ℕ) → k < length rs → fetch p 0 (pos (nth rs k).item) ≡ some (figure_reply (pos (nth rs k).kcal))
  pub allergen : (k : ℕ) → k < length rs → fetch p 1 (pos (nth rs k).item) ≡ some (flag_reply ((nth rs k).flag == 1))
  pub no_kcal : (z : ℤ) → ((k : ℕ) → k < length rs → pos (nth rs k).item ≢ z) → fetch p 0 z ≡ none
  pub no_allergen : (z : ℤ) → ((k : ℕ) → k < length rs → pos (nth rs k).item ≢ z) → fetch p 1 z ≡ none
  pub items : (z : ℤ) → in_range z ≡ true → fetch p 2 z ≡ some (figure_reply (pos (length rs)))

-- the pantry over a file serves the file's records
abbrev pub ServesFile : List ℕ → Pantry → Type 0
ServesFile f p = (rs : List Record) → Encodes f rs → Serves rs p
