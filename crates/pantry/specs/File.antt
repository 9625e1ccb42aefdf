-- The item file by places: the letters `NUT`, the version, the count, and the records behind them. Assumes nothing.
use Rattle.std.specs.Prelude.{ℕ, zero, suc, ◌+◌, ◌*◌, Bool, cond, not, ◌&&◌, List, [], ◌∷◌, ◌++◌, length, is_some, Some, None, Ok, Err, Option, Result, ◌==◌, nat_le, slice_index}
use Rattle.std.specs.List.{find}
use Rattle.language.specs.Pantry.{max_magnitude}
use Rattle.pantry.specs.declared.records.Record.{Record}
use Rattle.pantry.specs.declared.faults.LoadFault.{LoadFault}
use Rattle.pantry.specs.declared.faults.LoadFault.TheVariants.{NoItemFile, BadRecord}

-- the number in the two bytes there
abbrev pub two_at : List ℕ → ℕ → ℕ
two_at f at = slice_index f at * 256 + slice_index f (at + 1)

-- where record k begins
abbrev pub place : ℕ → ℕ
place k = 7 + 7 * k

-- record k, as it stands
unfoldable pub record_at : List ℕ → ℕ → Record
record_at f k = record {
  item = two_at f (place k);
  kcal = two_at f (place k + 2) * 65536 + two_at f (place k + 4);
  flag = slice_index f (place k + 6);
}

-- the record in seven bytes
abbrev pub record_of : List ℕ → Record
record_of row = record {
  item = two_at row 0;
  kcal = two_at row 2 * 65536 + two_at row 4;
  flag = slice_index row 6;
}

-- as many records from record k on
abbrev pub records_from : List ℕ → ℕ → ℕ → List Record
records_from f k zero = []
records_from f k (suc left) = record_at f k ∷ records_from f (k + 1) left

-- how many records the file says that it has
abbrev pub count_of : List ℕ → ℕ
count_of f = two_at f 5

-- the file's records
unfoldable pub records_of : List ℕ → List Record
records_of f = records_from f 0 (count_of f)

-- the first record that has the item
abbrev pub first_with : ℕ → List Record → Option Record
first_with n rs = find (λ (r : Record). r.item == n) rs

-- letters, version, count and length
unfoldable pub header_ok : List ℕ → Bool
header_ok f =
    nat_le 7 (length f) && slice_index f 0 == 78 && slice_index f 1 == 85 && slice_index f 2 == 84 && two_at f 3 == 1
    && nat_le (count_of f) 1000 && length f == place (count_of f)

-- no earlier record has the item of the record, and its figure and its flag are in range
abbrev pub lawful_after : List Record → Record → Bool
lawful_after earlier r = not (is_some (first_with r.item earlier)) && nat_le r.kcal max_magnitude && nat_le r.flag 1

-- whether record k is lawful
abbrev pub record_ok : List ℕ → ℕ → Bool
record_ok f k = lawful_after (records_from f 0 k) (record_at f k)

-- the first unlawful one of as many records from record k on
abbrev pub unlawful_from : List ℕ → ℕ → ℕ → Option ℕ
unlawful_from f k zero = None
unlawful_from f k (suc left) = cond (record_ok f k) (unlawful_from f (k + 1) left) (Some k)

-- the number of the first record that is unlawful behind the earlier ones
abbrev pub unlawful_in : List Record → List Record → Option ℕ
unlawful_in earlier [] = None
unlawful_in earlier (r ∷ rs) = cond (lawful_after earlier r) (unlawful_in (earlier ++ r ∷ []) rs) (Some (length earlier))

-- the number of the first unlawful record
unfoldable pub unlawful : List ℕ → Option ℕ
unlawful f = unlawful_from f 0 (count_of f)

-- an unlawful record is a fault at its first byte
abbrev pub at_record : Option ℕ → Option LoadFault
at_record None = None
at_record (Some k) = Some (BadRecord (place k))

-- why a file is refused
abbrev pub fault : List ℕ → Option LoadFault
fault f = cond (header_ok f) (at_record (unlawful f)) (Some NoItemFile)

-- the file is not refused
abbrev pub accepted : List ℕ → Bool
accepted f = not (is_some (fault f))

-- what loading answered
abbrev pub refused : {A : Type 0} → Result A LoadFault → Option LoadFault
refused (Ok a) = None
refused (Err e) = Some e
