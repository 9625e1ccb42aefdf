-- The rows behind a header in order are the file's records.
use Rattle.std.proofs.Common.{◌≡◌, ℕ, zero, suc, ◌+◌, ◌-◌, ◌<◌, ◌≤◌, ◌/◌, ◌%◌, Bool, true, false, cond, ◌==◌, Option, List, [], ◌∷◌, ◌++◌, length, map, take, drop, get_or, ℤ, pos, negsuc, ◌<ℤ◌, Some, None, refl, sym, ap, ap₂, ◌∙◌, arith, drop-cons, add-one}
use Rattle.std.proofs.lemmas.Int.{ints}
use Rattle.std.proofs.lemmas.List.{get_or-take, get_or-drop, drop-drop, length-map, length-take, length-drop, take_all, drop_all, map-append, take_more}
use Rattle.std.specs.List.{find}
use Rattle.std.specs.Option.{option_map}
use Rattle.std.specs.Simd.{first_chunks}
use Rattle.pantry.specs.declared.records.Record.{Record}
use Rattle.pantry.specs.FileFacts.{from_length, header}
use Rattle.pantry.specs.File.{place, record_of, record_at, records_from, records_of, lawful_after, unlawful_in, unlawful_from, unlawful, first_with, count_of, header_ok, fault, at_record, accepted}
use Rattle.pantry.specs.Items.{record_for}

pub exact : (f : List ℕ) → header_ok f ≡ true → length f ≡ place (count_of f)
unfolding header_ok
exact f e = grind arith

byte : (f : List ℕ) (p i j : ℕ) → i < 7 → j ≡ p + i → get_or (take 7 (drop p f)) i 0 ≡ get_or f j 0
byte f p i j h e = get_or-take 7 (drop p f) i 0 h ∙ get_or-drop p f i 0 ∙ ap (λ (k : ℕ). get_or f k 0) (sym e)

row-is : (f : List ℕ) (k : ℕ) → record_of (take 7 (drop (place k) f)) ≡ record_at f k
unfolding record_at
row-is f k = rw (
  byte f (place k) 0 (place k) (omega arith) (omega arith),
  byte f (place k) 1 (place k + 1) (omega arith) (omega arith),
  byte f (place k) 2 (place k + 2) (omega arith) (omega arith),
  byte f (place k) 3 (place k + 2 + 1) (omega arith) (omega arith),
  byte f (place k) 4 (place k + 4) (omega arith) (omega arith),
  byte f (place k) 5 (place k + 4 + 1) (omega arith) (omega arith),
  byte f (place k) 6 (place k + 6) (omega arith) (omega arith),
)

rows-from : (f : List ℕ) (k n : ℕ) → map record_of (first_chunks 7 n (drop (place k) f)) ≡ records_from f k n
rows-from f k zero = refl
rows-from f k (suc n) =
    let d : drop 7 (drop (place k) f) ≡ drop (place (k + 1)) f = drop-drop 7 (place k) f ∙ ap (λ (i : ℕ). drop i f) (omega arith) in
    ap₂ ◌∷◌ (row-is f k) (ap (λ (r : List ℕ). map record_of (first_chunks 7 n r)) d ∙ rows-from f (k + 1) n)

-- the rows behind the seven bytes of the header, where no byte is left over
pub record BodyOf (f body : List ℕ) (rows : List (List ℕ)) (left : ℕ) : Type 0 where
  pub rows_are : rows ≡ first_chunks 7 (length body / 7) body
  pub rows_len : length rows ≡ length body / 7
  pub left_is : left ≡ length body % 7
  pub long : 7 ≤ length f
  pub body_is : body ≡ take (length f - 7) (drop 7 f)

pub exact-body : (f body : List ℕ) (rows : List (List ℕ)) (left : ℕ) → BodyOf f body rows left → left ≡ 0 → length f ≡ place (length rows)
exact-body f body rows left b e =
    let l : length body ≡ length f - 7 = rw b.body_is (omega (arith, length-take (length f - 7) (drop 7 f), length-drop 7 f)) in
    omega (arith, b.rows_len, b.left_is, b.long)

pub rows-are : (f body : List ℕ) (rows : List (List ℕ)) (left : ℕ) → BodyOf f body rows left → length rows ≡ count_of f → map record_of rows ≡ records_of f
unfolding records_of
rows-are f body rows left b e =
    let d : body ≡ drop 7 f = b.body_is ∙ take_all (length f - 7) (drop 7 f) (omega (arith, length-drop 7 f)) in
    let n : length body / 7 ≡ count_of f = sym b.rows_len ∙ e in
    ap (map record_of) b.rows_are ∙ rw (n, d) (rows-from f 0 (count_of f))

-- an accepted file has a header, and no byte is left over behind its rows
pub header_long : (f : List ℕ) → accepted f ≡ true → 7 ≤ length f
header_long f e = omega (arith, exact f (header f e))

pub rows-accepted : (f body : List ℕ) (rows : List (List ℕ)) (left : ℕ) → BodyOf f body rows left → accepted f ≡ true →
    map record_of rows ≡ records_of f
rows-accepted f body rows left b e =
    let l : length body ≡ length f - 7 = rw b.body_is (omega (arith, length-take (length f - 7) (drop 7 f), length-drop 7 f)) in
    rows-are f body rows left b (omega (arith, l, b.rows_len, b.long, exact f (header f e)))

-- ── the first unlawful record ──

longer : (f : List ℕ) (j k i n : ℕ) → i ≡ j + k → n ≡ k + 1 → records_from f j k ++ record_at f i ∷ [] ≡ records_from f j n
longer f j zero i n e h = rw (h, e) (ap (λ (m : ℕ). record_at f m ∷ []) (omega arith))
longer f j (suc k) i n e h = let s : n ≡ suc (k + 1) = omega arith in rw s (ap (λ (rs : List Record). record_at f j ∷ rs) (longer f (j + 1) k i (k + 1) (omega arith) refl))

behind : (f : List ℕ) (k n : ℕ) → unlawful_in (records_from f 0 k) (records_from f k n) ≡ unlawful_from f k n
behind f k zero = refl
behind f k (suc n) =
    let l : records_from f 0 k ++ record_at f k ∷ [] ≡ records_from f 0 (k + 1) = longer f 0 k k (k + 1) (omega arith) refl in
    rw (l, behind f (k + 1) n, from_length f 0 k)

pub unlawful-is : (f : List ℕ) → unlawful_in [] (records_of f) ≡ unlawful f
unfolding records_of unlawful
unlawful-is f = behind f 0 (count_of f)

-- ── one row after another ──

-- where no header fault is, the first unlawful row is the fault
pub fault-is : (f : List ℕ) (rows : List (List ℕ)) → header_ok f ≡ true → map record_of rows ≡ records_of f →
    fault f ≡ at_record (unlawful_in [] (map record_of rows))
fault-is f rows h m = rw (h, m, unlawful-is f)

module _ (rows : List (List ℕ)) (k : ℕ) (h : k < length rows) where
  pub unlawful-here : lawful_after (map record_of (take k rows)) (record_of (get_or rows k [])) ≡ false →
      unlawful_in (map record_of (take k rows)) (map record_of (drop k rows)) ≡ Some k
  unlawful-here l =
      let n : length (take k rows) ≡ k = omega (arith, length-take k rows) in
      rw (drop-cons rows k [] h, l, length-map (take k rows) record_of, n)

  pub unlawful-next : lawful_after (map record_of (take k rows)) (record_of (get_or rows k [])) ≡ true →
      unlawful_in (map record_of (take k rows)) (map record_of (drop k rows)) ≡
      unlawful_in (map record_of (take (k + 1) rows)) (map record_of (drop (k + 1) rows))
  unlawful-next l = rw (drop-cons rows k [] h, take_more rows k [] h, l, map-append record_of (take k rows) (get_or rows k [] ∷ []), add-one k)

pub unlawful-end : (rows : List (List ℕ)) (k : ℕ) → length rows ≤ k → unlawful_in (map record_of (take k rows)) (map record_of (drop k rows)) ≡ None
unlawful-end rows k h = rw (drop_all k rows h)

-- ── the first row of an item ──

picked : (b : Bool) (row : List ℕ) (o : Option (List ℕ)) (r : Option Record) → r ≡ option_map record_of o →
    cond b (Some (record_of row)) r ≡ option_map record_of (cond b (Some row) o)
picked true row o r e = refl
picked false row o r e = e

-- its record is the first record of the item
pub first-mapped : (n : ℕ) (rows : List (List ℕ)) →
    first_with n (map record_of rows) ≡ option_map record_of (find (λ (row : List ℕ). (record_of row).item == n) rows)
first-mapped n [] = refl
first-mapped n (row ∷ rows) = picked ((record_of row).item == n) row _ _ (first-mapped n rows)

-- ── items that two bytes do not hold ──

item-small : (f : List ℕ) (k : ℕ) → ((i : ℕ) → get_or f i 0 < 256) → (record_at f k).item < 65536
unfolding record_at
item-small f k b = omega (arith, b (place k), b (place k + 1))

first-large : (f : List ℕ) (n k m : ℕ) → ((i : ℕ) → get_or f i 0 < 256) → 65536 ≤ n → first_with n (records_from f k m) ≡ None
first-large f n k zero b h = refl
first-large f n k (suc m) b h =
    let s : (record_at f k).item < 65536 = item-small f k b in
    let i : first_with n (records_from f (k + 1) m) ≡ None = first-large f n (k + 1) m b h in
    grind arith

pub found_large : (f : List ℕ) (z : ℤ) → ((i : ℕ) → get_or f i 0 < 256) → pos 65535 <ℤ z → record_for (records_of f) z ≡ None
unfolding records_of
found_large f (pos n) b h = first-large f n 0 (count_of f) b (omega (arith, ints))
found_large f (negsuc n) b h = refl
