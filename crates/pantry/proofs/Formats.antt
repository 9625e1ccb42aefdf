-- The definition of the format by places agrees with the one by what is written.
use Rattle.std.proofs.Common.{◌≡◌, ℕ, zero, suc, ◌+◌, ◌*◌, ◌/◌, ◌%◌, ◌<◌, ◌≤◌, true, List, [], ◌∷◌, ◌++◌, length, get_or, drop, sym, refl, ap, ◌∙◌, append_assoc, div-add-mod', arith, length-append, drop-cons, get_or-append-add, eq-eqb, le-leb}
use lib.Arith.{digits_div, digits_mod}
use lib.Seq.{drop-length}
use Rattle.pantry.specs.declared.records.Record.{Record}
use Rattle.pantry.specs.File.{two_at, place, record_at, records_from, records_of, count_of, header_ok}
use Rattle.pantry.specs.Format.{two_bytes, four_bytes, record_bytes, records_bytes, file_of, InWidth, Encodes, nth}
use Rattle.pantry.specs.FileFacts.{few, records_length}
use Rattle.pantry.proofs.Rows.{exact}

-- ── record k ──

from-nth : (f : List ℕ) (k n j : ℕ) → j < n → nth (records_from f k n) j ≡ record_at f (k + j)
from-nth f k zero j h = absurd (omega arith)
from-nth f k (suc n) zero h = ap (record_at f) (omega arith)
from-nth f k (suc n) (suc j) h = from-nth f (k + 1) n j (omega arith) ∙ ap (record_at f) (omega arith)

pub nth-is : (f : List ℕ) (k : ℕ) → k < count_of f → nth (records_of f) k ≡ record_at f k
unfolding records_of
nth-is f k h = from-nth f 0 (count_of f) k h ∙ ap (record_at f) (omega arith)

-- ── from the bytes to the records ──

four-back : (a b c d : ℕ) → b < 256 → c < 256 → d < 256 →
    four_bytes ((a * 256 + b) * 65536 + (c * 256 + d)) ≡ a ∷ b ∷ c ∷ d ∷ []
four-back a b c d hb hc hd =
    let s : c * 256 + d < 65536 = omega arith in
    rw (digits_div (a * 256 + b) s, digits_mod (a * 256 + b) s, digits_div a hb, digits_mod a hb, digits_div c hd, digits_mod c hd)

record-back : (a b c d e g h : ℕ) → b < 256 → d < 256 → e < 256 → g < 256 →
    record_bytes record { item = a * 256 + b; kcal = (c * 256 + d) * 65536 + (e * 256 + g); flag = h } ≡ a ∷ b ∷ c ∷ d ∷ e ∷ g ∷ h ∷ []
record-back a b c d e g h hb hd he hg =
    ap (λ (xs : List ℕ). two_bytes (a * 256 + b) ++ xs ++ h ∷ []) (four-back c d e g hd he hg) ∙ rw (digits_div a hb, digits_mod a hb)

module _ (f : List ℕ) (bytes : (i : ℕ) → get_or f i 0 < 256) where
  -- the rest from a place on, by its first byte
  next : (i j : ℕ) → i < length f → suc i ≡ j → drop i f ≡ get_or f i 0 ∷ drop j f
  next i j h e = rw (sym e) (drop-cons f i 0 h)

  seven : (i : ℕ) → i + 6 < length f →
      drop i f ≡ get_or f i 0 ∷ get_or f (i + 1) 0 ∷ get_or f (i + 2) 0 ∷ get_or f (i + 2 + 1) 0 ∷ get_or f (i + 4) 0 ∷ get_or f (i + 4 + 1) 0 ∷
      get_or f (i + 6) 0 ∷ drop (i + 7) f
  seven i h = rw (
    next i (i + 1) (omega arith) (omega arith),
    next (i + 1) (i + 2) (omega arith) (omega arith),
    next (i + 2) (i + 2 + 1) (omega arith) (omega arith),
    next (i + 2 + 1) (i + 4) (omega arith) (omega arith),
    next (i + 4) (i + 4 + 1) (omega arith) (omega arith),
    next (i + 4 + 1) (i + 6) (omega arith) (omega arith),
    next (i + 6) (i + 7) (omega arith) (omega arith),
  )

  record-next : (k : ℕ) → place k + 6 < length f → drop (place k) f ≡ record_bytes (record_at f k) ++ drop (place k + 7) f
  unfolding record_at
  record-next k h = seven (place k) h ∙ ap (λ (xs : List ℕ). xs ++ drop (place k + 7) f) (sym (record-back (get_or f (place k) 0)
      (get_or f (place k + 1) 0) (get_or f (place k + 2) 0) (get_or f (place k + 2 + 1) 0) (get_or f (place k + 4) 0) (get_or f (place k + 4 + 1) 0)
      (get_or f (place k + 6) 0) (bytes (place k + 1)) (bytes (place k + 2 + 1)) (bytes (place k + 4)) (bytes (place k + 4 + 1))))

  rest : (k n : ℕ) → length f ≡ place (k + n) → drop (place k) f ≡ records_bytes (records_from f k n)
  rest k zero e = let q : place k ≡ length f = omega arith in rw q (drop-length f)
  rest k (suc n) e =
      let q : place k + 7 ≡ place (k + 1) = omega arith in
      record-next k (omega arith) ∙
      ap (λ (xs : List ℕ). record_bytes (record_at f k) ++ xs) (ap (λ (i : ℕ). drop i f) q ∙ rest (k + 1) n (omega arith))

module _ (f : List ℕ) (ok : header_ok f ≡ true) where
  at-0 : get_or f 0 0 ≡ 78
  unfolding header_ok
  at-0 = grind arith

  at_1 : get_or f 1 0 ≡ 85
  unfolding header_ok
  at_1 = grind arith

  at-2 : get_or f 2 0 ≡ 84
  unfolding header_ok
  at-2 = grind arith

  version : two_at f 3 ≡ 1
  unfolding header_ok
  version = grind arith

body : (f : List ℕ) → ((i : ℕ) → get_or f i 0 < 256) → header_ok f ≡ true → drop 7 f ≡ records_bytes (records_of f)
unfolding records_of
body f bytes ok = rest f bytes 0 (count_of f) (exact f ok ∙ ap place (omega arith))

in_width : (f : List ℕ) (k : ℕ) → ((i : ℕ) → get_or f i 0 < 256) → InWidth (record_at f k)
unfolding record_at
in_width f k bytes = record {
  item = omega (arith, bytes (place k), bytes (place k + 1));
  kcal = omega (arith, bytes (place k + 2), bytes (place k + 2 + 1), bytes (place k + 4), bytes (place k + 4 + 1));
  flag = bytes (place k + 6);
}

-- a file in order is that of its records
pub encodes : (f : List ℕ) → ((i : ℕ) → get_or f i 0 < 256) → header_ok f ≡ true → Encodes f (records_of f)
encodes f bytes ok = record {
  few = rw (records_length f) (few f ok);
  in_width = λ k h. let l : k < count_of f = rw (records_length f) at h in rw (nth-is f k l) (in_width f k bytes);
  bytes = whole;
} where
  three : get_or f 3 0 ≡ 0
  three = omega (arith, version f ok, bytes 4)

  four : get_or f 4 0 ≡ 1
  four = omega (arith, version f ok, bytes 4)

  high : get_or f 5 0 ≡ length (records_of f) / 256
  high = sym (rw (records_length f) (digits_div (get_or f 5 0) (bytes 6)))

  low : get_or f 6 0 ≡ length (records_of f) % 256
  low = sym (rw (records_length f) (digits_mod (get_or f 5 0) (bytes 6)))

  whole : f ≡ file_of (records_of f)
  whole = seven f bytes 0 (omega (arith, exact f ok)) ∙ rw (at-0 f ok, at_1 f ok, at-2 f ok, three, four, high, low, body f bytes ok)

-- ── from the records to the bytes ──

records-size : (rs : List Record) → length (records_bytes rs) ≡ 7 * length rs
records-size [] = refl
records-size (r ∷ rs) = omega (arith, records-size rs)

at : (pre ys : List ℕ) (i j : ℕ) → i ≡ length pre + j → get_or (pre ++ ys) i 0 ≡ get_or ys j 0
at pre ys i j e = rw e (get_or-append-add pre ys j 0)

-- the record at k is the one that is written there
record_is : (pre : List ℕ) (r : Record) (ys : List ℕ) (k : ℕ) → length pre ≡ place k → record_at (pre ++ (record_bytes r ++ ys)) k ≡ r
unfolding record_at
record_is pre r ys k e =
    let xs : List ℕ = record_bytes r ++ ys in
    rw (
      at pre xs (place k) 0 (omega arith),
      at pre xs (place k + 1) 1 (omega arith),
      at pre xs (place k + 2) 2 (omega arith),
      at pre xs (place k + 2 + 1) 3 (omega arith),
      at pre xs (place k + 4) 4 (omega arith),
      at pre xs (place k + 4 + 1) 5 (omega arith),
      at pre xs (place k + 6) 6 (omega arith),
      div-add-mod' r.item 256,
      div-add-mod' (r.kcal / 65536) 256,
      div-add-mod' (r.kcal % 65536) 256,
      div-add-mod' r.kcal 65536,
    )

back : (pre : List ℕ) (rs : List Record) (k : ℕ) → length pre ≡ place k → records_from (pre ++ records_bytes rs) k (length rs) ≡ rs
back pre [] k e = refl
back pre (r ∷ rs) k e =
    let q : length (pre ++ record_bytes r) ≡ place (k + 1) = simp length-append (omega arith) in
    let s : records_from (pre ++ (record_bytes r ++ records_bytes rs)) (k + 1) (length rs) ≡ rs =
    rw (append_assoc pre (record_bytes r) (records_bytes rs)) at (back (pre ++ record_bytes r) rs (k + 1) q) in
    rw (record_is pre r (records_bytes rs) k e, s)

count-is : (rs : List Record) → count_of (file_of rs) ≡ length rs
count-is rs = div-add-mod' (length rs) 256

header_is : (rs : List Record) → length rs ≤ 1000 → header_ok (file_of rs) ≡ true
unfolding header_ok
header_is rs h =
    let c = count-is rs in
    let s = records-size rs in
    let l : length (file_of rs) ≡ place (length rs) = omega arith in
    rw (c, l, le-leb 7 (place (length rs)) (omega arith), le-leb (length rs) 1000 h, eq-eqb (place (length rs)) (place (length rs)) refl)

-- the file of these records is in order, and has them
pub decodes : (f : List ℕ) (rs : List Record) → Encodes f rs → (header_ok f ≡ true) × (records_of f ≡ rs)
unfolding records_of
decodes f rs e =
    rw e.bytes (
      header_is rs e.few,
      rw (count-is rs) (back (78 ∷ 85 ∷ 84 ∷ 0 ∷ 1 ∷ length rs / 256 ∷ length rs % 256 ∷ []) rs 0 refl),
    )
