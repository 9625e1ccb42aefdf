-- What stands in a text from a place on: its end, a word or a fault. Assumes nothing.
use Rattle.std.specs.Prelude.{◌≡◌, ℕ, ◌+◌, ◌-◌, ◌*◌, ◌<◌, ◌≤◌, Bool, true, false, cond, not, ◌&&◌, ◌||◌, List, [], ◌∷◌, length, take, drop, ℤ, pos, neg_ℤ, Some, None, fold, Option, ◌==◌, nat_le, slice_index}
use Rattle.std.specs.List.{prefix_len}
use Rattle.words.specs.declared.classes.Class.{Class}
use Rattle.words.specs.declared.classes.Class.TheVariants.{Blank, Percent, Letter, Digit, Dash, Query, Mark as Sign}
use Rattle.words.specs.declared.keywords.Keyword.{Keyword}
use Rattle.words.specs.declared.marks.Mark.{Mark}
use Rattle.words.specs.declared.marks.Mark.TheVariants.{Arrow, Minus}
use Rattle.words.specs.Classes.{class_of, is_class}
use Rattle.words.specs.Spelling.{keyword_of, mark_of, drawn}

-- between words: at a blank, at a percent sign, and else nothing
abbrev pub skips : Class → ℕ → ℕ → ℕ
skips c m n = cond (is_class Blank c) m (cond (is_class Percent c) n 0)

-- how many bytes at the front part words: blanks, and comments, each up to LF or the end; the flag says that a comment is open
abbrev pub gap : Bool → List ℕ → ℕ
gap comment [] = 0
gap true (b ∷ bs) = 1 + gap (not (b == 10)) bs
gap false (b ∷ bs) = skips (class_of b) (1 + gap false bs) (1 + gap true bs)

-- whether a byte of the class, with bs behind it, goes on with a name: a dash before > does not
abbrev pub goes : Class → List ℕ → Bool
goes c bs = is_class Letter c || is_class Digit c || is_class Query c || is_class Dash c && not (slice_index bs 0 == 62)

-- how many bytes at the front go on with a name
abbrev pub name_run : List ℕ → ℕ
name_run [] = 0
name_run (b ∷ bs) = cond (goes (class_of b) bs) (1 + name_run bs) 0

-- the class of digits
abbrev pub is_digit : Class → Bool
is_digit c = is_class Digit c

-- the class of letters
abbrev pub is_letter : Class → Bool
is_letter c = is_class Letter c

-- how many bytes at the front are digits
abbrev pub digit_run : List ℕ → ℕ
digit_run bs = prefix_len (λ b. is_digit (class_of b)) bs

-- the number that digits stand for, highest first
abbrev pub value : List ℕ → ℕ
value bs = fold (λ v b. v * 10 + (b - 48)) 0 bs

-- the largest size of a number
abbrev pub largest : ℕ
largest = 2000000000

-- the kinds of word
pub data Kind : Type 0 where
  name : Kind
  number : Kind
  keyword : Keyword → Kind
  mark : Mark → Kind

-- the end, or a word with its kind, its place and its bytes, or a fault with its number and its place
pub data Reading : Type 0 where
  end : Reading
  word : Kind → ℕ → List ℕ → Reading
  fault : ℕ → ℕ → Reading

-- a name is a keyword, or only a name
abbrev pub name_kind : Option Keyword → Kind
name_kind (Some k) = keyword k
name_kind None = name

-- the word of a name's bytes w, at the place p
abbrev pub named : ℕ → List ℕ → Reading
named p w = cond (nat_le (length w) 16) (word (name_kind (keyword_of w)) p w) (fault 3 p)

-- at the place p, a number with a sign of s bytes and n digits: a letter behind it is refused first, then its size
abbrev pub figured : ℕ → ℕ → ℕ → List ℕ → Reading
figured p s n bs =
    cond (is_letter (class_of (slice_index bs (s + n)))) (fault 2 (p + (s + n)))
    (cond (nat_le (value (take n (drop s bs))) largest) (word number p (take (s + n) bs)) (fault 4 p))

-- the same with as many digits as there are
abbrev pub numbered : ℕ → ℕ → List ℕ → Reading
numbered p s bs = figured p s (digit_run (drop s bs)) bs

-- what begins with a dash: a number, an arrow or a minus
abbrev pub dashed : ℕ → List ℕ → Reading
dashed p bs =
    cond (is_digit (class_of (slice_index bs 1))) (numbered p 1 bs)
    (cond (slice_index bs 1 == 62) (word (mark Arrow) p (drawn Arrow)) (word (mark Minus) p (drawn Minus)))

-- a mark of one byte
abbrev pub marked : ℕ → Option Mark → Reading
marked p (Some m) = word (mark m) p (drawn m)
marked p None = fault 2 p

-- the word that begins, at the place p, with a byte of the class
abbrev pub begins : Class → ℕ → List ℕ → Reading
begins c p bs =
    cond (is_letter c) (named p (take (name_run bs) bs))
    (cond (is_digit c) (numbered p 0 bs)
    (cond (is_class Dash c) (dashed p bs)
    (cond (is_class Sign c) (marked p (mark_of (slice_index bs 0))) (fault 2 p))))

-- what stands at the place p, where the text goes on with bs
abbrev pub first : ℕ → List ℕ → Reading
first p [] = end
first p (b ∷ bs) = begins (class_of b) p (b ∷ bs)

-- where the first word at or behind a place begins, or the text ends
unfoldable pub start : List ℕ → ℕ → ℕ
start text at = at + gap false (drop at text)

-- WHAT STANDS IN A TEXT at or behind a place
unfoldable pub scan : List ℕ → ℕ → Reading
scan text at = first (start text at) (drop (start text at) text)

-- where a cursor stands then: behind the word, or where the refused word begins, or at the end
abbrev pub behind : ℕ → Reading → ℕ
behind p end = p
behind p (word k q w) = q + length w
behind p (fault k q) = p

-- the same, from the place where it stood
abbrev pub next_place : List ℕ → ℕ → ℕ
next_place text at = behind (start text at) (scan text at)

-- a word's bytes are those that stand at its place, and there is one at least: the text goes on with bs at the place p
abbrev pub There : ℕ → List ℕ → Reading → Type 0
There p bs end = Unit {0}
There p bs (word k q w) = (q ≡ p) × (take (length w) bs ≡ w) × (0 < length w)
There p bs (fault k q) = Unit {0}

-- the size of a number's bytes, which may begin with a dash
abbrev pub size_of : List ℕ → ℕ
size_of w = cond (slice_index w 0 == 45) (value (drop 1 w)) (value w)

-- the number: a dash in front makes it negative
abbrev pub figure_of : List ℕ → ℤ
figure_of w = cond (slice_index w 0 == 45) (neg_ℤ (pos (value (drop 1 w)))) (pos (value w))

-- what digits stand for, if it is at most the largest
abbrev pub size_within : List ℕ → Option ℕ
size_within w = cond (nat_le (value w) largest) (Some (value w)) None

-- the number, if its size is at most the largest
abbrev pub figure_within : List ℕ → Option ℤ
figure_within w = cond (nat_le (size_of w) largest) (Some (figure_of w)) None

-- a number that is read is not too large
abbrev pub Small : Reading → Type 0
Small end = Unit {0}
Small (word name p w) = Unit {0}
Small (word number p w) = size_of w ≤ largest
Small (word (keyword k) p w) = Unit {0}
Small (word (mark m) p w) = Unit {0}
Small (fault k p) = Unit {0}
