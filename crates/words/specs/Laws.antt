-- Gaps, words and faults told by the bytes alone, and the law that a text divides into them in one way. Assumes nothing.
use Rattle.std.specs.Prelude.{◌≡◌, ℕ, ◌+◌, ◌-◌, ◌<◌, ◌≤◌, Bool, true, false, not, ◌&&◌, ◌||◌, ◌⊎◌, List, [], ◌∷◌, ◌++◌, length, take, drop, ℤ, Some, None, Decides, ◌==◌, slice_index, unsigned_abs}
use Rattle.std.specs.Fmt.{signed_decimal}
use Rattle.words.specs.declared.keywords.Keyword.{Keyword}
use Rattle.words.specs.declared.marks.Mark.TheVariants.{Minus}
use Rattle.words.specs.Classes.{blank, letter, digit, mark as single}
use Rattle.words.specs.Spelling.{spelled, keyword_of, drawn}
use Rattle.words.specs.Words.{Kind, largest, size_of, figure_within, name_kind, start, scan}
use Rattle.words.specs.Words.Kind.{name, number, keyword, mark}
use Rattle.words.specs.Words.Reading.{word}
use Rattle.words.specs.Names.{Name, same_name, is_name}
use Rattle.words.specs.Lexing.{Lexing, ends, refuses, follows, joined, onward, lexed}

-- A test of a byte may look at what stands behind it.
abbrev pub Test : Type 0
Test = ℕ → List ℕ → Bool

-- a letter, a digit, ? or a dash that is not directly before >
abbrev pub name_byte : Test
name_byte b bs = letter b || digit b || b == 63 || b == 45 && not (slice_index bs 0 == 62)

-- a digit
abbrev pub digit_byte : Test
digit_byte b bs = digit b

-- a letter
abbrev pub letter_byte : Test
letter_byte b bs = letter b

-- >
abbrev pub arrow_byte : Test
arrow_byte b bs = b == 62

-- not LF
abbrev pub line_byte : Test
line_byte b bs = not (b == 10)

-- each byte of w passes, where rest stands behind w
abbrev pub Passes : Test → List ℕ → List ℕ → Type 0
Passes t [] rest = Unit {0}
Passes t (b ∷ w) rest = (t b (w ++ rest) ≡ true) × Passes t w rest

-- the first byte does not pass, or there is none
abbrev pub Stops : Test → List ℕ → Type 0
Stops t [] = Unit {0}
Stops t (b ∷ bs) = t b bs ≡ false

-- a gap: blanks, and comments from % to the end of the line; the last one may end with the text. rest stands behind the gap
pub data Gap (rest : List ℕ) : List ℕ → Type 0 where
  none : Gap rest []
  space : (b : ℕ) (g : List ℕ) → blank b ≡ true → Gap rest g → Gap rest (b ∷ g)
  comment : (c g : List ℕ) → Passes line_byte c [] → Gap rest g → Gap rest (37 ∷ (c ++ (10 ∷ g)))
  last : (c : List ℕ) → Passes line_byte c [] → rest ≡ [] → Gap rest (37 ∷ c)

-- a name as long as it can be, before rest
pub record NameRun (w rest : List ℕ) : Type 0 where
  pub begins : letter (slice_index w 0) ≡ true
  pub passes : Passes name_byte w rest
  pub longest : Stops name_byte rest

-- digits, as many as there are, before rest, and at most one dash before them
pub record Numeral (w rest : List ℕ) : Type 0 where
  pub sign : List ℕ
  pub digits : List ℕ
  pub whole : w ≡ sign ++ digits
  pub signs : (sign ≡ []) ⊎ (sign ≡ 45 ∷ [])
  pub some : 0 < length digits
  pub passes : Passes digit_byte digits rest
  pub longest : Stops digit_byte rest

-- w spells a word of the kind, before rest
abbrev pub Spells : Kind → List ℕ → List ℕ → Type 0
Spells name w rest = NameRun w rest × (length w ≤ 16) × (keyword_of w ≡ None)
Spells (keyword k) w rest = NameRun w rest × (length w ≤ 16) × (keyword_of w ≡ Some k)
Spells number w rest = Numeral w rest × Stops letter_byte rest × (size_of w ≤ largest)
Spells (mark m) w rest = (w ≡ drawn m) × (m ≡ Minus → Stops digit_byte rest × Stops arrow_byte rest)

-- the byte begins a word or a gap
abbrev pub known : ℕ → Bool
known b = blank b || b == 37 || letter b || digit b || b == 45 || single b

-- at the place p the text goes on with bs, and there is the fault k at q
pub data Faulty (p : ℕ) (bs : List ℕ) (k q : ℕ) : Type 0 where
  stray : k ≡ 2 → q ≡ p → 0 < length bs → known (slice_index bs 0) ≡ false → Faulty p bs k q
  letter_behind : (w rest : List ℕ) → k ≡ 2 → q ≡ p + length w → bs ≡ w ++ rest → Numeral w rest
      → letter (slice_index rest 0) ≡ true → Faulty p bs k q
  long_name : (w rest : List ℕ) → k ≡ 3 → q ≡ p → bs ≡ w ++ rest → NameRun w rest → 16 < length w → Faulty p bs k q
  large_number : (w rest : List ℕ) → k ≡ 4 → q ≡ p → bs ≡ w ++ rest → Numeral w rest
      → Stops letter_byte rest → largest < size_of w → Faulty p bs k q

-- from the place p on: each gap is one, each word spells its kind before what follows, and stands where it says; so does a fault
abbrev pub Lawful : ℕ → Lexing → Type 0
Lawful p (ends g) = Gap [] g
Lawful p (refuses g bs k q) = Gap bs g × Faulty (p + length g) bs k q
Lawful p (follows g k q w l) = Gap (w ++ joined l) g × (q ≡ p + length g) × Spells k w (joined l) × Lawful (q + length w) l

-- a cursor that goes from word to word gives the words of the whole text
abbrev pub Walks : Type 0
Walks = (text : List ℕ) (at : ℕ) → lexed at (drop at text)
    ≡ onward (take (start text at - at) (drop at text)) (drop (start text at) text) (scan text at)
    (λ n. lexed (start text at + n) (drop (start text at + n) text))

-- the gaps and words give back the text, and are lawful
abbrev pub Divides : List ℕ → Lexing → Type 0
Divides text l = (joined l ≡ text) × Lawful 0 l

-- a text divides into gaps and words in one way, the one that is read
abbrev pub Division : Type 0
Division = (text : List ℕ) → Divides text (lexed 0 text) × ((l : Lexing) → Divides text l → l ≡ lexed 0 text)

-- a figure written in digits, with a dash if it is negative, is read as that figure
abbrev pub ReadsBack : Type 0
ReadsBack = (z : ℤ) → unsigned_abs z ≤ largest → figure_within (signed_decimal z) ≡ Some z

-- bytes are a keyword exactly where they are its spelling
abbrev pub Keywords : Type 0
Keywords = (w : List ℕ) (k : Keyword) → (keyword_of w ≡ Some k → w ≡ spelled k) × (w ≡ spelled k → keyword_of w ≡ Some k)

-- sameness of names is an equivalence
pub record Sameness : Type 0 where
  pub itself : (x : Name) → same_name x x ≡ true
  pub back : (x y : Name) → same_name x y ≡ true → same_name y x ≡ true
  pub on : (x y z : Name) → same_name x y ≡ true → same_name y z ≡ true → same_name x z ≡ true

-- bytes are a name or a keyword exactly where, as a text, they are read as that one word
abbrev pub Named : Type 0
Named = (x : Name) → Decides (is_name x) (scan x 0 ≡ word (name_kind (keyword_of x)) 0 x)

-- the laws of words, of numbers and of names
pub record Laws : Type 0 where
  pub walks : Walks
  pub division : Division
  pub figures : ReadsBack
  pub keywords : Keywords
  pub sameness : Sameness
  pub names : Named
