-- What the cursor's answer says of the text. Assumes nothing.
use Rattle.std.specs.Prelude.{◌≡◌, ℕ, ◌<◌, ◌≤◌, List, length, drop, Some, None, Ok, Err, Option, Result}
use Rattle.words.specs.declared.tokens.Token.{Token}
use Rattle.words.specs.declared.tokens.Token.TheVariants.{Name, Number, Key, Sign}
use Rattle.words.specs.declared.faults.Fault.{Fault}
use Rattle.words.specs.declared.faults.Fault.TheVariants.{TooLong, Stray, LongName, LargeNumber}
use Rattle.words.specs.Spelling.{drawn}
use Rattle.words.specs.Words.{Reading, start, There}
use Rattle.words.specs.Words.Reading.{end, word, fault}
use Rattle.words.specs.Words.Kind.{name, number, keyword, mark}

-- a fault's number
abbrev pub number_of : Fault → ℕ
number_of TooLong = 1
number_of (Stray p) = 2
number_of (LongName p) = 3
number_of (LargeNumber p) = 4

-- a fault's place
abbrev pub place_of : Fault → ℕ
place_of TooLong = 32768
place_of (Stray p) = p
place_of (LongName p) = p
place_of (LargeNumber p) = p

-- a text has at most 32,768 bytes, or is refused with fault 1
abbrev pub Measured : {A : Type 0} → List ℕ → Result A Fault → Type 0
Measured text (Ok a) = length text ≤ 32768
Measured text (Err f) = (32768 < length text) × (number_of f ≡ 1) × (place_of f ≡ 32768)

-- a token is a word of the text
abbrev pub shown_token : Token → Reading
shown_token (Name w) = word name w.place w.text.now
shown_token (Number w) = word number w.place w.text.now
shown_token (Key k w) = word (keyword k) w.place w.text.now
shown_token (Sign m p) = word (mark m) p (drawn m)

-- a fault by its number and place
abbrev pub shown_fault : Fault → Reading
shown_fault f = fault (number_of f) (place_of f)

-- a word or a fault
abbrev pub shown_word : Result Token Fault → Reading
shown_word (Ok t) = shown_token t
shown_word (Err f) = shown_fault f

-- an answer of the cursor: a word, the end or a fault
abbrev pub shown : Result (Option Token) Fault → Reading
shown (Ok (Some t)) = shown_token t
shown (Ok None) = end
shown (Err f) = shown_fault f

-- how many bytes of the text a token takes
abbrev pub width_of : Token → ℕ
width_of (Name w) = length w.text.now
width_of (Number w) = length w.text.now
width_of (Key k w) = length w.text.now
width_of (Sign m p) = length (drawn m)

-- a word that is read is the part of the text that spells it
abbrev pub Part : List ℕ → ℕ → Result (Option Token) Fault → Type 0
Part text at r = There (start text at) (drop (start text at) text) (shown r)

-- after a word the cursor stands farther on
abbrev pub Moves : ℕ → ℕ → Result (Option Token) Fault → Type 0
Moves before after (Ok (Some t)) = before < after
Moves before after (Ok None) = Unit {0}
Moves before after (Err f) = Unit {0}
