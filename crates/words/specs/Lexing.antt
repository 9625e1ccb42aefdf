-- A whole text as its words and the gaps between them, and how many words it has. Assumes nothing.
use Rattle.std.specs.Prelude.{ℕ, zero, suc, ◌+◌, false, cond, List, ◌++◌, length, take, drop, Ok, Err, Result, nat_le}
use Rattle.words.specs.declared.faults.Fault.{Fault}
use Rattle.words.specs.Shown.{number_of, place_of}
use Rattle.words.specs.Words.{Kind, Reading, gap, first}
use Rattle.words.specs.Words.Reading.{end, word, fault}

-- the last gap; or a gap and what is behind it, where a fault stands; or a gap, a word and what follows
pub data Lexing : Type 0 where
  ends : (before : List ℕ) → Lexing
  refuses : (before rest : List ℕ) (number place : ℕ) → Lexing
  follows : (before : List ℕ) (kind : Kind) (place : ℕ) (bytes : List ℕ) → Lexing → Lexing

-- gaps and words in order, with what is behind a fault
abbrev pub joined : Lexing → List ℕ
joined (ends g) = g
joined (refuses g bs k p) = g ++ bs
joined (follows g k p w l) = g ++ (w ++ joined l)

-- what is read behind the gap g, where the text goes on with bs; a word of n bytes is followed by what `more n` gives
abbrev pub onward : List ℕ → List ℕ → Reading → (ℕ → Lexing) → Lexing
onward g bs end more = ends g
onward g bs (fault k p) more = refuses g bs k p
onward g bs (word k p w) more = follows g k p w (more (length w))

-- the words from the place p on, where the text goes on with bs; at most n of them
unfoldable pub lexed_from : ℕ → ℕ → List ℕ → Lexing
lexed_from zero p bs = ends bs
lexed_from (suc n) p bs =
    onward (take (gap false bs) bs) (drop (gap false bs) bs) (first (p + gap false bs) (drop (gap false bs) bs))
    (λ w. lexed_from n (p + gap false bs + w) (drop w (drop (gap false bs) bs)))

-- a text has at most as many words as bytes
abbrev pub lexed : ℕ → List ℕ → Lexing
lexed p bs = lexed_from (suc (length bs)) p bs

-- the number of words, or the fault's number and place
pub data Tally : Type 0 where
  words : ℕ → Tally
  refused : ℕ → ℕ → Tally

-- n words and those that follow
abbrev pub tallied : ℕ → Lexing → Tally
tallied n (ends g) = words n
tallied n (refuses g bs k p) = refused k p
tallied n (follows g k p w l) = tallied (n + 1) l

-- the words of a text of at most 32,768 bytes
abbrev pub tally_of : List ℕ → Tally
tally_of text = cond (nat_le (length text) 32768) (tallied 0 (lexed 0 text)) (refused 1 32768)

-- an answer of the tally
abbrev pub shown_tally : Result ℕ Fault → Tally
shown_tally (Ok n) = words n
shown_tally (Err f) = refused (number_of f) (place_of f)
