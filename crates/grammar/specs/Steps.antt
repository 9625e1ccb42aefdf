-- What comes next in a text, as code holds it. Assumes nothing.
use Rattle.std.specs.Prelude.{◌≡◌, ℕ, ◌<◌, ◌≤◌, Bool, true, false, List, length, Some, None, Option, ◌==◌}
use Rattle.language.specs.declared.spans.Span.{Span}
use Rattle.words.specs.declared.keywords.Keyword.{Keyword}
use Rattle.words.specs.declared.marks.Mark.{Mark}
use Rattle.words.specs.declared.tokens.Token.{Token}
use Rattle.words.specs.declared.tokens.Token.TheVariants as token
use Rattle.words.specs.Words.{size_of, figure_of, largest}
use Rattle.language.specs.Bindings.{spelled_in}
use Rattle.grammar.specs.declared.next.Next.{Next}
use Rattle.grammar.specs.declared.next.Next.TheVariants.{End, Name, Number, Key, Sign}
use Rattle.grammar.specs.Productions.{name, number, key, mark, key_code, mark_code, Single, «the», sign, a_name, a_number}
use Rattle.grammar.specs.Reading.{Step, end, word}
use Rattle.grammar.specs.Table.{name_in}

-- where it stands
abbrev pub next_place : Next → ℕ
next_place (End at) = at
next_place (Name x) = x.place
next_place (Number at v) = at
next_place (Key at k) = at
next_place (Sign at m) = at

-- the step that code holds so, q being the place behind the word
abbrev pub step_in : List ℕ → Next → ℕ → Step
step_in text (End at) q = end at
step_in text (Name x) q = word (name (name_in text x)) q
step_in text (Number at v) q = word (number at v) q
step_in text (Key at k) q = word (key at k) q
step_in text (Sign at m) q = word (mark at m) q

-- a name's span is as long as what it spells
abbrev pub Whole : List ℕ → Next → Type 0
Whole text (End at) = Unit {0}
Whole text (Name x) = length (spelled_in text x) ≡ x.len
Whole text (Number at v) = Unit {0}
Whole text (Key at k) = Unit {0}
Whole text (Sign at m) = Unit {0}

-- at the text's end the reader stands there
abbrev pub EndsAt : Next → ℕ → Type 0
EndsAt (End at) q = q ≡ at
EndsAt (Name x) q = Unit {0}
EndsAt (Number at v) q = Unit {0}
EndsAt (Key at k) q = Unit {0}
EndsAt (Sign at m) q = Unit {0}

-- whether it is the mark
abbrev pub is_mark : Mark → Next → Bool
is_mark m (End at) = false
is_mark m (Name x) = false
is_mark m (Number at v) = false
is_mark m (Key at k) = false
is_mark m (Sign at j) = mark_code j == mark_code m

-- whether it is the keyword
abbrev pub is_key : Keyword → Next → Bool
is_key k (End at) = false
is_key k (Name x) = false
is_key k (Number at v) = false
is_key k (Key at j) = key_code j == key_code k
is_key k (Sign at m) = false

-- whether it is a name
abbrev pub is_name : Next → Bool
is_name (End at) = false
is_name (Name x) = true
is_name (Number at v) = false
is_name (Key at k) = false
is_name (Sign at m) = false

-- whether it is a number
abbrev pub is_number : Next → Bool
is_number (End at) = false
is_number (Name x) = false
is_number (Number at v) = true
is_number (Key at k) = false
is_number (Sign at m) = false

-- whether it is a word of the symbol
abbrev pub is_word : Single → Next → Bool
is_word («the» k) n = is_key k n
is_word (sign m) n = is_mark m n
is_word a_name n = is_name n
is_word a_number n = is_number n

-- the span at a place, so long
abbrev pub span_at : ℕ → ℕ → Span
span_at p n = record { place = p; len = n }

-- what comes next, by the cursor's answer; e is where the text ends
abbrev pub next_of : ℕ → Option Token → Next
next_of e None = End e
next_of e (Some (token.Name w)) = Name (span_at w.place (length w.text.now))
next_of e (Some (token.Number w)) = Number w.place (figure_of w.text.now)
next_of e (Some (token.Key k w)) = Key w.place k
next_of e (Some (token.Sign m p)) = Sign p m

-- places and lengths are small, and so are numbers
abbrev pub TokenFits : Option Token → Type 0
TokenFits None = Unit {0}
TokenFits (Some (token.Name w)) = (w.place < 65536) × (length w.text.now < 65536)
TokenFits (Some (token.Number w)) = (w.place < 65536) × (size_of w.text.now ≤ largest)
TokenFits (Some (token.Key k w)) = w.place < 65536
TokenFits (Some (token.Sign m p)) = p < 65536
