-- Names: when two are the same, and which are keywords. Nothing above uses what a key is, so that another rule of sameness is one
-- definition and its laws.
use Rattle.std.specs.Prelude.{ℕ, Bool, false, ◌&&◌, List, [], ◌∷◌, length, is_some, ◌==◌, nat_le}
use Rattle.std.specs.Str.{bytes_eq}
use Rattle.words.specs.Classes.{class_of}
use Rattle.words.specs.Spelling.{keyword_of}
use Rattle.words.specs.Words.{is_letter, name_run}

-- a name is its bytes
abbrev pub Name : Type 0
Name = List ℕ

-- what counts of a name's spelling: all of it
unfoldable pub key : Name → Name
key x = x

-- two names are the same when their keys are
unfoldable pub same_name : Name → Name → Bool
same_name x y = bytes_eq (key x) (key y)

-- the bytes spell a keyword
unfoldable pub is_keyword : Name → Bool
is_keyword x = is_some (keyword_of x)

-- the first byte is a letter
abbrev pub begins_name : Name → Bool
begins_name [] = false
begins_name (b ∷ bs) = is_letter (class_of b)

-- the bytes spell a name (or a keyword): a letter, then bytes that go on with a name, at most 16 in all
unfoldable pub is_name : Name → Bool
is_name x = begins_name x && (name_run x == length x && nat_le (length x) 16)
