-- The class of each byte value: the rule that the table keeps. Assumes nothing.
use Rattle.std.specs.Prelude.{ℕ, zero, suc, ◌/◌, ◌%◌, Bool, true, cond, ◌&&◌, ◌||◌, List, [], ◌==◌, nat_le, slice_index_or}
use Rattle.words.specs.declared.classes.Class.{Class}
use Rattle.words.specs.declared.classes.Class.TheVariants.{None, Blank, Percent, Letter, Digit, Dash, Query, Mark}

-- the byte lies between two others, or is one of them
abbrev pub between : ℕ → ℕ → ℕ → Bool
between low high b = nat_le low b && nat_le b high

-- space, tab, CR and LF
abbrev pub blank : ℕ → Bool
blank b = b == 32 || b == 9 || b == 13 || b == 10

-- A to Z and a to z
abbrev pub letter : ℕ → Bool
letter b = between 65 90 b || between 97 122 b

-- 0 to 9
abbrev pub digit : ℕ → Bool
digit b = between 48 57 b

-- ( ) * + , / : = [ ]
abbrev pub mark : ℕ → Bool
mark b = between 40 44 b || b == 47 || b == 58 || b == 61 || b == 91 || b == 93

-- the class of a byte; 37 is %, 45 is - and 63 is ?
abbrev pub class_of : ℕ → Class
class_of b =
    cond (blank b) Blank (cond (b == 37) Percent (cond (letter b) Letter (cond (digit b) Digit
    (cond (b == 45) Dash (cond (b == 63) Query (cond (mark b) Mark None))))))

-- the classes in their order
abbrev pub rank : Class → ℕ
rank None = 0
rank Blank = 1
rank Percent = 2
rank Letter = 3
rank Digit = 4
rank Dash = 5
rank Query = 6
rank Mark = 7

-- two classes are the same
abbrev pub is_class : Class → Class → Bool
is_class k c = rank k == rank c

-- a test passes at each number below n
abbrev pub passes : (ℕ → Bool) → ℕ → Bool
passes f zero = true
passes f (suc n) = f n && passes f n

-- the class that a table of sixteen rows has for a byte
abbrev pub entry : List (List Class) → ℕ → Class
entry rows b = slice_index_or (slice_index_or rows (b / 16) []) (b % 16) None

-- the table is right at every byte value from 0 to 255
abbrev pub keeps_rule : List (List Class) → Bool
keeps_rule rows = passes (λ b. is_class (entry rows b) (class_of b)) 256
