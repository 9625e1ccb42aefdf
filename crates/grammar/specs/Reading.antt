-- Reading a sheet: from the words, asked for one at a time, the sheet or the one refusal. Assumes nothing.
use Rattle.std.specs.Prelude.{ℕ, zero, suc, ◌+◌, cond, List, [], ◌∷◌, length, nat_le, nat_lt}
use Rattle.std.proofs.Math.Option.{Option, none, some}
use Rattle.words.specs.declared.keywords.Keyword.TheVariants as kw
use Rattle.words.specs.declared.marks.Mark.TheVariants as mk
use Rattle.words.specs.Words.{Kind, figure_of, scan, start}
use Rattle.words.specs.Words as words
use Rattle.grammar.specs.Syntax.{Module, Sheet, inner_m, places}
use Rattle.grammar.specs.Productions.{Word, place_of, Single, Held, takes, Sort, an_exp, a_module, Part, inner, Symbol, one, part, parts}
use Rattle.grammar.specs.Productions.{Values, first, rest, build, Opening, chosen, «the»}
use Rattle.grammar.specs.Productions as p

-- The outcome of reading an A from a place on: a refusal with its number and its place, or the A and the place behind it.
pub data Out (A : Type 0) : Type 0 where
  bad : (number at : ℕ) → Out A
  good : A → ℕ → Out A

-- one reading, then the next
abbrev pub bind : {A B : Type 0} → Out A → (A → ℕ → Out B) → Out B
bind (bad k at) f = bad k at
bind (good a q) f = f a q

-- What stands at or behind a place: the end, at a place, or a word and the place behind it, or an unlawful word's fault.
pub data Step : Type 0 where
  end : (at : ℕ) → Step
  word : (w : Word) (behind : ℕ) → Step
  fault : (number at : ℕ) → Step

-- A source of words. All of this page speaks of any source; `steps text` is that of a text.
abbrev pub Source : Type 0
Source = ℕ → Step

-- a word of the text, by its kind
abbrev pub word_of : Kind → ℕ → List ℕ → Word
word_of words.name at w = p.name (record { place = at; bytes = w })
word_of words.number at w = p.number at (figure_of w)
word_of (words.keyword k) at w = p.key at k
word_of (words.mark m) at w = p.mark at m

-- what the scan of the text says; e is where it stands
abbrev pub step_of : ℕ → words.Reading → Step
step_of e words.end = end e
step_of e (words.word k at w) = word (word_of k at w) (at + length w)
step_of e (words.fault k at) = fault k at

-- the words of a text
unfoldable pub steps : List ℕ → Source
steps text at = step_of (start text at) (scan text at)

-- a word that the symbol takes, or refusal 5 there
abbrev pub held : {A : Type 0} → Option A → ℕ → ℕ → Out A
held none at q = bad 5 at
held (some h) at q = good h q

-- the same, of what stands there
abbrev pub single_of : (m : Single) → Step → Out (Held m)
single_of m (end e) = bad 5 e
single_of m (fault k e) = bad k e
single_of m (word w q) = held (takes m w) (place_of w) q

-- one word for a symbol
unfoldable pub single : (m : Single) → Source → ℕ → Out (Held m)
single m next p = single_of m (next p)

-- the beginning of a part: its form by its first word, or refusal 5 there
abbrev pub opened : {A B : Type 0} → Option A → ℕ → (A → Out B) → Out B
opened none at k = bad 5 at
opened (some o) at k = k o

-- the same, of what stands there
abbrev pub opening_of : {B : Type 0} (s : Sort) → Step → (Opening s → ℕ → ℕ → Out B) → Out B
opening_of s (end e) k = bad 5 e
opening_of s (fault n e) k = bad n e
opening_of s (word w q) k = opened (chosen s w) (place_of w) (λ o. k o (place_of w) q)

-- whether the word closes a list of parts, and the place behind it
abbrev pub closes : Step → Option ℕ
closes (end e) = none
closes (fault k e) = none
closes (word (p.name x) q) = none
closes (word (p.number at v) q) = none
closes (word (p.key at k) q) = none
closes (word (p.mark at mk.End) q) = some q
closes (word (p.mark at mk.Open) q) = none
closes (word (p.mark at mk.Shut) q) = none
closes (word (p.mark at mk.Begin) q) = none
closes (word (p.mark at mk.Comma) q) = none
closes (word (p.mark at mk.Colon) q) = none
closes (word (p.mark at mk.Equal) q) = none
closes (word (p.mark at mk.Arrow) q) = none
closes (word (p.mark at mk.Plus) q) = none
closes (word (p.mark at mk.Minus) q) = none
closes (word (p.mark at mk.Times) q) = none
closes (word (p.mark at mk.Over) q) = none

-- a part a, at the place `at`, that takes the place u of a tree of n places, or refusal 21 there
abbrev pub room : {A : Type 0} → ℕ → ℕ → ℕ → A → ℕ → Out A
room n u at a q = cond (nat_lt u n) (good a q) (bad 21 at)

-- nothing more behind the `]`
abbrev pub many_of : {A : Type 0} → Option ℕ → Out (List A) → Out (List A)
many_of none o = o
many_of (some q) o = good [] q

-- Parts up to a `]`, laid from the place u on. Each takes a place, so that `fuel`, the tree's places and one more, does not end before
-- the places.
unfoldable pub many : {A : Type 0} → ℕ → (A → ℕ) → (ℕ → ℕ → Out A) → Source → ℕ → ℕ → Out (List A)
many zero size rd next u p = bad 21 p
many (suc fuel) size rd next u p =
    many_of (closes (next p))
    (bind (rd u p) (λ a q. bind (many fuel size rd next (u + (size a + 1)) q) (λ r q. good (a ∷ r) q)))

-- Symbols in order, from the place p on, laid from the place u on; k goes on with their values, the next free place and the place behind
-- them.
abbrev pub in_order : {B : Type 0} → Source → ℕ → ((s : Sort) → ℕ → ℕ → Out (Part s)) → (ss : List Symbol) → ℕ → ℕ
    → (Values ss → ℕ → ℕ → Out B) → Out B
in_order next n rd [] u p k = k tt u p
in_order next n rd (one m ∷ ss) u p k = bind (single m next p) (λ h q. in_order next n rd ss u q (λ v. k (h, v)))
in_order next n rd (part s ∷ ss) u p k = bind (rd s u p) (λ a q. in_order next n rd ss (u + (inner s a + 1)) q (λ v. k (a, v)))
in_order next n rd (parts s ∷ ss) u p k = bind (many (suc n) (inner s) (rd s) next u p) (λ r q. in_order next n rd ss
    (u + places (inner s) r) q (λ v. k (r, v)))

-- A part by its form, whose first word stands at `at`, from the place q behind that word on.
abbrev pub formed : Source → ℕ → ((s : Sort) → ℕ → ℕ → Out (Part s)) → (s : Sort) → ℕ → Opening s → ℕ → ℕ → Out (Part s)
formed next n rd s u o at q = in_order next n rd (rest s o.0) u q (λ v u q. room n u at (build s at o.0 o.1 v) q)

-- A part, at most `levels` deep, from the place p on, laid from the place u of n places on.
unfoldable pub read_part : ℕ → Source → ℕ → (s : Sort) → ℕ → ℕ → Out (Part s)
read_part zero next n s u p = opening_of s (next p) (λ o at q. bad 6 at)
read_part (suc levels) next n s u p = opening_of s (next p) (formed next n (read_part levels next n) s u)

-- the same, by what stands there
abbrev pub part_from : ℕ → Source → ℕ → (s : Sort) → ℕ → Step → Out (Part s)
part_from zero next n s u st = opening_of s st (λ o at q. bad 6 at)
part_from (suc levels) next n s u st = opening_of s st (formed next n (read_part levels next n) s u)

-- Types and expressions nest 48 levels; a declaration or a definition stands around them, and a module around these.
abbrev pub levels : ℕ
levels = 48

-- a sheet behind which the text ends
abbrev pub ended : Step → Sheet → Out Sheet
ended (end e) s = good s e
ended (fault k e) s = bad k e
ended (word w q) s = bad 5 (place_of w)

-- the closing expression, behind which the text ends
abbrev pub closed : Source → ℕ → ℕ → ℕ → Out Sheet
closed next n u p = bind (read_part levels next n an_exp u p) (λ e q. ended (next q) (record { modules = []; closing = e }))

-- one more module in front
abbrev pub add_module : Module → Sheet → Sheet
add_module m s = record { modules = m ∷ s.modules; closing = s.closing }

-- whether a module begins here, and at which place
abbrev pub begins_module : Step → Option ℕ
begins_module (end e) = none
begins_module (fault k e) = none
begins_module (word w q) = p.first_of (takes («the» kw.Module) w) (λ h. place_of w) none

-- a module, if one begins here
abbrev pub or_else : {A : Type 0} → Option ℕ → (ℕ → Out A) → Out A → Out A
or_else none f o = o
or_else (some at) f o = f at

-- Modules, as many as may still come, and the closing expression.
unfoldable pub sheet_from : ℕ → Source → ℕ → ℕ → ℕ → Out Sheet
sheet_from zero next n u p = or_else (begins_module (next p)) (λ at. bad 7 at) (closed next n u p)
sheet_from (suc modules) next n u p =
    or_else (begins_module (next p))
    (λ at. bind (read_part (suc (suc levels)) next n a_module u p) (λ m q. bind (sheet_from modules next n (u + (inner_m m + 1)) q)
    (λ s q. good (add_module m s) q)))
    (closed next n u p)

-- THE READING of a text with a tree of n places: the sheet, or the one refusal.
unfoldable pub reading : ℕ → List ℕ → Out Sheet
reading n text = cond (nat_le (length text) 32768) (sheet_from 32 (steps text) n 0 0) (bad 1 32768)
