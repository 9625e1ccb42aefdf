-- The line is one line, with single spaces.
use Rattle.std.proofs.Common.{◌≡◌, ℕ, ◌^◌, ◌<◌, Bool, true, false, ◌||◌, eqb, List, [], ◌∷◌, ◌++◌, length, codes, decimal, refl, ap, ◌∙◌, arith}
use mathlib.Core.Option.{Option, none, some}
use Rattle.std.specs.Fmt.{signed_decimal}
use Rattle.std.proofs.lemmas.Bool.{true≢false}
use Rattle.language.specs.Pantry.{Pantry, Lawful}
use Rattle.language.specs.Typing.{ExpandedType, int, bool, hidden, ◌⇒◌}
use Rattle.pantry.specs.declared.faults.NoAnswer.{NoAnswer as Fault}
use Rattle.line.specs.declared.outcomes.Outcome.TheVariants.{Done, Going, Stopped, Refused}
use Rattle.line.specs.Laws.{Named, spaced, OneLine}
use Rattle.line.specs.Lines.{steps_bytes, value_bytes, layer_bytes, refusal_bytes}
use Rattle.line.specs.Types.{type_bytes}
use Rattle.line.proofs.Pieces.{Solid, Word, word-known, word-decimal, word-signed, word-name}
use Rattle.line.proofs.Stocked.{entry_named, name_at}
use Rattle.line.proofs.TypesTold.{hidden-then, arrow-then}
use Rattle.line.proofs.StopsTold.{number, asks, number_small, AskFits, ask-fits, rest, stop-then}
use Rattle.line.proofs.LineTells.{word_value, word-layer}

-- neither a space nor LF
plain : (x y z : Bool) → (x || (y || z)) ≡ false → (x ≡ false) × (y ≡ false)
plain true y z h = absurd (true≢false h)
plain false true z h = absurd (true≢false h)
plain false false z h = (refl, refl)

goes_on : (w r : List ℕ) → Solid w → spaced true (w ++ r) ≡ spaced true r
goes_on [] r h = refl
goes_on (b ∷ bs) r h = let p = plain (eqb b 32) (eqb b 10) (eqb b 41) h.0 in rw (p.0, p.1) (goes_on bs r h.1)

-- a word goes on or begins
word-then : (g : Bool) (w r : List ℕ) → Word w → spaced g (w ++ r) ≡ spaced true r
word-then true w r h = goes_on w r h.solid
word-then false w r h = begins w h.some h.solid
  where
    begins : (w : List ℕ) → 0 < length w → Solid w → spaced false (w ++ r) ≡ spaced true r
    begins [] l q = absurd (omega arith)
    begins (b ∷ bs) l q =
        let p = plain (eqb b 32) (eqb b 10) (eqb b 41) q.0 in rw (p.0, p.1) (goes_on bs r q.1)

type-then : (a : ExpandedType) (g : Bool) (r : List ℕ) → Named a → spaced g (type_bytes a ++ r) ≡ spaced true r
type-then int g r p = word-then g (codes "int") r (word-known _ _ refl)
type-then bool g r p = word-then g (codes "bool") r (word-known _ _ refl)
type-then (hidden m t) g r p =
    ap (spaced g) (hidden-then m t r)
    ∙ word-then g (codes "from") (32 ∷ (m ++ (codes " take " ++ (t ++ r)))) (word-known _ _ refl)
    ∙ word-then false m (codes " take " ++ (t ++ r)) (word-name m p.0)
    ∙ word-then false t r (word-name t p.1)
type-then (a ⇒ b) g r p =
    ap (spaced g) (arrow-then a b r)
    ∙ word-then g (codes "(") (type_bytes a ++ (codes " -> " ++ (type_bytes b ++ (41 ∷ r)))) (word-known _ _ refl)
    ∙ type-then a true (codes " -> " ++ (type_bytes b ++ (41 ∷ r))) p.0
    ∙ type-then b false (41 ∷ r) p.1

steps-end : (n : ℕ) → n < 2 ^ 32 → spaced true (steps_bytes n) ≡ true
steps-end n h = word-then false (decimal n) (codes "\n") (word-decimal n (omega arith))

rest_end : (p : Pantry) (x : Option Fault) (n : ℕ) → Lawful p → AskFits p x → n < 2 ^ 32 → spaced false (rest p x n) ≡ true
rest_end p none n l a h = steps-end n h
rest_end p (some f) n l a h =
    word-then false (name_at p f.entry) (32 ∷ (signed_decimal f.argument ++ steps_bytes n))
    (word-name (name_at p f.entry) (entry_named p f.entry a.0 l.named))
    ∙ word-then false (signed_decimal f.argument) (steps_bytes n) (word-signed f.argument a.1)
    ∙ steps-end n h

pub one_line : OneLine
unfolding refusal_bytes
one_line p a (Done v n) l s f =
    type-then a false (32 ∷ (value_bytes a v ++ steps_bytes n)) s
    ∙ word-then false (value_bytes a v) (steps_bytes n) (word_value a v f.0)
    ∙ steps-end n f.1
one_line p a (Going n) l s f = steps-end n f
one_line p a (Stopped x n) l s f =
    ap (spaced false) (stop-then p x n)
    ∙ word-then false (decimal (number x)) (32 ∷ rest p (asks x) n) (word-decimal (number x) (number_small x))
    ∙ rest_end p (asks x) n l (ask-fits p x f.0) f.1
one_line p a (Refused r) l s f =
    word-then false (decimal r.number) (codes " at " ++ (decimal r.place ++ (codes " by " ++ (layer_bytes r.layer ++ codes "\n"))))
    (word-decimal r.number (omega (arith, f.0)))
    ∙ word-then false (decimal r.place) (codes " by " ++ (layer_bytes r.layer ++ codes "\n")) (word-decimal r.place f.1)
    ∙ word-then false (layer_bytes r.layer) (codes "\n") (word-layer r.layer)
