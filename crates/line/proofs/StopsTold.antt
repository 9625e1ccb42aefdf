-- Stops are told apart by how they are written.
use Rattle.std.proofs.Common.{◌≡◌, ℕ, ◌^◌, ◌<◌, Bool, true, false, cond, eqb, List, [], ◌∷◌, ◌++◌, length, drop, codes, decimal, sym, refl, ap, ◌∙◌, append_assoc, arith, lit<}
use mathlib.Core.Option.{Option, none, some}
use lib.Signed.{mag}
use Rattle.std.specs.Fmt.{signed_decimal, digits}
use Rattle.std.proofs.lemmas.Fmt.{decimal_injective, signed_decimal_injective}
use Rattle.std.proofs.lemmas.Bool.{true≢false}
use Rattle.language.specs.Machine.{stop_number}
use Rattle.language.specs.Pantry.{Pantry, Lawful}
use Rattle.pantry.specs.declared.faults.NoAnswer.{NoAnswer as Fault}
use Rattle.job.specs.declared.reasons.Reason.{Reason}
use Rattle.job.specs.declared.reasons.Reason.TheVariants.{NoCell, NoFrame, TooLarge, DivideByZero, NoAnswer, NoRule}
use Rattle.line.specs.Laws.{StopFits}
use Rattle.line.specs.Lines.{steps_bytes, stop_bytes}
use Rattle.job.specs.Maps.{reason_of}
use Rattle.line.proofs.Pieces.{split, word-decimal, word-signed, word-name}
use Rattle.line.proofs.Stocked.{name_at, entry_named, entry-same}

pub steps-same : (n m : ℕ) → n < 2 ^ 32 → m < 2 ^ 32 → steps_bytes n ≡ steps_bytes m → n ≡ m
steps-same n m h k e =
    let a : n < 2 ^ 64 = omega arith in
    let b : m < 2 ^ 64 = omega arith in
    decimal_injective n m a b
    (split (decimal n) (decimal m) 10 10 [] [] (word-decimal n a).solid (word-decimal m b).solid refl refl (ap (drop 7) e)).0

-- the number of a stop, and what the pantry was asked for
abbrev pub number : Reason → ℕ
number s = stop_number (reason_of s)

abbrev pub asks : Reason → Option Fault
asks NoCell = none
asks NoFrame = none
asks TooLarge = none
asks DivideByZero = none
asks (NoAnswer f) = some f
asks NoRule = none

-- they make up the stop
rebuilt : ℕ → Option Fault → Reason
rebuilt n none = cond (eqb n 24) NoCell (cond (eqb n 25) NoFrame (cond (eqb n 26) TooLarge (cond (eqb n 27) DivideByZero NoRule)))
rebuilt n (some f) = NoAnswer f

stop-rebuilt : (s : Reason) → rebuilt (number s) (asks s) ≡ s
unfolding rebuilt
stop-rebuilt NoCell = refl
stop-rebuilt NoFrame = refl
stop-rebuilt TooLarge = refl
stop-rebuilt DivideByZero = refl
stop-rebuilt (NoAnswer f) = refl
stop-rebuilt NoRule = refl

abbrev there : Option Fault → Bool
there none = false
there (some f) = true

asks-28 : (s : Reason) → there (asks s) ≡ eqb (number s) 28
asks-28 NoCell = refl
asks-28 NoFrame = refl
asks-28 TooLarge = refl
asks-28 DivideByZero = refl
asks-28 (NoAnswer f) = refl
asks-28 NoRule = refl

pub number_small : (s : Reason) → number s < 2 ^ 64
number_small NoCell = lit< tt
number_small NoFrame = lit< tt
number_small TooLarge = lit< tt
number_small DivideByZero = lit< tt
number_small (NoAnswer f) = lit< tt
number_small NoRule = lit< tt

abbrev pub AskFits : Pantry → Option Fault → Type 0
AskFits p none = Unit {0}
AskFits p (some f) = (f.entry < length p) × (mag f.argument < 2 ^ 31)

pub ask-fits : (p : Pantry) (s : Reason) → StopFits p s → AskFits p (asks s)
ask-fits p NoCell h = tt
ask-fits p NoFrame h = tt
ask-fits p TooLarge h = tt
ask-fits p DivideByZero h = tt
ask-fits p (NoAnswer f) h = h
ask-fits p NoRule h = tt

-- what follows the number and a space
abbrev pub rest : Pantry → Option Fault → ℕ → List ℕ
rest p none n = codes "steps " ++ (decimal n ++ codes "\n")
rest p (some f) n = name_at p f.entry ++ (32 ∷ (signed_decimal f.argument ++ steps_bytes n))

pub stop-then : (p : Pantry) (s : Reason) (n : ℕ) → stop_bytes p s ++ steps_bytes n ≡ decimal (number s) ++ (32 ∷ rest p (asks s) n)
unfolding digits
stop-then p NoCell n = refl
stop-then p NoFrame n = refl
stop-then p TooLarge n = refl
stop-then p DivideByZero n = refl
stop-then p (NoAnswer f) n = ap (λ x. 50 ∷ 56 ∷ 32 ∷ x) (append_assoc (name_at p f.entry) (32 ∷ signed_decimal f.argument) (steps_bytes n))
stop-then p NoRule n = refl

fault-same : (f g : Fault) → f.entry ≡ g.entry → f.argument ≡ g.argument → f ≡ g
fault-same f g d e = ap (λ i. record { entry = i; argument = f.argument }) d ∙ ap (λ z. record { entry = g.entry; argument = z }) e

rest-same : (p : Pantry) (x y : Option Fault) (n m : ℕ) → Lawful p → there x ≡ there y → AskFits p x → AskFits p y →
    n < 2 ^ 32 → m < 2 ^ 32 → rest p x n ≡ rest p y m → (x ≡ y) × (n ≡ m)
rest-same p none none n m l t a b h k e = (refl, steps-same n m h k (ap (λ r. 32 ∷ r) e))
rest-same p none (some g) n m l t a b h k e = absurd (true≢false (sym t))
rest-same p (some f) none n m l t a b h k e = absurd (true≢false t)
rest-same p (some f) (some g) n m l t a b h k e =
    let first = (word-name (name_at p f.entry) (entry_named p f.entry a.0 l.named)).solid in
    let second = (word-name (name_at p g.entry) (entry_named p g.entry b.0 l.named)).solid in
    let i = split (name_at p f.entry) (name_at p g.entry) 32 32 _ _ first second refl refl e in
    let j = split (signed_decimal f.argument) (signed_decimal g.argument) 32 32 _ _ (word-signed f.argument a.1).solid
    (word-signed g.argument b.1).solid refl refl (ap (drop 1) i.1) in
    let entries = entry-same p f.entry g.entry a.0 b.0 l.apart i.0 in
    let arguments = signed_decimal_injective f.argument g.argument (omega (arith, a.1)) (omega (arith, b.1)) j.0 in
    (ap some (fault-same f g entries arguments), steps-same n m h k j.1)

pub stop-same : (p : Pantry) (s t : Reason) (n m : ℕ) → Lawful p → StopFits p s → StopFits p t → n < 2 ^ 32 → m < 2 ^ 32 →
    stop_bytes p s ++ steps_bytes n ≡ stop_bytes p t ++ steps_bytes m → (s ≡ t) × (n ≡ m)
stop-same p s t n m l a b h k e =
    let e1 = sym (stop-then p s n) ∙ e ∙ stop-then p t m in
    let i = split (decimal (number s)) (decimal (number t)) 32 32 _ _
    (word-decimal (number s) (number_small s)).solid (word-decimal (number t) (number_small t)).solid refl refl e1 in
    let numbers = decimal_injective (number s) (number t) (number_small s) (number_small t) i.0 in
    let both = asks-28 s ∙ ap (λ k. eqb k 28) numbers ∙ sym (asks-28 t) in
    let j = rest-same p (asks s) (asks t) n m l both (ask-fits p s a) (ask-fits p t b) h k (ap (drop 1) i.1) in
    (sym (stop-rebuilt s) ∙ ap (λ k. rebuilt k (asks s)) numbers ∙ ap (rebuilt (number t)) j.0 ∙ stop-rebuilt t, j.1)
