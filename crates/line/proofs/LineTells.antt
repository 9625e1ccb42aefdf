-- The line tells the outcome.
use Rattle.std.proofs.Common.{◌≡◌, ℕ, ◌^◌, ◌<◌, true, false, cond, eqb, ◌∷◌, ◌++◌, get_or, drop, ℤ, codes, decimal, sym, refl, ap, ◌∙◌, arith}
use mathlib.Core.Option.{some}
use lib.Signed.{mag}
use Rattle.std.specs.Fmt.{signed_decimal}
use Rattle.std.proofs.lemmas.Fmt.{decimal_injective, signed_decimal_injective}
use Rattle.language.specs.Typing.{ExpandedType, int, bool, hidden, ◌⇒◌}
use Rattle.line.specs.declared.outcomes.Value.{Value}
use Rattle.line.specs.declared.outcomes.Value.TheVariants.{Integer, Boolean, Procedure}
use Rattle.line.specs.declared.outcomes.Layer.{Layer}
use Rattle.line.specs.declared.outcomes.Layer.TheVariants as layer
use Rattle.line.specs.declared.outcomes.Refusal.{Refusal}
use Rattle.line.specs.declared.outcomes.Outcome.TheVariants.{Done, Going, Stopped, Refused}
use Rattle.line.specs.Laws.{Named, ValueFits, seen, LineTells}
use Rattle.line.specs.Lines.{value_bytes, steps_bytes, layer_bytes, refusal_bytes}
use Rattle.line.specs.Types.{type_bytes}
use Rattle.line.proofs.Pieces.{Word, word-known, split, word-decimal, word-signed, signed-head}
use Rattle.line.proofs.TypesTold.{apart, type-split}
use Rattle.line.proofs.StopsTold.{steps-same, stop-same}

-- ── values ──

pub word_value : (a : ExpandedType) (v : Value) → ValueFits v → Word (value_bytes a v)
word_value int (Integer z) h = word-signed z h
word_value int (Boolean b) h = word-known _ _ refl
word_value int Procedure h = word-known _ _ refl
word_value bool (Integer z) h = word-known _ _ refl
word_value bool (Boolean true) h = word-known _ _ refl
word_value bool (Boolean false) h = word-known _ _ refl
word_value bool Procedure h = word-known _ _ refl
word_value (hidden m t) v h = word-known _ _ refl
word_value (a ⇒ b) v h = word-known _ _ refl

-- no integer is written as `hidden`
integer-shown : {A : Type 0} (z : ℤ) → mag z < 2 ^ 31 → signed_decimal z ≡ codes "hidden" → A
integer-shown z h e = apart _ _ e (λ k. omega (arith, signed-head z h))

value_same : (a : ExpandedType) (v w : Value) → ValueFits v → ValueFits w → value_bytes a v ≡ value_bytes a w → seen a v ≡ seen a w
value_same int (Integer z) (Integer y) h k e = ap Integer (signed_decimal_injective z y (omega arith) (omega arith) e)
value_same int (Integer z) (Boolean b) h k e = integer-shown z h e
value_same int (Integer z) Procedure h k e = integer-shown z h e
value_same int (Boolean b) (Integer z) h k e = integer-shown z k (sym e)
value_same int (Boolean b) (Boolean c) h k e = refl
value_same int (Boolean b) Procedure h k e = refl
value_same int Procedure (Integer z) h k e = integer-shown z k (sym e)
value_same int Procedure (Boolean b) h k e = refl
value_same int Procedure Procedure h k e = refl
value_same bool (Integer z) (Integer y) h k e = refl
value_same bool (Integer z) (Boolean true) h k e = apart _ _ e (λ z. omega arith)
value_same bool (Integer z) (Boolean false) h k e = apart _ _ e (λ z. omega arith)
value_same bool (Integer z) Procedure h k e = refl
value_same bool (Boolean true) (Integer z) h k e = apart _ _ e (λ z. omega arith)
value_same bool (Boolean false) (Integer z) h k e = apart _ _ e (λ z. omega arith)
value_same bool (Boolean true) (Boolean true) h k e = refl
value_same bool (Boolean true) (Boolean false) h k e = apart _ _ e (λ z. omega arith)
value_same bool (Boolean false) (Boolean true) h k e = apart _ _ e (λ z. omega arith)
value_same bool (Boolean false) (Boolean false) h k e = refl
value_same bool (Boolean true) Procedure h k e = apart _ _ e (λ z. omega arith)
value_same bool (Boolean false) Procedure h k e = apart _ _ e (λ z. omega arith)
value_same bool Procedure (Integer z) h k e = refl
value_same bool Procedure (Boolean true) h k e = apart _ _ e (λ z. omega arith)
value_same bool Procedure (Boolean false) h k e = apart _ _ e (λ z. omega arith)
value_same bool Procedure Procedure h k e = refl
value_same (hidden m t) v w h k e = refl
value_same (a ⇒ b) v w h k e = refl

-- ── refusals ──

pub word-layer : (l : Layer) → Word (layer_bytes l)
word-layer layer.Words = word-known _ _ refl
word-layer layer.Grammar = word-known _ _ refl
word-layer layer.Check = word-known _ _ refl
word-layer layer.Items = word-known _ _ refl
word-layer layer.Line = word-known _ _ refl

-- a layer is told by its first letter
layer_for : ℕ → Layer
layer_for n =
    cond (eqb n 119) layer.Words (cond (eqb n 103) layer.Grammar (cond (eqb n 99) layer.Check (cond (eqb n 105) layer.Items layer.Line)))

layer-told : (l : Layer) → layer_for (get_or (layer_bytes l) 0 0) ≡ l
unfolding layer_for
layer-told layer.Words = refl
layer-told layer.Grammar = refl
layer-told layer.Check = refl
layer-told layer.Items = refl
layer-told layer.Line = refl

layer-same : (l k : Layer) → layer_bytes l ≡ layer_bytes k → l ≡ k
layer-same l k e = sym (layer-told l) ∙ ap (λ bs. layer_for (get_or bs 0 0)) e ∙ layer-told k

refusal-parts : (r s : Refusal) → r.number ≡ s.number → r.place ≡ s.place → r.layer ≡ s.layer → r ≡ s
refusal-parts r s d e f =
    ap (λ n. record { number = n; place = r.place; layer = r.layer }) d
    ∙ ap (λ n. record { number = s.number; place = n; layer = r.layer }) e
    ∙ ap (λ l. record { number = s.number; place = s.place; layer = l }) f

refusal-same : (r s : Refusal) → (r.number < 2 ^ 8) × (r.place < 2 ^ 64) → (s.number < 2 ^ 8) × (s.place < 2 ^ 64) →
    refusal_bytes r ≡ refusal_bytes s → r ≡ s
unfolding refusal_bytes
refusal-same r s h k e =
    let x : r.number < 2 ^ 64 = omega (arith, h.0) in
    let y : s.number < 2 ^ 64 = omega (arith, k.0) in
    let i = split (decimal r.number) (decimal s.number) 32 32 _ _ (word-decimal r.number x).solid
    (word-decimal s.number y).solid refl refl (ap (drop 8) e) in
    let j = split (decimal r.place) (decimal s.place) 32 32 _ _ (word-decimal r.place h.1).solid
    (word-decimal s.place k.1).solid refl refl (ap (drop 4) i.1) in
    let l = split (layer_bytes r.layer) (layer_bytes s.layer) 10 10 _ _ (word-layer r.layer).solid
    (word-layer s.layer).solid refl refl (ap (drop 4) j.1) in
    refusal-parts r s (decimal_injective r.number s.number x y i.0) (decimal_injective r.place s.place h.1 k.1 j.0)
    (layer-same r.layer s.layer l.0)

-- ── the whole line ──

done-same : (a b : ExpandedType) (v w : Value) (n m : ℕ) → Named a → Named b → ValueFits v → ValueFits w → n < 2 ^ 32 → m < 2 ^ 32 →
    type_bytes a ++ (32 ∷ (value_bytes a v ++ steps_bytes n)) ≡ type_bytes b ++ (32 ∷ (value_bytes b w ++ steps_bytes m)) →
    (a ≡ b) × (seen a v ≡ seen b w) × (n ≡ m)
done-same a b v w n m p q f g h k e =
    let i = type-split a b 32 32 _ _ p q refl refl e in
    let same : a ≡ b = i.0 in
    let j = split (value_bytes a v) (value_bytes b w) 32 32 _ _ (word_value a v f).solid (word_value b w g).solid refl refl
    (ap (drop 1) i.1) in
    let values : value_bytes a v ≡ value_bytes a w = j.0 ∙ ap (λ t. value_bytes t w) (sym same) in
    (same, value_same a v w f g values ∙ ap (λ t. seen t w) same, steps-same n m h k j.1)

pub line-tells : LineTells
unfolding refusal_bytes
line-tells p a b (Done v n) (Done w m) l s t f g e =
    let i = done-same a b v w n m s t f.0 g.0 f.1 g.1 (ap (drop 5) e) in
    let values = i.1 in
    let steps = i.2 in
    (ap some i.0, cc)
line-tells p a b (Done v n) (Going m) l s t f g e = apart _ _ e (λ z. omega arith)
line-tells p a b (Done v n) (Stopped y m) l s t f g e = apart _ _ e (λ z. omega arith)
line-tells p a b (Done v n) (Refused r) l s t f g e = apart _ _ e (λ z. omega arith)
line-tells p a b (Going n) (Done w m) l s t f g e = apart _ _ e (λ z. omega arith)
line-tells p a b (Going n) (Going m) l s t f g e = (refl, ap Going (steps-same n m f g (ap (drop 5) e)))
line-tells p a b (Going n) (Stopped y m) l s t f g e = apart _ _ e (λ z. omega arith)
line-tells p a b (Going n) (Refused r) l s t f g e = apart _ _ e (λ z. omega arith)
line-tells p a b (Stopped x n) (Done w m) l s t f g e = apart _ _ e (λ z. omega arith)
line-tells p a b (Stopped x n) (Going m) l s t f g e = apart _ _ e (λ z. omega arith)
line-tells p a b (Stopped x n) (Stopped y m) l s t f g e =
    let i = stop-same p x y n m l f.0 g.0 f.1 g.1 (ap (drop 5) e) in
    let stops = i.0 in
    let steps = i.1 in
    (refl, cc)
line-tells p a b (Stopped x n) (Refused r) l s t f g e = apart _ _ e (λ z. omega arith)
line-tells p a b (Refused x) (Done w m) l s t f g e = apart _ _ e (λ z. omega arith)
line-tells p a b (Refused x) (Going m) l s t f g e = apart _ _ e (λ z. omega arith)
line-tells p a b (Refused x) (Stopped y m) l s t f g e = apart _ _ e (λ z. omega arith)
line-tells p a b (Refused x) (Refused r) l s t f g e = (refl, ap Refused (refusal-same x r f g e))
