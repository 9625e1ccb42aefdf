-- A line falls apart at its spaces in one way only.
use Rattle.std.proofs.Common.{◌≡◌, ℕ, suc, ◌+◌, ◌%◌, ◌^◌, ◌<◌, ◌≤◌, Bool, true, false, cond, not, ◌&&◌, ◌||◌, eqb, List, [], ◌∷◌, ◌++◌, length, get_or, ℤ, pos, negsuc, decimal, sym, refl, ap, ◌∙◌, arith}
use lib.Signed.{mag}
use Rattle.std.specs.Fmt.{signed_decimal}
use Rattle.std.proofs.lemmas.Fmt.{decimal_by_steps, decimal_nonempty}
use Rattle.std.proofs.lemmas.Bool.{true≢false, eqb-true, and_parts}
use Rattle.std.proofs.lemmas.Bool.Decides.{nat_tests}
use Rattle.words.specs.Classes.{class_of}
use Rattle.words.specs.Names.{is_name, begins_name}
use Rattle.words.specs.Words.{goes, name_run}

-- a word ends at a space, at LF and at a closing parenthesis
abbrev pub ends : ℕ → Bool
ends b = eqb b 32 || (eqb b 10 || eqb b 41)

-- no word ends within these bytes
abbrev pub Solid : List ℕ → Type 0
Solid [] = Unit {0}
Solid (b ∷ bs) = (ends b ≡ false) × Solid bs

-- some bytes within which no word ends
pub record Word (w : List ℕ) : Type 0 where
  pub some : 0 < length w
  pub solid : Solid w

-- whether known bytes are so
abbrev solid : List ℕ → Bool
solid [] = true
solid (b ∷ bs) = not (ends b) && solid bs

solid-known : (xs : List ℕ) → solid xs ≡ true → Solid xs
solid-known [] h = tt
solid-known (b ∷ bs) h =
    let p = and_parts (not (ends b)) (solid bs) h in
    (not-true (ends b) p.0, solid-known bs p.1)
  where
    not-true : (x : Bool) → not x ≡ true → x ≡ false
    not-true true q = sym q
    not-true false q = refl

pub word-known : (b : ℕ) (bs : List ℕ) → solid (b ∷ bs) ≡ true → Word (b ∷ bs)
word-known b bs h = record { some = omega arith; solid = solid-known (b ∷ bs) h }

pub split : (xs ys : List ℕ) (c d : ℕ) (r s : List ℕ) → Solid xs → Solid ys → ends c ≡ true → ends d ≡ true →
    xs ++ (c ∷ r) ≡ ys ++ (d ∷ s) → (xs ≡ ys) × (c ∷ r ≡ d ∷ s)
split [] [] c d r s p q h k e = (refl, e)
split [] (y ∷ ys) c d r s p q h k e = let m : c ≡ y = cc in absurd (true≢false (sym h ∙ ap ends m ∙ q.0))
split (x ∷ xs) [] c d r s p q h k e = let m : d ≡ x = cc in absurd (true≢false (sym k ∙ ap ends m ∙ p.0))
split (x ∷ xs) (y ∷ ys) c d r s p q h k e =
    let m : x ≡ y = cc in
    let t : xs ++ (c ∷ r) ≡ ys ++ (d ∷ s) = cc in
    let i = split xs ys c d r s p.1 q.1 h k t in
    let j = i.0 in
    (cc, i.1)

-- ── numbers ──

-- each byte is a digit
abbrev Digits : List ℕ → Type 0
Digits [] = Unit {0}
Digits (b ∷ bs) = (48 ≤ b) × (b ≤ 57) × Digits bs

digits_push : (ds : List ℕ) (b : ℕ) → Digits ds → 48 ≤ b → b ≤ 57 → Digits (ds ++ (b ∷ []))
digits_push [] b p h k = (h, k, tt)
digits_push (d ∷ ds) b p h k = (p.0, p.1, digits_push ds b p.2 h k)

digits_decimal : (n : ℕ) → n < 2 ^ 64 → Digits (decimal n)
digits_decimal n h =
    decimal_by_steps (λ _ ds. Digits ds) (λ m l. (omega arith, omega arith, tt))
    (λ m ds l p. digits_push ds (48 + m % 10) p (omega arith) (omega arith)) n h

ends-not : (b : ℕ) → 42 ≤ b → ends b ≡ false
ends-not b h = grind (arith, nat_tests)

digits-solid : (ds : List ℕ) → Digits ds → Solid ds
digits-solid [] p = tt
digits-solid (d ∷ ds) p = (ends-not d (omega (arith, p.0)), digits-solid ds p.2)

pub word-decimal : (n : ℕ) → n < 2 ^ 64 → Word (decimal n)
word-decimal n h = record { some = decimal_nonempty n h; solid = digits-solid (decimal n) (digits_decimal n h) }

digits-head : (ds : List ℕ) → Digits ds → get_or ds 0 0 ≤ 57
digits-head [] p = omega arith
digits-head (d ∷ ds) p = p.1

pub signed-head : (z : ℤ) → mag z < 2 ^ 31 → get_or (signed_decimal z) 0 0 ≤ 57
signed-head (pos n) h = digits-head (decimal n) (digits_decimal n (omega arith))
signed-head (negsuc n) h = omega arith

pub word-signed : (z : ℤ) → mag z < 2 ^ 31 → Word (signed_decimal z)
word-signed (pos n) h = word-decimal n (omega arith)
word-signed (negsuc n) h = record { some = omega arith; solid = (refl, (word-decimal (suc n) (omega arith)).solid) }

-- ── names ──

goes_on : (b : ℕ) (bs : List ℕ) → goes (class_of b) bs ≡ true → ends b ≡ false
goes_on b bs h = go (eqb b 32) (eqb b 10) (eqb b 41) refl refl refl
  where
    go : (x y z : Bool) → eqb b 32 ≡ x → eqb b 10 ≡ y → eqb b 41 ≡ z → (x || (y || z)) ≡ false
    go true y z e f g = absurd (true≢false (sym h ∙ ap (λ c. goes (class_of c) bs) (eqb-true b 32 e)))
    go false true z e f g = absurd (true≢false (sym h ∙ ap (λ c. goes (class_of c) bs) (eqb-true b 10 f)))
    go false false true e f g = absurd (true≢false (sym h ∙ ap (λ c. goes (class_of c) bs) (eqb-true b 41 g)))
    go false false false e f g = refl

run-solid : (x : List ℕ) → name_run x ≡ length x → Solid x
run-solid [] h = tt
run-solid (b ∷ bs) h = go (goes (class_of b) bs) refl h (run-solid bs)
  where
    go : (g : Bool) → goes (class_of b) bs ≡ g → cond g (1 + name_run bs) 0 ≡ suc (length bs) → (name_run bs ≡ length bs → Solid bs) →
        Solid (b ∷ bs)
    go true e k more = (goes_on b bs e, more (omega arith))
    go false e k more = absurd (omega arith)

begun : (x : List ℕ) → begins_name x ≡ true → 0 < length x
begun [] h = absurd (true≢false (sym h))
begun (b ∷ bs) h = omega arith

pub word-name : (x : List ℕ) → is_name x ≡ true → Word x
unfolding is_name
word-name x h =
    let parts = and_parts (begins_name x) _ h in
    let run = (and_parts (eqb (name_run x) (length x)) _ parts.1).0 in
    record { some = begun x parts.0; solid = run-solid x (eqb-true (name_run x) (length x) run) }
