-- The places of a table that count, lent and given back.
use Rattle.std.proofs.Common.{◌≡◌, ℕ, ◌<◌, ◌≤◌, min, List, ◌++◌, length, take, drop, replicate, sym, ap, ◌∙◌, subst, ⊎_elim, eq-or-lt_of_le, arith, length-take}
use Rattle.std.proofs.lemmas.List.{take_all, drop_all, take_at, append-nil, length-replicate}
use Rattle.std.proofs.lemmas.Slice.{drop-append-drop}
use Rattle.job.specs.Advances.{within, behind as behind-of}

-- the part that is lent
pub lent : {X : Type 0} → (xs : List X) (n : ℕ) → n ≡ min 65535 (length xs) → take n xs ≡ within xs
lent {X} xs n e =
    let h : n ≤ 65535 = omega arith in
    ⊎_elim (λ (q : n ≡ 65535). ap (λ (k : ℕ). take k xs) q)
    (λ (l : n < 65535). let a : length xs ≤ n = omega arith in let b : length xs ≤ 65535 = omega arith in take_all n xs a ∙ sym
    (take_all 65535 xs b))
    (eq-or-lt_of_le h)

-- the part as it comes back
pub back : {X : Type 0} → (xs ys : List X) (n : ℕ) → n ≡ min 65535 (length xs) → length ys ≡ n → within (ys ++ drop n xs) ≡
    ys
back {X} xs ys n e l =
    let h : n ≤ 65535 = omega arith in
    ⊎_elim (λ (q : n ≡ 65535). take_at ys (drop n xs) 65535 (l ∙ q))
    (λ (s : n < 65535). let a : length xs ≤ n = omega arith in let b : length ys ≤ 65535 = omega arith in
    ap (λ (zs : List X). within (ys ++ zs)) (drop_all n xs a) ∙ (ap within (append-nil ys) ∙ take_all 65535 ys b))
    (eq-or-lt_of_le h)

-- what lies behind is as it was
pub behind : {X : Type 0} → (xs ys : List X) (n : ℕ) → n ≡ min 65535 (length xs) → length ys ≡ n →
    behind-of (ys ++ drop n xs) ≡ behind-of xs
behind {X} xs ys n e l =
    let h : n ≤ 65535 = omega arith in
    drop-append-drop n xs ys 65535 h l

pub lent_length : {X : Type 0} → (xs : List X) (n : ℕ) → n ≡ min 65535 (length xs) → length (within xs) ≡ n
lent_length xs n e = simp length-take (omega arith)

-- a relation of two tables, as lent and as given back
pub carried : {X Y : Type 0} → (R : X → X → Y → Y → Type 0) {a a' b b' : X} {c c' d d' : Y} → a ≡ a' → b ≡ b' → c ≡ c' → d ≡ d' →
    R a b c d → R a' b' c' d'
carried {X} {Y} R {a} {a'} {b} {b'} {c} {c'} {d} {d'} p q r s h =
    subst (λ (x : Y). R a' b' c' x) s (subst (λ (x : Y). R a' b' x d) r
    (subst (λ (x : X). R a' x c d) q (subst (λ (x : X). R x b c d) p h)))

-- the part that is lent, filled with one value
pub wiped : {X : Type 0} → (xs ys : List X) (n : ℕ) (x : X) → n ≡ min 65535 (length xs) → ys ≡ replicate (length (take n xs)) x →
    (within (ys ++ drop n xs) ≡ replicate (min 65535 (length xs)) x) × (behind-of (ys ++ drop n xs) ≡ behind-of xs)
wiped xs ys n x e f =
    let k : length (take n xs) ≡ n = ap length (lent xs n e) ∙ lent_length xs n e in
    let l : length ys ≡ n = ap length f ∙ (length-replicate (length (take n xs)) x ∙ k) in
    (back xs ys n e l ∙ (f ∙ ap (λ (m : ℕ). replicate m x) (k ∙ e)), behind xs ys n e l)

pub back_length : {X : Type 0} → (xs ys : List X) (n : ℕ) → n ≡ min 65535 (length xs) → length ys ≡ length (take n xs) → length ys ≡ n
back_length xs ys n e l = l ∙ (ap length (lent xs n e) ∙ lent_length xs n e)
