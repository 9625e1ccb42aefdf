-- The words of a whole text, one step at a time. Assumes nothing.
use Rattle.std.proofs.Common.{◌≡◌, ℕ, zero, suc, ◌+◌, ◌-◌, ◌<◌, ◌≤◌, false, List, length, take, drop, refl, ap, ◌∙◌, arith, length-drop}
use Rattle.std.proofs.lemmas.List.{drop-drop}
use Rattle.words.specs.Words.{Reading, gap, first, start, scan, There}
use Rattle.words.specs.Words.Reading.{end, word, fault}
use Rattle.words.specs.Lexing.{Lexing, onward, lexed_from, lexed}
use Rattle.words.specs.Laws.{Walks}
use Rattle.words.proofs.Parts.{there, fits}

-- what follows a word matters only at that word's length
onward-same : (g bs : List ℕ) (p : ℕ) (r : Reading) (f h : ℕ → Lexing) → There p bs r
    → ((n : ℕ) → 0 < n → n ≤ length bs → f n ≡ h n) → onward g bs r f ≡ onward g bs r h
onward-same g bs p end f h t same = refl
onward-same g bs p (fault k q) f h t same = refl
onward-same g bs p (word k q w) f h t same = rw (same (length w) t.2 (fits w bs t.1))

-- how many words are asked for does not matter where it is more than the bytes
pub enough : (n m p : ℕ) (bs : List ℕ) → length bs < n → length bs < m → lexed_from n p bs ≡ lexed_from m p bs
unfolding lexed_from
enough zero m p bs h k = absurd (omega arith)
enough (suc n) zero p bs h k = absurd (omega arith)
enough (suc n) (suc m) p bs h k =
    let g = gap false bs in
    let rest = drop g bs in
    onward-same (take g bs) rest (p + g) (first (p + g) rest)
    (λ w. lexed_from n (p + g + w) (drop w rest)) (λ w. lexed_from m (p + g + w) (drop w rest)) (there (p + g) rest)
    (λ w some within.
    let short : length (drop w rest) < length bs = omega (arith, length-drop w rest, length-drop g bs) in
    enough n m (p + g + w) (drop w rest) (omega arith) (omega arith))

-- the cursor's steps are those of the whole text
pub walks : Walks
unfolding lexed_from scan start
walks text at =
    let bs = drop at text in
    let g = gap false bs in
    let rest = drop g bs in
    let place = start text at in
    let cut : rest ≡ drop place text = drop-drop g at text in
    let front : g ≡ place - at = omega arith in
    onward-same (take g bs) rest place (first place rest) (λ w. lexed_from (length bs) (place + w) (drop w rest))
    (λ w. lexed (place + w) (drop w rest)) (there place rest)
    (λ w some within.
    enough (length bs) (suc (length (drop w rest))) (place + w) (drop w rest) (omega (arith, length-drop w rest, length-drop g bs))
    (omega arith))
    ∙ ap (λ n. onward (take n bs) rest (first place rest) (λ w. lexed (place + w) (drop w rest))) front
    ∙ ap (λ l. onward (take (place - at) bs) l (first place l) (λ w. lexed (place + w) (drop w l))) cut
    ∙ onward-same (take (place - at) bs) (drop place text) place (scan text at) (λ w. lexed (place + w) (drop w (drop place text)))
    (λ w. lexed (place + w) (drop (place + w) text)) (there place (drop place text))
    (λ w some within. ap (lexed (place + w)) (drop-drop w place text))
