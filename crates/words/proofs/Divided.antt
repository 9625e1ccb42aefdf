-- A text divides into gaps and words in one way, the one that is read. Assumes nothing.
use Rattle.std.proofs.Common.{◌≡◌, ℕ, zero, suc, ◌+◌, ◌<◌, false, List, [], ◌++◌, length, take, drop, sym, refl, ap, ◌∙◌, subst, arith, length-drop}
use Rattle.std.proofs.lemmas.List.{append-nil, take-append-drop, take_at, drop_at, length-take-le, length-append}
use Rattle.words.specs.Words.{Reading, gap, first, There}
use Rattle.words.specs.Words.Reading.{end, word, fault}
use Rattle.words.specs.Lexing.{Lexing, ends, refuses, follows, joined, onward, lexed_from, lexed}
use Rattle.words.specs.Laws.{Gap, Spells, Lawful, Division}
use Rattle.words.proofs.Gaps.{gap-sound, gap-over, gap-le, gap_is}
use Rattle.words.proofs.Parts.{there, fits}
use Rattle.words.proofs.Stands.{Stands, stands}
use Rattle.words.proofs.Told.{told, told-fault}

-- bs divides so, from the place p on
abbrev Divided : ℕ → List ℕ → Lexing → Type 0
Divided p bs l = (joined l ≡ bs) × Lawful p l

divided-onward : (p : ℕ) (g bs : List ℕ) (r : Reading) (more : ℕ → Lexing) → Gap bs g → There (p + length g) bs r
    → Stands (p + length g) bs r
    → ((n : ℕ) → 0 < n → length bs ≡ n + length (drop n bs) → Divided (p + length g + n) (drop n bs) (more n))
    → Divided p (g ++ bs) (onward g bs r more)
divided-onward p g bs end more h t s d = (sym (append-nil g) ∙ ap (λ l. g ++ l) (sym s), subst (λ l. Gap l g) s h)
divided-onward p g bs (fault k q) more h t s d = (refl, (h, s))
divided-onward p g bs (word k q w) more h t s d =
    let (whole, lawful) = d (length w) t.2 (omega (arith, length-drop (length w) bs, fits w bs t.1)) in
    let split : w ++ joined (more (length w)) ≡ bs =
    ap (λ l. w ++ l) whole ∙ ap (λ l. l ++ drop (length w) bs) (sym t.1) ∙ take-append-drop (length w) bs in (
      ap (λ l. g ++ l) split,
      (
        subst (λ l. Gap l g) (sym split) h,
        t.0,
        subst (λ l. Spells k w l) (sym whole) s,
        subst (λ m. Lawful (m + length w) (more (length w))) (sym t.0) lawful,
      ),
    )

-- one step of the reading of a text that begins with a gap
step : (n p : ℕ) (g rest : List ℕ) → gap false (g ++ rest) ≡ length g
    → lexed_from (suc n) p (g ++ rest) ≡ onward g rest (first (p + length g) rest) (λ w. lexed_from n (p + length g + w) (drop w rest))
unfolding lexed_from
step n p g rest h =
    let xs = g ++ rest in
    ap (λ m. onward (take m xs) (drop m xs) (first (p + m) (drop m xs)) (λ w. lexed_from n (p + m + w) (drop w (drop m xs)))) h
    ∙ ap (λ t. onward t (drop (length g) xs) (first (p + length g) (drop (length g) xs))
    (λ w. lexed_from n (p + length g + w) (drop w (drop (length g) xs))))
    (take_at g rest (length g) refl)
    ∙ ap (λ d. onward g d (first (p + length g) d) (λ w. lexed_from n (p + length g + w) (drop w d))) (drop_at g rest (length g) refl)

divided : (n p : ℕ) (bs : List ℕ) → length bs < n → Divided p bs (lexed_from n p bs)
divided zero p bs h = absurd (omega arith)
divided (suc n) p bs h =
    let g = take (gap false bs) bs in
    let rest = drop (gap false bs) bs in
    let split : g ++ rest ≡ bs = take-append-drop (gap false bs) bs in
    let same : gap false (g ++ rest) ≡ length g = ap (gap false) split ∙ sym (length-take-le (gap false bs) bs (gap-le false bs)) in
    subst (λ z. Divided p z (lexed_from (suc n) p z)) split
    (subst (Divided p (g ++ rest)) (sym (step n p g rest same))
    (divided-onward p g rest (first (p + length g) rest) (λ w. lexed_from n (p + length g + w) (drop w rest))
    (gap-sound bs) (there (p + length g) rest) (stands (p + length g) rest (gap-over bs))
    (λ m some whole. divided n (p + length g + m) (drop m rest) (omega (arith, length-drop (gap false bs) bs)))))

only : (l : Lexing) (n p : ℕ) → Lawful p l → length (joined l) < n → lexed_from n p (joined l) ≡ l
only l zero p h short = absurd (omega arith)
only (ends g) (suc n) p h short = ap (lexed_from (suc n) p) (sym (append-nil g)) ∙ step n p g [] (gap_is [] g h refl)
only (refuses g bs k q) (suc n) p h short =
    let f = told-fault (p + length g) bs k q h.1 in
    step n p g bs (gap_is bs g h.0 f.1) ∙ ap (λ r. onward g bs r (λ w. lexed_from n (p + length g + w) (drop w bs))) f.0
only (follows g k q w l) (suc n) p h short =
    let at = p + length g in
    let xs = w ++ joined l in
    let f = told at k w (joined l) h.2 in
    let some : 0 < length w = (subst (There at xs) f.0 (there at xs)).2 in
    let fewer : length (joined l) < n = omega (arith, length-append g xs, length-append w (joined l)) in
    step n p g xs (gap_is xs g h.0 f.1) ∙ ap (λ r. onward g xs r (λ m. lexed_from n (at + m) (drop m xs))) f.0
    ∙ ap (λ d. follows g k at w (lexed_from n (at + length w) d)) (drop_at w (joined l) (length w) refl)
    ∙ ap (λ m. follows g k m w (lexed_from n (m + length w) (joined l))) (sym h.1)
    ∙ ap (follows g k q w) (only l n (q + length w) h.3 fewer)

pub division : Division
division text = (
  divided (suc (length text)) 0 text (omega arith),
  λ l d. sym (only l (suc (length (joined l))) 0 d.1 (omega arith)) ∙ ap (lexed 0) d.0,
)
