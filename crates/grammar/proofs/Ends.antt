-- A text ends at its length, whatever blanks and comments stand there.
use Rattle.std.proofs.Common.{◌≡◌, ℕ, suc, ◌+◌, ◌<◌, ◌≤◌, Bool, true, false, cond, not, eqb, leb, List, [], ◌∷◌, length, get_or, take, drop, Some, None, Option as Maybe, sym, refl, ap, subst, arith, length-drop, length-take}
use Rattle.words.specs.declared.classes.Class.{Class}
use Rattle.words.specs.declared.classes.Class.TheVariants as class
use Rattle.words.specs.declared.marks.Mark.{Mark}
use Rattle.words.specs.Classes.{class_of}
use Rattle.words.specs.Words.{Reading, There, skips, gap, figured, marked, begins, first, scan, start, is_letter, is_digit, value, largest}
use Rattle.words.specs.Words as words
use Rattle.words.proofs.Parts.{there}
use Rattle.grammar.specs.Productions.{Word}
use Rattle.grammar.specs.Reading.{Step, word, end, fault, steps, step_of}
use Rattle.grammar.specs.Derives.{Along}
use Rattle.grammar.specs.Laws.{EndsLast}

skips-le : (c : Class) (m n k : ℕ) → m ≤ k → n ≤ k → skips c m n ≤ k
skips-le class.Blank m n k a b = a
skips-le class.Percent m n k a b = b
skips-le class.Letter m n k a b = omega arith
skips-le class.Digit m n k a b = omega arith
skips-le class.Dash m n k a b = omega arith
skips-le class.Query m n k a b = omega arith
skips-le class.Mark m n k a b = omega arith
skips-le class.None m n k a b = omega arith

gap-le : (c : Bool) (bs : List ℕ) → gap c bs ≤ length bs
gap-le true [] = omega arith
gap-le false [] = omega arith
gap-le true (b ∷ bs) = omega (arith, gap-le (not (eqb b 10)) bs)
gap-le false (b ∷ bs) = skips-le (class_of b) (1 + gap false bs) (1 + gap true bs) (suc (length bs)) (omega (arith, gap-le false bs))
    (omega (arith, gap-le true bs))

-- something stands where bytes are left
abbrev Stands : Reading → Type 0
Stands words.end = ⊥
Stands (words.word k p w) = Unit {0}
Stands (words.fault k p) = Unit {0}

stands-cond : (b : Bool) (x y : Reading) → Stands x → Stands y → Stands (cond b x y)
stands-cond true x y h k = h
stands-cond false x y h k = k

stands-figured : (p s n : ℕ) (bs : List ℕ) → Stands (figured p s n bs)
stands-figured p s n bs = stands-cond (is_letter (class_of (get_or bs (s + n) 0))) _ _ tt
    (stands-cond (leb (value (take n (drop s bs))) largest) _ (words.fault 4 p) tt tt)

stands-marked : (p : ℕ) (o : Maybe Mark) → Stands (marked p o)
stands-marked p (Some m) = tt
stands-marked p None = tt

stands-begins : (c : Class) (p : ℕ) (bs : List ℕ) → Stands (begins c p bs)
stands-begins class.Letter p bs = stands-cond (leb (length (take (words.name_run bs) bs)) 16) _ (words.fault 3 p) tt tt
stands-begins class.Digit p bs = stands-figured p 0 _ bs
stands-begins class.Dash p bs = stands-cond (is_digit (class_of (get_or bs 1 0))) _ _ (stands-figured p 1 _ bs)
    (stands-cond (eqb (get_or bs 1 0) 62) _ _ tt tt)
stands-begins class.Mark p bs = stands-marked p _
stands-begins class.Query p bs = tt
stands-begins class.Blank p bs = tt
stands-begins class.Percent p bs = tt
stands-begins class.None p bs = tt

-- where the step leads
abbrev pub Leads : ℕ → Step → Type 0
Leads n (end e) = e ≡ n
Leads n (word w m) = m ≤ n
Leads n (fault k e) = Unit {0}

leads-word : (text : List ℕ) (p q : ℕ) (w : List ℕ) → (q ≡ p) × (take (length w) (drop p text) ≡ w) × (0 < length w) → p ≤ length text
    → q + length w ≤ length text
leads-word text p q w t b = omega (arith, t.0, ap length t.1, length-take (length w) (drop p text), length-drop p text)

leads : (text : List ℕ) (p : ℕ) (bs : List ℕ) → drop p text ≡ bs → p ≤ length text → Leads (length text) (step_of p (first p bs))
leads text p [] e b = omega (arith, length-drop p text, ap length e)
leads text p (c ∷ bs) e b = go (first p (c ∷ bs)) (stands-begins (class_of c) p (c ∷ bs)) (subst (λ z. There p z (first p (c ∷ bs)))
    (sym e) (there p (c ∷ bs)))
  where
    go : (r : Reading) → Stands r → There p (drop p text) r → Leads (length text) (step_of p r)
    go words.end s t = absurd s
    go (words.word k q w) s t = leads-word text p q w t b
    go (words.fault k q) s t = tt

pub steps-lead : (text : List ℕ) (p : ℕ) → p ≤ length text → Leads (length text) (steps text p)
unfolding steps scan start
steps-lead text p b = leads text (p + gap false (drop p text)) (drop (p + gap false (drop p text)) text) refl
    (omega (arith, gap-le false (drop p text), length-drop p text))

along-within : (text : List ℕ) (p q : ℕ) (ws : List Word) → p ≤ length text → Along (steps text) p q ws → q ≤ length text
along-within text p q [] b al = omega arith
along-within text p q (w ∷ ws) b al = along-within text al.0 q ws (subst (Leads (length text)) al.1 (steps-lead text p b)) al.2

pub ends_last : EndsLast
ends_last text q ws e al i = subst (Leads (length text)) i (steps-lead text q (along-within text 0 q ws (omega arith) al))
