-- A line cut out of its buffer.
use Rattle.std.proofs.Common.{◌≡◌, ℕ, ◌≤◌, Bool, true, false, cond, leb, List, ◌++◌, length, take, drop, Ok, Err, Result, sym, refl, ap, ◌∙◌, subst, arith, length-append, length-drop, leb-true}
use Rattle.std.proofs.lemmas.List.{take_at}
use Rattle.std.specs.Fmt.{digits}
use Rattle.pantry.specs.File.{fault}
use Rattle.line.specs.declared.faults.TooShort.{TooShort}
use Rattle.line.specs.declared.outcomes.Refusal.{Refusal}
use Rattle.line.specs.Faults.{line_refusal}
use Rattle.line.specs.Lines.{refusal_bytes, answer}
use Rattle.results.specs.declared.setups.Setup.{Setup}
use Rattle.results.specs.Panel.{file_line, panel_line, printed, Wrote}

-- the line bs was written into the buffer xs, which is then ys: it fits, and stands in front
fits : (bs xs ys : List ℕ) (len : ℕ) → Wrote bs (Ok len) xs ys → (leb (length bs) (length xs) ≡ true) × (len ≡ length bs) × (ys ≡ bs ++ drop (length bs) xs)
fits bs xs ys len w = go (leb (length bs) (length xs)) refl w.answers w.leaves
  where
    go : (b : Bool) → leb (length bs) (length xs) ≡ b → ◌≡◌ {A = Result ℕ TooShort} (Ok len) (cond b (Ok (length bs)) (Err (record {}))) → ys ≡ cond b (bs ++ drop (length bs) xs) xs →
        (leb (length bs) (length xs) ≡ true) × (len ≡ length bs) × (ys ≡ bs ++ drop (length bs) xs)
    go true t a l = (t, (cc), l)
    go false t a l = let z : ◌≡◌ {A = ℕ} 0 1 = cc in absurd (omega arith)

pub cut : (bs xs ys items : List ℕ) (len vlen : ℕ) → vlen ≡ length xs → Wrote bs (Ok len) xs ys → take len (take vlen (ys ++ drop (length ys) items)) ≡ bs
cut bs xs ys items len vlen v w =
    let f = fits bs xs ys len w in
    let h : length bs ≤ length xs = leb-true (length bs) (length xs) f.0 in
    let n : length ys ≡ vlen = ap length f.2 ∙ (length-append bs (drop (length bs) xs) ∙ (let z = length-drop (length bs) xs in omega arith)) in
    ap (take len) (take_at ys (drop (length ys) items) vlen n) ∙ (ap (take len) f.2 ∙ take_at bs (drop (length bs) xs) len (sym f.1))

-- so for the line of a setup, told by the lengths of the tables
module _ (file text : List ℕ) (s : Setup) (t u v c f : ℕ) (xs ys : List ℕ) (et : t ≡ s.tree) (eu : u ≡ s.types) (ev : v ≡ s.scope) (ec : c ≡ s.cells)
    (ef : f ≡ s.frames) (eb : length xs ≡ s.buffer) where
  abbrev told : Setup
  told = record { tree = t; types = u; scope = v; cells = c; frames = f; allowance = s.allowance; buffer = length xs }

  told_is : told ≡ s
  told_is = rw (et, eu, ev, ec, ef, eb) refl

  moved : {r : Result ℕ TooShort} → Wrote (file_line file text told (fault file)) r xs ys → Wrote (panel_line file text s) r xs ys
  moved {r = r} w = subst (λ (z : Setup). Wrote (panel_line file text z) r xs ys) told_is w

  pub line-cut : (items : List ℕ) (len vlen : ℕ) → vlen ≡ length xs → Wrote (file_line file text told (fault file)) (Ok len) xs ys →
      take len (take vlen (ys ++ drop (length ys) items)) ≡ printed file text s
  line-cut items len vlen e w =
      let m = moved w in
      let b = (fits (panel_line file text s) xs ys len m).0 in
      cut (panel_line file text s) xs ys items len vlen e m ∙
      sym (ap (λ (z : Bool). cond z (panel_line file text s) (refusal_bytes line_refusal)) (ap (leb (length (panel_line file text s))) (sym eb) ∙ b))

-- a buffer of 24 bytes has room for the refusal of a line
abbrev answered : ℕ → Result ℕ TooShort
answered n = cond (leb 24 n) (Ok 24) (Err (record {}))

for-line : (xs : List ℕ) → answer (refusal_bytes line_refusal) xs ≡ answered (length xs)
unfolding refusal_bytes digits
for-line xs = refl

pub room : (r : Refusal) (xs : List ℕ) (w : Result ℕ TooShort) → r ≡ line_refusal → length xs ≡ 24 → w ≡ answer (refusal_bytes r) xs → w ≡ Ok 24
room r xs w q l a = a ∙ (ap (λ (f : Refusal). answer (refusal_bytes f) xs) q ∙ (for-line xs ∙ ap answered l))
