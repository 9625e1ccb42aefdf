-- A number that digits add to, and the byte behind those that are passed. Assumes nothing.
use Rattle.std.proofs.Common.{◌≡◌, ℕ, ◌+◌, ◌-◌, ◌*◌, ◌≤◌, List, [], ◌∷◌, get_or, drop, fold, ap, ◌∙◌, add-zero, arith, get_or-drop}

-- digits only add to a number
pub grows : (xs : List ℕ) (v : ℕ) → v ≤ fold (λ v b. v * 10 + (b - 48)) v xs
grows [] v = omega arith
grows (x ∷ xs) v = omega (arith, grows xs (v * 10 + (x - 48)))

pub head-drop : (xs : List ℕ) (n : ℕ) → get_or (drop n xs) 0 0 ≡ get_or xs n 0
head-drop xs n = get_or-drop n xs 0 0 ∙ ap (λ i. get_or xs i 0) (add-zero n)
