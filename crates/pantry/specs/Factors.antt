-- The factor pantry: the energy of each nutrient. Grams and kcal are in tenths.
use Rattle.std.specs.Prelude.{◌≡◌, ℕ, ◌*◌, ◌<◌, ◌≤◌, cond, List, [], ◌∷◌, ℤ, pos, negsuc, codes, nat_le}
use Rattle.std.proofs.Math.Option.{Option, none, some}
use Rattle.std.proofs.Math.ListN.{get_elem?}
use Rattle.language.specs.Pantry.{Pantry, figure_by_item, Reply, figure_reply, max_magnitude, fetch}

-- the factor times the grams, unless these are negative or the product is no figure
abbrev pub energy : ℕ → ℤ → Option Reply
energy factor (pos n) = cond (nat_le (factor * n) max_magnitude) (some (figure_reply (pos (factor * n)))) none
energy factor (negsuc n) = none

-- fat, carbohydrate, protein, alcohol and fibre, by kcal for each gram
abbrev pub factors : Pantry
factors =
    record { name = codes "fat-kcal"; kind = figure_by_item; reply = energy 9 } ∷
    record { name = codes "carb-kcal"; kind = figure_by_item; reply = energy 4 } ∷
    record { name = codes "protein-kcal"; kind = figure_by_item; reply = energy 4 } ∷
    record { name = codes "alcohol-kcal"; kind = figure_by_item; reply = energy 7 } ∷
    record { name = codes "fibre-kcal"; kind = figure_by_item; reply = energy 2 } ∷ []

-- the factor of each entry
abbrev pub annex : List ℕ
annex = 9 ∷ 4 ∷ 4 ∷ 7 ∷ 2 ∷ []

-- Each entry gives its factor times the grams. There is none exactly where the grams are negative or the product is no figure.
pub record GivesEnergy (p : Pantry) : Type 0 where
  pub product : (i factor n : ℕ) → get_elem? annex i ≡ some factor → factor * n ≤ max_magnitude →
      fetch p i (pos n) ≡ some (figure_reply (pos (factor * n)))
  pub too_large : (i factor n : ℕ) → get_elem? annex i ≡ some factor → max_magnitude < factor * n → fetch p i (pos n) ≡ none
  pub negative : (i n : ℕ) → fetch p i (negsuc n) ≡ none
