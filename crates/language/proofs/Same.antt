-- Tests that hold, and what the same names find.
use Rattle.std.proofs.Common.{◌≡◌, Bool, true, false, not, ◌&&◌, T, List, [], ◌∷◌, refl}
use Rattle.words.proofs.SameNames.{same-right}
use Rattle.words.specs.Names.{Name, same_name}
use Rattle.language.specs.Names.{Binding, bind, lookup}

pub both_true : (a b : Bool) → a && b ≡ true → (a ≡ true) × (b ≡ true)
both_true true b h = (refl, h)
both_true false b h = (h, cc)

pub not-true : (a : Bool) → not a ≡ true → a ≡ false
not-true true h = cc
not-true false h = refl

pub T_true : (b : Bool) → T b → b ≡ true
T_true true t = refl
T_true false t = absurd t

-- the same name finds the same
pub lookup-same : {A : Type 0} (g : List (Binding A)) (x y : Name) → same_name x y ≡ true → lookup g x ≡ lookup g y
lookup-same [] x y h = refl
lookup-same (bind z a ∷ g) x y h = rw (same-right z x y h, lookup-same g x y h)
