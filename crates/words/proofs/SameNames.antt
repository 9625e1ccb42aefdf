-- Sameness of names is an equivalence, and what is the same is alike towards every name. Only this file knows what a key is.
use Rattle.std.proofs.Common.{◌≡◌, Bool, true, false, sym, refl, ap, ◌∙◌}
use Rattle.std.specs.Str.{bytes_eq}
use Rattle.std.proofs.lemmas.Slice.Eq.{bytes_eq-Decides}
use Rattle.words.specs.Names.{Name, key, same_name}

-- the same names have the same key, and the other way round
pub same_key : (x y : Name) → same_name x y ≡ true → key x ≡ key y
unfolding same_name
same_key x y h = (bytes_eq-Decides (key x) (key y)).0 h

pub key-same : (x y : Name) → key x ≡ key y → same_name x y ≡ true
unfolding same_name
key-same x y h = (bytes_eq-Decides (key x) (key y)).1 h

-- each name is the same as itself
pub same_refl : (x : Name) → same_name x x ≡ true
same_refl x = key-same x x refl

pub same-sym : (x y : Name) → same_name x y ≡ true → same_name y x ≡ true
same-sym x y h = key-same y x (sym (same_key x y h))

pub same-trans : (x y z : Name) → same_name x y ≡ true → same_name y z ≡ true → same_name x z ≡ true
same-trans x y z h k = key-same x z (same_key x y h ∙ same_key y z k)

-- what is the same is the same as, and apart from, the same names
pub same-right : (z x y : Name) → same_name x y ≡ true → same_name z x ≡ same_name z y
unfolding same_name
same-right z x y h = ap (bytes_eq (key z)) (same_key x y h)

-- apart is apart either way round
pub same-flip : (x y : Name) → same_name x y ≡ false → same_name y x ≡ false
same-flip x y h = go (same_name y x) refl
  where
    go : (b : Bool) → same_name y x ≡ b → b ≡ false
    go true q = let e = same-right x y x q in let r = same_refl x in cc
    go false q = refl

-- what is apart from a name is apart from what is the same
pub apart-same : (x y z : Name) → same_name x z ≡ false → same_name x y ≡ true → same_name z y ≡ false
apart-same x y z h e = go (same_name z y) refl
  where
    go : (b : Bool) → same_name z y ≡ b → b ≡ false
    go true q = let k = same-right x z y q in cc
    go false q = refl
