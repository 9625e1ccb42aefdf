-- Names that are apart: the check asks of each name whether an earlier one is the same, the rules ask of all whether two are the same.
use Rattle.std.proofs.Common.{◌≡◌, Bool, true, false, cond, not, ◌&&◌, List, [], ◌∷◌, map, sym, refl, ap, ◌∙◌, ap₂}
use mathlib.Core.Option.{Option, none, some}
use Rattle.language.specs.Bindings.{option_of}
use Rattle.words.specs.Names.{Name, same_name}
use Rattle.language.specs.Names.{lookup, apart_from, distinct}
use Rattle.language.specs.Typing.{ExpandedType}
use Rattle.language.specs.Modules.{Made, made_type, made_value, made_name}
use Rattle.words.proofs.SameNames.{same-sym, same-flip}
use Rattle.rules.specs.ItemForms.{neither}
use Rattle.rules.specs.Rules.{types_of, values_of}

-- the test that the check makes
abbrev pub fresh : List Made → Name → Bool
fresh names x = neither (option_of (lookup (types_of names) x)) (option_of (lookup (values_of names) x))

neither_right : (o : Option ExpandedType) (a : ExpandedType) → neither (option_of o) (option_of (some a)) ≡ false
neither_right none a = refl
neither_right (some b) a = refl

pub fresh-apart : (names : List Made) (x : Name) → fresh names x ≡ apart_from x (map made_name names)
fresh-apart [] x = refl
fresh-apart (made_type t a ∷ ms) x = go (same_name t x) (fresh-apart ms x)
  where
    go : (b : Bool) → fresh ms x ≡ apart_from x (map made_name ms) →
        neither (option_of (cond b (some a) (lookup (types_of ms) x))) (option_of (lookup (values_of ms) x)) ≡
        not b && apart_from x (map made_name ms)
    go true h = refl
    go false h = h
fresh-apart (made_value t a ∷ ms) x = go (same_name t x) (fresh-apart ms x)
  where
    go : (b : Bool) → fresh ms x ≡ apart_from x (map made_name ms) →
        neither (option_of (lookup (types_of ms) x)) (option_of (cond b (some a) (lookup (values_of ms) x))) ≡
        not b && apart_from x (map made_name ms)
    go true h = neither_right (lookup (types_of ms) x) a
    go false h = h

-- each of xs is apart from ns and from those before it
abbrev pub apart_in_order : List Name → List Name → Bool
apart_in_order ns [] = true
apart_in_order ns (x ∷ xs) = apart_from x ns && apart_in_order (x ∷ ns) xs

-- each of xs is apart from ns
abbrev across : List Name → List Name → Bool
across ns [] = true
across ns (x ∷ xs) = apart_from x ns && across ns xs

same-either : (x y : Name) → same_name x y ≡ same_name y x
same-either x y = go (same_name x y) refl
  where
    go : (b : Bool) → same_name x y ≡ b → b ≡ same_name y x
    go true e = sym (same-sym x y e)
    go false e = sym (same-flip x y e)

-- the second and the third change places
middle : (a b c d : Bool) → (a && b) && (c && d) ≡ (a && c) && (b && d)
middle true true c d = refl
middle true false true d = refl
middle true false false d = refl
middle false b c d = refl

across-more : (x : Name) (ns xs : List Name) → across (x ∷ ns) xs ≡ apart_from x xs && across ns xs
across-more x ns [] = refl
across-more x ns (y ∷ ys) = ap₂ (λ (b c : Bool). (not b && apart_from y ns) && c) (same-either x y) (across-more x ns ys) ∙
    middle (not (same_name y x)) (apart_from y ns) (apart_from x ys) (across ns ys)

shift : (a b c d : Bool) → a && ((b && c) && d) ≡ (a && c) && (b && d)
shift true true true d = refl
shift true true false d = refl
shift true false true d = refl
shift true false false d = refl
shift false b c d = refl

in_order : (ns xs : List Name) → apart_in_order ns xs ≡ across ns xs && distinct xs
in_order ns [] = refl
in_order ns (x ∷ xs) = ap (λ (b : Bool). apart_from x ns && b) (in_order (x ∷ ns) xs ∙
    ap (λ (b : Bool). b && distinct xs) (across-more x ns xs)) ∙ shift (apart_from x ns) (apart_from x xs) (across ns xs) (distinct xs)

across-none : (xs : List Name) → across [] xs ≡ true
across-none [] = refl
across-none (x ∷ xs) = across-none xs

-- from the start, both tests are one
pub apart_distinct : (xs : List Name) → apart_in_order [] xs ≡ distinct xs
apart_distinct xs = in_order [] xs ∙ ap (λ (b : Bool). b && distinct xs) (across-none xs)
