-- A list to which types are added unless they are there has each once.
use Rattle.std.proofs.Common.{◌≡◌, Bool, true, false, cond, ◌||◌, List, [], ◌∷◌, ◌++◌, sym, refl, ap, ◌∙◌, subst}
use Rattle.language.specs.Typing.{ExpandedType}
use Rattle.language.specs.TypeOf.{same_type}
use Rattle.language.proofs.Agrees.{same-type-is, same-type-refl}
use Rattle.rules.specs.Rules.{member}
use Rattle.rules.specs.Needs.{with_types, formed, Once}
use Rattle.rules.specs.Laws.{DistinctTypes}

member-push : (a b : ExpandedType) (ts : List ExpandedType) → member a (ts ++ b ∷ []) ≡ member a ts || same_type b a
member-push a b [] = go (same_type b a)
  where
    go : (c : Bool) → cond c true false ≡ false || c
    go true = refl
    go false = refl
member-push a b (d ∷ ts) = go (same_type d a) (member-push a b ts)
  where
    go : (c : Bool) → member a (ts ++ b ∷ []) ≡ member a ts || same_type b a →
        cond c true (member a (ts ++ b ∷ [])) ≡ cond c true (member a ts) || same_type b a
    go true h = refl
    go false h = h

same-type-flip : (a b : ExpandedType) → same_type a b ≡ false → same_type b a ≡ false
same-type-flip a b h = go (same_type b a) refl
  where
    go : (c : Bool) → same_type b a ≡ c → c ≡ false
    go true e = sym (same-type-refl b) ∙ (ap (λ (t : ExpandedType). same_type t b) (same-type-is b a e) ∙ h)
    go false e = refl

once-push : (ts : List ExpandedType) (a : ExpandedType) → Once ts → member a ts ≡ false → Once (ts ++ a ∷ [])
once-push [] a h e = (refl, tt)
once-push (b ∷ ts) a h e = go (same_type b a) refl e (once-push ts a h.1)
  where
    go : (c : Bool) → same_type b a ≡ c → cond c true (member a ts) ≡ false → (member a ts ≡ false → Once (ts ++ a ∷ [])) →
        (member b (ts ++ a ∷ []) ≡ false) × Once (ts ++ a ∷ [])
    go true q f k = (cc, k cc)
    go false q f k = (member-push b a ts ∙ rw (h.0, same-type-flip b a q), k f)

once-all : (ts more : List ExpandedType) → Once ts → Once (with_types ts more)
once-all ts [] h = h
once-all ts (a ∷ more) h = go (member a ts) refl (λ l. once-all l more)
  where
    go : (b : Bool) → member a ts ≡ b → ((l : List ExpandedType) → Once l → Once (with_types l more)) →
        Once (with_types (cond b ts (ts ++ a ∷ [])) more)
    go true e f = f ts h
    go false e f = f (ts ++ a ∷ []) (once-push ts a h e)

-- a type that is there is there once more
there-is : (a b : ExpandedType) (ts : List ExpandedType) → member b ts ≡ true → same_type b a ≡ true → member a ts ≡ true
there-is a b ts h e = subst (λ (t : ExpandedType). member t ts ≡ true) (same-type-is b a e) h

member-all : (a : ExpandedType) (ts more : List ExpandedType) → member a (with_types ts more) ≡ member a ts || member a more
member-all a ts [] = go (member a ts)
  where
    go : (b : Bool) → b ≡ b || false
    go true = refl
    go false = refl
member-all a ts (b ∷ more) = go (member b ts) (same_type b a) refl refl (λ l. member-all a l more)
  where
    join : (x : Bool) (c : Bool) → (x || c) || member a more ≡ x || cond c true (member a more)
    join true c = refl
    join false true = refl
    join false false = refl

    go : (d c : Bool) → member b ts ≡ d → same_type b a ≡ c →
        ((l : List ExpandedType) → member a (with_types l more) ≡ member a l || member a more) →
        member a (with_types (cond d ts (ts ++ b ∷ [])) more) ≡ member a ts || cond c true (member a more)
    go true true e f k = k ts ∙ rw (there-is a b ts e f)
    go true false e f k = k ts
    go false c e f k = k (ts ++ b ∷ []) ∙ (ap (λ (x : Bool). x || member a more) (member-push a b ts ∙
        ap (λ (x : Bool). member a ts || x) f) ∙ join (member a ts) c)

pub distinct-types : DistinctTypes
distinct-types kinds sheet = (once-all [] (formed kinds sheet) tt, λ a. member-all a [] (formed kinds sheet))
