-- Types are told apart by how they are written.
use Rattle.std.proofs.Common.{◌≡◌, ℕ, true, List, ◌∷◌, ◌++◌, get_or, drop, codes, sym, refl, ap, ◌∙◌, append_assoc, arith}
use Rattle.language.specs.Typing.{ExpandedType, int, bool, hidden, ◌⇒◌}
use Rattle.line.specs.Laws.{Named}
use Rattle.line.specs.Types.{type_bytes}
use Rattle.line.proofs.Pieces.{ends, split, word-name}

pub hidden-then : (m t r : List ℕ) → type_bytes (hidden m t) ++ r ≡ codes "from " ++ (m ++ (codes " take " ++ (t ++ r)))
hidden-then m t r = ap (λ x. codes "from " ++ x) (append_assoc m (codes " take " ++ t) r)

pub arrow-then : (a b : ExpandedType) (r : List ℕ) →
    type_bytes (a ⇒ b) ++ r ≡ codes "(" ++ (type_bytes a ++ (codes " -> " ++ (type_bytes b ++ (41 ∷ r))))
arrow-then a b r = simp append_assoc

-- two texts that begin with other bytes
pub apart : {A : Type 0} (xs ys : List ℕ) → xs ≡ ys → (get_or xs 0 0 ≡ get_or ys 0 0 → ⊥) → A
apart xs ys e h = absurd (h (ap (λ zs. get_or zs 0 0) e))

pub type-split : (a b : ExpandedType) (c d : ℕ) (r s : List ℕ) → Named a → Named b → ends c ≡ true → ends d ≡ true →
    type_bytes a ++ (c ∷ r) ≡ type_bytes b ++ (d ∷ s) → (a ≡ b) × (c ∷ r ≡ d ∷ s)
type-split int int c d r s p q h k e = (refl, ap (drop 3) e)
type-split int bool c d r s p q h k e = apart _ _ e (λ z. omega arith)
type-split int (hidden m t) c d r s p q h k e = apart _ _ e (λ z. omega arith)
type-split int (x ⇒ y) c d r s p q h k e = apart _ _ e (λ z. omega arith)
type-split bool int c d r s p q h k e = apart _ _ e (λ z. omega arith)
type-split bool bool c d r s p q h k e = (refl, ap (drop 4) e)
type-split bool (hidden m t) c d r s p q h k e = apart _ _ e (λ z. omega arith)
type-split bool (x ⇒ y) c d r s p q h k e = apart _ _ e (λ z. omega arith)
type-split (hidden m t) int c d r s p q h k e = apart _ _ e (λ z. omega arith)
type-split (hidden m t) bool c d r s p q h k e = apart _ _ e (λ z. omega arith)
type-split (hidden m t) (hidden n u) c d r s p q h k e =
    let e1 = ap (drop 5) (sym (hidden-then m t (c ∷ r)) ∙ e ∙ hidden-then n u (d ∷ s)) in
    let i = split m n 32 32 _ _ (word-name m p.0).solid (word-name n q.0).solid refl refl e1 in
    let j = split t u c d r s (word-name t p.1).solid (word-name u q.1).solid h k (ap (drop 6) i.1) in
    let same-module = i.0 in
    let same_name = j.0 in
    (cc, j.1)
type-split (hidden m t) (x ⇒ y) c d r s p q h k e = apart _ _ e (λ z. omega arith)
type-split (v ⇒ w) int c d r s p q h k e = apart _ _ e (λ z. omega arith)
type-split (v ⇒ w) bool c d r s p q h k e = apart _ _ e (λ z. omega arith)
type-split (v ⇒ w) (hidden m t) c d r s p q h k e = apart _ _ e (λ z. omega arith)
type-split (v ⇒ w) (x ⇒ y) c d r s p q h k e =
    let e1 = ap (drop 1) (sym (arrow-then v w (c ∷ r)) ∙ e ∙ arrow-then x y (d ∷ s)) in
    let i = type-split v x 32 32 _ _ p.0 q.0 refl refl e1 in
    let j = type-split w y 41 41 _ _ p.1 q.1 refl refl (ap (drop 4) i.1) in
    let same_from = i.0 in
    let same-to = j.0 in
    (cc, ap (drop 1) j.1)
