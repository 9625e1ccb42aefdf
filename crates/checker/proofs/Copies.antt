-- Copied entries.
use Rattle.std.proofs.Common.{◌≡◌, ℕ, zero, suc, ◌+◌, ◌<◌, ◌≤◌, List, [], ◌∷◌, ◌++◌, length, take, drop, set, sym, refl, ap, ◌∙◌, add-one, arith, drop-drop}
use mathlib.Core.Option.{none, some}
use lib.ListN.{get_elem?}
use Rattle.std.proofs.lemmas.List.{length-map, take_more_set, take_all, drop-set-lt}
use Rattle.language.specs.Names.{bind}
use Rattle.language.specs.Pantry.{Pantry, Stock, stock_of}
use Rattle.pantry.specs.declared.entries.Entry.{Entry}
use Rattle.pantry.specs.Meaning.{kind_of}
use Rattle.checker.specs.Stocks.{stock_in}

stock-push : (es : List Entry) (e : Entry) → stock_in (es ++ (e ∷ [])) ≡ stock_in es ++ (bind e.name.now (kind_of e.kind) ∷ [])
stock-push [] e = refl
stock-push (d ∷ es) e = ap (λ (s : Stock). bind d.name.now (kind_of d.kind) ∷ s) (stock-push es e)

take_next : {A : Type 0} (xs : List A) (i : ℕ) (x : A) → get_elem? xs i ≡ some x → take (suc i) xs ≡ take i xs ++ (x ∷ [])
take_next [] i x e = let z : ◌≡◌ {A = ℕ} 0 1 = cc in absurd (omega arith)
take_next {A} (y ∷ xs) zero x e = let z : y ≡ x = cc in ap (λ (v : A). v ∷ []) z
take_next {A} (y ∷ xs) (suc i) x e = ap (λ (zs : List A). y ∷ zs) (take_next xs i x e)

pub one-copied : (p : Pantry) (entries : List Entry) (i : ℕ) (e : Entry) → i < length entries → stock_in (take i entries) ≡ take i (stock_of p) →
    some (bind e.name.now (kind_of e.kind)) ≡ get_elem? (stock_of p) i → stock_in (take (i + 1) (set entries i e)) ≡ take (i + 1) (stock_of p)
one-copied p entries i e h q g =
    ap stock_in (take_more_set entries i e h) ∙ (stock-push (take i entries) e ∙
    (ap (λ (s : Stock). s ++ (bind e.name.now (kind_of e.kind) ∷ [])) q ∙
    sym (ap (λ (n : ℕ). take n (stock_of p)) (add-one i) ∙ take_next (stock_of p) i _ (sym g))))

-- what stands behind stays
pub one-behind : {A : Type 0} (xs ys : List A) (i : ℕ) (x : A) → drop i xs ≡ drop i ys → drop (i + 1) (set xs i x) ≡ drop (i + 1) ys
one-behind xs ys i x e = drop-set-lt (i + 1) xs i x (omega arith) ∙ (drop_more xs i ∙ (ap (drop 1) e ∙ sym (drop_more ys i)))
  where
    drop_more : {A : Type 0} (zs : List A) (k : ℕ) → drop (k + 1) zs ≡ drop 1 (drop k zs)
    drop_more zs k = sym (drop-drop 1 k zs)

-- every entry is listed
pub all_listed : (p : Pantry) (i : ℕ) → i < length p → none ≡ get_elem? (stock_of p) i → ⊥
all_listed [] i h e = omega arith
all_listed (x ∷ p) zero h e = let z : ◌≡◌ {A = ℕ} 0 1 = cc in omega arith
all_listed (x ∷ p) (suc i) h e = all_listed p i (omega arith) e

-- where a pantry has no more entries than were copied, all are
pub all-copied : (p : Pantry) (n : ℕ) (s : Stock) → length p ≤ n → s ≡ take n (stock_of p) → s ≡ stock_of p
all-copied p n s h e = e ∙ take_all n (stock_of p) (simp length-map h)
