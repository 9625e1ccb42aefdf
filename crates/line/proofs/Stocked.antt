-- The names of a lawful pantry's entries are names, and tell the entries apart.
use Rattle.std.proofs.Common.{◌≡◌, ℕ, zero, suc, ◌<◌, true, false, not, [], ◌∷◌, map, length, sym, refl, ap, arith}
use lib.ListN.{get_elem?}
use Rattle.std.proofs.lemmas.Bool.{true≢false, and_parts}
use Rattle.words.specs.Names.{Name, is_name, is_keyword, same_name}
use Rattle.words.proofs.SameNames.{same_refl}
use Rattle.language.specs.Names.{apart_from, distinct}
use Rattle.language.specs.Pantry.{Pantry, stock_of, entry_name, lawful_names}
use Rattle.line.specs.Lines.{name_of}

abbrev pub name_at : Pantry → ℕ → Name
name_at p i = name_of (get_elem? (stock_of p) i)

pub entry_named : (p : Pantry) (i : ℕ) → i < length p → lawful_names (map entry_name p) ≡ true → is_name (name_at p i) ≡ true
entry_named [] i h q = absurd (omega arith)
entry_named (e ∷ es) zero h q =
    (and_parts (is_name e.name) (not (is_keyword e.name)) (and_parts _ (lawful_names (map entry_name es)) q).0).0
entry_named (e ∷ es) (suc i) h q = entry_named es i (omega arith) (and_parts _ (lawful_names (map entry_name es)) q).1

-- an entry behind one has another name
behind : (x : Name) (p : Pantry) (i : ℕ) → i < length p → apart_from x (map entry_name p) ≡ true → name_at p i ≡ x → ⊥
behind x [] i h q e = omega arith
behind x (y ∷ ys) zero h q e =
    let apart = (and_parts (not (same_name y.name x)) (apart_from x (map entry_name ys)) q).0 in
    let same = same_refl x in
    let z : true ≡ false = cc in
    true≢false z
behind x (y ∷ ys) (suc i) h q e = behind x ys i (omega arith) (and_parts _ (apart_from x (map entry_name ys)) q).1 e

pub entry-same : (p : Pantry) (i j : ℕ) → i < length p → j < length p → distinct (map entry_name p) ≡ true → name_at p i ≡ name_at p j → i ≡ j
entry-same [] i j h k q e = absurd (omega arith)
entry-same (x ∷ xs) zero zero h k q e = refl
entry-same (x ∷ xs) zero (suc j) h k q e =
    absurd (behind x.name xs j (omega arith) (and_parts (apart_from x.name (map entry_name xs)) _ q).0 (sym e))
entry-same (x ∷ xs) (suc i) zero h k q e =
    absurd (behind x.name xs i (omega arith) (and_parts (apart_from x.name (map entry_name xs)) _ q).0 e)
entry-same (x ∷ xs) (suc i) (suc j) h k q e =
    ap suc (entry-same xs i j (omega arith) (omega arith) (and_parts (apart_from x.name (map entry_name xs)) _ q).1 e)
