-- The type table is read as the types that it stands for.
use Rattle.std.proofs.Common.{◌≡◌, ℕ, zero, suc, ◌-◌, ◌<◌, ◌≤◌, ◌⊎◌, List, [], ◌∷◌, length, get_or, take, Some, sym, refl, ◌∙◌, inl, inr, ⊎_elim, arith, length-take}
use Rattle.std.proofs.lemmas.List.{get_or-take, get_or_past}
use Rattle.std.proofs.lemmas.Option.{slice_get_past as nth_past}
use Rattle.std.proofs.lemmas.Bool.{cases_lt}
use Rattle.std.specs.List.{slice_get}
use Rattle.language.specs.Typing.{ExpandedType, int, bool, hidden, ◌⇒◌}
use Rattle.rules.specs.Rules.{depth}
use Rattle.typing.specs.declared.types.TypeEntry.{TypeEntry}
use Rattle.typing.specs.declared.types.TypeEntry.TheVariants.{Blank}
use Rattle.typing.specs.Stands.{Row, row_int, row_bool, row_hidden, row_arrow, Rows, rows_none, rows_more}
use Rattle.typing.specs.Told.{entry_told, type_of_entry, type_within, TableTold}

pub entry_past : (types : List TypeEntry) (i : ℕ) → (65535 ≤ i) ⊎ (length types ≤ i) → entry_told types i ≡ Blank
unfolding entry_told
entry_past types i (inl h) = get_or_past (take 65535 types) i Blank (simp length-take (omega arith))
entry_past types i (inr h) = get_or_past (take 65535 types) i Blank (simp length-take (omega arith))

pub entry_here : (types : List TypeEntry) (i : ℕ) → i < 65535 → entry_told types i ≡ get_or types i Blank
unfolding entry_told
entry_here types i h = get_or-take 65535 types i Blank h

pub type-none : (text : List ℕ) (types : List TypeEntry) (i levels : ℕ) → levels ≡ 0 → type_within levels text types i ≡ type_within 0 text types i
type-none text types i levels h = rw h

pub type-read : (text : List ℕ) (types : List TypeEntry) (i levels : ℕ) (e : TypeEntry) → 0 < levels → e ≡ entry_told types i →
    type_within levels text types i ≡ type_of_entry text (type_within (levels - 1) text types) e
unfolding type_within
type-read text types i zero e h q = absurd (omega arith)
type-read text types i (suc l) e h q = let m : suc l - 1 ≡ l = omega arith in rw (m, q)

depth-some : (a : ExpandedType) → 0 < depth a
depth-some int = omega arith
depth-some bool = omega arith
depth-some (hidden m t) = omega arith
depth-some (a ⇒ b) = omega arith

within : (ts : List ExpandedType) (k : ℕ) (a : ExpandedType) → slice_get ts k ≡ Some a → k < length ts
within ts k a e = ⊎_elim (λ h. h) (λ h. let n = nth_past ts k h in let z : ◌≡◌ {A = ℕ} 0 1 = cc in absurd (omega arith)) (cases_lt k (length ts))

module _ (text : List ℕ) (ts : List ExpandedType) where
  row_at : (es : List TypeEntry) (us : List ExpandedType) (k : ℕ) (a : ExpandedType) → Rows text ts es us → slice_get us k ≡ Some a →
      Row text ts (get_or es k Blank) a
  row_at [] [] k a rows_none e = let z : ◌≡◌ {A = ℕ} 0 1 = cc in absurd (omega arith)
  row_at [] (y ∷ ys) k a r e = elim r [ ]
  row_at (x ∷ xs) [] k a r e = elim r [ ]
  row_at (x ∷ xs) (y ∷ ys) zero a (rows_more r rs) e = let s : y ≡ a = cc in rw (sym s) r
  row_at (x ∷ xs) (y ∷ ys) (suc k) a (rows_more r rs) e = row_at xs ys k a rs e

  by_row : (types : List TypeEntry) (l : ℕ) (x : TypeEntry) (a : ExpandedType) → Row text ts x a → depth a ≤ suc l →
      ((k : ℕ) (b : ExpandedType) → depth b ≤ l → slice_get ts k ≡ Some b → type_within l text types k ≡ b) →
      type_of_entry text (type_within l text types) x ≡ a
  by_row types l x a row_int h more = refl
  by_row types l x a row_bool h more = refl
  by_row types l x a (row_hidden p q) h more = cc
  by_row types l x a (row_arrow {a = b} {b = c} p q d) h more =
      let from = more _ b (omega arith) p in
      let to = more _ c (omega arith) q in
      cc

pub table-told : TableTold
unfolding type_within
table-told text types ts k a short rows e deep = go 32 k a deep e
  where
    entry : (k : ℕ) (a : ExpandedType) → slice_get ts k ≡ Some a → Row text ts (entry_told types k) a
    entry k a e =
        let low : k < length ts = within ts k a e in
        let same = entry_here types k (omega arith) ∙ sym (get_or-take (length ts) types k Blank low) in
        rw same (row_at text ts (take (length ts) types) ts k a rows e)

    go : (l k : ℕ) (a : ExpandedType) → depth a ≤ l → slice_get ts k ≡ Some a → type_within l text types k ≡ a
    go zero k a h e = let d = depth-some a in absurd (omega arith)
    go (suc l) k a h e = by_row text ts types l (entry_told types k) a (entry k a e) h (go l)
