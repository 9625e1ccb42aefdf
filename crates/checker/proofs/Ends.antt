-- The answer of the whole check, and both tables then.
use Rattle.std.proofs.Common.{◌≡◌, ℕ, zero, suc, ◌-◌, ◌<◌, ◌≤◌, min, List, [], ◌∷◌, ◌++◌, length, take, drop, replicate, Some, Ok, Err, Result, sym, refl, ap, ◌∙◌, subst, ⊎_elim, append-nil, arith, length-take, length-drop}
use lib.ListN.{length-replicate}
use Rattle.std.proofs.lemmas.List.{drop_all, take_all, take_at, drop-replicate}
use Rattle.std.proofs.lemmas.Bool.{cases_lt}
use Rattle.std.specs.List.{slice_get}
use Rattle.language.specs.Pantry.{Stock}
use Rattle.language.specs.Typing.{ExpandedType}
use Rattle.grammar.specs.Syntax.{Sheet}
use Rattle.rules.specs.declared.faults.CheckFault.{CheckFault}
use Rattle.rules.specs.Forms.{Out, bad, good}
use Rattle.rules.specs.Rules as rules
use Rattle.typing.specs.declared.types.TypeEntry.{TypeEntry}
use Rattle.typing.specs.declared.types.TypeEntry.TheVariants as entry
use Rattle.typing.specs.declared.types.Slot.{Slot}
use Rattle.typing.specs.declared.types.Slot.TheVariants as slot
use Rattle.checker.specs.Sheets.{places}
use Rattle.checker.specs.Runs.{Declarations, Answers, AnswersFor, blank_types, blank_slots, Ends, EndsFor}
use Rattle.checker.proofs.Declares.{declared-kept}

drop-front : {A : Type 0} (u : ℕ) (xs ys : List A) → u ≤ length xs → drop u (take u xs ++ ys) ≡ ys
drop-front zero xs ys h = refl
drop-front (suc u) [] ys h = absurd (omega arith)
drop-front (suc u) (x ∷ xs) ys h = drop-front u xs ys (omega arith)

module _ {A : Type 0} (u : ℕ) (xs : List A) (b : A) where
  -- the places up to u stay, and those behind are blank
  abbrev pub Cleared : List A → Type 0
  Cleared zs = (take u zs ≡ take u xs) × (drop u zs ≡ drop u (replicate (length xs) b))

  within : (zs : List A) → u < length xs → zs ≡ take u xs ++ replicate (length xs - u) b → Cleared zs
  within zs h e = (
    ap (take u) e ∙ take_at (take u xs) (replicate (length xs - u) b) u (simp length-take (omega arith)),
    ap (drop u) e ∙ (drop-front u xs (replicate (length xs - u) b) (omega arith) ∙ sym (drop-replicate u (length xs) b)),
  )

  past : (zs : List A) → length xs ≤ u → zs ≡ xs → Cleared zs
  past zs h e = (ap (take u) e, ap (drop u) e ∙ (drop_all u xs h ∙ sym (drop_all u (replicate (length xs) b) (simp length-replicate h))))

  -- a table whose part from u on, as far as it has one, was filled
  pub cleared : (n : ℕ) (ys : List A) → n ≡ min u (length xs) → ys ≡ replicate (length (take (length xs - n) (drop n xs))) b →
      Cleared (take n xs ++ (ys ++ drop (length xs - n) (drop n xs)))
  cleared n ys m e =
      let long : length (drop n xs) ≡ length xs - n = simp length-drop (omega arith) in
      let none : drop (length xs - n) (drop n xs) ≡ [] = drop_all (length xs - n) (drop n xs) (omega arith) in
      let size : length (take (length xs - n) (drop n xs)) ≡ length xs - n = simp (length-take, length-drop) (omega arith) in
      let whole : take n xs ++ (ys ++ drop (length xs - n) (drop n xs)) ≡ take n xs ++ replicate (length xs - n) b =
      ap (λ (t : List A). take n xs ++ (ys ++ t)) none ∙ ap (λ (t : List A). take n xs ++ t) (append-nil ys ∙ (e ∙ ap (λ (k : ℕ). replicate k b) size)) in
      ⊎_elim
      (λ (h : u < length xs). let z : n ≡ u = omega arith in
      within _ h (whole ∙ ap (λ (k : ℕ). take k xs ++ replicate (length xs - k) b) z))
      (λ (h : length xs ≤ u). let z : n ≡ length xs = omega arith in let y : length xs - n ≡ 0 = omega arith in
      past _ h (whole ∙ (ap (λ (k : ℕ). take n xs ++ replicate k b) y ∙ (append-nil (take n xs) ∙ take_all n xs (let k : length xs ≤ n = omega arith in k)))))
      (cases_lt u (length xs))

module _ (text : List ℕ) (kinds : Stock) (sheet : Sheet) (types : List TypeEntry) (slots : List Slot) where
  -- the places of a blanked table are the table's
  moved : (r : Result (ℕ × ℕ) CheckFault) (types' : List TypeEntry) (slots' : List Slot) →
      AnswersFor text (places (blank_types types)) (places (blank_slots slots)) (blank_types types) kinds sheet r types' slots' →
      AnswersFor text (places types) (places slots) (blank_types types) kinds sheet r types' slots'
  moved r types' slots' a =
      let et : places (blank_types types) ≡ places types = ap (λ (n : ℕ). min n 65535) (length-replicate (length types) entry.Blank) in
      let es : places (blank_slots slots) ≡ places slots = ap (λ (n : ℕ). min n 65535) (length-replicate (length slots) slot.Blank) in
      subst (λ (q : ℕ). AnswersFor text (places types) q (blank_types types) kinds sheet r types' slots') es
      (subst (λ (p : ℕ). AnswersFor text p (places (blank_slots slots)) (blank_types types) kinds sheet r types' slots') et a)

  bad-ends : (m : Out (List ExpandedType) rules.Scope) (o : Out (List ExpandedType) ExpandedType) (f : CheckFault) (t : List TypeEntry) (s : List Slot) (types' : List TypeEntry) (slots' : List Slot) →
      Answers text (places types) (places slots) (blank_types types) m o (Err f) t s → types' ≡ blank_types types → slots' ≡ blank_slots slots → Ends text m o (Err f) (blank_types types) (blank_slots slots) types' slots'
  bad-ends m (bad g) f t s types' slots' a p q = let z : f ≡ g = cc in (ap Err z, p, q)
  bad-ends m (good k us) f t s types' slots' a p q = let y = a.result in let z : ◌≡◌ {A = ℕ} 0 1 = cc in absurd (omega arith)

  pub ends-bad : (f : CheckFault) (t : List TypeEntry) (s : List Slot) (types' : List TypeEntry) (slots' : List Slot) →
      AnswersFor text (places (blank_types types)) (places (blank_slots slots)) (blank_types types) kinds sheet (Err f) t s →
      types' ≡ blank_types types → slots' ≡ blank_slots slots → EndsFor text kinds (places types) (places slots) sheet (Err f) (blank_types types) (blank_slots slots) types' slots'
  ends-bad f t s types' slots' a p q = bad-ends _ _ f t s types' slots' (moved (Err f) t s a) p q

  good-ends : (m : Out (List ExpandedType) rules.Scope) (o : Out (List ExpandedType) ExpandedType) (k u : ℕ) (t : List TypeEntry) (s slots' : List Slot) →
      Answers text (places types) (places slots) (blank_types types) m o (Ok (k, u)) t s → take u slots' ≡ take u s → drop u slots' ≡ drop u (blank_slots slots) →
      Ends text m o (Ok k) (blank_types types) (blank_slots slots) t slots'
  good-ends m (bad g) k u t s slots' a f p = let z : ◌≡◌ {A = ℕ} 0 1 = cc in absurd (omega arith)
  good-ends m (good b us) k u t s slots' a f p =
      let pr : ◌≡◌ {A = ℕ × ℕ} (a.number, a.used) (k, u) = (let y = a.result in cc) in
      let x : a.number ≡ k = ap (λ (c : ℕ × ℕ). c.0) pr in
      let v : a.used ≡ u = ap (λ (c : ℕ × ℕ). c.1) pr in
      let d = subst (λ (n : ℕ). Declarations text m us n s) v a.declarations in
      record {
        number = k;
        used = u;
        result = refl;
        tells = subst (λ (v : ℕ). slice_get us v ≡ Some b) x a.tells;
        rows = a.stands.rows;
        types_rest = a.stands.rest;
        declarations = record {
          scope = d.scope;
          told = d.told;
          came_to = d.came_to;
          used_are = d.used_are;
          declared = declared-kept u us slots' (omega arith) f (λ i a e. e) d.declared;
        };
        slots_rest = p;
      }

  pub ends-good : (k u : ℕ) (t : List TypeEntry) (s slots' : List Slot) →
      AnswersFor text (places (blank_types types)) (places (blank_slots slots)) (blank_types types) kinds sheet (Ok (k, u)) t s →
      take u slots' ≡ take u s → drop u slots' ≡ drop u (blank_slots slots) → EndsFor text kinds (places types) (places slots) sheet (Ok k) (blank_types types) (blank_slots slots) t slots'
  ends-good k u t s slots' a f p = good-ends _ _ k u t s slots' (moved (Ok (k, u)) t s a) f p
