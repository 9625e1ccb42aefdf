-- The check on the places of the tables that count, told of the whole tables.
use Rattle.std.proofs.Common.{◌≡◌, ℕ, zero, suc, ◌-◌, ◌<◌, ◌≤◌, min, List, [], ◌∷◌, ◌++◌, length, take, drop, replicate, Result, sym, refl, ap, ◌∙◌, subst, ⊎_elim, eq-or-lt_of_le, arith, length-take}
use mathlib.Core.Option.{some}
use lib.ListN.{get_elem?, length-replicate}
use lib.Seq.{take-append-le, drop-append-le}
use Rattle.std.proofs.lemmas.List.{drop_all}
use Rattle.language.specs.Pantry.{Stock}
use Rattle.language.specs.Typing.{ExpandedType, Interfaces}
use Rattle.language.specs.Modules.{Made}
use Rattle.grammar.specs.Syntax.{Sheet}
use Rattle.rules.specs.declared.faults.CheckFault.{CheckFault}
use Rattle.rules.specs.Forms.{Out, bad, good}
use Rattle.rules.specs.Rules as rules
use Rattle.typing.specs.declared.types.TypeEntry.{TypeEntry}
use Rattle.typing.specs.declared.types.TypeEntry.TheVariants as entry
use Rattle.typing.specs.declared.types.Slot.{Slot}
use Rattle.typing.specs.declared.types.Slot.TheVariants as slot
use Rattle.typing.specs.Stands.{Rows, rows_none, rows_more, Holding, no_name, type_name, value_name}
use Rattle.checker.specs.Sheets.{places}
use Rattle.checker.specs.Modules.{Declared, none_declared, more_declared}
use Rattle.checker.specs.Runs.{Ends, EndsFor, blank_types, blank_slots}
use Rattle.checker.specs.Laws.{blanked}
use Rattle.checker.proofs.Declares.{declared-kept}

-- a part of a table is lent and comes back as w
module _ {A : Type 0} (b : A) (xs w : List A) (n : ℕ) (e : n ≡ min (length xs) 65535) (l : length w ≡ n) where
  abbrev lent : List A
  lent = take (n - 0) (drop 0 xs)

  abbrev rest : List A
  rest = drop (n - 0) (drop 0 xs)

  lent_length : length lent ≡ n
  lent_length = simp length-take (omega arith)

  rest-is : rest ≡ drop 65535 xs
  rest-is =
      let z : n - 0 ≡ n = omega arith in
      let h : n ≤ 65535 = omega arith in
      ap (λ (k : ℕ). drop k xs) z ∙
      ⊎_elim (λ (q : n ≡ 65535). ap (λ (k : ℕ). drop k xs) q)
      (λ (s : n < 65535). let a : length xs ≤ n = omega arith in let c : length xs ≤ 65535 = omega arith in drop_all n xs a ∙ sym (drop_all 65535 xs c))
      (eq-or-lt_of_le h)

  blank-is : replicate (length lent) b ++ rest ≡ blanked b xs
  blank-is = let z : length lent ≡ places xs = lent_length ∙ e in ap (λ (k : ℕ). replicate k b ++ rest) z ∙ ap (λ (r : List A). replicate (places xs) b ++ r) rest-is

  pub places-lent : places lent ≡ places xs
  places-lent = let z = lent_length in omega arith

  pub blank-whole : w ≡ replicate (length lent) b → w ++ rest ≡ blanked b xs
  blank-whole h = ap (λ (v : List A). v ++ rest) h ∙ blank-is

  pub rest-whole : (k : ℕ) → k ≤ length w → drop k w ≡ drop k (replicate (length lent) b) → drop k (w ++ rest) ≡ drop k (blanked b xs)
  rest-whole k h q =
      let m : k ≤ length (replicate (length lent) b) = (let z = lent_length in simp length-replicate (omega arith)) in
      drop-append-le k w rest h ∙ (ap (λ (v : List A). v ++ rest) q ∙ (sym (drop-append-le k (replicate (length lent) b) rest m) ∙ ap (drop k) blank-is))

-- the rows that stand for types are as many
rows-length : {text : List ℕ} {ts us : List ExpandedType} {es : List TypeEntry} → Rows text ts es us → length es ≡ length us
rows-length rows_none = refl
rows-length (rows_more r rs) = ap suc (rows-length rs)

elem-within : {A : Type 0} (xs : List A) (k : ℕ) (x : A) → get_elem? xs k ≡ some x → k < length xs
elem-within [] k x e = let z : ◌≡◌ {A = ℕ} 0 1 = cc in absurd (omega arith)
elem-within (y ∷ xs) zero x e = omega arith
elem-within (y ∷ xs) (suc k) x e = omega (arith, elem-within xs k x e)

module _ {text : List ℕ} {ts : List ExpandedType} {slots : List Slot} where
  holding-fits : {first u t v : ℕ} {ms : List Made} → first ≤ length slots → Holding text ts slots first u t v ms → u ≤ length slots
  holding-fits l no_name = l
  holding-fits l (type_name {u = u} p q r o h) = omega (arith, elem-within slots u _ p)
  holding-fits l (value_name {u = u} p q r o h) = omega (arith, elem-within slots u _ p)

  declared-fits : {u : ℕ} {js : Interfaces} → Declared text ts slots u js → u ≤ length slots
  declared-fits none_declared = omega arith
  declared-fits (more_declared x d h) = holding-fits (declared-fits d) h

module _ (text : List ℕ) (stock : Stock) (sheet : Sheet) (types types' : List TypeEntry) (slots slots' : List Slot) (n m : ℕ)
    (et : n ≡ min (length types) 65535) (es : m ≡ min (length slots) 65535) (lt : length types' ≡ n) (ls : length slots' ≡ m) where
  abbrev lent_types : List TypeEntry
  lent_types = take (n - 0) (drop 0 types)

  abbrev lent_slots : List Slot
  lent_slots = take (m - 0) (drop 0 slots)

  abbrev all_types : List TypeEntry
  all_types = types' ++ drop (n - 0) (drop 0 types)

  abbrev all_slots : List Slot
  all_slots = slots' ++ drop (m - 0) (drop 0 slots)

  ends-whole : (p : Out (List ExpandedType) rules.Scope) (o : Out (List ExpandedType) ExpandedType) (r : Result ℕ CheckFault) →
      Ends text p o r (blank_types lent_types) (blank_slots lent_slots) types' slots' →
      Ends text p o r (blanked entry.Blank types) (blanked slot.Blank slots) all_types all_slots
  ends-whole p (bad f) r h = (h.0, blank-whole entry.Blank types types' n et lt h.1, blank-whole slot.Blank slots slots' m es ls h.2)
  ends-whole p (good a us) r h =
      let d = h.declarations in
      let many = rows-length h.rows in
      let long : length us ≤ length types' = (let z = simp length-take at many in omega arith) in
      let fits = declared-fits d.declared in
      record {
        number = h.number;
        used = h.used;
        result = h.result;
        tells = h.tells;
        rows = subst (λ (zs : List TypeEntry). Rows text us zs us) (sym (take-append-le (length us) types' _ long)) h.rows;
        types_rest = rest-whole entry.Blank types types' n et lt (length us) long h.types_rest;
        declarations = record {
          scope = d.scope;
          told = d.told;
          came_to = d.came_to;
          used_are = d.used_are;
          declared = declared-kept h.used us all_slots (omega arith) (take-append-le h.used slots' _ fits) (λ i a e. e) d.declared;
        };
        slots_rest = rest-whole slot.Blank slots slots' m es ls h.used fits h.slots_rest;
      }

  pub told-whole : (t : Sheet) → sheet ≡ t → (r : Result ℕ CheckFault) →
      EndsFor text stock (places lent_types) (places lent_slots) sheet r (blank_types lent_types) (blank_slots lent_slots) types' slots' →
      EndsFor text stock (places types) (places slots) t r (blanked entry.Blank types) (blanked slot.Blank slots) all_types all_slots
  told-whole t e r h =
      subst (λ (z : Sheet). EndsFor text stock (places types) (places slots) z r (blanked entry.Blank types) (blanked slot.Blank slots) all_types all_slots) e
      (subst (λ (q : ℕ). EndsFor text stock (places types) q sheet r (blanked entry.Blank types) (blanked slot.Blank slots) all_types all_slots) (places-lent slot.Blank slots slots' m es ls)
      (subst (λ (p : ℕ). EndsFor text stock p (places lent_slots) sheet r (blanked entry.Blank types) (blanked slot.Blank slots) all_types all_slots) (places-lent entry.Blank types types' n et lt)
      (ends-whole _ _ r h)))
