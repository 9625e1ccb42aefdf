-- The check passes exactly when the rules give a type and no limit or table is exceeded.
use Rattle.std.proofs.Common.{◌≡◌, ℕ, ◌+◌, ◌<◌, ◌≤◌, Bool, true, false, cond, ◌&&◌, ltb, leb, ◌⊎◌, List, [], ◌∷◌, ◌++◌, length, sym, refl, ap, ◌∙◌, subst, inl, inr, arith, length-append}
use mathlib.Core.Option.{Option, some}
use Rattle.std.proofs.lemmas.Bool.{le-leb, leb-true, leb-false, ltb-true, lt-ltb, and_parts, and_from, both_ways, true≢false, cases_lt}
use Rattle.language.specs.Pantry.{Stock}
use Rattle.language.specs.Typing.{ExpandedType, int, bool, stock_types}
use Rattle.language.specs.TypeOf.{same_type}
use Rattle.language.specs.Check.{check_of}
use Rattle.language.proofs.Agrees.{same-type-is}
use Rattle.language.proofs.Checks.{check-agrees}
use Rattle.grammar.specs.Syntax.{Sheet}
use Rattle.grammar.specs.Plain.{plain}
use Rattle.rules.specs.declared.faults.CheckFault.{CheckFault}
use Rattle.rules.specs.declared.faults.CheckFault.TheVariants.{
  Repeated,
  UnknownValue,
  UnknownType,
  Unwanted,
  NoArrow,
  Missing,
  Mismatch,
  TooDeep,
  TypesFull,
  ScopeFull,
}
use Rattle.rules.specs.Faults.{is_exceeded}
use Rattle.rules.specs.Forms.{Out, bad, good, after}
use Rattle.rules.specs.Rules.{depth, depth_limit, member, entering, typing}
use Rattle.rules.specs.Checking.{kind_types, at_start, enter_all, check_modules, checking}
use Rattle.rules.specs.Needs.{formed, names_in, with_type, with_types, distinct_types, Shallow, Within}
use Rattle.rules.specs.Laws.{Typed, Passed, Lacks, PassingExact, PassingSound, PassingComplete, RefusingSound, LargerTables}
use Rattle.rules.proofs.Runs.{
  Room,
  enough,
  has_room,
  Tied,
  tied-none,
  tied-over,
  tied-good,
  all_new,
  is_shallow,
  has_place,
  fits,
  Run,
  run-form,
  run-assoc,
}
use Rattle.rules.proofs.Whole.{modules-run}

-- ── the whole sheet ──

module _ (tp sp : ℕ) where
  enter_all-runs : {A : Type 0} {ls : List ExpandedType} {n : ℕ} (more : List ExpandedType) (ts : List ExpandedType)
      (k : List ExpandedType → Out (List ExpandedType) A) (r : Option A) →
      Run tp sp (k (with_types ts more)) r (with_types ts more) 0 ls n →
      Run tp sp (after (enter_all tp sp more ts) (λ _. k)) r ts 0 (more ++ ls) n
  enter_all-runs [] ts k r h = h
  enter_all-runs (a ∷ more) ts k r h = run-assoc tp sp (entering tp 0 a ts) (λ _. enter_all tp sp more) (λ _. k)
      (run-form tp sp 0 a ts 0 (λ _ s. after (enter_all tp sp more s) (λ _. k)) r (omega arith) (enter_all-runs more (with_type ts a) k r h))

  pub sheet-runs : (kinds : Stock) (sheet : Sheet) →
      Run tp sp (checking kinds tp sp sheet) (check_of (stock_types kinds) (plain sheet)) [] 0 (formed kinds (plain sheet))
      (names_in (plain sheet))
  sheet-runs kinds sheet = enter_all-runs (int ∷ bool ∷ kind_types kinds) []
      (λ s. after (check_modules tp sp sheet.modules (at_start kinds) s) (typing tp sp sheet.closing)) _
      (modules-run tp sp sheet.modules sheet.closing 0 [] (stock_types kinds) _ (omega arith))

  -- ── room, in the words of the sheet's needs ──

  shallow-push : (ts : List ExpandedType) (a : ExpandedType) → Shallow ts → depth a ≤ depth_limit → Shallow (ts ++ a ∷ [])
  shallow-push [] a h d = (d, tt)
  shallow-push (b ∷ ts) a h d = (h.0, shallow-push ts a h.1 d)

  pub member-shallow : (ts : List ExpandedType) (a : ExpandedType) → Shallow ts → member a ts ≡ true → depth a ≤ depth_limit
  member-shallow [] a h e = absurd (cc)
  member-shallow (b ∷ ts) a h e = go (same_type b a) refl e (member-shallow ts a h.1)
    where
      go : (c : Bool) → same_type b a ≡ c → cond c true (member a ts) ≡ true → (member a ts ≡ true → depth a ≤ depth_limit) →
          depth a ≤ depth_limit
      go true f q k = subst (λ (t : ExpandedType). depth t ≤ depth_limit) (same-type-is b a f) h.0
      go false f q k = k q

  types-grow : (ts more : List ExpandedType) → length ts ≤ length (with_types ts more)
  types-grow ts [] = omega arith
  types-grow ts (a ∷ more) = go (member a ts) (types-grow ts more) (types-grow (ts ++ a ∷ []) more)
    where
      go : (c : Bool) → length ts ≤ length (with_types ts more) → length (ts ++ a ∷ []) ≤ length (with_types (ts ++ a ∷ []) more) →
          length ts ≤ length (with_types (cond c ts (ts ++ a ∷ [])) more)
      go true h k = h
      go false h k = omega (arith, length-append ts (a ∷ []))

  shallow-from : (ts more : List ExpandedType) → Shallow ts → all_new is_shallow ts more ≡ true → Shallow more
  shallow-from ts [] h e = tt
  shallow-from ts (a ∷ more) h e = go (member a ts) refl e (shallow-from ts more h) (shallow-from (ts ++ a ∷ []) more)
    where
      go : (c : Bool) → member a ts ≡ c →
          cond c (all_new is_shallow ts more) (leb (depth a) depth_limit && all_new is_shallow (ts ++ a ∷ []) more) ≡ true →
          (all_new is_shallow ts more ≡ true → Shallow more) →
          (Shallow (ts ++ a ∷ []) → all_new is_shallow (ts ++ a ∷ []) more ≡ true → Shallow more) → (depth a ≤ depth_limit) × Shallow more
      go true f q i j = (member-shallow ts a h f, i q)
      go false f q i j =
          let (x, y) = and_parts (leb (depth a) depth_limit) (all_new is_shallow (ts ++ a ∷ []) more) q in
          let d = leb-true (depth a) depth_limit x in (d, j (shallow-push ts a h d) y)

  shallow-to : (ts more : List ExpandedType) → Shallow more → all_new is_shallow ts more ≡ true
  shallow-to ts [] h = refl
  shallow-to ts (a ∷ more) h = go (member a ts) (shallow-to ts more h.1) (shallow-to (ts ++ a ∷ []) more h.1)
    where
      go : (c : Bool) → all_new is_shallow ts more ≡ true → all_new is_shallow (ts ++ a ∷ []) more ≡ true →
          cond c (all_new is_shallow ts more) (leb (depth a) depth_limit && all_new is_shallow (ts ++ a ∷ []) more) ≡ true
      go true i j = i
      go false i j = and_from (leb (depth a) depth_limit) (all_new is_shallow (ts ++ a ∷ []) more) (le-leb (depth a) depth_limit h.0) j

  places-from : (ts more : List ExpandedType) → length ts ≤ tp → all_new (has_place tp sp) ts more ≡ true → length (with_types ts more) ≤ tp
  places-from ts [] l e = l
  places-from ts (a ∷ more) l e = go (member a ts) e (places-from ts more l) (places-from (ts ++ a ∷ []) more)
    where
      go : (c : Bool) →
          cond c (all_new (has_place tp sp) ts more) (ltb (length ts) tp && all_new (has_place tp sp) (ts ++ a ∷ []) more) ≡ true →
          (all_new (has_place tp sp) ts more ≡ true → length (with_types ts more) ≤ tp) →
          (length (ts ++ a ∷ []) ≤ tp → all_new (has_place tp sp) (ts ++ a ∷ []) more ≡ true → length (with_types (ts ++ a ∷ []) more) ≤ tp) →
          length (with_types (cond c ts (ts ++ a ∷ [])) more) ≤ tp
      go true q i j = i q
      go false q i j =
          let (x, y) = and_parts (ltb (length ts) tp) (all_new (has_place tp sp) (ts ++ a ∷ []) more) q in
          j (omega (arith, length-append ts (a ∷ []), ltb-true (length ts) tp x)) y

  places-to : (ts more : List ExpandedType) → length (with_types ts more) ≤ tp → all_new (has_place tp sp) ts more ≡ true
  places-to ts [] l = refl
  places-to ts (a ∷ more) l = go (member a ts) l (places-to ts more) (places-to (ts ++ a ∷ []) more)
    where
      go : (c : Bool) → length (with_types (cond c ts (ts ++ a ∷ [])) more) ≤ tp →
          (length (with_types ts more) ≤ tp → all_new (has_place tp sp) ts more ≡ true) →
          (length (with_types (ts ++ a ∷ []) more) ≤ tp → all_new (has_place tp sp) (ts ++ a ∷ []) more ≡ true) →
          cond c (all_new (has_place tp sp) ts more) (ltb (length ts) tp && all_new (has_place tp sp) (ts ++ a ∷ []) more) ≡ true
      go true k i j = i k
      go false k i j = and_from (ltb (length ts) tp) (all_new (has_place tp sp) (ts ++ a ∷ []) more)
          (lt-ltb (length ts) tp (omega (arith, types-grow (ts ++ a ∷ []) more, length-append ts (a ∷ [])))) (j k)

-- ── the laws ──

module _ (kinds : Stock) (tp sp : ℕ) (sheet : Sheet) where
  abbrev outcome : Out (List ExpandedType) ExpandedType
  outcome = checking kinds tp sp sheet

  abbrev needed : List ExpandedType
  needed = formed kinds (plain sheet)

  abbrev given : Room
  given = fits tp sp [] 0 needed (names_in (plain sheet))

  within-from : enough given ≡ true → Within kinds tp sp (plain sheet)
  within-from h =
      let (x, y) = and_parts (all_new is_shallow [] needed) (all_new (has_place tp sp) [] needed && leb (0 + names_in (plain sheet)) sp) h in
      let (z, w) = and_parts (all_new (has_place tp sp) [] needed) (leb (0 + names_in (plain sheet)) sp) y in
      record {
        shallow = shallow-from tp sp [] needed tt x;
        types_fit = places-from tp sp [] needed (omega arith) z;
        names_fit = omega (arith, leb-true (0 + names_in (plain sheet)) sp w);
      }

  lacks-from : (f : CheckFault) → has_room f given ≡ false → Lacks kinds tp sp (plain sheet) f
  lacks-from (Repeated at) h = true≢false h
  lacks-from (UnknownValue at) h = true≢false h
  lacks-from (UnknownType at) h = true≢false h
  lacks-from (Unwanted at) h = true≢false h
  lacks-from (NoArrow at) h = true≢false h
  lacks-from (Missing at) h = true≢false h
  lacks-from (Mismatch at) h = true≢false h
  lacks-from (TooDeep at) h = λ s. both_ways (all_new is_shallow [] needed) h (shallow-to tp sp [] needed s)
  lacks-from (TypesFull at) h = go (cases_lt tp (length (distinct_types kinds (plain sheet))))
    where
      go : (tp < length (distinct_types kinds (plain sheet))) ⊎ (length (distinct_types kinds (plain sheet)) ≤ tp) →
          tp < length (distinct_types kinds (plain sheet))
      go (inl x) = x
      go (inr x) = absurd (both_ways (all_new (has_place tp sp) [] needed) h (places-to tp sp [] needed x))
  lacks-from (ScopeFull at) h = omega (arith, leb-false (0 + names_in (plain sheet)) sp h)

  -- what is lacking is not within
  lacks-not : (f : CheckFault) → Lacks kinds tp sp (plain sheet) f → ¬ (Within kinds tp sp (plain sheet))
  lacks-not (Repeated at) h w = h
  lacks-not (UnknownValue at) h w = h
  lacks-not (UnknownType at) h w = h
  lacks-not (Unwanted at) h w = h
  lacks-not (NoArrow at) h w = h
  lacks-not (Missing at) h w = h
  lacks-not (Mismatch at) h w = h
  lacks-not (TooDeep at) h w = h w.shallow
  lacks-not (TypesFull at) h w = omega (arith, w.types_fit)
  lacks-not (ScopeFull at) h w = omega (arith, w.names_fit)

  good-from : (r : ExpandedType) (ts : List ExpandedType) → outcome ≡ good r ts →
      Typed kinds sheet r × (ts ≡ distinct_types kinds (plain sheet)) × Within kinds tp sp (plain sheet)
  good-from r ts e = go (sheet-runs tp sp kinds sheet).tied
    where
      go : Tied outcome (check_of (stock_types kinds) (plain sheet)) given (distinct_types kinds (plain sheet)) →
          Typed kinds sheet r × (ts ≡ distinct_types kinds (plain sheet)) × Within kinds tp sp (plain sheet)
      go (tied-none f p o) = absurd (cc)
      go (tied-over a f p b o) = absurd (cc)
      go (tied-good a p b o) =
          let z : check_of (stock_types kinds) (plain sheet) ≡ some r = cc in
          ((check-agrees (stock_types kinds) (plain sheet) r).0 z, cc, within-from b)

  -- a sheet that has a type passes with it, or lacks what its refusal says
  outcome-of : (r : ExpandedType) → Typed kinds sheet r →
      Passed kinds tp sp sheet r ⊎ ((f : CheckFault) × (outcome ≡ bad f) × Lacks kinds tp sp (plain sheet) f)
  outcome-of r t = go (sheet-runs tp sp kinds sheet).tied ((check-agrees (stock_types kinds) (plain sheet) r).1 t)
    where
      go : Tied outcome (check_of (stock_types kinds) (plain sheet)) given (distinct_types kinds (plain sheet)) →
          check_of (stock_types kinds) (plain sheet) ≡ some r →
          Passed kinds tp sp sheet r ⊎ ((f : CheckFault) × (outcome ≡ bad f) × Lacks kinds tp sp (plain sheet) f)
      go (tied-none f p o) e = absurd (cc)
      go (tied-over a f p b o) e = inr (f, o, lacks-from f b)
      go (tied-good a p b o) e = let z : a ≡ r = cc in inl (o ∙ ap (λ (c : ExpandedType). good c (distinct_types kinds (plain sheet))) z)

  lacks-exceeds : (f : CheckFault) → Lacks kinds tp sp (plain sheet) f → is_exceeded f ≡ true
  lacks-exceeds (Repeated at) h = absurd h
  lacks-exceeds (UnknownValue at) h = absurd h
  lacks-exceeds (UnknownType at) h = absurd h
  lacks-exceeds (Unwanted at) h = absurd h
  lacks-exceeds (NoArrow at) h = absurd h
  lacks-exceeds (Missing at) h = absurd h
  lacks-exceeds (Mismatch at) h = absurd h
  lacks-exceeds (TooDeep at) h = refl
  lacks-exceeds (TypesFull at) h = refl
  lacks-exceeds (ScopeFull at) h = refl

  passes : (r : ExpandedType) → Typed kinds sheet r → Within kinds tp sp (plain sheet) → Passed kinds tp sp sheet r
  passes r t w = elim (outcome-of r t) [ inl x ↦ x | inr (f, e, x) ↦ absurd (lacks-not f x w) ]

pub passing-exact : PassingExact
passing-exact kinds tp sp sheet r = (
  λ h. let x = good-from kinds tp sp sheet r (distinct_types kinds (plain sheet)) h in (x.0, x.2),
  λ h. passes kinds tp sp sheet r h.0 h.1,
)

pub passing-sound : PassingSound
passing-sound kinds tp sp sheet r ts h = let x = good-from kinds tp sp sheet r ts h in (x.0, x.1)

pub passing-complete : PassingComplete
passing-complete kinds tp sp sheet r t = elim (outcome-of kinds tp sp sheet r t) [
  | inl x ↦ inl x
  | inr (f, e, x) ↦ inr (f, e, lacks-exceeds kinds tp sp sheet f x)
]

pub refusing-sound : RefusingSound
refusing-sound kinds tp sp sheet f h r t = go (outcome-of kinds tp sp sheet r t)
  where
    go : Passed kinds tp sp sheet r ⊎ ((g : CheckFault) × (checking kinds tp sp sheet ≡ bad g) × Lacks kinds tp sp (plain sheet) g) →
        Lacks kinds tp sp (plain sheet) f
    go (inl x) = absurd (cc)
    go (inr (g, e, x)) = let z : g ≡ f = cc in subst (Lacks kinds tp sp (plain sheet)) z x

pub larger-tables : LargerTables
larger-tables kinds tp sp tp' sp' sheet r ts h k e =
    let x = good-from kinds tp sp sheet r ts e in
    let w = x.2 in
    passes kinds tp' sp' sheet r x.0 (record {
      shallow = w.shallow;
      types_fit = omega (arith, w.types_fit);
      names_fit = omega (arith, w.names_fit);
    }) ∙ ap (good r) (sym x.1)
