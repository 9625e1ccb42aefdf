-- A check and the rules go together: a check gives what the rules give, or refuses because a limit or table is exceeded; where the rules
-- give nothing, it refuses.
use Rattle.std.proofs.Common.{◌≡◌, ℕ, ◌+◌, ◌≤◌, max, Bool, true, false, cond, ◌&&◌, ltb, leb, List, [], ◌∷◌, ◌++◌, length, sym, refl, ap, ◌∙◌, subst, ap₂, arith}
use native.Mathlib.Nat.{zero-max, max-zero}
use mathlib.Core.Bool.{and_assoc}
use mathlib.Core.Option.{Option, none, some}
use Rattle.std.proofs.lemmas.List.{append-nil}
use Rattle.std.proofs.lemmas.Bool.{le-leb, leb-true, and_parts, and_left, and_right}
use Rattle.std.proofs.lemmas.Bool.Decides.{nat_tests}
use Rattle.language.specs.Bindings.{option_of}
use Rattle.language.specs.Options.{◌then◌, need}
use Rattle.language.specs.Typing.{ExpandedType}
use Rattle.language.specs.Modules.{Made}
use Rattle.rules.specs.declared.faults.CheckFault.{CheckFault}
use Rattle.rules.specs.declared.faults.CheckFault.TheVariants.{
  Repeated,
  UnknownValue,
  UnknownType,
  Unwanted,
  NoArrow,
  Missing,
  Mismatch,
  TooDeep,
  TypesFull,
  ScopeFull,
}
use Rattle.rules.specs.Forms.{Out, bad, good, after, want, known, give}
use Rattle.rules.specs.Rules.{depth, depth_limit, member, Scope, with_name, entering, taking}
use Rattle.rules.specs.Needs.{with_type, with_types}

abbrev Types : Type 0
Types = List ExpandedType

-- whether no type is too deep, whether the types have places, and whether the names have
pub data Room : Type 0 where
  room : (shallow types names : Bool) → Room

-- room for two
infixl 20 ◌both◌
abbrev ◌both◌ : Room → Room → Room
(room a b c) both (room d e f) = room (a && d) (b && e) (c && f)

abbrev pub enough : Room → Bool
enough (room a b c) = a && (b && c)

-- there is room for what the refusal says is lacking
abbrev pub has_room : CheckFault → Room → Bool
has_room (Repeated at) r = true
has_room (UnknownValue at) r = true
has_room (UnknownType at) r = true
has_room (Unwanted at) r = true
has_room (NoArrow at) r = true
has_room (Missing at) r = true
has_room (Mismatch at) r = true
has_room (TooDeep at) (room a b c) = a
has_room (TypesFull at) (room a b c) = b
has_room (ScopeFull at) (room a b c) = c

lacking-left : (f : CheckFault) (r s : Room) → has_room f r ≡ false → has_room f (r both s) ≡ false
lacking-left (Repeated at) r s h = h
lacking-left (UnknownValue at) r s h = h
lacking-left (UnknownType at) r s h = h
lacking-left (Unwanted at) r s h = h
lacking-left (NoArrow at) r s h = h
lacking-left (Missing at) r s h = h
lacking-left (Mismatch at) r s h = h
lacking-left (TooDeep at) (room a b c) (room d e g) h = and_left a d h
lacking-left (TypesFull at) (room a b c) (room d e g) h = and_left b e h
lacking-left (ScopeFull at) (room a b c) (room d e g) h = and_left c g h

lacking-right : (f : CheckFault) (r s : Room) → has_room f s ≡ false → has_room f (r both s) ≡ false
lacking-right (Repeated at) r s h = h
lacking-right (UnknownValue at) r s h = h
lacking-right (UnknownType at) r s h = h
lacking-right (Unwanted at) r s h = h
lacking-right (NoArrow at) r s h = h
lacking-right (Missing at) r s h = h
lacking-right (Mismatch at) r s h = h
lacking-right (TooDeep at) (room a b c) (room d e g) h = and_right a d h
lacking-right (TypesFull at) (room a b c) (room d e g) h = and_right b e h
lacking-right (ScopeFull at) (room a b c) (room d e g) h = and_right c g h

enough-both : (r s : Room) → enough r ≡ true → enough s ≡ true → enough (r both s) ≡ true
enough-both (room true true true) (room d e f) h k = k
enough-both (room true true false) (room d e f) h k = cc
enough-both (room true false c) (room d e f) h k = cc
enough-both (room false b c) (room d e f) h k = cc

-- `Tied o p r ts`: where the rules give a, the outcome is a with the types ts, if there is enough room; else it is a refusal that says
-- what is lacking
pub data Tied {A : Type 0} (o : Out Types A) (p : Option A) (r : Room) (ts : Types) : Type 0 where
  tied-none : (f : CheckFault) → p ≡ none → o ≡ bad f → Tied o p r ts
  tied-over : (a : A) (f : CheckFault) → p ≡ some a → has_room f r ≡ false → o ≡ bad f → Tied o p r ts
  tied-good : (a : A) → p ≡ some a → enough r ≡ true → o ≡ good a ts → Tied o p r ts

tied_then : {A B : Type 0} {o : Out Types A} {p : Option A} {b c : Room} {ts us : Types} (k : A → Types → Out Types B)
    (q : A → Option B) → Tied o p b ts → ((a : A) → p ≡ some a → enough b ≡ true → Tied (k a ts) (q a) c us) →
    Tied (after o k) (p then q) (b both c) us
tied_then k q (tied-none f e r) h = tied-none f (rw e) (rw r)
tied_then {B = B} {o} {p} {b} {c} {ts} {us} k q (tied-over a f e x r) h = go (q a) refl
  where
    go : (s : Option B) → q a ≡ s → Tied (after o k) (p then q) (b both c) us
    go none z = tied-none f (rw (e, z)) (rw r)
    go (some d) z = tied-over d f (rw (e, z)) (lacking-left f b c x) (rw r)
tied_then {B = B} {o} {p} {b} {c} {ts} {us} k q (tied-good a e x r) h = go (h a e x)
  where
    go : Tied (k a ts) (q a) c us → Tied (after o k) (p then q) (b both c) us
    go (tied-none f z w) = tied-none f (rw (e, z)) (rw (r, w))
    go (tied-over d f z y w) = tied-over d f (rw (e, z)) (lacking-right f b c y) (rw (r, w))
    go (tied-good d z y w) = tied-good d (rw (e, z)) (enough-both b c x y) (rw (r, w))

tied_at : {A : Type 0} {o : Out Types A} {p : Option A} {b c : Room} {ts us : Types} → b ≡ c → ts ≡ us → Tied o p b ts → Tied o p c us
tied_at e f (tied-none g x y) = tied-none g x y
tied_at e f (tied-over a g x y z) = tied-over a g x (ap (has_room g) (sym e) ∙ y) z
tied_at e f (tied-good a x y z) = tied-good a x (ap enough (sym e) ∙ y) (z ∙ ap (good a) f)

-- the names have places, if there is enough room
names_fit : (a b c : Bool) → a && (b && c) ≡ true → c ≡ true
names_fit a b c h = (and_parts b c (and_parts a (b && c) h).1).1

-- two outcomes and what follows them
pub after-assoc : {A B C : Type 0} (o : Out Types A) (k : A → Types → Out Types B) (l : B → Types → Out Types C) →
    after (after o k) l ≡ after o (λ a s. after (k a s) l)
after-assoc (bad f) k l = refl
after-assoc (good a s) k l = refl

-- ── room ──

-- each type that is not there yet, entered in its turn, passes the test
abbrev pub all_new : (Types → ExpandedType → Bool) → Types → Types → Bool
all_new test ts [] = true
all_new test ts (a ∷ more) = cond (member a ts) (all_new test ts more) (test ts a && all_new test (ts ++ a ∷ []) more)

new-append : (test : Types → ExpandedType → Bool) (ts ks ls : Types) →
    all_new test ts ks && all_new test (with_types ts ks) ls ≡ all_new test ts (ks ++ ls)
new-append test ts [] ls = refl
new-append test ts (a ∷ ks) ls = go (member a ts) (new-append test ts ks ls) (new-append test (ts ++ a ∷ []) ks ls)
  where
    go : (b : Bool) → all_new test ts ks && all_new test (with_types ts ks) ls ≡ all_new test ts (ks ++ ls) →
        all_new test (ts ++ a ∷ []) ks && all_new test (with_types (ts ++ a ∷ []) ks) ls ≡ all_new test (ts ++ a ∷ []) (ks ++ ls) →
        cond b (all_new test ts ks) (test ts a && all_new test (ts ++ a ∷ []) ks) &&
        all_new test (with_types (cond b ts (ts ++ a ∷ [])) ks) ls ≡
        cond b (all_new test ts (ks ++ ls)) (test ts a && all_new test (ts ++ a ∷ []) (ks ++ ls))
    go true h k = h
    go false h k = and_assoc (test ts a) (all_new test (ts ++ a ∷ []) ks) (all_new test (with_types (ts ++ a ∷ []) ks) ls) ∙
        ap (λ (x : Bool). test ts a && x) k

types-append : (ts ks ls : Types) → with_types ts (ks ++ ls) ≡ with_types (with_types ts ks) ls
types-append ts [] ls = refl
types-append ts (a ∷ ks) ls = types-append (with_type ts a) ks ls

abbrev pub is_shallow : Types → ExpandedType → Bool
is_shallow ts a = leb (depth a) depth_limit

module _ (type_places scope_places : ℕ) where
  abbrev pub has_place : Types → ExpandedType → Bool
  has_place ts a = ltb (length ts) type_places

  -- where so many places of the scope table are in use, the room for the types and for so many names more
  abbrev pub fits : Types → ℕ → Types → ℕ → Room
  fits ts u ls n = room (all_new is_shallow ts ls) (all_new has_place ts ls) (leb (u + n) scope_places)

  -- the outcome goes with the rules; from the types ts and u places in use it forms the types ls and takes n places at most
  pub record Run {A : Type 0} (o : Out Types A) (p : Option A) (ts : Types) (u : ℕ) (ls : Types) (n : ℕ) : Type 0 where
    pub tied : Tied o p (fits ts u ls n) (with_types ts ls)

  -- ── one check, then the next ──

  peak : (u n k s : ℕ) → leb (u + n) s && leb (u + k) s ≡ leb (u + max n k) s
  peak u n k s = grind (arith, nat_tests)

  kept : (u n k s : ℕ) → leb (u + n) s && leb (u + n + k) s ≡ leb (u + (n + k)) s
  kept u n k s = grind (arith, nat_tests)

  fits-max : (ts : Types) (u : ℕ) (ks ls : Types) (n k : ℕ) →
      (fits ts u ks n) both (fits (with_types ts ks) u ls k) ≡ fits ts u (ks ++ ls) (max n k)
  fits-max ts u ks ls n k = cc (new-append is_shallow ts ks ls, new-append has_place ts ks ls, peak u n k scope_places)

  fits_kept : (ts : Types) (u : ℕ) (ks ls : Types) (n k : ℕ) →
      (fits ts u ks n) both (fits (with_types ts ks) (u + n) ls k) ≡ fits ts u (ks ++ ls) (n + k)
  fits_kept ts u ks ls n k = cc (new-append is_shallow ts ks ls, new-append has_place ts ks ls, kept u n k scope_places)

  -- the second needs its places besides the first
  pub run-max : {A B : Type 0} {o : Out Types A} {p : Option A} {ts : Types} {u : ℕ} {ks ls : Types} {n m : ℕ}
      (k : A → Types → Out Types B) (q : A → Option B) → Run o p ts u ks n →
      ((a : A) → p ≡ some a → Run (k a (with_types ts ks)) (q a) (with_types ts ks) u ls m) →
      Run (after o k) (p then q) ts u (ks ++ ls) (max n m)
  run-max {ts = ts} {u} {ks} {ls} {n} {m} k q r h = record {
    tied =
        tied_at (fits-max ts u ks ls n m) (sym (types-append ts ks ls)) (tied_then k q r.tied (λ a e x. (h a e).tied));
  }

  -- what the first took stays in use
  pub run-kept : {A B : Type 0} {o : Out Types A} {p : Option A} {ts : Types} {u : ℕ} {ks ls : Types} {n m : ℕ}
      (k : A → Types → Out Types B) (q : A → Option B) → Run o p ts u ks n →
      ((a : A) → p ≡ some a → u + n ≤ scope_places → Run (k a (with_types ts ks)) (q a) (with_types ts ks) (u + n) ls m) →
      Run (after o k) (p then q) ts u (ks ++ ls) (n + m)
  run-kept {ts = ts} {u} {ks} {ls} {n} {m} k q r h = record {
    tied =
        tied_at (fits_kept ts u ks ls n m) (sym (types-append ts ks ls)) (tied_then k q r.tied (λ a e x.
        (h a e (leb-true (u + n) scope_places
        (names_fit (all_new is_shallow ts ks) (all_new has_place ts ks) (leb (u + n) scope_places) x))).tied));
  }

  pub same-need : {A : Type 0} {o : Out Types A} {p : Option A} {ts : Types} {u : ℕ} {ks ls : Types} {n m : ℕ} → ks ≡ ls → n ≡ m →
      Run o p ts u ks n → Run o p ts u ls m
  same-need {o = o} {p} {ts} {u} {ks} {ls} {n} {m} e f r = record {
    tied =
        tied_at (ap₂ (λ (k : Types) (i : ℕ). fits ts u k i) e f) (ap (with_types ts) e) r.tied;
  }

  -- the first takes no place
  pub run-first : {A B : Type 0} {o : Out Types A} {p : Option A} {ts : Types} {u : ℕ} {ks ls : Types} {m : ℕ}
      (k : A → Types → Out Types B) (q : A → Option B) → Run o p ts u ks 0 →
      ((a : A) → p ≡ some a → Run (k a (with_types ts ks)) (q a) (with_types ts ks) u ls m) →
      Run (after o k) (p then q) ts u (ks ++ ls) m
  run-first {m = m} k q r h = same-need refl (zero-max m) (run-max k q r h)

  -- the second takes no place
  pub run-last : {A B : Type 0} {o : Out Types A} {p : Option A} {ts : Types} {u : ℕ} {ks ls : Types} {n : ℕ}
      (k : A → Types → Out Types B) (q : A → Option B) → Run o p ts u ks n →
      ((a : A) → p ≡ some a → Run (k a (with_types ts ks)) (q a) (with_types ts ks) u ls 0) →
      Run (after o k) (p then q) ts u (ks ++ ls) n
  run-last {n = n} k q r h = same-need refl (max-zero n) (run-max k q r h)

  -- the second forms no type and takes no place
  pub run-test : {A B : Type 0} {o : Out Types A} {p : Option A} {ts : Types} {u : ℕ} {ks : Types} {n : ℕ}
      (k : A → Types → Out Types B) (q : A → Option B) → Run o p ts u ks n →
      ((a : A) → p ≡ some a → Run (k a (with_types ts ks)) (q a) (with_types ts ks) u [] 0) →
      Run (after o k) (p then q) ts u ks n
  run-test {ks = ks} {n} k q r h = same-need (append-nil ks) (max-zero n) (run-max k q r h)

  -- ── the smallest checks ──

  pub run-give : {A : Type 0} (a : A) (ts : Types) (u : ℕ) → u ≤ scope_places → Run (good a ts) (some a) ts u [] 0
  run-give a ts u h = record { tied = tied-good a refl (le-leb (u + 0) scope_places (omega arith)) refl }

  pub run-want : {A : Type 0} (b : Bool) (f : CheckFault) (k : Unit → Types → Out Types A) (r : Option A) (ts : Types) (u : ℕ) (ls : Types)
      (n : ℕ) → (b ≡ true → Run (k tt ts) r ts u ls n) → Run (after (want b f ts) k) (need b r) ts u ls n
  run-want true f k r ts u ls n h = h refl
  run-want false f k r ts u ls n h = record { tied = tied-none f refl refl }

  pub run-known : {A : Type 0} (x : Option A) (f : CheckFault) (ts : Types) (u : ℕ) → u ≤ scope_places →
      Run (known (option_of x) f ts) x ts u [] 0
  run-known none f ts u h = record { tied = tied-none f refl refl }
  run-known (some a) f ts u h = run-give a ts u h

  pub run-entering : (at : ℕ) (a : ExpandedType) (ts : Types) (u : ℕ) → u ≤ scope_places →
      Run (entering type_places at a ts) (some a) ts u (a ∷ []) 0
  unfolding entering
  run-entering at a ts u h = record {
    tied = go (member a ts) (leb (depth a) depth_limit) (ltb (length ts) type_places)
        (le-leb (u + 0) scope_places (omega arith));
  }
    where
      go : (b c d : Bool) → leb (u + 0) scope_places ≡ true →
          Tied (cond b (good a ts) (after (want c (TooDeep at) ts) (λ _ s. after (want d (TypesFull at) s) (λ _ _. good a (ts ++ a ∷ [])))))
          (some a) (room (cond b true (c && true)) (cond b true (d && true)) (leb (u + 0) scope_places)) (cond b ts (ts ++ a ∷ []))
      go true c d e = tied-good a refl e refl
      go false true true e = tied-good a refl e refl
      go false true false e = tied-over a (TypesFull at) refl refl refl
      go false false d e = tied-over a (TooDeep at) refl refl refl

  pub run-taking : (at : ℕ) (x : Made) (g : Scope) (ts : Types) → Run (taking scope_places at x g ts) (some (with_name x g)) ts g.used [] 1
  unfolding taking
  run-taking at x g ts = record { tied = go (ltb g.used scope_places) refl }
    where
      go : (b : Bool) → ltb g.used scope_places ≡ b →
          Tied (after (want b (ScopeFull at) ts) (λ _. give (with_name x g))) (some (with_name x g))
          (room true true (leb (g.used + 1) scope_places)) ts
      go true e = tied-good (with_name x g) refl (grind (arith, nat_tests)) refl
      go false e = tied-over (with_name x g) (ScopeFull at) refl (grind (arith, nat_tests)) refl

  -- a name enters, and the rest is checked with it in scope
  pub run_enter : {B : Type 0} {ls : Types} {n : ℕ} (at : ℕ) (x : Made) (g : Scope) (ts : Types) (k : Scope → Types → Out Types B)
      (r : Option B) → (g.used + 1 ≤ scope_places → Run (k (with_name x g) ts) r ts (g.used + 1) ls n) →
      Run (after (taking scope_places at x g ts) k) r ts g.used ls (1 + n)
  run_enter {ls = ls} {n} at x g ts k r h = run-kept k (λ _. r) (run-taking at x g ts)
      (λ a e b. let z : with_name x g ≡ a = cc in subst (λ (c : Scope). Run (k c ts) r ts (g.used + 1) ls n) z (h b))

  -- a type is formed, and then the rest is checked
  pub run-form : {B : Type 0} {ls : Types} {n : ℕ} (at : ℕ) (a : ExpandedType) (ts : Types) (u : ℕ) (k : ExpandedType → Types → Out Types B)
      (r : Option B) → u ≤ scope_places → Run (k a (with_type ts a)) r (with_type ts a) u ls n →
      Run (after (entering type_places at a ts) k) r ts u (a ∷ ls) n
  run-form {ls = ls} {n} at a ts u k r h g = run-first k (λ _. r) (run-entering at a ts u h)
      (λ b e. let z : a ≡ b = cc in
      subst (λ (c : ExpandedType). Run (k c (with_type ts a)) r (with_type ts a) u ls n) z g)

  -- a last test
  pub run-need : (b : Bool) (f : CheckFault) (ts : Types) (u : ℕ) → u ≤ scope_places → Run (want b f ts) (need b (some (tt {0}))) ts u [] 0
  run-need true f ts u h = run-give tt ts u h
  run-need false f ts u h = record { tied = tied-none f refl refl }

  pub run-as : {A : Type 0} {o : Out Types A} {p q : Option A} {ts : Types} {u : ℕ} {ls : Types} {n : ℕ} → p ≡ q → Run o p ts u ls n →
      Run o q ts u ls n
  run-as {A} {o} {p} {q} {ts} {u} {ls} {n} e r = subst (λ (x : Option A). Run o x ts u ls n) e r

  pub run-assoc : {A B C : Type 0} {p : Option C} {ts : Types} {u : ℕ} {ls : Types} {n : ℕ} (o : Out Types A) (k : A → Types → Out Types B)
      (l : B → Types → Out Types C) → Run (after o (λ a s. after (k a s) l)) p ts u ls n → Run (after (after o k) l) p ts u ls n
  run-assoc {p = p} {ts} {u} {ls} {n} o k l r = rw (after-assoc o k l) r

  -- a check that gives an answer leaves these types
  pub run-good : {A : Type 0} {o : Out Types A} {p : Option A} {ts : Types} {u : ℕ} {ls : Types} {n : ℕ} {a : A} {us : Types} →
      Run o p ts u ls n → o ≡ good a us → us ≡ with_types ts ls
  run-good {o = o} {p} {ts} {u} {ls} {n} {a} {us} r e = go r.tied
    where
      go : Tied o p (fits ts u ls n) (with_types ts ls) → us ≡ with_types ts ls
      go (tied-none f x y) = cc
      go (tied-over b f x y z) = cc
      go (tied-good b x y z) = cc
