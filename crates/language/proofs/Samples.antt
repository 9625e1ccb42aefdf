-- The sample sheets, by computing.
use Rattle.std.proofs.Common.{◌≡◌, ℕ, zero, suc, Bool, true, false, cond, [], ◌∷◌, ℤ, pos, sym, refl, ap, arith, lit≤}
use mathlib.Core.Option.{none, some}
use lib.ListN.{get_elem?}
use Rattle.words.specs.Names.{Name, key, same_name, is_name, is_keyword}
use Rattle.language.specs.Names.{pantry_name, bind, lookup}
use Rattle.language.specs.Pantry.{
  figure_kind,
  figure_by_item,
  EntryNumber,
  Reply,
  figure_reply,
  Entry,
  Pantry,
  by_item,
  in_range,
  fetch,
  stock_of,
  ReplyFits,
  RepliesByKind,
  Lawful,
}
use Rattle.language.specs.Syntax.{Exp, Sheet}
use Rattle.language.specs.Tree.{SheetStands, Stands, b_none, b_skip, b_task, m_none, m_more}
use Rattle.language.specs.Typing.{
  ExpandedType,
  int,
  bool,
  ◌⇒◌,
  Context,
  Environment,
  stock_types,
  HasType,
  t_number,
  t_boolean,
  t_variable,
  t_qualified,
  t_zero,
  t_apply,
  t_proc,
  t_let,
  t_conditional,
  t_letrec,
  t_binary,
}
use Rattle.language.specs.Modules.{made_type, made_value, b_end, b_type, b_value, m_end, m_opaque, m_value}
use Rattle.language.specs.Check.{check_of}
use Rattle.language.specs.Scopes.{nearest_in}
use Rattle.language.specs.Machine.{Value, boolean, closure}
use Rattle.language.specs.Fits.{Fits, f_integer, f_boolean, f_proc, f_rec, f_stock, ScopeFits, s_empty, s_value, s_letrec}
use Rattle.language.specs.Safety.{Passes, AcceptsThere, i_none}
use Rattle.language.specs.Samples.{
  g,
  zero_name,
  more,
  mg,
  x,
  kcal,
  items,
  no_items,
  salt_module,
  salt_sheet,
  salt_plan,
  salt_zero,
  salt_zero_plan,
  salt_plus_one,
  other_body,
  other_sheet,
  other_plan,
  plus_true,
  doubling,
  doubling_plan,
  returning,
  kept_flag,
  NoType,
  Samples,
}
use Rattle.language.proofs.Checks.{check_sound, check-complete}

-- the check decides
passing : (p : Pantry) (sheet : Sheet) (r : ExpandedType) → check_of (stock_types (stock_of p)) sheet ≡ some r → Passes (stock_of p) sheet r
passing p sheet r h = record { typed = check_sound (stock_types (stock_of p)) sheet r h }

refused : (sheet : Sheet) → check_of [] sheet ≡ none → NoType sheet
refused sheet h r t = let k = check-complete [] sheet r t in let z : ◌≡◌ {A = ℕ} 0 1 = cc in omega arith

salt-stands : SheetStands salt_plan salt_sheet
salt-stands = record {
  modules_stand = m_more m_none (b_skip (b_task refl
      (b_task (1, 4, refl, refl, (2, 3, refl, refl, refl)) (b_task (6, 7, refl, refl, refl) b_none))));
  closing_stands = (9, 12, refl, refl, (10, 11, refl, refl, refl));
  roots_ascend = refl;
  inner_parts_first = refl;
}

zero-stands : SheetStands salt_zero_plan salt_zero
zero-stands = record {
  modules_stand = m_more m_none (b_skip (b_task refl
      (b_task (1, 4, refl, refl, (2, 3, refl, refl, refl)) (b_task (6, 7, refl, refl, refl) b_none))));
  closing_stands = refl;
  roots_ascend = refl;
  inner_parts_first = refl;
}

other-stands : SheetStands other_plan other_sheet
other-stands = record {
  modules_stand = m_more m_none (b_skip (b_task refl
      (b_task (1, 2, refl, refl, refl) (b_task (4, 8, refl, refl, (5, 6, 7, refl, refl, refl, refl)) b_none))));
  closing_stands = (10, 13, refl, refl, (11, 12, refl, refl, refl));
  roots_ascend = refl;
  inner_parts_first = refl;
}

doubling-stands : SheetStands doubling_plan doubling
doubling-stands = record {
  modules_stand = m_none;
  closing_stands = (
    0,
    1,
    12,
    15,
    refl,
    refl,
    refl,
    (3, 4, 11, refl, (2, refl, refl), refl, (5, 10, refl, refl, (6, 9, refl, refl, (7, 8, refl, refl, refl)))),
    (13, 14, refl, refl, refl),
  );
  roots_ascend = refl;
  inner_parts_first = refl;
}

other_accepted : AcceptsThere [] [] salt_module other_body
unfolding same_name key
other_accepted = (
  [],
  i_none,
  record {
    made = made_type g bool ∷ made_value zero_name bool ∷ made_value more (bool ⇒ bool) ∷ made_value mg (bool ⇒ int) ∷ [];
    typed = b_type refl (b_value t_boolean (b_value (t_proc refl t_boolean)
        (b_value (t_proc refl (t_conditional (t_variable refl) t_number t_number)) b_end)));
    apart = refl;
    matched = m_opaque refl (m_value refl refl (m_value refl refl (m_value refl refl m_end)));
  },
)

-- the body of `returning y` has the type of y
body-type : {e : Environment} {gs : Context} {b : ExpandedType} (y : Name) (p : Exp) → Stands (returning y).tree 1 p → HasType e gs p b →
    lookup gs y ≡ some b
body-type y p s t_number = cc
body-type y p s t_boolean = cc
body-type y p s (t_variable {x = z} h) = let q : y ≡ z = cc in rw q h
body-type y p s (t_qualified h) = cc
body-type y p s (t_zero h) = let (k, q, r) = s in cc
body-type y p s (t_apply h i) = let (k, l, q, r, v) = s in cc
body-type y p s (t_proc h i) = let (k, l, q, r, v) = s in cc
body-type y p s (t_let h i) = let (k, l, q, r, v) = s in cc
body-type y p s (t_conditional h i j) = let (k, l, n, q, r, v, w) = s in cc
body-type y p s (t_letrec a b h i) = let (u, t, k, l, q, r, v, w, z) = s in cc
body-type y p s (t_binary h i) = let (k, l, q, r, v) = s in cc

fitting : Fits (returning x) [] (closure 2 0) (int ⇒ int)
unfolding same_name key
fitting = f_proc refl refl s_empty refl (t_variable {x = x} refl)

not-fitting : ¬ Fits (returning x) [] (closure 2 0) (int ⇒ bool)
unfolding same_name key
not-fitting (f_proc {k = k} {p = p} {x = y} {g = gs} q e sc st ty) =
    let here : k ≡ 1 = cc in let same : y ≡ x = cc in
    let h : lookup (bind x int ∷ gs) x ≡ some bool = body-type x p (rw here at st) (rw same at ty) in
    let z : ◌≡◌ {A = ℕ} 0 1 = cc in omega arith

kept-fitting : Fits (returning g) kept_flag (closure 2 1) (int ⇒ bool)
unfolding same_name key
kept-fitting = f_proc refl refl (s_value refl f_boolean s_empty) refl (t_variable {x = g} refl)

-- the kept name has no other type than `bool`
kept-type : (gs : Context) → ScopeFits (returning g) kept_flag 1 gs → lookup (bind x int ∷ gs) g ≡ some bool
unfolding same_name key
kept-type gs (s_value {x = y} {v = v} {a = a} q f s) = let same : y ≡ g = cc in let w : v ≡ boolean true = cc in
    rw same (flag-type v a w f)
  where
    flag-type : (v : Value) (a : ExpandedType) → v ≡ boolean true → Fits (returning g) kept_flag v a → some a ≡ some bool
    flag-type v a q f_integer = cc
    flag-type v a q f_boolean = refl
    flag-type v a q (f_proc h e s t u) = cc
    flag-type v a q (f_rec u t c h e ta ha tb hb s st ty) = cc
    flag-type v a q (f_stock h k) = cc
kept-type gs (s_letrec q f s) = cc

not-kept-fitting : ¬ Fits (returning g) kept_flag (closure 2 1) (int ⇒ int)
unfolding same_name key
not-kept-fitting (f_proc {k = k} {p = p} {x = y} {g = gs} q e sc st ty) =
    let here : k ≡ 1 = cc in let same : y ≡ x = cc in
    let h : lookup (bind x int ∷ gs) g ≡ some int = body-type g p (rw here at st) (rw same at ty) in
    let w = kept-type gs sc in
    let z : ◌≡◌ {A = ℕ} 0 1 = cc in omega arith
not-kept-fitting (f_rec u t c q e ta ha tb hb s st ty) = let z : ◌≡◌ {A = ℕ} 0 1 = cc in omega arith

-- the pantry is lawful
abbrev kcal_entry : Entry
kcal_entry = record { name = kcal; kind = figure_by_item; reply = λ z. none }

abbrev items_entry : Entry
items_entry = record { name = items; kind = figure_kind; reply = λ z. some (figure_reply (pos 0)) }

by_kind : RepliesByKind no_items
by_kind zero e z a at h = go (in_range z) h
  where
    go : (b : Bool) → cond b none none ≡ some a → ReplyFits e.kind a
    go true k = let z : ◌≡◌ {A = ℕ} 0 1 = cc in absurd (omega arith)
    go false k = let z : ◌≡◌ {A = ℕ} 0 1 = cc in absurd (omega arith)
by_kind (suc zero) e z a at h = go (in_range z) h
  where
    go : (b : Bool) → cond b (some (figure_reply (pos 0))) none ≡ some a → ReplyFits e.kind a
    go true k = let q : figure_kind ≡ e.kind = figure-entry in let r : figure_reply (pos 0) ≡ a = cc in rw (sym q, sym r) tt
      where
        figure-entry : figure_kind ≡ e.kind
        figure-entry = let d : items_entry ≡ e = cc in ap (λ (n : Entry). n.kind) d
    go false k = let z : ◌≡◌ {A = ℕ} 0 1 = cc in absurd (omega arith)
by_kind (suc (suc i)) e z a at h = let z : ◌≡◌ {A = ℕ} 0 1 = cc in absurd (omega arith)

figures-in-range : (i : EntryNumber) (z y : ℤ) → fetch no_items i z ≡ some (figure_reply y) → in_range y ≡ true
figures-in-range zero z y h = go (in_range z) h
  where
    go : (b : Bool) → cond b none none ≡ some (figure_reply y) → in_range y ≡ true
    go true k = cc
    go false k = cc
figures-in-range (suc zero) z y h = go (in_range z) h
  where
    go : (b : Bool) → cond b (some (figure_reply (pos 0))) none ≡ some (figure_reply y) → in_range y ≡ true
    go true k = let q : pos 0 ≡ y = cc in rw (sym q) refl
    go false k = cc
figures-in-range (suc (suc i)) z y h = go (in_range z) h
  where
    go : (b : Bool) → cond b none none ≡ some (figure_reply y) → in_range y ≡ true
    go true k = cc
    go false k = cc

plain-replies : (i : EntryNumber) (e : Entry) → get_elem? no_items i ≡ some e → by_item e.kind ≡ false →
    (a : Reply) × ((z : ℤ) → in_range z ≡ true → fetch no_items i z ≡ some a)
plain-replies zero e at h =
    let d : kcal_entry ≡ e = cc in let q : by_item figure_by_item ≡ false = rw (sym d) at h in
    let z : ◌≡◌ {A = ℕ} 0 1 = cc in absurd (omega arith)
plain-replies (suc zero) e at h = (figure_reply (pos 0), λ z q. rw q refl)
plain-replies (suc (suc i)) e at h = let z : ◌≡◌ {A = ℕ} 0 1 = cc in absurd (omega arith)

lawful : Lawful no_items
unfolding same_name key is_name is_keyword
lawful = record {
  few = lit≤ tt;
  apart = refl;
  named = refl;
  by_kind = by_kind;
  figures_in_range = figures-in-range;
  plain_reply =
      plain-replies;
}

pub samples : Samples
unfolding same_name key pantry_name nearest_in
samples = record {
  thirty_three = record {
    passes = passing [] _ _ refl;
    stands = record {
      modules_stand = m_none;
      closing_stands = refl;
      roots_ascend = refl;
      inner_parts_first = refl;
    };
    answers = refl;
  };
  thirty_three_going = refl;
  plus_true_untyped = refused plus_true refl;
  salt_sheet_done = record { passes = passing [] _ _ refl; stands = salt-stands; answers = refl };
  salt_going = refl;
  salt_zero_done = record { passes = passing [] _ _ refl; stands = zero-stands; answers = refl };
  salt_plus_one_untyped = refused salt_plus_one refl;
  other_accepted = other_accepted;
  other_sheet_done = record { passes = passing [] _ _ refl; stands = other-stands; answers = refl };
  minus_seven_by_two = record {
    passes = passing [] _ _ refl;
    stands = record {
      modules_stand = m_none;
      closing_stands = (0, 1, refl, refl, refl);
      roots_ascend = refl;
      inner_parts_first = refl;
    };
    answers = refl;
  };
  seven_by_zero = record {
    passes = passing [] _ _ refl;
    stands = record {
      modules_stand = m_none;
      closing_stands = (0, 1, refl, refl, refl);
      roots_ascend = refl;
      inner_parts_first = refl;
    };
    answers = refl;
  };
  seven_by_zero_stops = refl;
  seven_by_zero_going = refl;
  doubles = record { passes = passing [] _ _ refl; stands = doubling-stands; answers = refl };
  no_items_lawful = lawful;
  no_items_counted = record {
    passes = passing no_items _ _ refl;
    stands = record {
      modules_stand = m_none;
      closing_stands = refl;
      roots_ascend = refl;
      inner_parts_first = refl;
    };
    answers = refl;
  };
  no_kcal = record {
    passes = passing no_items _ _ refl;
    stands = record {
      modules_stand = m_none;
      closing_stands = (0, 1, refl, refl, refl);
      roots_ascend = refl;
      inner_parts_first = refl;
    };
    answers = refl;
  };
  link_up = refl;
  fits = fitting;
  fits_not = not-fitting;
  kept_fits = kept-fitting;
  kept_fits_not = not-kept-fitting;
}
