-- The item pantry is lawful.
use Rattle.std.specs.Prelude.{◌≡◌, ℕ, zero, suc, ◌+◌, ◌<◌, ◌≤◌, Bool, true, false, cond, List, length, ℤ, pos, negsuc, Some, None, Option, ◌==◌, refl}
use Rattle.std.proofs.Common.{sym, arith, le-leb, leb-true, lit≤}
use Rattle.std.proofs.Math.Option.{some}
use Rattle.words.specs.Names.{Name, key, same_name, is_name, is_keyword}
use Rattle.language.specs.Pantry.{figure_kind, figure_by_item, flag_by_item, Reply, figure_reply, flag_reply, max_magnitude, in_range, Lawful}
use Rattle.pantry.specs.declared.records.Record.{Record}
use Rattle.pantry.specs.File.{record_at, records_from, records_of, first_with, count_of, accepted}
use Rattle.pantry.specs.FileFacts.{left, right, header, none_unlawful, few, lawful_from, records_length}
use Rattle.pantry.specs.Items.{record_for, kcal_in, flag_in, item_pantry}
use Rattle.pantry.specs.EntryLaws.{EntryLawful, lawful_by_entry}

-- a record that a search comes to
picked : (b : Bool) (r s : Record) (o : Option Record) → cond b (Some r) o ≡ Some s → r.kcal ≤ max_magnitude →
    (o ≡ Some s → s.kcal ≤ max_magnitude) → s.kcal ≤ max_magnitude
picked true r s o e h k = let q : r ≡ s = cc in rw (sym q) h
picked false r s o e h k = k e

first_small : (f : List ℕ) (k n : ℕ) → ((j : ℕ) → k ≤ j → j < k + n → (record_at f j).kcal ≤ max_magnitude) →
    (m : ℕ) (r : Record) → first_with m (records_from f k n) ≡ Some r → r.kcal ≤ max_magnitude
first_small f k zero h m r q = absurd (cc)
first_small f k (suc n) h m r q =
    picked ((record_at f k).item == m) (record_at f k) r (first_with m (records_from f (k + 1) n)) q (h k (omega arith) (omega arith))
    (λ s. first_small f (k + 1) n (λ j l i. h j (omega arith) (omega arith)) m r s)

small : (f : List ℕ) (j : ℕ) → accepted f ≡ true → j < count_of f → (record_at f j).kcal ≤ max_magnitude
small f j h l = leb-true _ _ (right _ _ (left _ _ (lawful_from f 0 (count_of f) j (none_unlawful f h) (omega arith) (omega arith))))

pub found_small : (f : List ℕ) (z : ℤ) (r : Record) → accepted f ≡ true → record_for (records_of f) z ≡ Some r → r.kcal ≤ max_magnitude
unfolding records_of
found_small f (pos n) r h q = first_small f 0 (count_of f) (λ j l i. small f j h (omega arith)) n r q
found_small f (negsuc n) r h q = absurd (cc)

figured : (n : ℕ) → n ≤ max_magnitude → in_range (pos n) ≡ true
figured n h = le-leb n max_magnitude h

kcal_given : (o : Option Record) (a : Reply) → ((r : Record) → o ≡ Some r → r.kcal ≤ max_magnitude) → kcal_in o ≡ some a →
    (n : ℕ) × (a ≡ figure_reply (pos n)) × (n ≤ max_magnitude)
kcal_given None a h e = absurd (cc)
kcal_given (Some r) a h e = (r.kcal, cc, h r refl)

flag_given : (o : Option Record) (a : Reply) → flag_in o ≡ some a → (b : Bool) × (a ≡ flag_reply b)
flag_given None a e = absurd (cc)
flag_given (Some r) a e = ((r.flag == 1), cc)

module _ (f : List ℕ) (ok : accepted f ≡ true) (x : Name) where
  kcal_entry_lawful : EntryLawful record { name = x; kind = figure_by_item; reply = λ z. kcal_in (record_for (records_of f) z) }
  kcal_entry_lawful = record {
    by_kind = λ z a q. rw (kcal_given (record_for (records_of f) z) a (λ r s. found_small f z r ok s) q).1 tt;
    figures_in_range = λ z y q.
        let g = kcal_given (record_for (records_of f) z) (figure_reply y) (λ r s. found_small f z r ok s) q in
        let s : y ≡ pos g.0 = cc in rw s (figured g.0 g.2);
    plain_reply = λ q. absurd (cc);
  }

  allergen_entry_lawful : EntryLawful record { name = x; kind = flag_by_item; reply = λ z. flag_in (record_for (records_of f) z) }
  allergen_entry_lawful = record {
    by_kind = λ z a q. rw (flag_given (record_for (records_of f) z) a q).1 tt;
    figures_in_range = λ z y q. let g = flag_given (record_for (records_of f) z) (figure_reply y) q in
        absurd (cc);
    plain_reply = λ q. absurd (cc);
  }

  items_entry_lawful : EntryLawful record { name = x; kind = figure_kind; reply = λ z. some (figure_reply (pos (length (records_of f)))) }
  items_entry_lawful = record {
    by_kind = λ z a q. let s : a ≡ figure_reply (pos (length (records_of f))) = cc in rw s tt;
    figures_in_range = λ z y q. let s : y ≡ pos (length (records_of f)) = cc in
        rw s (figured (length (records_of f)) (omega (arith, records_length f, few f (header f ok))));
    plain_reply = λ q. (figure_reply (pos (length (records_of f))), λ z r. refl);
  }

pub items_lawful : (f : List ℕ) → accepted f ≡ true → Lawful (item_pantry (records_of f))
unfolding key same_name is_name is_keyword
items_lawful f ok = lawful_by_entry (item_pantry (records_of f)) (lit≤ tt) refl refl
    (kcal_entry_lawful f ok _, (allergen_entry_lawful f ok _, (items_entry_lawful f ok _, tt)))
