-- A pantry is lawful where its names are and each of its entries is.
use Rattle.std.specs.Prelude.{◌≡◌, ℕ, zero, suc, ◌≤◌, Bool, true, false, cond, [], ◌∷◌, map, length, ℤ, refl}
use Rattle.std.proofs.Common.{sym}
use Rattle.std.proofs.Math.Option.{Option, none, some}
use Rattle.std.proofs.Math.ListN.{get_elem?}
use Rattle.language.specs.Names.{distinct}
use Rattle.language.specs.Pantry.{Entry, Pantry, Reply, figure_reply, in_range, Lawful, ReplyFits, reply_of, by_item, entry_name, lawful_names}

-- what the law of pantries asks of one entry
pub record EntryLawful (e : Entry) : Type 0 where
  pub by_kind : (z : ℤ) (a : Reply) → e.reply z ≡ some a → ReplyFits e.kind a
  pub figures_in_range : (z y : ℤ) → e.reply z ≡ some (figure_reply y) → in_range y ≡ true
  pub plain_reply : by_item e.kind ≡ false → (a : Reply) × ((z : ℤ) → in_range z ≡ true → e.reply z ≡ some a)

-- each entry is lawful
abbrev pub EachLawful : Pantry → Type 0
EachLawful [] = Unit {0}
EachLawful (e ∷ es) = EntryLawful e × EachLawful es

each : (p : Pantry) (i : ℕ) (e : Entry) → EachLawful p → get_elem? p i ≡ some e → EntryLawful e
each [] i e l q = absurd (cc)
each (d ∷ ds) zero e l q = let s : d ≡ e = cc in rw (sym s) l.0
each (d ∷ ds) (suc i) e l q = each ds i e l.1 q

within : {A : Type 0} (b : Bool) (o : Option A) (a : A) → cond b o none ≡ some a → o ≡ some a
within true o a q = q
within false o a q = cc

ranged : (o : Option Entry) (z y : ℤ) → ((e : Entry) → o ≡ some e → EntryLawful e) → reply_of o z ≡ some (figure_reply y) → in_range y ≡ true
ranged none z y l q = absurd (cc)
ranged (some e) z y l q = (l e refl).figures_in_range z y q

pub lawful_by_entry : (p : Pantry) → length p ≤ 64 → distinct (map entry_name p) ≡ true → lawful_names (map entry_name p) ≡ true →
    EachLawful p → Lawful p
lawful_by_entry p few apart named l = record {
  few = few;
  apart = apart;
  named = named;
  by_kind = λ i e z a q f. let r : e.reply z ≡ some a = rw q at (within (in_range z) (reply_of (get_elem? p i) z) a f) in
      (each p i e l q).by_kind z a r;
  figures_in_range = λ i z y f.
      ranged (get_elem? p i) z y (λ e q. each p i e l q) (within (in_range z) (reply_of (get_elem? p i) z) (figure_reply y) f);
  plain_reply = λ i e q k. let a = (each p i e l q).plain_reply k in (a.0, λ z r. rw (r, q) (a.1 z r));
}
