-- The factor pantry is lawful.
use Rattle.std.specs.Prelude.{◌≡◌, ℕ, ◌*◌, Bool, true, false, cond, ℤ, pos, negsuc, nat_le, refl}
use Rattle.std.proofs.Math.Option.{none, some}
use Rattle.std.proofs.Common.{lit≤}
use Rattle.words.specs.Names.{Name, key, same_name, is_name, is_keyword}
use Rattle.language.specs.Pantry.{figure_by_item, Reply, figure_reply, max_magnitude, in_range, Lawful}
use Rattle.pantry.specs.Factors.{energy, factors}
use Rattle.pantry.specs.EntryLaws.{EntryLawful, lawful_by_entry}

-- a product that is given is a figure in range
given : (b : Bool) (n : ℕ) (a : Reply) → nat_le n max_magnitude ≡ b → cond b (some (figure_reply (pos n))) none ≡ some a →
    (a ≡ figure_reply (pos n)) × (in_range (pos n) ≡ true)
given true n a e q = (cc, e)
given false n a e q = absurd (cc)

energy_is : (k : ℕ) (z : ℤ) (a : Reply) → energy k z ≡ some a → (n : ℕ) × (a ≡ figure_reply (pos n)) × (in_range (pos n) ≡ true)
energy_is k (pos n) a q = let g = given (nat_le (k * n) max_magnitude) (k * n) a refl q in (k * n, g.0, g.1)
energy_is k (negsuc n) a q = absurd (cc)

entry_lawful : (x : Name) (k : ℕ) → EntryLawful record { name = x; kind = figure_by_item; reply = energy k }
entry_lawful x k = record {
  by_kind = λ z a q. rw (energy_is k z a q).1 tt;
  figures_in_range = λ z y q. let g = energy_is k z (figure_reply y) q in let s : y ≡ pos g.0 = cc in rw s g.2;
  plain_reply = λ q. absurd (cc);
}

pub factors_lawful : Lawful factors
unfolding key same_name is_name is_keyword
factors_lawful = lawful_by_entry factors (lit≤ tt) refl refl
    (entry_lawful _ 9, (entry_lawful _ 4, (entry_lawful _ 4, (entry_lawful _ 7, (entry_lawful _ 2, tt)))))
