-- What an answer tells of the computation that it comes from.
use Rattle.std.proofs.Common.{◌≡◌, ℕ, zero, suc, Some, None, Ok, Err, Option, Result, refl, ap, arith}
use Rattle.std.proofs.Math.Dec.{eqb-suc-zero}
use Rattle.grammar.specs.declared.faults.Fault.{Fault}
use Rattle.grammar.specs.declared.faults.Fault.TheVariants.{Unexpected, TooDeep}
use Rattle.grammar.specs.declared.reader.Reader.{Reader}
use Rattle.grammar.specs.Faults.{refusal_of, refusal, told}
use Rattle.grammar.specs.Starts.{started}
use Rattle.grammar.specs.Laying.{Outcome, refused, done}
use Rattle.grammar.specs.Readers.{state_of, Gave}

pub gave-ok : {A : Type 0} (m : Outcome A) (x : A) (t : Reader) → Gave m (Ok x) t → m ≡ done x (state_of t)
gave-ok (refused k e) x t h = let z : ◌≡◌ {A = ℕ} 0 1 = cc in absurd (omega arith)
gave-ok (done a v) x t h =
    let i = h.result in
    let j = h.state in
    cc

pub gave-err : {A : Type 0} (m : Outcome A) (f : Fault) (t : Reader) → Gave m (Err f) t → (k : ℕ) × (e : ℕ) × (m ≡ refused k e)
    × (told {B = A} (Err f) ≡ Some (refusal k e))
gave-err (refused k e) f t h = (k, e, refl, h)
gave-err (done a v) f t h = let i = h.result in let z : ◌≡◌ {A = ℕ} 0 1 = cc in absurd (omega arith)

-- the form that a part began with: there is one, and a level is left
pub started-ok : {S : Type 0} (o : Option S) (at l : ℕ) (b : S) → Ok b ≡ started o at l → (Some b ≡ o) × (l ≡ 0 → ⊥)
started-ok None at l b e = let z : ◌≡◌ {A = ℕ} 0 1 = cc in absurd (omega arith)
started-ok (Some a) at zero b e = let z : ◌≡◌ {A = ℕ} 0 1 = cc in absurd (omega arith)
started-ok {S} (Some a) at (suc l) b e =
    let i : ◌≡◌ {A = Result S Fault} (Ok b) (Ok a) = rw (eqb-suc-zero l) at e in
    (cc, λ z. omega arith)

-- its refusal is that of the part
pub started-err : {S : Type 0} (o : Option S) (at l : ℕ) (f : Fault) (m : Outcome ℕ) (t : Reader) → Err f ≡ started o at l
    → (None ≡ o → m ≡ refused 5 at) → ((b : S) → Some b ≡ o → l ≡ 0 → m ≡ refused 6 at) → Gave m (Err f) t
started-err None at l f m t e h k =
    let i : f ≡ Unexpected at = cc in
    rw (h refl) (ap (λ z. Some (refusal_of z)) i)
started-err (Some b) at zero f m t e h k =
    let i : f ≡ TooDeep at = cc in
    rw (k b refl refl) (ap (λ z. Some (refusal_of z)) i)
started-err {S} (Some b) at (suc l) f m t e h k =
    let i : ◌≡◌ {A = Result S Fault} (Err f) (Ok b) = rw (eqb-suc-zero l) at e in
    let z : ◌≡◌ {A = ℕ} 0 1 = cc in absurd (omega arith)
