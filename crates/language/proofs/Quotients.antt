-- The law of division.
use Rattle.std.proofs.Common.{◌≡◌, ℕ, zero, suc, ◌+◌, ◌*◌, ◌/◌, ◌<◌, ◌≤◌, false, pos, negsuc, neg_ℤ, nat_abs, refl, mul_comm, div-mul-le_self, add-one, arith}
use native.Mathlib.Nat.{lt-mul-div-succ}
use Rattle.language.specs.Machine.{is_zeroℤ, is_negative, DivisionLaw}

under : (a b : ℕ) → 0 < b → a < suc (a / b) * b
under a b h =
    let p : a < b * (a / b + 1) = lt-mul-div-succ a h in
    let q : a < b * suc (a / b) = rw add-one at p in
    rw (mul_comm (suc (a / b)) b) q

abs_neg : (n : ℕ) → nat_abs (neg_ℤ (pos n)) ≡ n
abs_neg zero = refl
abs_neg (suc n) = refl

neg-neg : (n : ℕ) → is_negative (neg_ℤ (neg_ℤ (pos n))) ≡ false
neg-neg zero = refl
neg-neg (suc n) = refl

above_zero : (b : ℕ) → is_zeroℤ (pos b) ≡ false → 0 < b
above_zero zero h = let z : ◌≡◌ {A = ℕ} 0 1 = cc in absurd (omega arith)
above_zero (suc b) h = omega arith

neg-over : (a b : ℕ) → nat_abs (neg_ℤ (pos (a / b))) * b ≤ a
neg-over a b = rw (abs_neg (a / b)) (div-mul-le_self a b)

neg-under : (a b : ℕ) → 0 < b → a < suc (nat_abs (neg_ℤ (pos (a / b)))) * b
neg-under a b h = rw (abs_neg (a / b)) (under a b h)

pub division-law : DivisionLaw
division-law (pos a) (pos b) h = record {
  not_over = div-mul-le_self a b;
  not_under = under a b (above_zero b h);
  one_sign = λ e. refl;
  two_signs = λ e. cc;
}
division-law (pos a) (negsuc b) h = record {
  not_over = neg-over a (suc b);
  not_under = neg-under a (suc b) (omega arith);
  one_sign = λ e. cc;
  two_signs = λ e. neg-neg (a / suc b);
}
division-law (negsuc a) (pos b) h = record {
  not_over = neg-over (suc a) b;
  not_under = neg-under (suc a) b (above_zero b h);
  one_sign = λ e. cc;
  two_signs = λ e. neg-neg (suc a / b);
}
division-law (negsuc a) (negsuc b) h = record {
  not_over = div-mul-le_self (suc a) (suc b);
  not_under = under (suc a) (suc b) (omega arith);
  one_sign = λ e. refl;
  two_signs = λ e. cc;
}
