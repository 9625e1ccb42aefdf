-- A figure that is written in digits is read as that figure. Assumes nothing.
use Rattle.std.proofs.Common.{◌≡◌, ℕ, suc, ◌+◌, ◌-◌, ◌*◌, ◌^◌, ◌<◌, true, false, cond, eqb, leb, List, [], ◌∷◌, get_or, pos, negsuc, neg_ℤ, Some, None, decimal, fold, refl, ap, ◌∙◌, arith, rules}
use Rattle.std.specs.Str.{all_ascii_digits}
use Rattle.std.specs.Char.{is_ascii_digit}
use Rattle.std.proofs.lemmas.Fmt.{digits_decimal, digits_value-decimal}
use Rattle.std.proofs.lemmas.Str.Parse.{IsNumeralModel, numerals_by_fold}
use Rattle.std.proofs.lemmas.Bool.{cond-true, le-leb, and_parts}
use Rattle.std.proofs.lemmas.Bool.Decides.{nat_tests}
use Rattle.words.specs.Words.{value, largest}
use Rattle.words.specs.Laws.{ReadsBack}
use Rattle.words.proofs.Figures.{unsigned}

numerals : IsNumeralModel (λ ds. all_ascii_digits ds ≡ true) value
numerals = numerals_by_fold _ (search rules) (λ n bs. fold (λ v b. v * 10 + (b - 48)) n bs) (search rules)

no-dash : (d : ℕ) → is_ascii_digit d ≡ true → eqb d 45 ≡ false
no-dash d h = grind (arith, nat_tests)

-- digits begin with no dash
plain : (ds : List ℕ) → all_ascii_digits ds ≡ true → eqb (get_or ds 0 0) 45 ≡ false
plain [] h = refl
plain (d ∷ ds) h = no-dash d (and_parts (is_ascii_digit d) (all_ascii_digits ds) h).0

pub reads-back : ReadsBack
reads-back (pos n) h =
    let small : n < 2 ^ 64 = omega arith in
    unsigned (decimal n) (plain (decimal n) (digits_decimal numerals n small))
    ∙ ap (λ m. cond (leb m largest) (Some (pos m)) None) (digits_value-decimal numerals n small)
    ∙ cond-true (leb n largest) (Some (pos n)) None (le-leb n largest h)
reads-back (negsuc n) h =
    let small : suc n < 2 ^ 64 = omega arith in
    ap (λ m. cond (leb m largest) (Some (neg_ℤ (pos m))) None) (digits_value-decimal numerals (suc n) small)
    ∙ cond-true (leb (suc n) largest) (Some (negsuc n)) None (le-leb (suc n) largest h)
