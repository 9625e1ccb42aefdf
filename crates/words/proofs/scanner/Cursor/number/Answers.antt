use Rattle.std.proofs.Common.{◌≡◌, ◌+◌, false, get_or, take, drop, Some, None, ap, ◌∙◌, rules}
use Rattle.std.proofs.lemmas.List.{take_rest}
use Rattle.words.specs.Classes.{class_of}
use Rattle.words.specs.Shown.{shown_word}
use Rattle.words.specs.Words.{digit_run, is_letter, size_within, numbered}
use Rattle.words.specs.Words.Reading.{fault}
use Rattle.words.proofs.Figures.{large, small, some-within, none_within}
use Rattle.words.proofs.scanner.Cursor.number.Goals as goal

pub returns-in_err-ok_or : goal.returns-in_err-ok_or
returns-in_err-ok_or c =
    let rest = c.rest-rest.result.now in
    let at = c.args.self.now.at in
    let n = c.digits_len.result in
    let run = c.digits_len.ensures.value ∙ ap digit_run (take_rest rest c.args.sign) in
    let letter : is_letter (class_of (get_or rest (c.args.sign + n) 0)) ≡ false = search rules in
    let digits = take n (drop c.args.sign rest) in
    let told : None ≡ size_within digits = search rules in
    let refused : shown_word c.from_residual.result ≡ fault 4 at = search rules in
    refused ∙ large at c.args.sign n rest run letter (none_within digits told) ∙ ap (numbered at c.args.sign) c.rest-rest.ensures

pub returns : goal.returns
returns c =
    let rest = c.rest-rest.result.now in
    let at = c.args.self.now.at in
    let n = c.digits_len.result in
    let run = c.digits_len.ensures.value ∙ ap digit_run (take_rest rest c.args.sign) in
    let letter : is_letter (class_of (get_or rest (c.args.sign + n) 0)) ≡ false = search rules in
    let digits = take n (drop c.args.sign rest) in
    let told : Some c.in_ok-ok_or.field-0 ≡ size_within digits = search rules in
    small at c.args.sign n rest run letter (some-within digits _ told).0 ∙ ap (numbered at c.args.sign) c.rest-rest.ensures
