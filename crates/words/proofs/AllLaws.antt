-- The laws of words, of numbers and of names, together. Assumes nothing.
use Rattle.std.proofs.Common.{◌≡◌, ◌≤◌, true, false, ◌&&◌, eqb, leb, [], ◌∷◌, length, get_or, take, drop, Some, None, Option, sym, refl, ap, ◌∙◌, subst, arith}
use Rattle.std.proofs.lemmas.List.{append-nil, take_all, drop_all}
use Rattle.std.proofs.lemmas.Bool.{and_parts, and_from, eqb-true, eq-eqb, leb-true, le-leb}
use Rattle.words.specs.declared.keywords.Keyword.{Keyword}
use Rattle.words.specs.declared.keywords.Keyword.TheVariants.{Module, Interface, Body, Opaque, Transparent, «Type», Int}
use Rattle.words.specs.declared.keywords.Keyword.TheVariants.{Bool as Boolean, From, Take, True, False, IsZero, Proc, Let, In, If}
use Rattle.words.specs.declared.keywords.Keyword.TheVariants.{Then, Else, Letrec, Less}
use Rattle.words.specs.Classes.{letter}
use Rattle.words.specs.Spelling.{spelled, keywords, keyword_of}
use Rattle.words.specs.Names.{Name, is_name, begins_name}
use Rattle.words.specs.Words.{Kind, gap, name_run, name_kind, first, start, scan, There}
use Rattle.words.specs.Words.Reading.{word}
use Rattle.words.specs.Laws.{name_byte, Passes, NameRun, Spells, Keywords, Laws}
use Rattle.words.proofs.ClassTests.{is-letter}
use Rattle.words.proofs.LongestRuns.{run_is, name-counts, run-passes}
use Rattle.words.proofs.Divided.{division}
use Rattle.words.proofs.Lexed.{walks}
use Rattle.words.proofs.Parts.{there}
use Rattle.words.proofs.ReadBack.{reads-back}
use Rattle.words.proofs.SameNames.{same_refl, same-sym, same-trans}
use Rattle.words.proofs.Spells.{spells}
use Rattle.words.proofs.Stands.{Stands, stands}
use Rattle.words.proofs.Told.{told}

of-spelling : (k : Keyword) → keyword_of (spelled k) ≡ Some k
of-spelling Module = refl
of-spelling Interface = refl
of-spelling Body = refl
of-spelling Opaque = refl
of-spelling Transparent = refl
of-spelling «Type» = refl
of-spelling Int = refl
of-spelling Boolean = refl
of-spelling From = refl
of-spelling Take = refl
of-spelling True = refl
of-spelling False = refl
of-spelling IsZero = refl
of-spelling Proc = refl
of-spelling Let = refl
of-spelling In = refl
of-spelling If = refl
of-spelling Then = refl
of-spelling Else = refl
of-spelling Letrec = refl
of-spelling Less = refl

keywords-spelled : Keywords
keywords-spelled w k = (λ h. spells spelled keywords w k h, λ e. ap keyword_of e ∙ of-spelling k)

-- what a name's bytes spell, with nothing behind them
spells-name : (x : Name) (o : Option Keyword) → keyword_of x ≡ o → NameRun x [] → length x ≤ 16 → Spells (name_kind o) x []
spells-name x None e r h = (r, h, e)
spells-name x (Some k) e r h = (r, h, e)

of-spells : (x : Name) (o : Option Keyword) → Spells (name_kind o) x [] → NameRun x [] × (length x ≤ 16)
of-spells x None h = (h.0, h.1)
of-spells x (Some k) h = (h.0, h.1)

begins-letter : (x : Name) → begins_name x ≡ letter (get_or x 0 0)
begins-letter [] = refl
begins-letter (b ∷ x) = is-letter b

whole_run : (x : Name) → letter (get_or x 0 0) ≡ true → name_run x ≡ length x → NameRun x []
whole_run x h e =
    let all : take (name_run x) x ≡ x = take_all (name_run x) x (omega arith) in
    let nothing : drop (name_run x) x ≡ [] = drop_all (name_run x) x (omega arith) in
    record {
      begins = h;
      passes = subst (λ w. Passes name_byte w []) all (subst (Passes name_byte (take (name_run x) x)) nothing (run-passes name-counts x));
      longest = tt;
    }

-- where no gap begins, what is read at the start is what the text begins with
at-start : (x : Name) → gap false x ≡ 0 → scan x 0 ≡ first 0 x
unfolding scan start
at-start x z = let here : start x 0 ≡ 0 = omega (arith, z) in ap (λ p. first p (drop p x)) here

no_gap : (x : Name) (k : Kind) → scan x 0 ≡ word k 0 x → gap false x ≡ 0
unfolding scan start
no_gap x k h = let t = subst (There (start x 0) (drop (start x 0) x)) h (there (start x 0) (drop (start x 0) x)) in omega (arith, t.0)

is_read : (x : Name) → is_name x ≡ true → scan x 0 ≡ word (name_kind (keyword_of x)) 0 x
unfolding is_name
is_read x h =
    let (letters, rest) = and_parts (begins_name x) (eqb (name_run x) (length x) && leb (length x) 16) h in
    let (long, short) = and_parts (eqb (name_run x) (length x)) (leb (length x) 16) rest in
    let run = whole_run x (sym (begins-letter x) ∙ letters) (eqb-true (name_run x) (length x) long) in
    let (reads, none) = told 0 (name_kind (keyword_of x)) x [] (spells-name x (keyword_of x) refl run (leb-true (length x) 16 short)) in
    at-start x (ap (gap false) (sym (append-nil x)) ∙ none) ∙ ap (first 0) (sym (append-nil x)) ∙ reads

read_is : (x : Name) → scan x 0 ≡ word (name_kind (keyword_of x)) 0 x → is_name x ≡ true
unfolding is_name
read_is x h =
    let none = no_gap x (name_kind (keyword_of x)) h in
    let s = subst (Stands 0 x) (sym (at-start x none) ∙ h) (stands 0 x none) in
    let (run, short) = of-spells x (keyword_of x) (subst (Spells (name_kind (keyword_of x)) x) (drop_all (length x) x (omega arith)) s) in
    let long : name_run x ≡ length x = ap name_run (sym (append-nil x)) ∙ run_is name-counts x [] run.passes tt in
    and_from (begins_name x) (eqb (name_run x) (length x) && leb (length x) 16) (begins-letter x ∙ run.begins)
    (and_from (eqb (name_run x) (length x)) (leb (length x) 16) (eq-eqb (name_run x) (length x) long) (le-leb (length x) 16 short))

pub laws : Laws
laws = record {
  walks = walks;
  division = division;
  figures = reads-back;
  keywords = keywords-spelled;
  sameness = record { itself = same_refl; back = same-sym; on = same-trans };
  names = λ x. (is_read x, read_is x);
}
