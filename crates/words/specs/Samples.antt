-- Small texts and what is read in them. Assumes nothing.
use Rattle.std.specs.Prelude.{◌≡◌, pos, negsuc, Some, codes}
use Rattle.words.specs.declared.keywords.Keyword.TheVariants.{IsZero}
use Rattle.words.specs.declared.marks.Mark.TheVariants.{Arrow, Minus}
use Rattle.words.specs.Words.{scan, figure_within}
use Rattle.words.specs.Words.Kind.{name, number, keyword, mark}
use Rattle.words.specs.Words.Reading.{end, word, fault}
use Rattle.words.specs.Lexing.{tally_of, words, refused}

-- names and keywords; a dash before > ends a name
pub record Names : Type 0 where
  pub dashed : scan (codes "x-1") 0 ≡ word name 0 (codes "x-1")
  pub ended : scan (codes "a-") 0 ≡ word name 0 (codes "a-")
  pub arrow : scan (codes "a-->b") 0 ≡ word name 0 (codes "a-")
  pub after : scan (codes "a-->b") 2 ≡ word (mark Arrow) 2 (codes "->")
  pub query : scan (codes " zero?(x)") 0 ≡ word (keyword IsZero) 1 (codes "zero?")
  pub spelled : scan (codes "LET") 0 ≡ word name 0 (codes "LET")
  pub longest : scan (codes "abcdefghijklmnop") 0 ≡ word name 0 (codes "abcdefghijklmnop")
  pub longer : scan (codes "abcdefghijklmnopq") 0 ≡ fault 3 0

-- numbers and dashes; a letter behind digits is refused before a number that is too large
pub record Numbers : Type 0 where
  pub behind : scan (codes "5-3") 1 ≡ word number 1 (codes "-3")
  pub dashes : scan (codes "--5") 0 ≡ word (mark Minus) 0 (codes "-")
  pub apart : scan (codes "- 5") 0 ≡ word (mark Minus) 0 (codes "-")
  pub arrow : scan (codes "5->") 1 ≡ word (mark Arrow) 1 (codes "->")
  pub largest : scan (codes "-2000000000") 0 ≡ word number 0 (codes "-2000000000")
  pub larger : scan (codes " -2000000001") 0 ≡ fault 4 1
  pub letter : scan (codes "12x") 0 ≡ fault 2 2
  pub first : scan (codes "2000000001a") 0 ≡ fault 2 10
  pub query : scan (codes "2000000001?") 0 ≡ fault 4 0
  pub zeros : figure_within (codes "007") ≡ Some (pos 7)
  pub negative : figure_within (codes "-10") ≡ Some (negsuc 9)
  pub nought : figure_within (codes "-0") ≡ Some (pos 0)

-- gaps, and bytes that begin no word
pub record Gaps : Type 0 where
  pub comment : scan (codes "  % all of it") 0 ≡ end
  pub number : scan (codes "12%a") 2 ≡ end
  pub stray : scan (codes "a_b") 1 ≡ fault 2 1
  pub lone : scan (codes "?") 0 ≡ fault 2 0
  pub none : tally_of (codes "") ≡ words 0
  pub sum : tally_of (codes "+(1,2)") ≡ words 6
  pub refused : tally_of (codes "let x = 1y") ≡ refused 2 9

-- all of them
abbrev pub Samples : Type 0
Samples = Names × Numbers × Gaps
