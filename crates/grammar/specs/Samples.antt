-- Sample texts and how they are read, all in one statement.
use Rattle.std.specs.Prelude.{◌≡◌, ℕ, zero, suc, true, List, [], ◌++◌, pos, neg_ℤ, codes}
use Rattle.grammar.specs.Syntax as is
use Rattle.grammar.specs.declared.tree.Operator.TheVariants as operator
use Rattle.language.specs.Syntax as language
use Rattle.grammar.specs.Plain.{plain}
use Rattle.grammar.specs.Reading.{Out, bad, good, reading}

-- a module of the samples
abbrev pub salt : List ℕ
salt = codes "module salt interface [opaque g zero : g more : (g -> g) mg : (g -> int)] body [type g = int zero = 0 more = proc (x : g) +(x,400) mg = proc (x : g) x] "

-- a sheet without its places
pub data Told : Type 0 where
  refused : ℕ → ℕ → Told
  sheet : language.Sheet → Told

-- what a reading tells, places forgotten
abbrev pub told : Out is.Sheet → Told
told (bad k at) = refused k at
told (good s e) = sheet (plain s)

-- a sheet with no modules
abbrev pub only : language.Exp → Told
only e = sheet (record { modules = []; closing = e })

-- the text k times
abbrev pub times : ℕ → List ℕ → List ℕ
times zero t = []
times (suc k) t = t ++ times k t

-- how many places a sheet takes, or the number of its refusal
abbrev pub weight : Out is.Sheet → ℕ
weight (bad k at) = k
weight (good s e) = is.size s

-- a text read with 2,048 places
abbrev pub read : List ℕ → Told
read text = told (reading 2048 text)

-- all samples together
pub record Samples : Type 0 where
  pub plain_number : reading 2048 (codes "33") ≡ good (record { modules = []; closing = is.number 0 (pos 33) }) 2
  pub nothing : read [] ≡ refused 5 0
  pub comment : read (codes " % x") ≡ refused 5 4
  pub sum : reading 2048 (codes "+(1,true)") ≡ good (record { modules = []; closing = is.binary 0 operator.Plus (is.number 2 (pos 1)) (is.boolean 4 true) }) 9
  pub quotient : read (codes "/(-7,2)") ≡ only (language.binary language.over (language.number (neg_ℤ (pos 7))) (language.number (pos 2)))
  pub loop : read (codes "letrec int f (x : int) = (f x) in f") ≡ only (language.letrec language.int_type (codes "f") (codes "x") language.int_type (language.apply (language.variable (codes "f")) (language.variable (codes "x"))) (language.variable (codes "f")))
  pub keyword : read (codes "let in = 1 in 2") ≡ refused 5 4
  pub word : read (codes "+(1,12a)") ≡ refused 2 6
  pub grammar_first : read (codes "+(1 2,12a)") ≡ refused 5 4
  pub full : reading 2 (codes "+(1,true)") ≡ bad 21 0
  pub full_inside : reading 1 (codes "+(1,true)") ≡ bad 21 4
  pub full_before : reading 0 (codes "1 2") ≡ bad 21 0
  pub behind : read (codes "1 2") ≡ refused 5 2
  pub deep : weight (reading 2048 (times 47 (codes "zero?(") ++ (codes "1" ++ times 47 (codes ")")))) ≡ 48
  pub too_deep : read (times 48 (codes "zero?(") ++ codes "1") ≡ refused 6 288
  pub deep_word : read (times 48 (codes "zero?(") ++ codes ")") ≡ refused 5 288
  pub salt_size : weight (reading 2048 (salt ++ codes "(from salt take mg (from salt take more from salt take zero))")) ≡ 31
  pub salt_sum : weight (reading 2048 (salt ++ codes "+(from salt take zero,1)")) ≡ 29
  pub modules : weight (reading 2048 (times 32 (codes "module m interface [] body [] ") ++ codes "1")) ≡ 33
  pub too_many : read (times 33 (codes "module m interface [] body [] ")) ≡ refused 7 960
  pub inner : read (codes "module m interface [module") ≡ refused 5 20
