-- The names of what is read from a text are parts of the text, each at its place.
use Rattle.std.proofs.Common.{◌≡◌, ℕ, List, [], ◌∷◌, ◌++◌, length, take, drop, sym, subst}
use Rattle.words.specs.Words.{Reading, There, scan, start}
use Rattle.words.specs.Words as words
use Rattle.words.proofs.Parts.{there}
use Rattle.language.specs.Bindings.{part_of}
use Rattle.grammar.specs.Syntax.{WrittenType, Exp, Declaration, Definition, Module, Sheet}
use Rattle.grammar.specs.Productions.{Word}
use Rattle.grammar.specs.Productions as pr
use Rattle.grammar.specs.Reading.{Step, word, end, fault, steps, step_of}
use Rattle.grammar.specs.Derives.{Along}
use Rattle.grammar.specs.Grammar.{TypeWords, ExpWords, DeclarationWords, DefinitionWords, ModuleWords, SheetWords, Each, no_more, one_more}
use Rattle.grammar.specs.Grammar as g
use Rattle.grammar.specs.Table.{Spelled, SpelledT, SpelledE, SpelledD, SpelledF, SpelledM, SpelledS, Every}
use Rattle.grammar.specs.Laws.{ReadsSpelled, TreeStands}
use Rattle.grammar.proofs.Exactly.{exactly}
use Rattle.grammar.proofs.Laid.{stands-for}
use Rattle.grammar.proofs.Lays.{lays-nodes}

-- a word whose name, if it is one, is the part of the text at its place
abbrev SpelledW : List ℕ → Word → Type 0
SpelledW text (pr.name x) = Spelled text x
SpelledW text (pr.number at v) = Unit {0}
SpelledW text (pr.key at k) = Unit {0}
SpelledW text (pr.mark at m) = Unit {0}

abbrev SpelledN : List ℕ → Step → Type 0
SpelledN text (end e) = Unit {0}
SpelledN text (word w m) = SpelledW text w
SpelledN text (fault k e) = Unit {0}

step-spelled : (text : List ℕ) (p : ℕ) (r : Reading) → There p (drop p text) r → SpelledN text (step_of p r)
unfolding part_of
step-spelled text p words.end t = tt
step-spelled text p (words.word words.name q w) t = subst (λ z. take (length w) (drop z text) ≡ w) (sym t.0) t.1
step-spelled text p (words.word words.number q w) t = tt
step-spelled text p (words.word (words.keyword k) q w) t = tt
step-spelled text p (words.word (words.mark m) q w) t = tt
step-spelled text p (words.fault k q) t = tt

steps-spelled : (text : List ℕ) (p : ℕ) → SpelledN text (steps text p)
unfolding steps scan
steps-spelled text p = step-spelled text (start text p) (scan text p) (there (start text p) (drop (start text p) text))

along-spelled : (text : List ℕ) (p q : ℕ) (ws : List Word) → Along (steps text) p q ws → Every (SpelledW text) ws
along-spelled text p q [] al = tt
along-spelled text p q (w ∷ ws) al = (subst (SpelledN text) al.1 (steps-spelled text p), along-spelled text al.0 q ws al.2)

module _ (text : List ℕ) where
  abbrev W : List Word → Type 0
  W = Every (SpelledW text)

  split : (us vs : List Word) → W (us ++ vs) → W us × W vs
  split [] vs h = (tt, h)
  split (u ∷ us) vs h = let t = split us vs h.1 in ((h.0, t.0), t.1)

  type_s : (ws : List Word) (t : WrittenType) → TypeWords ws t → W ws → SpelledT text t
  type_s ws t (g.int_type p) h = tt
  type_s ws t (g.bool_type p) h = tt
  type_s ws t (g.named_type x) h = h.0
  type_s ws t (g.qualified_type p q m x) h = (h.1.0, h.1.1.1.0)
  type_s ws t (g.arrow_type p q r {us = us} {vs = vs} {a = a} {b = b} x y) h =
      let s = split us _ h.1 in
      let t = split vs _ s.1.1 in
      (type_s us a x s.0, type_s vs b y t.0)

  exp_s : (ws : List Word) (e : Exp) → ExpWords ws e → W ws → SpelledE text e
  exp_s ws e (g.numeral p v) h = tt
  exp_s ws e (g.true_word p) h = tt
  exp_s ws e (g.false_word p) h = tt
  exp_s ws e (g.variable x) h = h.0
  exp_s ws e (g.qualified p q m x) h = (h.1.0, h.1.1.1.0)
  exp_s ws e (g.is_zero p q r {us = us} {a = a} x) h = exp_s us a x (split us _ h.1.1).0
  exp_s ws e (g.apply p q {us = us} {vs = vs} {a = a} {b = b} x y) h =
      let s = split us _ h.1 in
      let t = split vs _ s.1 in
      (exp_s us a x s.0, exp_s vs b y t.0)
  exp_s ws e (g.proc p q r o x {us = us} {vs = vs} {t = t} {e = d} y z) h =
      let s = split us _ h.1.1.1.1 in
      (h.1.1.0, type_s us t y s.0, exp_s vs d z s.1.1)
  exp_s ws e (g.let_in p q r x {us = us} {vs = vs} {a = a} {e = d} y z) h =
      let s = split us _ h.1.1.1 in
      (h.1.0, exp_s us a y s.0, exp_s vs d z s.1.1)
  exp_s ws e (g.conditional p q r {us = us} {vs = vs} {ws = zs} {a = a} {b = b} {c = c} x y z) h =
      let s = split us _ h.1 in
      let t = split vs _ s.1.1 in
      (exp_s us a x s.0, exp_s vs b y t.0, exp_s zs c z t.1.1)
  exp_s ws e (g.letrec p q r o n i f x {ts = ts} {us = us} {vs = vs} {ws = zs} {s = s} {t = t} {a = a} {e = d} j k y z) h =
      let l = split ts _ h.1 in
      let m = split us _ l.1.1.1.1.1 in
      let b = split vs _ m.1.1.1 in
      (l.1.0, l.1.1.1.0, type_s ts s j l.0, type_s us t k m.0, exp_s vs a y b.0, exp_s zs d z b.1.1)
  exp_s ws e (g.binary p q r o {w = w} {op = op} {us = us} {vs = vs} {a = a} {b = b} f x y) h =
      let s = split us _ h.1.1 in
      let t = split vs _ s.1.1 in
      (exp_s us a x s.0, exp_s vs b y t.0)

  declaration_s : (ws : List Word) (d : Declaration) → DeclarationWords ws d → W ws → SpelledD text d
  declaration_s ws d (g.opaque_type p t) h = h.1.0
  declaration_s ws d (g.transparent_type p q t {us = us} {a = a} x) h = (h.1.0, type_s us a x h.1.1.1)
  declaration_s ws d (g.value_of_type q v {us = us} {a = a} x) h = (h.0, type_s us a x h.1.1)

  definition_s : (ws : List Word) (d : Definition) → DefinitionWords ws d → W ws → SpelledF text d
  definition_s ws d (g.type_is p q t {us = us} {a = a} x) h = (h.1.0, type_s us a x h.1.1.1)
  definition_s ws d (g.value_is q v {us = us} {e = e} x) h = (h.0, exp_s us e x h.1.1)

  each_s : {A : Type 0} (D : List Word → A → Type 0) (P : A → Type 0) → ((ws : List Word) (a : A) → D ws a → W ws → P a)
      → (ws : List Word) (r : List A) → Each D ws r → W ws → Every P r
  each_s D P f ws r no_more h = tt
  each_s D P f ws r (one_more {us = us} {vs = vs} {a = a} {r = rs} d e) h = let s = split us vs h in (
    f us a d s.0,
    each_s D P f vs rs e
        s.1,
  )

  module_s : (ws : List Word) (m : Module) → ModuleWords ws m → W ws → SpelledM text m
  module_s ws m (g.module_of p q r o n i j t {us = us} {vs = vs} {ds = ds} {fs = fs} x y) h =
      let s = split us _ h.1.1.1.1 in
      let t = split vs _ s.1.1.1.1 in (
        h.1.0,
        each_s DeclarationWords (SpelledD text) declaration_s us ds x s.0,
        each_s DefinitionWords
            (SpelledF text) definition_s vs fs y t.0,
      )

  sheet_s : (ws : List Word) (s : Sheet) → SheetWords ws s → W ws → SpelledS text s
  sheet_s ws s (g.sheet {us = us} {vs = vs} {ms = ms} {e = e} x y) h = let s = split us vs h in
      (each_s ModuleWords (SpelledM text) module_s us ms x s.0, exp_s vs e y s.1)

pub reads-spelled : ReadsSpelled
reads-spelled n text s e h =
    let l = (exactly n text s e).0 h in
    sheet_s text l.words s l.derives (along-spelled text 0 l.spells.0 l.words l.spells.1)

pub tree-stands : TreeStands
tree-stands n text s e h =
    let l = (exactly n text s e).0 h in
    rw (lays-nodes s) (stands-for n text s l.fits l.nests (reads-spelled n text s e h))
