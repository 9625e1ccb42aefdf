-- A text is read as a sheet exactly when its words are that sheet, within the limits.
use Rattle.std.proofs.Common.{◌≡◌, ℕ, Bool, true, false, cond, leb, List, length, refl, subst, arith}
use Rattle.std.proofs.lemmas.Bool.{leb-true, le-leb}
use Rattle.grammar.specs.Syntax.{Sheet}
use Rattle.grammar.specs.Reading.{bad, good, steps, sheet_from, reading, levels}
use Rattle.grammar.specs.Laws.{Lawful, ReadsExactly}
use Rattle.grammar.proofs.Sound.{Of, SheetRead, sheet-sound}
use Rattle.grammar.proofs.Complete.{sheet-complete}
use Rattle.grammar.proofs.Same.{sheet-derives, sheet-back}

sound : (n : ℕ) (text : List ℕ) (s : Sheet) (e : ℕ) → reading n text ≡ good s e → Lawful n text s e
unfolding reading
sound n text s e h = go (leb (length text) 32768) refl h
  where
    go : (b : Bool) → leb (length text) 32768 ≡ b → cond b (sheet_from 32 (steps text) n 0 0) (bad 1 32768) ≡ good s e → Lawful n text s e
    go true i h =
        let r : SheetRead (steps text) n 32 0 0 s e = subst (Of (SheetRead (steps text) n 32 0 0)) h
        (sheet-sound 32 (steps text) n 0 0) in
        let b = sheet-back levels r.0 s r.2 in
        record {
          short = leb-true (length text) 32768 i;
          words = r.0;
          spells = r.1;
          derives = b.0;
          nests = b.1;
          modules = r.4;
          fits = omega (arith, r.3);
        }
    go false i h = let z : ◌≡◌ {A = ℕ} 0 1 = cc in absurd (omega arith)

complete : (n : ℕ) (text : List ℕ) (s : Sheet) (e : ℕ) → Lawful n text s e → reading n text ≡ good s e
unfolding reading
complete n text s e l =
    rw (le-leb (length text) 32768 l.short)
    (sheet-complete s.modules 32 (steps text) n 0 0 l.spells.0 e l.words s.closing (sheet-derives levels l.words s
    l.derives l.nests) l.spells.1 l.spells.2 (omega (arith, l.fits)) l.modules)

pub exactly : ReadsExactly
exactly n text s e = (sound n text s e, complete n text s e)
