-- What reading a text into a lent table answers and leaves.
use Rattle.std.specs.Result.{is_err}
use Rattle.std.proofs.Common.{◌≡◌, ℕ, true, false, ◌+◌, ◌-◌, ◌<◌, ◌≤◌, min, List, [], ◌++◌, length, take, drop, replicate, Some, Ok, Err, Result, sym, refl, ap, ◌∙◌, subst, arith, length-append}
use lib.ListN.{length-replicate}
use lib.Seq.{take-append_seam, drop-append-le}
use Rattle.std.proofs.lemmas.Bool.{le-leb, lt-leb}
use Rattle.words.specs.declared.faults.Fault.{Fault as WordFault}
use Rattle.words.specs.Shown.{number_of, place_of}
use Rattle.grammar.specs.declared.faults.Fault.{Fault}
use Rattle.grammar.specs.declared.faults.Fault.TheVariants.{Word}
use Rattle.grammar.specs.declared.tree.Node.{Node}
use Rattle.grammar.specs.declared.tree.Node.TheVariants as node
use Rattle.grammar.specs.declared.reader.Reader.{Reader}
use Rattle.grammar.specs.Syntax.{Sheet, inner_e, inner_m, places, size}
use Rattle.grammar.specs.Faults.{refusal_of, refusal}
use Rattle.grammar.specs.Reading.{Out, bad, good, steps, sheet_from, reading}
use Rattle.grammar.specs.Table.{nodes_s, lay_e, lay_m, lay_of, lay_s}
use Rattle.grammar.specs.Laying.{State, lifted, lay_sheet, sheet_m}
use Rattle.grammar.specs.Readers.{Gave}
use Rattle.grammar.specs.Read.{limit_of, blanked, close_of, filled, Answered, Filled, nodes_read, Promises}
use Rattle.grammar.specs.Laws.{Lawful, Refused, Judged}
use Rattle.grammar.proofs.Nexts.{word-refusal}
use Rattle.grammar.proofs.Exactly.{exactly}
use Rattle.grammar.proofs.Ends.{ends_last}
use Rattle.grammar.proofs.Refusals.{refuses-first}
use Rattle.grammar.proofs.Laid.{laid-put, length-nodes_s, drop-blanks}
use Rattle.grammar.proofs.Lays.{lays-nodes}
use Rattle.grammar.proofs.Blanks.{length-blanked, drop-blanked, same-blanked}

-- a text that is too long
pub too_long : (n : ℕ) (text : List ℕ) (f : WordFault) (ns ms : List Node) → (32768 < length text) × (number_of f ≡ 1)
    × (place_of f ≡ 32768) → drop 65535 ms ≡ drop 65535 ns
    → Filled (reading n text) (Err (Word f)) ns ms
unfolding reading
too_long n text f ns ms h d =
    let i : refusal_of (Word f) ≡ refusal 1 32768 = word-refusal f ∙ (ap (λ k. refusal k (place_of f)) h.1 ∙ ap (refusal 1) h.2) in
    rw (lt-leb (length text) 32768 h.0) (ap Some i, d)

-- a text that is read from its start
pub sheet-filled : (text : List ℕ) (n : ℕ) (ns : List Node) (r : Result ℕ Fault) (t : Reader) → length text ≤ 32768
    → Gave (sheet_m 32 (record { text = text; limit = n; at = 0; used = 0; table = ns })) r t → drop 65535 t.tree.now ≡ drop 65535 ns
    → Filled (reading n text) r ns t.tree.now
unfolding sheet_m reading
sheet-filled text n ns r t b h d = rw (le-leb (length text) 32768 b) (go (sheet_from 32 (steps text) n 0 0) h)
  where
    go : (o : Out Sheet) → Gave (lifted o (λ s. 0 + (places inner_m s.modules + inner_e s.closing))
        (λ s. 0 + (places inner_m s.modules + (inner_e s.closing + 1))) (lay_sheet 0)
        (record { text = text; limit = n; at = 0; used = 0; table = ns })) r t
        → Filled o r ns t.tree.now
    go (bad k e) h = (h, d)
    go (good s e) h =
        let i : 0 + close_of s ≡ close_of s = omega arith in
        let j : 0 + places inner_m s.modules ≡ places inner_m s.modules = omega arith in (
          h.result ∙ ap Ok i,
          ap (λ (z : State). z.table) h.state
              ∙ ap (λ k. lay_e k s.closing (lay_of inner_m lay_m 0 s.modules ns)) j,
        )

-- the table in which a sheet was laid
table_filled : (s : Sheet) (ns : List Node) → size s ≤ limit_of ns → lay_s s (blanked ns) ≡ filled s ns
unfolding blanked
table_filled s ns b =
    let l = length-nodes_s s in
    let bs = replicate (limit_of ns) node.Blank in
    let i = length-replicate (limit_of ns) node.Blank in
    let j : length (nodes_s s) ≤ length (bs ++ drop 65535 ns) = omega (arith, l, i, length-append bs (drop 65535 ns)) in
    let k : length (nodes_s s) ≤ length bs = omega (arith, l, i) in
    lays-nodes s (bs ++ drop 65535 ns)
    ∙ (laid-put [] (nodes_s s) (bs ++ drop 65535 ns) j
    ∙ ap (λ z. nodes_s s ++ z)
    (drop-append-le (length (nodes_s s)) bs (drop 65535 ns) k
    ∙ ap (λ z. z ++ drop 65535 ns) (drop-blanks (length (nodes_s s)) (limit_of ns) ∙ ap (λ k. replicate (limit_of ns - k) node.Blank) l)))

-- the whole table is read with no more places
more_room : (n : ℕ) (text : List ℕ) (s : Sheet) (e : ℕ) → n ≤ 65535 → Lawful n text s e → reading 65535 text ≡ good s e
more_room n text s e b l =
    (exactly 65535 text s e).1 (record {
      short = l.short;
      words = l.words;
      spells = l.spells;
      derives = l.derives;
      nests = l.nests;
      modules = l.modules;
      fits = omega (arith, l.fits);
    })

pub at_length : (n : ℕ) (text : List ℕ) (s : Sheet) (e : ℕ) → Lawful n text s e → Lawful n text s (length text)
at_length n text s e l =
    subst (Lawful n text s) (ends_last text l.spells.0 l.words e l.spells.1 l.spells.2) l

module _ (text : List ℕ) (ns ms : List Node) where
  -- the limit is that of the table before
  filled_at : (r : Result ℕ Fault) (bs : List Node) → bs ≡ blanked ns → Filled (reading (limit_of bs) text) r bs ms
      → Filled (reading (limit_of ns) text) r (blanked ns) ms
  filled_at r bs b h =
      let i : limit_of bs ≡ limit_of ns = ap (λ z. min (length z) 65535) b ∙ ap (λ k. min k 65535) (length-blanked ns) in
      subst (λ k. Filled (reading k text) r (blanked ns) ms) i (subst (λ z. Filled (reading (limit_of bs) text) r z ms) b h)

  pub answered-ok : (close : ℕ) (bs : List Node) → bs ≡ blanked ns → Filled (reading (limit_of bs) text) (Ok close) bs ms
      → Answered (reading (limit_of ns) text) (Ok close) ns ms × Promises (Ok close) text ms × Judged (limit_of ns) text (Ok close)
  answered-ok close bs b h = go (reading (limit_of ns) text) refl (filled_at (Ok close) bs b h)
    where
      go : (o : Out Sheet) → reading (limit_of ns) text ≡ o → Filled o (Ok close) (blanked ns) ms
          → Answered o (Ok close) ns ms × Promises (Ok close) text ms × Judged (limit_of ns) text (Ok close)
      go (bad k e) i h = let z : ◌≡◌ {A = ℕ} 0 1 = cc in absurd (omega arith)
      go (good s e) i h =
          let l = (exactly (limit_of ns) text s e).0 i in
          let c : close ≡ close_of s = let j = h.0 in cc in
          let m : ms ≡ filled s ns = h.1 ∙ table_filled s ns l.fits in
          let d : close + 1 ≡ length (nodes_s s) = omega (arith, c, length-nodes_s s) in
          let t : take (close + 1) ms ≡ nodes_s s = ap (take (close + 1)) m ∙ (ap (λ k. take k (filled s ns)) d
          ∙ take-append_seam (nodes_s s) (replicate (limit_of ns - size s) node.Blank ++ drop 65535 ns)) in
          let r : reading 65535 text ≡ good s e = more_room (limit_of ns) text s e (omega arith) l in
          ((h.0, m), (t ∙ sym (ap nodes_read r), ap length t ∙ sym d), (s, at_length (limit_of ns) text s e l, c))

  pub answered-err : (f : Fault) (bs cs : List Node) → bs ≡ blanked ns → length ms ≡ length ns → cs ≡ blanked ms
      → Filled (reading (limit_of bs) text) (Err f) bs ms
      → Answered (reading (limit_of ns) text) (Err f) ns cs × Judged (limit_of ns) text (Err f)
  answered-err f bs cs b e1 c h = go (reading (limit_of ns) text) refl (filled_at (Err f) bs b h)
    where
      go : (o : Out Sheet) → reading (limit_of ns) text ≡ o → Filled o (Err f) (blanked ns) ms → Answered o (Err f) ns cs
          × Judged (limit_of ns) text (Err f)
      go (bad k e) i h =
          let j : refusal_of f ≡ refusal k e = let j = h.0 in cc in (
            (h.0, c ∙ same-blanked ms ns e1 (h.1 ∙ drop-blanked ns)),
            (
              (λ s a l. let g = (exactly (limit_of ns) text s a).1 l in let z : ◌≡◌ {A = ℕ} 0 1 = cc in absurd (omega arith)),
              λ five.
                  let n : k ≡ 5 = sym (ap (λ (z : _). z.number) j) ∙ five in
                  subst (Refused text) (sym (ap (λ (z : _). z.place) j)) (refuses-first (limit_of ns) text e (i ∙ ap (λ k. bad k e) n)),
            ),
          )
      go (good s e) i h = let j = h.0 in let z : ◌≡◌ {A = ℕ} 0 1 = cc in absurd (omega arith)

  -- the same of any answer
  pub answered-read : (r : Result ℕ Fault) → false ≡ is_err r → (bs : List Node) → bs ≡ blanked ns → Filled (reading (limit_of bs) text) r bs ms
      → Answered (reading (limit_of ns) text) r ns ms × Promises r text ms × Judged (limit_of ns) text r
  answered-read (Ok close) e bs b h = answered-ok close bs b h
  answered-read (Err f) e bs b h = let z : ◌≡◌ {A = ℕ} 0 1 = cc in absurd (omega arith)

  pub answered-refused : (r : Result ℕ Fault) → true ≡ is_err r → (bs cs : List Node) → bs ≡ blanked ns → length ms ≡ length ns
      → cs ≡ blanked ms → Filled (reading (limit_of bs) text) r bs ms
      → Answered (reading (limit_of ns) text) r ns cs × Promises r text cs × Judged (limit_of ns) text r
  answered-refused (Ok close) e bs cs b l c h = let z : ◌≡◌ {A = ℕ} 0 1 = cc in absurd (omega arith)
  answered-refused (Err f) e bs cs b l c h =
      let a = answered-err f bs cs b l c h in
      (a.0, tt, a.1)
