-- Each stage on the way to the line, from what the calls of the layers promise.
use Rattle.std.proofs.Common.{◌≡◌, ℕ, ◌+◌, ◌≤◌, List, [], map, length, take, replicate, Ok, Err, None, Result, sym, refl, ap, ◌∙◌, arith, length-take}
use lib.ListN.{length-replicate, length-map}
use Rattle.std.specs.Result.{IsErrAnd}
use Rattle.language.specs.Tree.{Plan}
use Rattle.language.specs.Pantry.{Pantry, stock_of}
use Rattle.language.specs.Typing.{ExpandedType, stock_types}
use Rattle.language.specs.Machine as machine
use Rattle.language.specs.Machine.{blank_cell, blank_frame, store_of}
use Rattle.language.specs.Job as language
use Rattle.language.specs.Job.{blanked, opened}
use Rattle.language.proofs.Checks.{one_type}
use Rattle.pantry.specs.File.{fault, records_of}
use Rattle.pantry.specs.Items.{item_pantry}
use Rattle.grammar.specs.declared.tree.Node.{Node}
use Rattle.grammar.specs.Syntax.{Sheet}
use Rattle.grammar.specs.Plain.{plain}
use Rattle.grammar.specs.Plan.{plan_of}
use Rattle.grammar.specs.Table.{nodes_s}
use Rattle.grammar.specs.Reading as reading
use Rattle.grammar.specs.Read.{close_of, nodes_read, Answered, IsRead}
use Rattle.grammar.proofs.Exactly.{exactly}
use Rattle.rules.specs.declared.faults.CheckFault.{CheckFault}
use Rattle.rules.specs.Forms as check
use Rattle.rules.specs.Rules as rules
use Rattle.rules.specs.Checking.{checking}
use Rattle.rules.specs.Laws.{Typed}
use Rattle.rules.proofs.Passing.{passing-sound}
use Rattle.typing.specs.declared.types.TypeEntry.{TypeEntry}
use Rattle.typing.specs.declared.types.Slot.{Slot}
use Rattle.checker.specs.declared.passes.Pass.{Pass}
use Rattle.checker.specs.Passes.{sheet_read, sheet_in}
use Rattle.checker.specs.Runs.{Ends}
use Rattle.job.specs.declared.tables.Cell.{Cell}
use Rattle.job.specs.declared.tables.Frame.{Frame}
use Rattle.job.specs.Maps.{cell_of, frame_of}
use Rattle.job.specs.Jobs.{plan_for, store_for, SamePass}
use Rattle.line.specs.declared.outcomes.Refusal.{Refusal}
use Rattle.line.specs.Faults.{check_refusal}
use Rattle.line.specs.Lines.{refusal_bytes}
use Rattle.results.specs.declared.setups.Setup.{Setup}
use Rattle.results.specs.declared.telling.Run.{Run}
use Rattle.results.specs.Panel.{counted, answer_on, ran_line, checked_line, read_line, text_line, file_line, told}

-- ── what was told ──

-- a refusal that the `?` made
pub refused-told : (r : Result Run Refusal) (f : Refusal) → IsErrAnd r (λ e. e ≡ f) → told r ≡ refusal_bytes f
refused-told (Ok x) f h = absurd h
refused-told (Err e) f h = ap refusal_bytes h

-- the line over a file that loading accepts
pub on-file : (file over text : List ℕ) (s : Setup) → over ≡ file → None ≡ fault file →
    text_line (item_pantry (records_of over)) text s ≡ file_line file text s (fault file)
on-file file over text s e n = ap (λ (f : List ℕ). text_line (item_pantry (records_of f)) text s) e ∙ ap (file_line file text s) n

-- ── the run ──

-- an opening leaves of the tables only their lengths
pub opened-on : {C F : Type 0} (plan : Plan) (cell : C → machine.Cell) (frame : F → machine.Frame) (cells : List C) (frames : List F) →
    opened plan (store_of (map cell cells) (map frame frames)) ≡
    opened plan (store_of (replicate (length cells) blank_cell) (replicate (length frames) blank_frame))
opened-on plan cell frame cells frames =
    let c : length (take 65535 (map cell cells)) ≡ length (take 65535 (replicate (length cells) blank_cell)) =
    simp (length-take, length-map, length-replicate) in
    let f : length (take 65535 (map frame frames)) ≡ length (take 65535 (replicate (length frames) blank_frame)) =
    simp (length-take, length-map, length-replicate) in
    ap (λ (n : ℕ). language.moment (record { cells = replicate n blank_cell; frames = replicate (length (take 65535 (map frame frames))) blank_frame })
    (language.running (machine.begin plan.close 0 [] 0 plan.tasks)) 0) c ∙
    ap (λ (n : ℕ). language.moment (record { cells = replicate (length (take 65535 (replicate (length cells) blank_cell))) blank_cell; frames = replicate n blank_frame })
    (language.running (machine.begin plan.close 0 [] 0 plan.tasks)) 0) f

plan-same : (p q : Pass) → SamePass p q → plan_for p ≡ plan_for q
plan-same p q s =
    ap (λ (text : List ℕ). plan_of text p.sheet.tree.now p.sheet.close) s.text ∙
    (ap (λ (nodes : List Node). plan_of q.sheet.text.now nodes p.sheet.close) s.tree ∙
    ap (plan_of q.sheet.text.now q.sheet.tree.now) s.close)

-- what a job answers that was opened on a pass q, keeps a pass p that reads the same, and made one advance
pub run-answer : (p q : Pass) → SamePass p q → (pantry : Pantry) (a : ℕ) (cells : List Cell) (frames : List Frame) (m n : language.Moment) →
    m ≡ opened (plan_for q) (store_for q cells frames) → n ≡ language.after (plan_for p) pantry a m →
    language.answer_of n.job ≡ answer_on (plan_for q) pantry (length cells) (length frames) a
run-answer p q s pantry a cells frames m n e f =
    ap (λ (x : language.Moment). language.answer_of x.job) (f ∙ (ap (λ (plan : Plan). language.after plan pantry a m) (plan-same p q s) ∙
    ap (language.after (plan_for q) pantry a) (e ∙ opened-on (plan_for q) (cell_of q.sheet.text.now) frame_of cells frames)))

-- ── the check ──

module _ (text : List ℕ) (m : check.Out (List ExpandedType) rules.Scope) (no_types : List TypeEntry) (no_slots : List Slot) (types : List TypeEntry) (slots : List Slot)
    (p : Pantry) (plan : Plan) (cells frames allowance : ℕ) where
  pub refused-line : (o : check.Out (List ExpandedType) ExpandedType) (f : CheckFault) → Ends text m o (Err f) no_types no_slots types slots →
      checked_line p plan cells frames allowance o ≡ refusal_bytes (check_refusal f)
  refused-line (check.bad g) f h = let y = h.0 in let z : g ≡ f = cc in ap (λ (x : CheckFault). refusal_bytes (check_refusal x)) z
  refused-line (check.good a us) f h = let y = h.result in let z : ◌≡◌ {A = ℕ} 0 1 = cc in absurd (omega arith)

  passed-by : (sheet : Sheet) (tp sp k : ℕ) (t : ExpandedType) (o : check.Out (List ExpandedType) ExpandedType) → checking (stock_of p) tp sp sheet ≡ o →
      Ends text m o (Ok k) no_types no_slots types slots → Typed (stock_of p) sheet t → checked_line p plan cells frames allowance o ≡ ran_line p plan cells frames allowance t
  passed-by sheet tp sp k t (check.bad g) e h typed = let y = h.0 in let z : ◌≡◌ {A = ℕ} 0 1 = cc in absurd (omega arith)
  passed-by sheet tp sp k t (check.good a us) e h typed =
      let s = (passing-sound (stock_of p) tp sp sheet a us e).0 in
      ap (ran_line p plan cells frames allowance) (one_type.of_sheet (stock_types (stock_of p)) (plain sheet) a t s typed)

  pub passed-line : (sheet : Sheet) (tp sp k : ℕ) (t : ExpandedType) → Ends text m (checking (stock_of p) tp sp sheet) (Ok k) no_types no_slots types slots →
      Typed (stock_of p) sheet t → checked_line p plan cells frames allowance (checking (stock_of p) tp sp sheet) ≡ ran_line p plan cells frames allowance t
  passed-line sheet tp sp k t h typed = passed-by sheet tp sp k t _ refl h typed

-- the plan of a pass, told by its parts
pub pass-plan : (q : Pass) (text : List ℕ) (nodes : List Node) (close : ℕ) →
    q.sheet.text.now ≡ text → q.sheet.tree.now ≡ nodes → q.sheet.close ≡ close → plan_for q ≡ plan_of text nodes close
pass-plan q text nodes close e f h = cc

-- ── the reading ──

module _ (p : Pantry) (text : List ℕ) (types scope cells frames allowance : ℕ) (ns ms : List Node) where
  -- what is read with fewer places is read with more
  more-places : (n : ℕ) (s : Sheet) (e : ℕ) → n ≤ 65535 → reading.reading n text ≡ reading.good s e → reading.reading 65535 text ≡ reading.good s e
  more-places n s e h q =
      let w = (exactly n text s e).0 q in
      (exactly 65535 text s e).1 (record {
        short = w.short;
        words = w.words;
        spells = w.spells;
        derives = w.derives;
        nests = w.nests;
        modules = w.modules;
        fits = omega (arith, w.fits);
      })

  read_by : (n close : ℕ) (tree : List Node) (o : reading.Out Sheet) → n ≤ 65535 → reading.reading n text ≡ o → Answered o (Ok close) ns ms → IsRead text tree close →
      read_line p text types scope cells frames allowance o ≡
      checked_line p (plan_of text tree close) cells frames allowance (checking (stock_of p) (counted types) (counted scope) (sheet_in text))
  read_by n close tree (reading.bad k at) h q a r = let y = a.0 in let z : ◌≡◌ {A = ℕ} 0 1 = cc in absurd (omega arith)
  read_by n close tree (reading.good s e) h q a r =
      let whole = more-places n s e h q in
      let c : close_of s ≡ close = (let y = a.0 in cc) in
      let t : nodes_s s ≡ tree = sym (r.0 ∙ ap nodes_read whole) in
      let same : s ≡ sheet_in text = sym (ap sheet_read whole) in
      ap (λ (k : ℕ). checked_line p (plan_of text (nodes_s s) k) cells frames allowance (checking (stock_of p) (counted types) (counted scope) s)) c ∙
      (ap (λ (zs : List Node). checked_line p (plan_of text zs close) cells frames allowance (checking (stock_of p) (counted types) (counted scope) s)) t ∙
      ap (λ (z : Sheet). checked_line p (plan_of text tree close) cells frames allowance (checking (stock_of p) (counted types) (counted scope) z)) same)

  -- the same of a sheet that is made of what was read
  pub sheet-line : (n close : ℕ) (text' : List ℕ) (tree : List Node) (close' : ℕ) → n ≤ 65535 → Answered (reading.reading n text) (Ok close) ns ms →
      IsRead text (take (close + 1) ms) close → text' ≡ text → tree ≡ take (close + 1) ms → close' ≡ close →
      checked_line p (plan_of text' tree close') cells frames allowance (checking (stock_of p) (counted types) (counted scope) (sheet_in text')) ≡
      read_line p text types scope cells frames allowance (reading.reading n text)
  sheet-line n close text' tree close' h a r e f i =
      let whole = read_by n close (take (close + 1) ms) _ h refl a r in
      let told : checked_line p (plan_of text' tree close') cells frames allowance (checking (stock_of p) (counted types) (counted scope) (sheet_in text')) ≡
      checked_line p (plan_of text (take (close + 1) ms) close) cells frames allowance (checking (stock_of p) (counted types) (counted scope) (sheet_in text)) = cc in
      told ∙ sym whole
