-- From the tables that count to the store that was lent.
use Rattle.std.proofs.Common.{◌≡◌, ℕ, ◌+◌, min, List, map, length, take, replicate, sym, ap, ◌∙◌, arith, length-take, drop, ◌++◌}
use lib.ListN.{length-map}
use lib.LanesLaws.{map-replicate}
use Rattle.std.proofs.lemmas.List.{take-map}
use Rattle.language.specs.Tree.{Plan}
use Rattle.language.specs.Pantry.{Pantry}
use Rattle.language.specs.Machine as machine
use Rattle.language.specs.Job as language
use Rattle.language.proofs.Advances.{advances-add}
use Rattle.grammar.specs.Plan.{plan_of}
use Rattle.grammar.specs.declared.sheet.ReadSheet.{ReadSheet}
use Rattle.job.specs.declared.tables.Cell.{Cell}
use Rattle.job.specs.declared.tables.Cell.TheVariants as cell
use Rattle.job.specs.declared.tables.Frame.{Frame}
use Rattle.job.specs.declared.tables.Frame.TheVariants as frame
use Rattle.job.specs.declared.answers.Status.{Status}
use Rattle.job.specs.declared.answers.Status.TheVariants.{Running}
use Rattle.job.specs.declared.answers.Progress.{Progress}
use Rattle.job.specs.declared.course.Course.{Course}
use Rattle.job.specs.declared.registers.Registers.{Registers}
use Rattle.job.specs.Maps.{cell_of, frame_of, stored, registers_of, status_of}
use Rattle.job.specs.Rules.{program_in}
use Rattle.job.specs.Advances.{Advances, within}
use Rattle.job.proofs.Within.{lent, back, carried}

abbrev lent_as : List ℕ → List Cell → List Frame → machine.Store
lent_as text cells frames = machine.store_of (map (cell_of text) cells) (map frame_of frames)

abbrev store : List machine.Cell → List machine.Frame → machine.Store
store cs fs = record { cells = cs; frames = fs }

-- the store that was lent has the places that count
lent_is : (text : List ℕ) (cells : List Cell) (frames : List Frame) → lent_as text cells frames ≡ stored text (within cells) (within frames)
lent_is text cells frames =
    ap (λ (x : List machine.Cell). store x (take 65535 (map frame_of frames))) (take-map (cell_of text) 65535 cells) ∙
    ap (store (map (cell_of text) (within cells))) (take-map frame_of 65535 frames)

-- places that count, all blank
blank-places : {X Y : Type 0} → (f : X → Y) (xs xs' : List X) (x : X) → within xs' ≡ replicate (min 65535 (length xs)) x →
    take 65535 (map f xs') ≡ replicate (length (take 65535 (map f xs))) (f x)
blank-places {X} {Y} f xs xs' x e =
    let n : min 65535 (length xs) ≡ length (take 65535 (map f xs)) = simp (length-take, length-map) (omega arith) in
    take-map f 65535 xs' ∙ (ap (map f) e ∙ (map-replicate f (min 65535 (length xs)) x ∙ ap (λ (k : ℕ). replicate k (f x)) n))

-- the store that was lent, all blank
pub blanked-is : (text : List ℕ) (cells cells' : List Cell) (frames frames' : List Frame) →
    within cells' ≡ replicate (min 65535 (length cells)) cell.Blank → within frames' ≡ replicate (min 65535 (length frames)) frame.Blank →
    lent_as text cells' frames' ≡ language.blanked (lent_as text cells frames)
blanked-is text cells cells' frames frames' p q =
    ap (λ (x : List machine.Cell). store x (take 65535 (map frame_of frames'))) (blank-places (cell_of text) cells cells' cell.Blank p) ∙
    ap (store (language.blanked (lent_as text cells frames)).cells) (blank-places frame_of frames frames' frame.Blank q)

-- an advance on the places that count is one on the store that was lent
advanced : (s : ReadSheet) (c c' : Course) (m : Pantry) (cells cells' : List Cell) (frames frames' : List Frame)
    (g : Registers) (x : Status) (n a : ℕ) (r : Progress) → x ≡ Running g →
    Advances m s (record { course = c; cells = within cells; frames = within frames })
    (record { course = c'; cells = within cells'; frames = within frames' }) g n a r →
    language.moment (lent_as s.text.now cells' frames') (status_of s.text.now c' r.status) r.steps ≡
    language.after (plan_of s.text.now s.tree.now s.close) m a
    (language.moment (lent_as s.text.now cells frames) (status_of s.text.now c x) n)
advanced s c c' m cells cells' frames frames' g x n a r q h =
    let w = program_in s m in
    ap (λ (y : machine.Store). language.moment y (status_of s.text.now c' r.status) r.steps) (lent_is s.text.now cells' frames') ∙
    (h ∙
    (ap (λ (y : machine.Store). language.stepping w a y (language.running (registers_of s.text.now c g)) n)
    (sym (lent_is s.text.now cells frames)) ∙
    ap (λ (y : Status). language.stepping w a (lent_as s.text.now cells frames) (status_of s.text.now c y) n) (sym q)))

-- the same, where these places were lent and came back
pub advanced-is : (s : ReadSheet) (c c' : Course) (m : Pantry) (cells cells' : List Cell) (frames frames' : List Frame) (i j : ℕ)
    (g : Registers) (x : Status) (n a : ℕ) (r : Progress) → i ≡ min 65535 (length cells) → j ≡ min 65535 (length frames) →
    length cells' ≡ i → length frames' ≡ j → x ≡ Running g →
    Advances m s (record { course = c; cells = take i cells; frames = take j frames })
    (record { course = c'; cells = cells'; frames = frames' }) g n a r →
    language.moment (lent_as s.text.now (cells' ++ drop i cells) (frames' ++ drop j frames)) (status_of s.text.now c' r.status) r.steps ≡
    language.after (plan_of s.text.now s.tree.now s.close) m a
    (language.moment (lent_as s.text.now cells frames) (status_of s.text.now c x) n)
advanced-is s c c' m cells cells' frames frames' i j g x n a r e f k l q h =
    let R : List Cell → List Cell → List Frame → List Frame → Type 0 = λ y y' z z'.
    Advances m s (record { course = c; cells = y; frames = z }) (record { course = c'; cells = y'; frames = z' }) g n a r in
    advanced s c c' m cells (cells' ++ drop i cells) frames (frames' ++ drop j frames) g x n a r q
    (carried R (lent cells i e) (sym (back cells cells' i e k)) (lent frames j f) (sym (back frames frames' j f l)) h)

-- an advance and then another
pub adds : (plan : Plan) (p : Pantry) (a b : ℕ) (m n : language.Moment) → n ≡ language.after plan p a m →
    language.after plan p (a + b) m ≡ language.after plan p b n
adds plan p a b m n e = advances-add (machine.program_of plan p) a b m.store m.job ∙ ap (language.after plan p b) (sym e)
