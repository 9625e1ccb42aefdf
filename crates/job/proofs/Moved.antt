-- Each action on the tables is the machine's.
use Rattle.std.proofs.Common.{◌≡◌, ℕ, suc, ◌-◌, Bool, ltb, List, map, length, set, sym, ap, ◌∙◌}
use lib.ListN.{length-map}
use lib.Seq.{map-set}
use Rattle.std.specs.Prelude.{Some, None, Ok, Err, Option as Maybe, Result}
use Rattle.std.specs.Result.{IsErrAnd}
use Rattle.language.specs.Pantry.{Pantry}
use Rattle.language.specs.Machine.{Store, Registers as Regs, Control, Outcome, next, stop, perform, onward, with_cell, with_frame, begin}
use Rattle.language.specs.Names.{Binding}
use Rattle.language.specs.Scopes.{Scope}
use Rattle.language.specs.Tree.{Task}
use Rattle.job.specs.declared.tables.Cell.{Cell}
use Rattle.job.specs.declared.tables.Frame.{Frame}
use Rattle.job.specs.declared.tables.Value.{Value}
use Rattle.job.specs.declared.reasons.Reason.{Reason}
use Rattle.job.specs.declared.machine.Machine.{Machine}
use Rattle.job.specs.declared.actions.Action.{Action}
use Rattle.job.specs.Maps.{cell_of, frame_of, stored, reason_of, action_of}
use Rattle.job.specs.Machines.{text_of, program_of, store_of, state_of}
use Rattle.job.specs.Performs.{outcome_of}

-- a step goes on with the same store, control and counts
pub onward-same : (g : Regs) {s s' : Store} {c c' : Control} {u u' n n' : ℕ} → s ≡ s' → c ≡ c' → u ≡ u' → n ≡ n' →
    next s (onward g c u n) ≡ next s' (onward g c' u' n')
onward-same g {s} {s'} {c} {c'} {u} {u'} {n} {n'} p q e f =
    ap (λ (x : Store). next x (onward g c u n)) p ∙
    (ap (λ (x : Control). next s' (onward g x u n)) q ∙
    (ap (λ (x : ℕ). next s' (onward g c' x n)) e ∙
    ap (λ (x : ℕ). next s' (onward g c' u' x)) f))

-- a frame that is written, in the machine's store
pub frame-written : (text : List ℕ) (cells : List Cell) (frames frames' : List Frame) (d e : ℕ) (f : Frame) → frames' ≡ set frames d f →
    d ≡ e →
    stored text cells frames' ≡ with_frame (stored text cells frames) e (frame_of f)
frame-written text cells frames frames' d e f h q =
    ap (λ (x : List Frame). stored text cells x) h ∙
    (ap (λ y. record { cells = map (cell_of text) cells; frames = y }) (map-set frame_of frames d f) ∙
    ap (λ (k : ℕ). with_frame (stored text cells frames) k (frame_of f)) q)

-- a cell that is written, in the machine's store
pub cell-written : (text : List ℕ) (cells cells' : List Cell) (frames : List Frame) (u : ℕ) (c : Cell) (s : Store) →
    cells' ≡ set cells u c → stored text cells frames ≡ s → stored text cells' frames ≡ with_cell s u (cell_of text c)
cell-written text cells cells' frames u c s h q =
    ap (λ (x : List Cell). stored text x frames) h ∙
    (ap (λ y. record { cells = y; frames = map frame_of frames }) (map-set (cell_of text) cells u c) ∙
    ap (λ (x : Store). with_cell x u (cell_of text c)) q)

-- is there a free place?
pub free-frame : (frames : List Frame) (d : ℕ) (b : Bool) → b ≡ ltb d (length frames) → ltb d (length (map frame_of frames)) ≡ b
free-frame frames d b e = ap (ltb d) (length-map frames frame_of) ∙ sym e

pub free-cell : (text : List ℕ) (cells : List Cell) (u : ℕ) (b : Bool) → b ≡ ltb u (length cells) →
    ltb u (length (map (cell_of text) cells)) ≡ b
free-cell text cells u b e = ap (ltb u) (length-map cells (cell_of text)) ∙ sym e

-- a definition is bound
pub defined : (s s' : Store) (r : Regs) (close u n : ℕ) (hs : List (Binding Scope)) (ts : List Task) → s ≡ s' → n ≡ suc u →
    r ≡ begin close n hs n ts → next s r ≡ next s' (begin close (suc u) hs (suc u) ts)
defined s s' r close u n hs ts p q e =
    ap (λ (x : Store). next x r) p ∙ ap (next s') (e ∙ ap (λ (k : ℕ). begin close k hs k ts) q)

-- the tables as they were
pub same_store : {text text' : List ℕ} {cells cells' : List Cell} {frames frames' : List Frame} → text' ≡ text → cells' ≡ cells →
    frames' ≡ frames → stored text' cells' frames' ≡ stored text cells frames
same_store {text} {text'} {cells} {cells'} {frames} {frames'} t p q =
    ap (λ (x : List ℕ). stored x cells' frames') t ∙
    (ap (λ (x : List Cell). stored text x frames') p ∙ ap (λ (x : List Frame). stored text cells x) q)

-- a stop that is passed on
pub stopped-as : (m : Machine) (r : Result (Maybe Value) Reason) (k : Reason) → IsErrAnd r (λ e. e ≡ k) → outcome_of m r ≡ stop (reason_of k)
stopped-as m (Ok None) k h = absurd h
stopped-as m (Ok (Some v)) k h = absurd h
stopped-as m (Err e) k h = ap (λ x. stop (reason_of x)) h

-- what an action comes to on a machine
abbrev pub acted : Pantry → Machine → Action → Outcome
acted p m a = perform (program_of p m) (store_of m) (state_of m) (action_of (text_of m) (m.registers.frames - 1) a)

-- what an arm does is what its action asks
pub as-asked : (p : Pantry) (m : Machine) {a b : Action} {o : Outcome} → a ≡ b → o ≡ acted p m b → o ≡ acted p m a
as-asked p m e h = h ∙ ap (acted p m) (sym e)
