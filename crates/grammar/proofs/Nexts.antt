-- What the cursor says of the next word, as a step of reading.
use Rattle.std.proofs.Common.{◌≡◌, ℕ, ◌+◌, ◌<◌, ◌≤◌, List, length, take, drop, Some, None, Ok, Option, sym, refl, ap, ◌∙◌, subst, arith, length-drop, length-take}
use Rattle.words.specs.declared.faults.Fault.{Fault as WordFault}
use Rattle.words.specs.declared.faults.Fault.TheVariants.{TooLong, Stray, LongName, LargeNumber}
use Rattle.words.specs.declared.tokens.Token.{Token}
use Rattle.words.specs.declared.tokens.Token.TheVariants as token
use Rattle.words.specs.Words.{Reading, There, Small, scan, start, behind}
use Rattle.words.specs.Words as words
use Rattle.words.specs.Spelling.{drawn}
use Rattle.words.specs.Shown.{number_of, place_of, shown}
use Rattle.language.specs.Bindings.{part_of}
use Rattle.grammar.specs.declared.faults.Fault.TheVariants.{Word}
use Rattle.grammar.specs.Faults.{refusal_of, refusal}
use Rattle.grammar.specs.Steps.{step_in, Whole, EndsAt, next_of, TokenFits}
use Rattle.grammar.specs.Reading.{end, fault, steps, step_of}
use Rattle.grammar.proofs.Ends.{steps-lead, Leads}

pub word-refusal : (f : WordFault) → refusal_of (Word f) ≡ refusal (number_of f) (place_of f)
word-refusal TooLong = refl
word-refusal (Stray p) = refl
word-refusal (LongName p) = refl
word-refusal (LargeNumber p) = refl

module _ (text : List ℕ) (p : ℕ) where
  step-of : (r : Reading) → r ≡ scan text p → steps text p ≡ step_of (start text p) r
  unfolding steps
  step-of r h = ap (step_of (start text p)) (sym h)

  pub next-fault : (f : WordFault) → words.fault (number_of f) (place_of f) ≡ scan text p → steps text p ≡ fault (number_of f) (place_of f)
  next-fault f h = step-of (words.fault (number_of f) (place_of f)) h

  -- the step that the cursor's answer stands for
  pub next-step : (o : Option Token) (n q : ℕ) → p ≤ length text → n ≡ length text → shown (Ok o) ≡ scan text p
      → q ≡ behind (start text p) (scan text p) → There (start text p) (drop (start text p) text) (shown (Ok o))
      → (steps text p ≡ step_in text (next_of n o) q) × Whole text (next_of n o) × EndsAt (next_of n o) q
  unfolding part_of
  next-step None n q b e h a t =
      let i = step-of words.end h in
      let j : start text p ≡ length text = subst (Leads (length text)) i (steps-lead text p b) in
      (i ∙ ap end (j ∙ sym e), tt, a ∙ (ap (behind (start text p)) (sym h) ∙ (j ∙ sym e)))
  next-step (Some (token.Name w)) n q b e h a t =
      let x = w.text.now in
      let i : take (length x) (drop w.place text) ≡ x = subst (λ z. take (length x) (drop z text) ≡ x) (sym t.0) t.1 in
      let j : q ≡ w.place + length x = a ∙ ap (behind (start text p)) (sym h) in
      (step-of (words.word words.name w.place x) h ∙ rw (i, j), ap length i, tt)
  next-step (Some (token.Number w)) n q b e h a t =
      let x = w.text.now in
      let j : q ≡ w.place + length x = a ∙ ap (behind (start text p)) (sym h) in
      (step-of (words.word words.number w.place x) h ∙ rw j, tt, tt)
  next-step (Some (token.Key k w)) n q b e h a t =
      let x = w.text.now in
      let j : q ≡ w.place + length x = a ∙ ap (behind (start text p)) (sym h) in
      (step-of (words.word (words.keyword k) w.place x) h ∙ rw j, tt, tt)
  next-step (Some (token.Sign m at)) n q b e h a t =
      let j : q ≡ at + length (drawn m) = a ∙ ap (behind (start text p)) (sym h) in
      (step-of (words.word (words.mark m) at (drawn m)) h ∙ rw j, tt, tt)

  -- a word stands within the text
  there-within : (q : ℕ) (w : List ℕ) → length text ≤ 32768 → (q ≡ start text p) × (take (length w) (drop (start text p) text) ≡ w)
      × (0 < length w)
      → (q < 65536) × (length w < 65536)
  there-within q w b t =
      let i = length-take (length w) (drop (start text p) text) in
      let j = length-drop (start text p) text in
      let k = ap length t.1 in
      (omega (arith, i, j, k, t.0, t.2), omega (arith, i, j, k))

  pub next-lawful : (o : Option Token) → length text ≤ 32768 → There (start text p) (drop (start text p) text) (shown (Ok o))
      → Small (shown (Ok o)) → TokenFits o
  next-lawful None b t s = tt
  next-lawful (Some (token.Name w)) b t s = there-within w.place w.text.now b t
  next-lawful (Some (token.Number w)) b t s = ((there-within w.place w.text.now b t).0, s)
  next-lawful (Some (token.Key k w)) b t s = (there-within w.place w.text.now b t).0
  next-lawful (Some (token.Sign m at)) b t s = (there-within at (drawn m) b t).0
