-- What an answer of the cursor says, from what is read at the place p, where the gap has been passed. Assumes nothing.
use Rattle.std.proofs.Common.{◌≡◌, ℕ, ◌+◌, ◌<◌, ◌≤◌, false, List, length, drop, Some, Ok, Option, sym, ap, ◌∙◌, subst, arith, length-drop}
use Rattle.words.specs.declared.tokens.Token.{Token}
use Rattle.words.specs.Words.{gap, first, start, scan, behind, next_place, There, Small}
use Rattle.words.specs.Shown.{shown, width_of, Part}
use Rattle.words.proofs.Parts.{ended, there}
use Rattle.words.proofs.Sizes.{small}

module _ (text : List ℕ) (p : ℕ) (o : Option Token) (told : shown (Ok o) ≡ first p (drop p text)) where
  pub is-small : Small (shown (Ok o))
  is-small = subst Small (sym told) (small p (drop p text))

  pub is-part : (at : ℕ) → p ≡ at + gap false (drop at text) → Part text at (Ok o)
  unfolding start
  is-part at e = subst (λ q. There q (drop q text) (shown (Ok o))) e (subst (There p (drop p text)) (sym told) (there p (drop p text)))

  -- where the cursor stands then
  pub stands : (at : ℕ) → p ≡ at + gap false (drop at text) → behind p (shown (Ok o)) ≡ next_place text at
  unfolding start scan
  stands at e = ap (behind p) told ∙ ap (λ q. behind q (first q (drop q text))) e

  -- a token ends within the text, farther on
  pub ahead : (t : Token) → o ≡ Some t
      → (p + width_of t ≡ behind p (shown (Ok o))) × (p + width_of t ≤ length text) × (p < p + width_of t)
  ahead t e =
      let (ends, fits, some) = ended p (drop p text) t (ap (λ x. shown (Ok x)) (sym e) ∙ told) in
      (ends ∙ ap (behind p) (sym told), omega (arith, length-drop p text), omega arith)
