-- What an operation or a fetch gives is of its type, or it fails for a reason other than that no rule fits.
use Rattle.std.proofs.Common.{◌≡◌, Bool, true, false, cond, List, ℤ, ◌+ℤ◌, ◌-ℤ◌, ◌*ℤ◌, refl}
use mathlib.Core.Option.{Option, none, some}
use lib.ListN.{get_elem?}
use Rattle.language.specs.Syntax.{Operator, plus, minus, times, over, less}
use Rattle.language.specs.Typing.{ExpandedType, int, bool, ◌⇒◌, result_of, kind_type, Interfaces}
use Rattle.language.specs.Pantry.{
  Kind,
  figure_kind,
  flag_kind,
  figure_by_item,
  flag_by_item,
  EntryNumber,
  Reply,
  figure_reply,
  flag_reply,
  Entry,
  Pantry,
  ReplyFits,
  in_range,
  fetch,
}
use Rattle.language.specs.Machine.{
  integer,
  Cell,
  too_large,
  divide_by_zero,
  Tried,
  gives,
  fails,
  quotient,
  is_zeroℤ,
  sized,
  compute,
  replied,
}
use Rattle.language.specs.Job.{Suits}
use Rattle.language.specs.Fits.{Setting}
use Rattle.language.proofs.Held.{Held, v-integer, v-boolean}
use Rattle.language.proofs.Invariant.{Allowed}

-- the type of a reply by that kind
abbrev pub reply_type : Kind → ExpandedType
reply_type figure_kind = int
reply_type flag_kind = bool
reply_type figure_by_item = int
reply_type flag_by_item = bool

-- a pantry procedure takes a figure, and replies by its kind
pub by-item : (k : Kind) (a b : ExpandedType) → kind_type k ≡ (a ⇒ b) → (a ≡ int) × (reply_type k ≡ b)
by-item figure_kind a b h = (cc, cc)
by-item flag_kind a b h = (cc, cc)
by-item figure_by_item a b h = (cc, cc)
by-item flag_by_item a b h = (cc, cc)

module _ (w : Setting) where
  -- what an operation or a fetch gives is of the type, or it fails for a reason that is allowed
  abbrev pub Fine : Interfaces → List Cell → ExpandedType → Tried → Type 0
  Fine n cs a (gives v) = Held w n cs v a
  Fine n cs a (fails k) = Allowed k

  pub reply-fine : (n : Interfaces) (cs : List Cell) (i : EntryNumber) (z : ℤ) (k : Kind) (m : Option Reply) →
      ((y : Reply) → m ≡ some y → ReplyFits k y) → Fine n cs (reply_type k) (replied i z m)
  reply-fine n cs i z k none h = tt
  reply-fine n cs i z figure_kind (some (figure_reply y)) h = v-integer
  reply-fine n cs i z figure_kind (some (flag_reply y)) h = absurd (h (flag_reply y) refl)
  reply-fine n cs i z flag_kind (some (figure_reply y)) h = absurd (h (figure_reply y) refl)
  reply-fine n cs i z flag_kind (some (flag_reply y)) h = v-boolean
  reply-fine n cs i z figure_by_item (some (figure_reply y)) h = v-integer
  reply-fine n cs i z figure_by_item (some (flag_reply y)) h = absurd (h (flag_reply y) refl)
  reply-fine n cs i z flag_by_item (some (figure_reply y)) h = absurd (h (figure_reply y) refl)
  reply-fine n cs i z flag_by_item (some (flag_reply y)) h = v-boolean

  sized-fine : (n : Interfaces) (cs : List Cell) (z : ℤ) → Fine n cs int (sized z)
  sized-fine n cs z = go (in_range z)
    where
      go : (b : Bool) → Fine n cs int (cond b (gives (integer z)) (fails too_large))
      go true = v-integer
      go false = tt

  pub compute-fine : (n : Interfaces) (cs : List Cell) (o : Operator) (y z : ℤ) → Fine n cs (result_of o) (compute o y z)
  compute-fine n cs plus y z = sized-fine n cs (y +ℤ z)
  compute-fine n cs minus y z = sized-fine n cs (y -ℤ z)
  compute-fine n cs times y z = sized-fine n cs (y *ℤ z)
  compute-fine n cs over y z = go (is_zeroℤ z)
    where
      go : (b : Bool) → Fine n cs int (cond b (fails divide_by_zero) (sized (quotient y z)))
      go true = tt
      go false = sized-fine n cs (quotient y z)
  compute-fine n cs less y z = v-boolean

module _ (w : Setting) (p : Pantry) (suits : Suits w.stock p) where
  pub fetch-fine : (n : Interfaces) (cs : List Cell) (i : EntryNumber) (z : ℤ) (e : Entry) → get_elem? p i ≡ some e →
      Fine w n cs (reply_type e.kind) (replied i z (fetch p i z))
  fetch-fine n cs i z e at = reply-fine w n cs i z e.kind (fetch p i z) (λ y h. suits.by_kind i e z y at h)
