-- What a sink takes of a line.
use Rattle.std.specs.Prelude.{◌≡◌, ℕ, ◌+◌, ◌<◌, List, ◌++◌, length, take, drop, OnOk, OnErr, Result}
use Rattle.line.specs.declared.buffer.Front.{Front}
use Rattle.line.specs.declared.sinks.Measure.{Measure}
use Rattle.line.specs.declared.faults.TooShort.{TooShort}

-- The sink s took the bytes bs and became t, with so much less room. Or there was no room for them.
pub record Put {S : Type 0} (room : S → ℕ) (took : List ℕ → S → S → Type 0) (bs : List ℕ) (r : Result Unit TooShort) (s t : S) : Type 0 where
  pub taken : OnOk r (took bs s t)
  pub left : OnOk r (room s ≡ length bs + room t)
  pub full : OnErr r (room s < length bs)

-- bytes that are only counted leave nothing
abbrev pub Counted : List ℕ → Measure → Measure → Type 0
Counted bs s t = Unit {0}

-- a buffer was filled from its place on
pub record Filled (bs : List ℕ) (s t : Front) : Type 0 where
  pub same : t.buffer.ghost_name ≡ s.buffer.ghost_name
  pub at : t.at ≡ s.at + length bs
  pub bytes : t.buffer.now ≡ take s.at s.buffer.now ++ (bs ++ drop (s.at + length bs) s.buffer.now)
