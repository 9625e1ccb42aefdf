use Rattle.std.proofs.Common.{◌≡◌, ℕ, ◌-◌, ◌<◌, List, Result, arith}
use Rattle.typing.specs.declared.types.TypeEntry.{TypeEntry}
use Rattle.typing.specs.Told.{entry_told, type_of_entry, type_within}
use Rattle.typing.proofs.TableTold.{type-none, type-read}
use Rattle.line.specs.declared.faults.TooShort.{TooShort}
use Rattle.line.specs.Sinks.{Put}
use Rattle.line.specs.Types.{type_bytes}
use Rattle.line.proofs.Joins.{then, stopped}
use Rattle.line.proofs.types.ClosingType.+part.Goals as goal

-- a type is told as its entry is
read : {S : Type 0} {room : S → ℕ} {took : List ℕ → S → S → Type 0} {r : Result Unit TooShort} {s t : S} (text : List ℕ) (types : List TypeEntry) (n levels : ℕ)
    {e : TypeEntry} → 0 < levels → e ≡ entry_told types n →
    Put room took (type_bytes (type_of_entry text (type_within (levels - 1) text types) e)) r s t →
    Put room took (type_bytes (type_within levels text types n)) r s t
read text types n levels h e p = rw (type-read text types n levels _ h e) p

pub returns-then-levels-eq0 : goal.returns-then-levels-eq0
unfolding type_within
returns-then-levels-eq0 g t c =
    rw (type-none c.args.self.now.text.now c.args.self.now.types.now c.args.number c.args.levels c.if-levels-eq0.true) c.hidden.ensures

pub returns-in-Blank : goal.returns-in-Blank
returns-in-Blank g t c =
    read c.args.self.now.text.now c.args.self.now.types.now c.args.number c.args.levels (omega arith) c.in-Blank.ensures c.hidden-in-Blank.ensures

pub returns-in-Int : goal.returns-in-Int
returns-in-Int g t c =
    read c.args.self.now.text.now c.args.self.now.types.now c.args.number c.args.levels (omega arith) c.in-Int.ensures c.put.ensures

pub returns-in-Bool : goal.returns-in-Bool
returns-in-Bool g t c =
    read c.args.self.now.text.now c.args.self.now.types.now c.args.number c.args.levels (omega arith) c.in-Bool.ensures c.put-in-Bool.ensures

pub returns-in-Hidden : goal.returns-in-Hidden
returns-in-Hidden g t c =
    read c.args.self.now.text.now c.args.self.now.types.now c.args.number c.args.levels (omega arith) c.in-Hidden.ensures (rw (c.spelled.ensures, c.spelled-in-Hidden.ensures) at c.hidden-in-Hidden.ensures)

pub returns-in_err-put-in-Arrow : goal.returns-in_err-put-in-Arrow
returns-in_err-put-in-Arrow g t c =
    read c.args.self.now.text.now c.args.self.now.types.now c.args.number c.args.levels (omega arith) c.in-Arrow.ensures (stopped _ _ _ c.in_err-put-in-Arrow.ensures c.from_residual.ensures.0)

pub returns-in_err-part-in-Arrow : goal.returns-in_err-part-in-Arrow
returns-in_err-part-in-Arrow g t c =
    let j = g.met.S.Sink.joins in
    read c.args.self.now.text.now c.args.self.now.types.now c.args.number c.args.levels (omega arith) c.in-Arrow.ensures (then c.in_ok-put-in-Arrow.ensures (stopped _ _ _ c.in_err-part-in-Arrow.ensures c.from_residual-in_err-part-in-Arrow.ensures.0) j)

pub returns-in_err-put-in-Arrow-2 : goal.returns-in_err-put-in-Arrow-2
returns-in_err-put-in-Arrow-2 g t c =
    let j = g.met.S.Sink.joins in
    read c.args.self.now.text.now c.args.self.now.types.now c.args.number c.args.levels (omega arith) c.in-Arrow.ensures (then c.in_ok-put-in-Arrow.ensures (then c.in_ok-part-in-Arrow.ensures (stopped _ _ _ c.in_err-put-in-Arrow-2.ensures c.from_residual-in_err-put-in-Arrow-2.ensures.0) j) j)

pub returns-in_err-part-in-Arrow-2 : goal.returns-in_err-part-in-Arrow-2
returns-in_err-part-in-Arrow-2 g t c =
    let j = g.met.S.Sink.joins in
    read c.args.self.now.text.now c.args.self.now.types.now c.args.number c.args.levels (omega arith) c.in-Arrow.ensures (then c.in_ok-put-in-Arrow.ensures (then c.in_ok-part-in-Arrow.ensures (then c.in_ok-put-in-Arrow-2.ensures (stopped _ _ _ c.in_err-part-in-Arrow-2.ensures c.from_residual-in_err-part-in-Arrow-2.ensures.0) j) j) j)

pub returns-in_ok-part-in-Arrow-2 : goal.returns-in_ok-part-in-Arrow-2
returns-in_ok-part-in-Arrow-2 g t c =
    let j = g.met.S.Sink.joins in
    read c.args.self.now.text.now c.args.self.now.types.now c.args.number c.args.levels (omega arith) c.in-Arrow.ensures (then c.in_ok-put-in-Arrow.ensures (then c.in_ok-part-in-Arrow.ensures (then c.in_ok-put-in-Arrow-2.ensures (then c.in_ok-part-in-Arrow-2.ensures c.put-in-Arrow-3.ensures j) j) j) j)
