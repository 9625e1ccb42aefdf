use Rattle.std.proofs.Common.{arith, rules}
use Rattle.std.proofs.lemmas.Result.{err_from_is_err_and}
use Rattle.grammar.specs.Productions.{a_declaration}
use Rattle.grammar.specs.Starts.{declaration_start}
use Rattle.grammar.specs.Laying.{from_m}
use Rattle.grammar.specs.Readers.{state_of}
use Rattle.grammar.proofs.Gives.{started-err}
use Rattle.grammar.proofs.Froms.{declaration-none, declaration-from}
use Rattle.grammar.proofs.items.DeclarationStartListed.read.Goals as goal

pub returns-in_err-begun : goal.returns-in_err-begun
returns-in_err-begun c =
    let v = state_of c.args.reader.now in
    let n = c.args.first in
    let r = err_from_is_err_and c.from_residual.result c.from_residual.ensures.1 in
    record {
      kept = search rules;
      gives = rw (r.1, r.2) (started-err (declaration_start n) _ 49 _ (from_m a_declaration n 49 v) c.args.reader.now c.in_err-begun.ensures
          (declaration-none v n 49) (λ b e z. absurd (omega arith)));
    }

pub returns-in-Opaque : goal.returns-in-Opaque
returns-in-Opaque c =
    let d = c.opaque_type.ensures in
    record {
      kept = d.kept;
      gives = declaration-from (state_of c.args.reader.now) c.args.first c.in_ok-begun.field-0 _ _ _ c.in_ok-begun.ensures
          c.requires c.place-at.ensures (rw c.in-Opaque.is d.gives);
    }

pub returns-in-Transparent : goal.returns-in-Transparent
returns-in-Transparent c =
    let d = c.transparent_type.ensures in
    record {
      kept = d.kept;
      gives = declaration-from (state_of c.args.reader.now) c.args.first c.in_ok-begun.field-0 _ _ _ c.in_ok-begun.ensures
          c.requires c.place-at.ensures (rw c.in-Transparent.is d.gives);
    }

pub returns-in-Value : goal.returns-in-Value
returns-in-Value c =
    let d = c.declared.ensures in
    record {
      kept = d.kept;
      gives = declaration-from (state_of c.args.reader.now) c.args.first c.in_ok-begun.field-0 _ _ _ c.in_ok-begun.ensures
          c.requires c.place-at.ensures (rw c.in-Value.is d.gives);
    }
