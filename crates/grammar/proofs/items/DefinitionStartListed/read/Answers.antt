use Rattle.std.proofs.Common.{arith, rules}
use Rattle.std.proofs.lemmas.Result.{err_from_is_err_and}
use Rattle.grammar.specs.Productions.{a_definition}
use Rattle.grammar.specs.Starts.{definition_start}
use Rattle.grammar.specs.Laying.{from_m}
use Rattle.grammar.specs.Readers.{state_of}
use Rattle.grammar.proofs.Gives.{started-err}
use Rattle.grammar.proofs.Froms.{definition-none, definition-from}
use Rattle.grammar.proofs.items.DefinitionStartListed.read.Goals as goal

pub returns-in_err-begun : goal.returns-in_err-begun
returns-in_err-begun c =
    let v = state_of c.args.reader.now in
    let n = c.args.first in
    let r = err_from_is_err_and c.from_residual.result c.from_residual.ensures.1 in
    record {
      kept = search rules;
      gives = rw (r.1, r.2) (started-err (definition_start n) _ 49 _ (from_m a_definition n 49 v) c.args.reader.now c.in_err-begun.ensures
          (definition-none v n 49) (λ b e z. absurd (omega arith)));
    }

pub returns-in-Named : goal.returns-in-Named
returns-in-Named c =
    let d = c.type_is.ensures in
    record {
      kept = d.kept;
      gives = definition-from (state_of c.args.reader.now) c.args.first c.in_ok-begun.field-0 _ _ _ c.in_ok-begun.ensures
          c.requires c.place-at.ensures (rw c.in-Named.is d.gives);
    }

pub returns-in-Value : goal.returns-in-Value
returns-in-Value c =
    let d = c.value_is.ensures in
    record {
      kept = d.kept;
      gives = definition-from (state_of c.args.reader.now) c.args.first c.in_ok-begun.field-0 _ _ _ c.in_ok-begun.ensures
          c.requires c.place-at.ensures (rw c.in-Value.is d.gives);
    }
