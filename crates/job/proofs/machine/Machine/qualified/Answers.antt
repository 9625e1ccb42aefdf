use Rattle.std.proofs.Common.{◌-◌, map, sym, ap, ◌∙◌}
use Rattle.words.specs.Names.{same_name}
use Rattle.language.specs.Names.{pantry_name, lookup}
use Rattle.language.specs.Step.{handing_value, from_module}
use Rattle.job.specs.Maps.{decided, scope_of}
use Rattle.job.specs.Machines.{text_of, store_of}
use Rattle.job.proofs.Ways.{when-yes, when-no}
use Rattle.job.proofs.machine.Machine.qualified.Goals as goal

pub returns-then-same_name : goal.returns-then-same_name
unfolding pantry_name
returns-then-same_name g c =
    let m = c.args.self.now in
    when-yes (same_name pantry_name c.args.module.now) _ _ _ (sym c.if-same_name.ensures)
    (c.from_entry.ensures (text_of m) (m.registers.frames - 1))

pub returns-in_err-scope : goal.returns-in_err-scope
unfolding pantry_name
returns-in_err-scope g c =
    let m = c.args.self.now in
    let seen = ap (λ ms. lookup (map (scope_of (text_of m)) ms) c.args.module.now) c.deref.ensures.0 in
    when-no (same_name pantry_name c.args.module.now) _ _ _ (sym c.if-same_name.ensures)
    (ap (decided (text_of m) (m.registers.frames - 1)) c.from_residual.ensures ∙
    ap (λ o. handing_value (from_module (store_of m) o c.args.name.now)) (c.in_err-scope.ensures ∙ seen))

pub returns : goal.returns
unfolding pantry_name
returns g c =
    let m = c.args.self.now in
    let seen = ap (λ ms. lookup (map (scope_of (text_of m)) ms) c.args.module.now) c.deref.ensures.0 in
    when-no (same_name pantry_name c.args.module.now) _ _ _ (sym c.if-same_name.ensures)
    (c.looked_up.ensures (g.P.Pantry.meaning c.args.pantry.now) ∙
    ap (λ o. handing_value (from_module (store_of m) o c.args.name.now)) (c.in_ok-scope.ensures ∙ seen))
