use Rattle.std.proofs.Common.{◌≡◌, suc, ◌-◌, map, sym, ap, ◌∙◌, arith}
use Rattle.language.specs.Machine.{frame_at}
use Rattle.language.specs.Step.{on_frame, on_return, on_control}
use Rattle.job.specs.Maps.{control_of, value_of, frame_of}
use Rattle.job.specs.Machines.{program_of, store_of, state_of}
use Rattle.job.proofs.machine.Machine.rule_for.Goals as goal

pub returns-in-Some : goal.returns-in-Some
returns-in-Some g c =
    let m = c.args.self.now in
    let w = program_of (g.P.Pantry.meaning c.args.pantry.now) m in
    let d = m.registers.frames - 1 in
    let e : suc d ≡ m.registers.frames = let one = c.in-Some.ensures.0 in omega arith in
    c.on_frame.ensures ∙
    (ap (on_frame w d (value_of c.in-Return.value)) (c.frame_at.ensures ∙ ap (frame_at (map frame_of m.frames.now)) c.in-Some.ensures.1) ∙
    (ap (on_return w (store_of m) (state_of m) (value_of c.in-Return.value)) e ∙
    ap (λ k. on_control w (store_of m) (state_of m) (control_of k)) (sym c.in-Return.is)))
