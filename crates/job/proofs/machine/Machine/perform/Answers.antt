use Rattle.std.proofs.Common.{◌-◌, ap, ◌∙◌}
use Rattle.language.specs.Machine.{handing}
use Rattle.job.specs.Maps.{frames_of}
use Rattle.job.specs.Machines.{store_of, state_of}
use Rattle.job.proofs.Moved.{stopped-as, as-asked}
use Rattle.job.proofs.machine.Machine.perform.Goals as goal

pub returns-in_ok-tried-in-Hands-clause-is : goal.returns-in_ok-tried-in-Hands-clause-is
returns-in_ok-tried-in-Hands-clause-is g c =
    let m = c.args.self.now in
    let p = g.P.Pantry.meaning c.args.pantry.now in
    as-asked p m c.in-Hands.is
    (c.hand.ensures.is p ∙
    ap (handing (store_of m) (state_of m) (frames_of (m.registers.frames - 1) c.in-Hands.frames)) c.in_ok-tried-in-Hands.ensures)

pub returns-in_ok-bind-in-Binds-clause-is : goal.returns-in_ok-bind-in-Binds-clause-is
returns-in_ok-bind-in-Binds-clause-is g c =
    let p = g.P.Pantry.meaning c.args.pantry.now in
    as-asked p c.args.self.now c.in-Binds.is (c.in_ok-bind-in-Binds.ensures.is p)

pub returns-in_err-bind-in-Binds-clause-is : goal.returns-in_err-bind-in-Binds-clause-is
returns-in_err-bind-in-Binds-clause-is g c =
    let p = g.P.Pantry.meaning c.args.pantry.now in
    let e = c.in_err-bind-in-Binds in
    as-asked p c.args.self.now c.in-Binds.is
    (stopped-as c.bind.new.self _ e.field-0.0 c.from_residual-in_err-bind-in-Binds.ensures.1 ∙ e.ensures.is p)

pub returns-in_ok-put_down-in-PutsDown-clause-is : goal.returns-in_ok-put_down-in-PutsDown-clause-is
returns-in_ok-put_down-in-PutsDown-clause-is g c =
    let p = g.P.Pantry.meaning c.args.pantry.now in
    as-asked p c.args.self.now c.in-PutsDown.is (c.in_ok-put_down-in-PutsDown.ensures.is p)

pub returns-in_err-put_down-in-PutsDown-clause-is : goal.returns-in_err-put_down-in-PutsDown-clause-is
returns-in_err-put_down-in-PutsDown-clause-is g c =
    let p = g.P.Pantry.meaning c.args.pantry.now in
    let e = c.in_err-put_down-in-PutsDown in
    as-asked p c.args.self.now c.in-PutsDown.is
    (stopped-as c.put_down.new.self _ e.field-0.0 c.from_residual-in_err-put_down-in-PutsDown.ensures.1 ∙ e.ensures.is p)

pub returns-in_ok-define-in-Defines-clause-is : goal.returns-in_ok-define-in-Defines-clause-is
returns-in_ok-define-in-Defines-clause-is g c =
    let p = g.P.Pantry.meaning c.args.pantry.now in
    as-asked p c.args.self.now c.in-Defines.is (c.in_ok-define-in-Defines.ensures.is p)

pub returns-in_err-define-in-Defines-clause-is : goal.returns-in_err-define-in-Defines-clause-is
returns-in_err-define-in-Defines-clause-is g c =
    let p = g.P.Pantry.meaning c.args.pantry.now in
    let e = c.in_err-define-in-Defines in
    as-asked p c.args.self.now c.in-Defines.is
    (stopped-as c.define.new.self _ e.field-0.0 c.from_residual-in_err-define-in-Defines.ensures.1 ∙ e.ensures.is p)

pub returns-in-Branches-clause-is : goal.returns-in-Branches-clause-is
returns-in-Branches-clause-is g c =
    let p = g.P.Pantry.meaning c.args.pantry.now in
    as-asked p c.args.self.now c.in-Branches.is (c.branch-self.ensures.is p)

pub returns-in-Replaces-clause-is : goal.returns-in-Replaces-clause-is
returns-in-Replaces-clause-is g c =
    let p = g.P.Pantry.meaning c.args.pantry.now in
    as-asked p c.args.self.now c.in-Replaces.is (c.replace.ensures.is p)
