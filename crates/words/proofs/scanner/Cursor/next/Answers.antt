use Rattle.std.proofs.Common.{◌+◌, ◌<◌, false, Ok, sym, ap, ◌∙◌, subst, arith}
use Rattle.words.specs.declared.scanner.Cursor.{Cursor}
use Rattle.words.specs.Words.{gap, behind}
use Rattle.words.specs.Shown.{shown, Moves}
use Rattle.words.proofs.Answered.{is-small, is-part, stands, ahead}
use Rattle.words.proofs.scanner.Cursor.next.Goals as goal
use Rattle.words.proofs.scanner.Cursor.next.Goals.{in-Some, in_default}

pub invariant_of-self-in-Some : goal.invariant_of-self-in-Some
invariant_of-self-in-Some c =
    let m = ahead c.args.self.now.text.now (c.args.self.now.at + c.gap_len.result) c.in_ok-token.token c.in_ok-token.ensures c.in-Some.t c.in-Some.is in
    record { within = omega (arith, m.1, c.width.ensures) }

pub returns-clause-small : goal.returns-clause-small
returns-clause-small c = is-small c.args.self.now.text.now (c.args.self.now.at + c.gap_len.result) c.in_ok-token.token c.in_ok-token.ensures

pub returns-clause-part : goal.returns-clause-part
returns-clause-part c =
    is-part c.args.self.now.text.now (c.args.self.now.at + c.gap_len.result) c.in_ok-token.token c.in_ok-token.ensures
    c.args.self.now.at (ap (λ n. c.args.self.now.at + n) (c.gap_len.ensures.value ∙ ap (gap false) c.rest.ensures))

pub returns-clause-moves : goal.returns-clause-moves
returns-clause-moves c =
    elim c.match-token.branch [
      | in-Some w ↦
          let m = ahead c.args.self.now.text.now (c.args.self.now.at + c.gap_len.result) c.in_ok-token.token c.in_ok-token.ensures w.in-Some.t w.in-Some.is in
          let on : c.args.self.now.at < c.match-token.self.at =
          omega (arith, m.2, w.width.ensures, ap (λ (x : Cursor). x.at) w.self-is) in
          subst (λ x. Moves c.args.self.now.at c.match-token.self.at (Ok x)) (sym w.in-Some.is) on
      | in_default w ↦ subst (λ x. Moves c.args.self.now.at c.match-token.self.at (Ok x)) (sym w.in_default.is) tt
    ]

pub returns-clause-stands : goal.returns-clause-stands
returns-clause-stands c =
    let p = c.args.self.now.at + c.gap_len.result in
    let o = c.in_ok-token.token in
    elim c.match-token.branch [
      | in-Some w ↦
          let m = ahead c.args.self.now.text.now p o c.in_ok-token.ensures w.in-Some.t w.in-Some.is in
          ap (λ (x : Cursor). x.at) w.self-is ∙ ap (λ n. p + n) w.width.ensures ∙ m.0
      | in_default w ↦ ap (λ (x : Cursor). x.at) w.self-is ∙ ap (λ x. behind p (shown (Ok x))) (sym w.in_default.is)
    ]
    ∙ stands c.args.self.now.text.now p o c.in_ok-token.ensures
    c.args.self.now.at (ap (λ n. c.args.self.now.at + n) (c.gap_len.ensures.value ∙ ap (gap false) c.rest.ensures))
