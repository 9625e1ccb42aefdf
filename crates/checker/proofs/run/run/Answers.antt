use Rattle.std.proofs.Common.{◌≤◌, is_some, ◌≡◌, ℕ, ◌-◌, min, List, length, take, Ok, Err, refl, sym, ap, ◌∙◌, subst, rules, arith}
use Rattle.std.proofs.lemmas.Result.{err_from_is_err_and}
use Rattle.language.specs.Typing.{ExpandedType}
use Rattle.typing.specs.declared.types.Given.{Given}
use Rattle.grammar.specs.Syntax.{count}
use Rattle.grammar.specs.Table.{modules_of}
use Rattle.checker.proofs.ReadTrees.{read-facts}
use Rattle.typing.specs.Tables.{State, HasExp, state_of}
use Rattle.checker.specs.Sheets.{places, Base, RulesScope, Start, Finish, ClosingTold}
use Rattle.checker.proofs.Wholes.{none-stands, answers-bad, one-bad, one, all-bad, all, closed-bad, closed, lent-back}
use Rattle.checker.proofs.run.run.Goals as goal

pub returns-in_err-start : goal.returns-in_err-start
returns-in_err-start c =
    let types = c.args.types.now in
    let slots = c.args.slots.now in
    let p = err_from_is_err_and c.from_residual.result c.from_residual.ensures.1 in
    let b = c.in_err-start.ensures.goes types (places types) (places slots) (none-stands c.args.sheet.text.now types slots) in
    λ e q.
    answers-bad c.args.sheet.text.now (places types) (places slots) types _ _ c.in_err-start.field-0.0 _ _ _
    (one-bad c.args.sheet.text.now c.args.sheet.tree.now types (places types) (places slots) c.args.entries.now e c.in_err-start.field-0.0 c.start.new.known
    (state_of c.start.new.tables) b) (p.1 ∙ ap Err p.2)

pub all_modules-requires : goal.all_modules-requires
all_modules-requires c =
    let f = read-facts c.args.sheet.text.now c.args.sheet.tree.now c.args.sheet.close c.args.sheet.read in
    let n : count (modules_of c.args.sheet.text.now c.args.sheet.tree.now c.args.sheet.tree.now) ≤ 32 = f.few in
    record { holds = f.holds; few = omega arith }

pub closing-requires : goal.closing-requires
closing-requires c =
    let f = read-facts c.args.sheet.text.now c.args.sheet.tree.now c.args.sheet.close c.args.sheet.read in
    subst (λ (w : Given). HasExp w 48 c.args.sheet.close) (sym c.in_ok-at.ensures.kept.given) (ap is_some f.closing-is)

pub returns-in_err-at : goal.returns-in_err-at
returns-in_err-at c =
    let text = c.args.sheet.text.now in
    let tree = c.args.sheet.tree.now in
    let types = c.args.types.now in
    let slots = c.args.slots.now in
    let ks = take (length c.args.entries.now - 0) c.start.new.known in
    let t₁ = state_of c.start.new.tables in
    let t₂ = state_of c.all_modules.new.tables in
    let p = err_from_is_err_and c.from_residual-in_err-at.result c.from_residual-in_err-at.ensures.1 in
    let b = c.in_ok-start.ensures.goes types (places types) (places slots) (none-stands text types slots) in
    let k = c.in_ok-start.ensures.kept in
    let zn : length c.args.entries.now - 0 ≡ length c.args.entries.now = omega arith in
    let steps = subst (λ (v : State). (b : Base) (h : RulesScope) (ts : List ExpandedType) → Start text b ks v ts h →
    Finish text tree b ks v ts h (Err c.in_err-at.field-0.0) c.all_modules.new.interfaces t₂) (search rules) c.in_err-at.ensures.goes in
    λ e q.
    let g = one text tree types (places types) (places slots) c.args.entries.now e c.start.new.known ks t₁ (ap (λ (n : ℕ). take n c.start.new.known) (sym zn)) b in
    answers-bad text (places types) (places slots) types _ _ c.in_err-at.field-0.0 _ _ _
    (all-bad text tree types (places types) (places slots) c.args.entries.now e ks t₁ g
    (ap (λ (n : ℕ). min n 65535) k.types_long) (ap (λ (n : ℕ). min n 65535) k.slots_long)
    (Err c.in_err-at.field-0.0) c.all_modules.new.interfaces t₂ steps c.in_err-at.field-0.0 refl) (p.1 ∙ ap Err p.2)

pub returns-in_err-ty : goal.returns-in_err-ty
returns-in_err-ty c =
    let p = err_from_is_err_and c.from_residual-in_err-ty.result c.from_residual-in_err-ty.ensures.1 in
    let text = c.args.sheet.text.now in
    let tree = c.args.sheet.tree.now in
    let types = c.args.types.now in
    let slots = c.args.slots.now in
    let ks = take (length c.args.entries.now - 0) c.start.new.known in
    let is = take (c.in_ok-at.at.modules - 0) c.all_modules.new.interfaces in
    let t₁ = state_of c.start.new.tables in
    let t₂ = state_of c.all_modules.new.tables in
    let t₃ = state_of c.closing.new.tables in
    let b = c.in_ok-start.ensures.goes types (places types) (places slots) (none-stands text types slots) in
    let k = c.in_ok-start.ensures.kept in
    let m = c.in_ok-at.ensures.kept in
    let zn : length c.args.entries.now - 0 ≡ length c.args.entries.now = omega arith in
    let zm : c.in_ok-at.at.modules - 0 ≡ c.in_ok-at.at.modules = omega arith in
    let lt : length c.all_modules.new.tables.types.now ≡ length types = omega (arith, m.types_long, k.types_long) in
    let ls : length c.all_modules.new.tables.slots.now ≡ length slots = omega (arith, m.slots_long, k.slots_long) in
    let steps = subst (λ (v : State). (b : Base) (h : RulesScope) (ts : List ExpandedType) → Start text b ks v ts h →
    Finish text tree b ks v ts h (Ok c.in_ok-at.at) c.all_modules.new.interfaces t₂) (search rules) c.in_ok-at.ensures.goes in
    let ends = subst (λ (w : Given). ClosingTold w t₂ t₃ is c.in_ok-at.at.used c.args.sheet.close (Err c.in_err-ty.field-0.0)) m.given c.in_err-ty.ensures.goes in
    λ e q.
    let g = one text tree types (places types) (places slots) c.args.entries.now e c.start.new.known ks t₁ (ap (λ (n : ℕ). take n c.start.new.known) (sym zn)) b in
    let a = all text tree types (places types) (places slots) c.args.entries.now e ks t₁ g
    (ap (λ (n : ℕ). min n 65535) k.types_long) (ap (λ (n : ℕ). min n 65535) k.slots_long) (Ok c.in_ok-at.at) c.all_modules.new.interfaces t₂ steps
    c.in_ok-at.at is refl (ap (λ (n : ℕ). take n c.all_modules.new.interfaces) (sym zm)) in
    answers-bad text (places types) (places slots) types _ _ c.in_err-ty.field-0.0 _ _ _
    (closed-bad text tree types (places types) (places slots) c.args.entries.now e ks c.in_ok-at.at c.args.sheet.close is t₂ a
    (ap (λ (n : ℕ). min n 65535) lt) (ap (λ (n : ℕ). min n 65535) ls) q (Err c.in_err-ty.field-0.0) t₃ ends c.in_err-ty.field-0.0 refl) (p.1 ∙ ap Err p.2)

pub returns : goal.returns
returns c =
    let text = c.args.sheet.text.now in
    let tree = c.args.sheet.tree.now in
    let types = c.args.types.now in
    let slots = c.args.slots.now in
    let ks = take (length c.args.entries.now - 0) c.start.new.known in
    let is = take (c.in_ok-at.at.modules - 0) c.all_modules.new.interfaces in
    let t₁ = state_of c.start.new.tables in
    let t₂ = state_of c.all_modules.new.tables in
    let t₃ = state_of c.closing.new.tables in
    let b = c.in_ok-start.ensures.goes types (places types) (places slots) (none-stands text types slots) in
    let k = c.in_ok-start.ensures.kept in
    let m = c.in_ok-at.ensures.kept in
    let zn : length c.args.entries.now - 0 ≡ length c.args.entries.now = omega arith in
    let zm : c.in_ok-at.at.modules - 0 ≡ c.in_ok-at.at.modules = omega arith in
    let lt : length c.all_modules.new.tables.types.now ≡ length types = omega (arith, m.types_long, k.types_long) in
    let ls : length c.all_modules.new.tables.slots.now ≡ length slots = omega (arith, m.slots_long, k.slots_long) in
    let steps = subst (λ (v : State). (b : Base) (h : RulesScope) (ts : List ExpandedType) → Start text b ks v ts h →
    Finish text tree b ks v ts h (Ok c.in_ok-at.at) c.all_modules.new.interfaces t₂) (search rules) c.in_ok-at.ensures.goes in
    let ends = subst (λ (w : Given). ClosingTold w t₂ t₃ is c.in_ok-at.at.used c.args.sheet.close (Ok c.in_ok-ty.ty)) m.given c.in_ok-ty.ensures.goes in
    λ e q.
    let g = one text tree types (places types) (places slots) c.args.entries.now e c.start.new.known ks t₁ (ap (λ (n : ℕ). take n c.start.new.known) (sym zn)) b in
    let a = all text tree types (places types) (places slots) c.args.entries.now e ks t₁ g
    (ap (λ (n : ℕ). min n 65535) k.types_long) (ap (λ (n : ℕ). min n 65535) k.slots_long) (Ok c.in_ok-at.at) c.all_modules.new.interfaces t₂ steps
    c.in_ok-at.at is refl (ap (λ (n : ℕ). take n c.all_modules.new.interfaces) (sym zm)) in
    let r = closed text tree types (places types) (places slots) c.args.entries.now e ks c.in_ok-at.at c.args.sheet.close is t₂ a
    (ap (λ (n : ℕ). min n 65535) lt) (ap (λ (n : ℕ). min n 65535) ls) q (Ok c.in_ok-ty.ty) t₃ ends c.in_ok-ty.ty refl in
    lent-back text (places types) (places slots) types _ _ _ t₃.types t₃.slots r (search rules) (search rules)
