use Rattle.std.proofs.Common.{◌≡◌, ℕ, suc, ◌+◌, ◌-◌, ◌<◌, true, false, List, length, Option, sym, refl, ap, ◌∙◌, arith}
use Rattle.words.specs.Names.{Name, same_name}
use Rattle.language.specs.declared.bindings.Binding.{Binding}
use Rattle.language.specs.Bindings.{bindings_in, option_of}
use Rattle.language.specs.Scopes.{Scope, nearest_in}
use Rattle.language.proofs.Searches.{answer, at_count, at-empty, at-past, at_none, at-binding}
use Rattle.language.specs.declared.bindings.TheConstants.{LINKS}
use Rattle.language.proofs.bindings.nearest.Goals as goal

-- as many links are followed as the definition of a search follows
most-links : 65535 ≡ LINKS
most-links = refl

-- what the loop answers is what the search does
whole : {T V : Type 0} (held : ℕ → T → Option (Binding V)) (text : List ℕ) (ts : List T) (s : Scope) (x : Name) (r : Option V)
    → answer held text ts LINKS s x ≡ r → r ≡ option_of (nearest_in (bindings_in held text ts) s x)
unfolding nearest_in
whole held text ts s x r e = sym (ap (λ (k : ℕ). answer held text ts k s x) most-links ∙ e)

pub returns-in_err-place : goal.returns-in_err-place
returns-in_err-place g c =
    let z : c.loop.link ≡ 0 = omega (arith, c.in_err-place.ensures) in
    c.from_residual.ensures ∙ whole g.T.Holds.held c.args.text.now c.args.table.now c.args.start c.args.name.now _
    (c.loop.invariant ∙ at-empty g.T.Holds.held c.args.text.now c.args.table.now _ _ _ z)

pub returns-in_err-get : goal.returns-in_err-get
returns-in_err-get g c =
    let l : c.loop.link ≡ suc c.in_ok-place.place = omega (arith, c.in_ok-place.ensures) in
    let z : length c.args.table.now < c.loop.link = omega (arith, c.in_err-get.ensures.lookup.3) in
    c.from_residual-in_err-get.ensures ∙ whole g.T.Holds.held c.args.text.now c.args.table.now c.args.start c.args.name.now _
    (c.loop.invariant ∙ at-past g.T.Holds.held c.args.text.now c.args.table.now _ _ _ z)

pub returns-in_err-b : goal.returns-in_err-b
returns-in_err-b g c =
    let l : c.loop.link ≡ suc c.in_ok-place.place = omega (arith, c.in_ok-place.ensures) in
    let there = c.in_ok-get.ensures.lookup in
    c.from_residual-in_err-b.ensures ∙ whole g.T.Holds.held c.args.text.now c.args.table.now c.args.start c.args.name.now _
    (c.loop.invariant ∙ at_none g.T.Holds.held c.args.text.now c.args.table.now _ _ l _ there.3.0 there.1 _ _
    (sym c.in_err-b.was ∙ c.binding.ensures))

pub returns-then-same_name : goal.returns-then-same_name
returns-then-same_name g c =
    let l : c.loop.link ≡ suc c.in_ok-place.place = omega (arith, c.in_ok-place.ensures) in
    let n : LINKS - c.loop.counter ≡ suc (LINKS - (c.loop.counter + 1)) = omega arith in
    let there = c.in_ok-get.ensures.lookup in
    let d = c.if-same_name.ensures ∙ ap (λ (y : _). same_name y c.args.name.now) c.spelled.ensures in
    whole g.T.Holds.held c.args.text.now c.args.table.now c.args.start c.args.name.now _
    (c.loop.invariant ∙ at-binding g.T.Holds.held c.args.text.now c.args.table.now _ _ l _ there.3.0 there.1 _ _ _ _ true n
    (sym c.in_ok-b.was ∙ c.binding.ensures) d)

pub loop-preserved : goal.loop-preserved
loop-preserved g c =
    let l : c.loop.link ≡ suc c.in_ok-place.place = omega (arith, c.in_ok-place.ensures) in
    let n : LINKS - c.loop.counter ≡ suc (LINKS - (c.loop.counter + 1)) = omega arith in
    let there = c.in_ok-get.ensures.lookup in
    let d = c.if-same_name.ensures ∙ ap (λ (y : _). same_name y c.args.name.now) c.spelled.ensures in
    c.loop.invariant ∙ at-binding g.T.Holds.held c.args.text.now c.args.table.now _ _ l _ there.3.0 there.1 _ _ _ _ false n
    (sym c.in_ok-b.was ∙ c.binding.ensures) d

pub returns : goal.returns
returns g c =
    let z : LINKS - c.loop.counter ≡ 0 = omega arith in
    whole g.T.Holds.held c.args.text.now c.args.table.now c.args.start c.args.name.now _
    (c.loop.invariant ∙ at_count g.T.Holds.held c.args.text.now c.args.table.now _ _ _ z)
