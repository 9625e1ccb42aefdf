use Rattle.std.proofs.Common.{Some, None, ap, ◌∙◌, rules}
use borrow.Author.Tests.{tests}
use Rattle.std.proofs.lemmas.Iterator.{YieldsList-from_slice}
use Rattle.std.proofs.lemmas.Iterator.Search.{find_from_yields_List}
use Rattle.words.specs.Names.{same_name}
use Rattle.language.specs.Bindings.{spelled_in}
use Rattle.job.specs.declared.course.ModuleScope.{ModuleScope}
use Rattle.job.specs.Lookups.{maybe, same}
use Rattle.job.proofs.Found.{scope-found}
use Rattle.job.proofs.lookups.module_scope.Goals as goal

pub returns-in_err-module : goal.returns-in_err-module
returns-in_err-module c =
    let found = find_from_yields_List (λ (m : ModuleScope). same_name (spelled_in c.args.text.now m.name) c.args.name.now) _ _ c.find.result
    c.find.ensures.ran (YieldsList-from_slice c.args.scopes.now (cc)) (λ x b q k. search (rules, tests)) in
    ap (maybe same) c.from_residual.ensures ∙
    scope-found c.args.text.now c.args.scopes.now c.args.name.now c.find.result None c.in_err-module.was found

pub returns : goal.returns
returns c =
    let found = find_from_yields_List (λ (m : ModuleScope). same_name (spelled_in c.args.text.now m.name) c.args.name.now) _ _ c.find.result
    c.find.ensures.ran (YieldsList-from_slice c.args.scopes.now (cc)) (λ x b q k. search (rules, tests)) in
    scope-found c.args.text.now c.args.scopes.now c.args.name.now c.find.result (Some c.in_ok-module.module) c.in_ok-module.was found
