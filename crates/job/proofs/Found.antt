-- The search in the cells, and among the modules whose bodies have ended.
use Rattle.std.proofs.Common.{◌≡◌, ℕ, zero, suc, Bool, true, false, cond, List, [], ◌∷◌, map, get_or, Some, None, Option as Maybe, sym, refl, ap, ◌∙◌}
use Rattle.std.specs.Option.{option_map}
use Rattle.std.specs.List.{find}
use denote.Bor.{Bor}
use mathlib.Core.Option
use mathlib.Core.Option.{Option, none, some}
use lib.ListN.{get_elem?}
use Rattle.words.specs.Names.{Name, same_name}
use Rattle.language.specs.Names.{lookup}
use Rattle.language.specs.Scopes.{Scope, nearest_in}
use Rattle.language.specs.Bindings.{spelled_in, binding_at, bindings_in, option_of}
use Rattle.language.specs.Machine as machine
use Rattle.language.proofs.Alike.{map_linked, nearest-map}
use Rattle.job.specs.declared.tables.Cell.{Cell}
use Rattle.job.specs.declared.tables.Cell.TheVariants as cell
use Rattle.job.specs.declared.tables.Value.{Value}
use Rattle.job.specs.declared.course.ModuleScope.{ModuleScope}
use Rattle.job.specs.Maps.{value_of, cell_of, scope_of}
use Rattle.job.specs.Lookups.{held_cell, maybe}

-- what a place of the table holds, in the machine's words
one-held : (text : List ℕ) (i : ℕ) (c : Cell) → machine.held (cell_of text c) i ≡ map_linked value_of (binding_at held_cell text i (some c))
one-held text i cell.Blank = refl
one-held text i (cell.Bound b) = refl
one-held text i (cell.Letrec b) = refl

place-held : (text : List ℕ) (i k : ℕ) (cs : List Cell) →
    machine.held (get_or (map (cell_of text) cs) k machine.blank_cell) i ≡ map_linked value_of (binding_at held_cell text i (get_elem? cs k))
place-held text i k [] = refl
place-held text i zero (c ∷ cs) = one-held text i c
place-held text i (suc k) (c ∷ cs) = place-held text i k cs

mapped-option : (o : Option Value) → maybe value_of (option_of o) ≡ Option.map value_of o
mapped-option none = refl
mapped-option (some v) = refl

-- the one search finds what the machine looks up
pub nearest-is : (text : List ℕ) (cs : List Cell) (s : Scope) (x : Name) →
    maybe value_of (option_of (nearest_in (bindings_in held_cell text cs) s x)) ≡ machine.nearest (map (cell_of text) cs) s x
nearest-is text cs s x =
    mapped-option (nearest_in (bindings_in held_cell text cs) s x) ∙
    sym (nearest-map value_of (bindings_in held_cell text cs) (machine.held_at (map (cell_of text) cs)) (λ i. place-held text i i cs) x s)

picked : {X Y : Type 0} → (f : X → Y) (b : Bool) (x : X) (o : Maybe X) → maybe f (cond b (Some x) o) ≡ cond b (some (f x)) (maybe f o)
picked f true x o = refl
picked f false x o = refl

found-first : (text : List ℕ) (ms : List ModuleScope) (x : Name) →
    maybe (λ (m : ModuleScope). m.scope) (find (λ m. same_name (spelled_in text m.name) x) ms) ≡ lookup (map (scope_of text) ms) x
found-first text [] x = refl
found-first text (m ∷ ms) x =
    let b = same_name (spelled_in text m.name) x in
    picked (λ (m : ModuleScope). m.scope) b m (find (λ m. same_name (spelled_in text m.name) x) ms) ∙
    ap (λ o. cond b (some m.scope) o) (found-first text ms x)

-- the module that the code finds is the one that is looked up
pub scope-found : (text : List ℕ) (ms : List ModuleScope) (x : Name) (o p : Maybe (Bor ModuleScope)) → o ≡ p →
    option_map (λ y. y.now) o ≡ find (λ m. same_name (spelled_in text m.name) x) ms →
    maybe (λ (y : Bor ModuleScope). y.now.scope) p ≡ lookup (map (scope_of text) ms) x
scope-found text ms x o p e h = inside p ∙ (ap (λ q. maybe (λ (m : ModuleScope). m.scope) (option_map (λ y. y.now) q)) (sym e) ∙
    (ap (maybe (λ (m : ModuleScope). m.scope)) h ∙ found-first text ms x))
  where
    inside : (q : Maybe (Bor ModuleScope)) → maybe (λ (y : Bor ModuleScope). y.now.scope) q ≡
        maybe (λ (m : ModuleScope). m.scope) (option_map (λ y. y.now) q)
    inside None = refl
    inside (Some y) = refl
