-- The check of a whole sheet, with the one refusal that the order of checks selects.
use Rattle.std.specs.Prelude.{ℕ, true, false, not, ◌&&◌, List, [], ◌∷◌, ◌++◌}
use Rattle.language.specs.Check.{is_none}
use Rattle.words.specs.Names.{same_name}
use Rattle.language.specs.Names.{pantry_name, bind, lookup}
use Rattle.language.specs.Pantry.{Stock}
use Rattle.language.specs.Typing.{ExpandedType, int, bool, kind_type, stock_types, Interface}
use Rattle.language.specs.Modules.{Made}
use Rattle.grammar.specs.Syntax as placed
use Rattle.grammar.specs.Syntax.{Declaration, Definition, Module, Sheet}
use Rattle.rules.specs.declared.faults.CheckFault.TheVariants.{Repeated}
use Rattle.rules.specs.Forms.{Out, want, give, ◌>>=◌, ◌>>◌, Keeping}
use Rattle.rules.specs.ItemForms.{ItemKeeping, opaque_f, type_is_f, value_is_f, match_opaque_f, match_f}
use Rattle.rules.specs.Rules.{Scope, types_of, values_of, entering, rules, item_rules, Check, expanding, typing}

-- only the interfaces of the earlier modules and the pantry are seen
abbrev pub outside : Scope → Scope
outside g = record { used = g.used; modules = g.modules; stock = g.stock; names = [] }

-- what was made, latest first, in front of what was made before: in the order of the text
abbrev pub onto : List Made → List Made → List Made
onto [] ms = ms
onto (m ∷ later) ms = onto later (m ∷ ms)

-- what the names of an interface declare, read outward
abbrev pub interface_of : List Made → Interface
interface_of names = record { types = types_of names; values = values_of names }

-- after a module whose interface left the scope `declared`: its declarations stay in the table, its interface is seen
abbrev pub with_module : List ℕ → Scope → Scope
with_module m declared = record {
  used = declared.used;
  modules = declared.modules ++ (bind m (interface_of declared.names) ∷ []);
  stock = declared.stock;
  names = [];
}

-- the types of the pantry's entries, in their order
abbrev pub kind_types : Stock → List ExpandedType
kind_types [] = []
kind_types (bind x k ∷ kinds) = kind_type k ∷ kind_types kinds

-- before the first module
abbrev pub at_start : Stock → Scope
at_start kinds = record { used = 0; modules = []; stock = stock_types kinds; names = [] }

module _ (type_places scope_places : ℕ) where
  -- how the rules keep types and names, in tables of so many places
  abbrev K : Keeping
  K = rules type_places scope_places

  -- how they keep items
  abbrev I : ItemKeeping K
  I = item_rules type_places scope_places

  -- a declaration of the module m
  abbrev pub declare : placed.Name → Declaration → Scope → Check Scope
  declare m (placed.opaque_type at t) = opaque_f K I at m t
  declare m (placed.transparent_type at t u) = type_is_f K I at t (expanding type_places scope_places u)
  declare m (placed.value_of_type x u) = value_is_f K I x.place x (expanding type_places scope_places u)

  -- the declarations in their order
  abbrev pub declare_all : placed.Name → List Declaration → Scope → Check Scope
  declare_all m [] g = give g
  declare_all m (d ∷ ds) g = declare m d g >>= declare_all m ds

  -- a definition
  abbrev pub define : Definition → Scope → Check Scope
  define (placed.type_is at t u) = type_is_f K I at t (expanding type_places scope_places u)
  define (placed.value_is x p) = value_is_f K I x.place x (typing type_places scope_places p)

  -- the definitions in their order
  abbrev pub define_all : List Definition → Scope → Check Scope
  define_all [] g = give g
  define_all (d ∷ ds) g = define d g >>= define_all ds

  -- a declaration against the definitions that are left; its types are read inward, in the scope of the whole body
  abbrev pub match : Scope → Declaration → List Made → Check (List Made)
  match body (placed.opaque_type at t) = match_opaque_f K I t body
  match body (placed.transparent_type at t u) = match_f K I true t (expanding type_places scope_places u) body
  match body (placed.value_of_type x u) = match_f K I false x (expanding type_places scope_places u) body

  -- each declaration, behind what was matched before
  abbrev pub match_all : Scope → List Declaration → List Made → Check (List Made)
  match_all body [] left = give left
  match_all body (d ∷ ds) left = match body d left >>= match_all body ds

  -- the definitions, then the matching; the names of the body leave then
  abbrev pub check_body : List Declaration → List Definition → Scope → Check Unit
  check_body ds defs declared = do
    body ← define_all defs (outside declared)
    match_all body ds (onto body.names [])
    give tt

  -- a module: its name, its interface, its body
  abbrev pub check_module : Module → Scope → Check Scope
  check_module m g = do
    want (is_none (lookup g.modules m.name.bytes) && not (same_name pantry_name m.name.bytes)) (Repeated m.name.place)
    declared ← declare_all m.name m.interface (outside g)
    check_body m.interface m.body declared
    give (with_module m.name.bytes declared)

  -- the modules in the order of the text
  abbrev pub check_modules : List Module → Scope → Check Scope
  check_modules [] g = give g
  check_modules (m ∷ ms) g = check_module m g >>= check_modules ms

  -- the types that come into the table before anything of the sheet
  abbrev pub enter_all : List ExpandedType → Check Unit
  enter_all [] = give tt
  enter_all (a ∷ rest) = do
    entering type_places 0 a
    enter_all rest

  -- the whole check, from an empty type table
  abbrev pub check_sheet : Stock → Sheet → Check ExpandedType
  check_sheet kinds sheet = do
    enter_all (int ∷ bool ∷ kind_types kinds)
    g ← check_modules sheet.modules (at_start kinds)
    typing type_places scope_places sheet.closing g

-- The check of a sheet with a pantry of these names and kinds and tables of so many places: the type and the types that stand in the table
-- then, or the one refusal.
abbrev pub checking : Stock → (type_places scope_places : ℕ) → Sheet → Out (List ExpandedType) ExpandedType
checking kinds type_places scope_places sheet = check_sheet type_places scope_places kinds sheet []
