-- The laws of the check: it passes a sheet exactly when the typing rules give it that type and no limit or table is exceeded.
use Rattle.std.specs.Prelude.{◌≡◌, ℕ, ◌<◌, ◌≤◌, true, ◌⊎◌, ◌↔◌, List, [], ◌∷◌, ◌++◌, map, length}
use Rattle.language.specs.Syntax as language
use Rattle.language.specs.Pantry.{Stock}
use Rattle.language.specs.Typing.{ExpandedType, int, bool, stock_types}
use Rattle.language.specs.Modules.{SheetTyped}
use Rattle.language.specs.Safety.{AcceptsThere}
use Rattle.grammar.specs.Syntax.{Module, Sheet}
use Rattle.grammar.specs.Plain.{plain_d, plain_f, plain_m, plain_e, plain}
use Rattle.rules.specs.declared.faults.CheckFault.{CheckFault}
use Rattle.rules.specs.declared.faults.CheckFault.TheVariants.{
  Repeated,
  UnknownValue,
  UnknownType,
  Unwanted,
  NoArrow,
  Missing,
  Mismatch,
  TooDeep,
  TypesFull,
  ScopeFull,
}
use Rattle.rules.specs.Faults.{is_exceeded}
use Rattle.rules.specs.Forms.{Out, bad, good, after}
use Rattle.rules.specs.Rules.{Scope, member}
use Rattle.rules.specs.Checking.{kind_types, at_start, enter_all, check_modules, checking}
use Rattle.rules.specs.Needs.{formed, distinct_types, Once, Shallow, names_in, Within}

-- by the rules the sheet has the type, limits and tables apart
abbrev pub Typed : Stock → Sheet → ExpandedType → Type 0
Typed kinds sheet r = SheetTyped (stock_types kinds) (plain sheet) r

-- the check passes with the type; then the table has the sheet's distinct types, in their order
abbrev pub Passed : Stock → ℕ → ℕ → Sheet → ExpandedType → Type 0
Passed kinds type_places scope_places sheet r = checking kinds type_places scope_places sheet ≡ good r (distinct_types kinds (plain sheet))

-- the outcome is a refusal because a limit or a table is exceeded: 15, 22 or 23
abbrev pub Exceeds : {S A : Type 0} → Out S A → Type 0
Exceeds o = (f : CheckFault) × (o ≡ bad f) × (is_exceeded f ≡ true)

-- It passes with the type r exactly when the rules give r and no limit or table is exceeded.
abbrev pub PassingExact : Type 0
PassingExact = (kinds : Stock) (type_places scope_places : ℕ) (sheet : Sheet) (r : ExpandedType) →
    Passed kinds type_places scope_places sheet r ↔ (Typed kinds sheet r × Within kinds type_places scope_places (plain sheet))

-- What passes has that type by the rules, and nothing else is left in the type table than the sheet's distinct types.
abbrev pub PassingSound : Type 0
PassingSound = (kinds : Stock) (type_places scope_places : ℕ) (sheet : Sheet) (r : ExpandedType) (ts : List ExpandedType) →
    checking kinds type_places scope_places sheet ≡ good r ts → Typed kinds sheet r × (ts ≡ distinct_types kinds (plain sheet))

-- What has a type by the rules passes with it, or is refused because a limit or a table is exceeded.
abbrev pub PassingComplete : Type 0
PassingComplete = (kinds : Stock) (type_places scope_places : ℕ) (sheet : Sheet) (r : ExpandedType) → Typed kinds sheet r →
    Passed kinds type_places scope_places sheet r ⊎ Exceeds (checking kinds type_places scope_places sheet)

-- What a refusal says of a sheet that has a type: with 15 that one of its types is too deep, with 22 that its distinct types have no
-- places, with 23 that its names have none. With 8 to 14 no sheet that has a type is refused.
abbrev pub Lacks : Stock → ℕ → ℕ → language.Sheet → CheckFault → Type 0
Lacks kinds type_places scope_places sheet (Repeated at) = ⊥
Lacks kinds type_places scope_places sheet (UnknownValue at) = ⊥
Lacks kinds type_places scope_places sheet (UnknownType at) = ⊥
Lacks kinds type_places scope_places sheet (Unwanted at) = ⊥
Lacks kinds type_places scope_places sheet (NoArrow at) = ⊥
Lacks kinds type_places scope_places sheet (Missing at) = ⊥
Lacks kinds type_places scope_places sheet (Mismatch at) = ⊥
Lacks kinds type_places scope_places sheet (TooDeep at) = ¬ (Shallow (formed kinds sheet))
Lacks kinds type_places scope_places sheet (TypesFull at) = type_places < length (distinct_types kinds sheet)
Lacks kinds type_places scope_places sheet (ScopeFull at) = scope_places < names_in sheet

-- A sheet that is refused has no type by the rules, or lacks what the refusal says.
abbrev pub RefusingSound : Type 0
RefusingSound = (kinds : Stock) (type_places scope_places : ℕ) (sheet : Sheet) (f : CheckFault) →
    checking kinds type_places scope_places sheet ≡ bad f → (r : ExpandedType) → Typed kinds sheet r →
    Lacks kinds type_places scope_places (plain sheet) f

-- With larger tables a sheet that passes passes with the same type, and the type table has the same types.
abbrev pub LargerTables : Type 0
LargerTables = (kinds : Stock) (type_places scope_places more_types more_scope : ℕ) (sheet : Sheet) (r : ExpandedType)
    (ts : List ExpandedType) → type_places ≤ more_types → scope_places ≤ more_scope →
    checking kinds type_places scope_places sheet ≡ good r ts → checking kinds more_types more_scope sheet ≡ good r ts

-- The distinct types of a sheet are the types that its parts form, each once.
abbrev pub DistinctTypes : Type 0
DistinctTypes = (kinds : Stock) (sheet : language.Sheet) → Once (distinct_types kinds sheet) ×
    ((a : ExpandedType) → member a (distinct_types kinds sheet) ≡ member a (formed kinds sheet))

-- ── exchange ──

-- the check of the first modules of a sheet
abbrev pub checking_modules : Stock → (type_places scope_places : ℕ) → List Module → Out (List ExpandedType) Scope
checking_modules kinds type_places scope_places ms = after (enter_all type_places scope_places (int ∷ bool ∷ kind_types kinds) [])
    (λ _. check_modules type_places scope_places ms (at_start kinds))

-- two sheets that differ in one module's body, and in places
pub record BodyExchanged (sheet sheet' : Sheet) : Type 0 where
  pub before : List Module
  pub before' : List Module
  pub changed : Module
  pub changed' : Module
  pub behind : List Module
  pub behind' : List Module
  pub modules : sheet.modules ≡ before ++ (changed ∷ behind)
  pub modules' : sheet'.modules ≡ before' ++ (changed' ∷ behind')
  pub same_before : map plain_m before ≡ map plain_m before'
  pub same_name : changed.name.bytes ≡ changed'.name.bytes
  pub same_interface : map plain_d changed.interface ≡ map plain_d changed'.interface
  pub same_behind : map plain_m behind ≡ map plain_m behind'
  pub same_closing : plain_e sheet.closing ≡ plain_e sheet'.closing

-- the interface accepts the new body: as that module's body it draws none of 8 to 14, neither itself nor in matching
abbrev pub Accepted : Stock → ℕ → ℕ → {sheet sheet' : Sheet} → BodyExchanged sheet sheet' → Type 0
Accepted kinds type_places scope_places x = (f : CheckFault) →
    checking_modules kinds type_places scope_places (x.before' ++ (x.changed' ∷ [])) ≡ bad f → is_exceeded f ≡ true

-- the same by the rules, limits and tables apart
abbrev pub AcceptedByRules : Stock → {sheet sheet' : Sheet} → BodyExchanged sheet sheet' → Type 0
AcceptedByRules kinds x = AcceptsThere kinds (map plain_m x.before') (plain_m x.changed') (map plain_f x.changed'.body)

-- What the rules accept draws none of 8 to 14, whatever the tables; what passes is accepted by the rules.
abbrev pub Accepting : Type 0
Accepting = (kinds : Stock) (type_places scope_places : ℕ) (sheet sheet' : Sheet) (x : BodyExchanged sheet sheet') (r : ExpandedType) →
    Typed kinds sheet r → (AcceptedByRules kinds x → Accepted kinds type_places scope_places x) ×
    ((g : Scope) (ts : List ExpandedType) → checking_modules kinds type_places scope_places (x.before' ++ (x.changed' ∷ [])) ≡ good g ts →
    AcceptedByRules kinds x)

-- Where one body of a passed sheet is exchanged for another that its interface accepts, the new sheet passes with the same type, or a limit
-- or a table is exceeded.
abbrev pub Exchanging : Type 0
Exchanging = (kinds : Stock) (type_places scope_places : ℕ) (sheet sheet' : Sheet) (x : BodyExchanged sheet sheet') (r : ExpandedType)
    (ts : List ExpandedType) → checking kinds type_places scope_places sheet ≡ good r ts → Accepted kinds type_places scope_places x →
    Passed kinds type_places scope_places sheet' r ⊎ Exceeds (checking kinds type_places scope_places sheet')
