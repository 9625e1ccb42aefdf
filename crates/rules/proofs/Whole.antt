-- Modules and sheets: the check and the rules go together.
use Rattle.std.proofs.Common.{◌≡◌, ℕ, ◌+◌, ◌≤◌, max, Bool, true, false, not, ◌&&◌, List, [], ◌∷◌, ◌++◌, map, length, sym, refl, ap, ◌∙◌, subst}
use mathlib.Core.Option.{Option, none, some}
use Rattle.words.specs.Names.{Name, same_name}
use Rattle.language.specs.Names.{pantry_name, bind, lookup, distinct}
use Rattle.language.specs.Options.{◌then◌, need}
use Rattle.language.specs.Syntax as language
use Rattle.language.specs.Typing.{ExpandedType, Context, Interface, Interfaces}
use Rattle.language.specs.TypeOf.{type_of}
use Rattle.language.specs.Modules.{seeing, declared_name, Made, made_name}
use Rattle.language.specs.Check.{outward_of, body_of, matched, is_none, modules_of}
use Rattle.language.proofs.Agrees.{then-cases, need-cases}
use Rattle.grammar.specs.Syntax.{Declaration, Definition, Module, Exp}
use Rattle.grammar.specs.Plain.{plain_d, plain_f, plain_m, plain_e}
use Rattle.rules.specs.declared.faults.CheckFault.TheVariants.{Repeated}
use Rattle.rules.specs.Forms.{Out, after, want, give}
use Rattle.rules.specs.Rules.{Scope, types_of, typing}
use Rattle.rules.specs.Checking.{onto, outside, interface_of, with_module, declare_all, match_all, check_body, check_module, check_modules}
use Rattle.rules.specs.Needs.{
  along,
  formed_outward,
  formed_body,
  formed_inward,
  formed_inside,
  formed_modules,
  names_body,
  names_modules,
  with_types,
}
use Rattle.rules.proofs.Apart.{apart_in_order, apart_distinct}
use Rattle.rules.proofs.Items.{
  declares,
  defines,
  declare_all-runs,
  define_all-runs,
  declares-is,
  defines-is,
  scope_with,
  need-then,
  need-and,
  then-then,
}
use Rattle.rules.proofs.Matching.{defines-held, held-onto, match-runs, finish}
use Rattle.rules.proofs.Parts.{typing-runs}
use Rattle.rules.proofs.Runs.{Run, run-max, run-kept, run-last, run-want, run-as, run-assoc}

onto-onto : (ms acc : List Made) → onto (onto ms acc) [] ≡ onto acc ms
onto-onto [] acc = refl
onto-onto (m ∷ ms) acc = onto-onto ms (m ∷ acc)

-- what was made, turned round twice, is in order again
pub in_order : (ms : List Made) → onto (onto ms []) [] ≡ ms
in_order ms = onto-onto ms []

then-ap : {A B : Type 0} (o : Option A) (f g : A → Option B) → ((a : A) → f a ≡ g a) → (o then f) ≡ (o then g)
then-ap none f g h = refl
then-ap (some a) f g h = h a

then_some : {A : Type 0} (o : Option A) → (o then some) ≡ o
then_some none = refl
then_some (some a) = refl

-- an interface whose names are fresh is what the rules read outward
pub outward-from : (n : Interfaces) (s : Context) (m : Name) (ds : List language.Declaration) (k : List Made) →
    declares n s m [] ds ≡ some k → outward_of n s m [] [] ds ≡ some (interface_of k)
outward-from n s m ds k e = need-cases (apart_in_order [] (map declared_name ds)) (outward_of n s m [] [] ds then some) (interface_of k)
    (sym (declares-is n s m [] ds some) ∙ ap (λ (o : Option (List Made)). o then λ l. some (interface_of l)) e)
    (λ _ h. sym (then_some (outward_of n s m [] [] ds)) ∙ h)

-- a body whose names are fresh is what the rules make of it
pub body-from : (n : Interfaces) (s : Context) (ds : List language.Definition) (k : List Made) →
    defines n s [] ds ≡ some k → body_of n s [] [] ds ≡ some (onto k [])
body-from n s ds k e = then-cases (body_of n s [] [] ds) _ k (sym (defines-is n s [] ds) ∙ e) (λ ms h f.
    need-cases (apart_in_order [] (map made_name ms)) _ k f (λ _ g.
    let z : onto ms [] ≡ k = cc in h ∙ ap {B = Option (List Made)} some (sym (in_order ms) ∙ ap (λ (l : List Made). onto l []) z)))

-- the body of a module, by the rules
abbrev pub inside_of : Interfaces → Context → List language.Declaration → List language.Definition → Option (Unit {0})
inside_of n s ds body = defines n s [] body then λ b. need (matched n s [] ds (onto b [])) (some tt)

-- a body and its matching are what the rules say
pub inside_is : {B : Type 0} (n : Interfaces) (s : Context) (ds : List language.Declaration) (body : List language.Definition)
    (r : Option B) →
    (inside_of n s ds body then λ _. r) ≡ (body_of n s [] [] body then λ k. need (distinct (map made_name k)) (need (matched n s [] ds k) r))
inside_is {B} n s ds body r = ap (λ (o : Option (List Made)). (o then λ b. need (matched n s [] ds (onto b [])) (some (tt {0}))) then
    λ _. r)
    (defines-is n s [] body) ∙ go (body_of n s [] [] body)
  where
    test : (b : Bool) → (need b (some (tt {0})) then λ _. r) ≡ need b r
    test true = refl
    test false = refl

    names : (k : List Made) (b : Bool) → ((need b (some (onto k [])) then λ l. need (matched n s [] ds (onto l [])) (some (tt {0})))
        then λ _. r) ≡
        need b (need (matched n s [] ds k) r)
    names k true = test (matched n s [] ds (onto (onto k []) [])) ∙ ap (λ (l : List Made). need (matched n s [] ds l) r) (in_order k)
    names k false = refl

    go : (o : Option (List Made)) → (((o then λ k. need (apart_in_order [] (map made_name k)) (some (onto k []))) then λ b.
        need (matched n s [] ds (onto b [])) (some (tt {0}))) then λ _. r) ≡
        (o then λ k. need (distinct (map made_name k)) (need (matched n s [] ds k) r))
    go none = refl
    go (some k) = names k (apart_in_order [] (map made_name k)) ∙
        ap (λ (b : Bool). need b (need (matched n s [] ds k) r)) (apart_distinct (map made_name k))

-- one module by the rules, and what follows it
pub module-is : {B : Type 0} (s : Context) (n : Interfaces) (m : language.Module) (ms : List language.Module) (f : Interfaces → Option B) →
    need (is_none (lookup n m.name) && not (same_name pantry_name m.name)) (declares n s m.name [] m.interface then λ k.
    inside_of n s m.interface m.body then λ _. (modules_of s (n ++ (bind m.name (interface_of k) ∷ [])) ms then f)) ≡
    (modules_of s n (m ∷ ms) then f)
module-is {B} s n m ms f =
    sym (need-and unseen other _) ∙
    (ap (λ (o : Option B). need unseen (need other o)) (declares-is n s m.name [] m.interface inner ∙
    (ap (λ (b : Bool). need b (outward_of n s m.name [] [] m.interface then inner))
    (apart_distinct (map declared_name m.interface)) ∙
    (ap (need (distinct (map declared_name m.interface)))
    (then-ap (outward_of n s m.name [] [] m.interface) inner (λ i. outer i then f) (λ i. same i) ∙
    then-then (outward_of n s m.name [] [] m.interface) outer f) ∙
    need-then (distinct (map declared_name m.interface)) (outward_of n s m.name [] [] m.interface then outer) f))) ∙
    (ap (need unseen) (need-then other _ f) ∙ need-then unseen _ f))
  where
    unseen : Bool
    unseen = is_none (lookup n m.name)

    other : Bool
    other = not (same_name pantry_name m.name)

    rest : Interface → Option Interfaces
    rest i = modules_of s (n ++ (bind m.name i ∷ [])) ms

    inner : Interface → Option B
    inner i = inside_of n s m.interface m.body then λ _. (rest i then f)

    outer : Interface → Option Interfaces
    outer i = body_of n s [] [] m.body then λ k. need (distinct (map made_name k)) (need (matched n s [] m.interface k) (rest i))

    same : (i : Interface) → inner i ≡ (outer i then f)
    same i = inside_is n s m.interface m.body (rest i then f) ∙
        (then-ap (body_of n s [] [] m.body) _ _
        (λ k. ap (need (distinct (map made_name k))) (need-then (matched n s [] m.interface k) (rest i) f) ∙
        need-then (distinct (map made_name k)) (need (matched n s [] m.interface k) (rest i)) f) ∙
        then-then (body_of n s [] [] m.body) (λ k. need (distinct (map made_name k)) (need (matched n s [] m.interface k) (rest i))) f)

module _ (tp sp : ℕ) where
  pub body-runs : (m : Name) (ds : List Declaration) (defs : List Definition) (face : Scope) (ts : List ExpandedType) → face.used ≤ sp →
      (i : Interface) → outward_of face.modules face.stock m [] [] (map plain_d ds) ≡ some i →
      Run tp sp (check_body tp sp ds defs face ts) (inside_of face.modules face.stock (map plain_d ds) (map plain_f defs)) ts face.used
      (formed_inside face.modules face.stock (map plain_d ds) (map plain_f defs)) (names_body (map plain_f defs))
  body-runs m ds defs face ts h i o =
      run-as tp sp (sym (then-then (defines face.modules face.stock [] (map plain_f defs)) _ _))
      (run-last tp sp _ (λ body. need (matched face.modules face.stock [] (map plain_d ds) (onto body.names [])) (some tt))
      (define_all-runs tp sp defs (outside face) ts h) (λ body e.
      then-cases (defines face.modules face.stock [] (map plain_f defs)) _ body e (λ b f g.
      let z : scope_with (outside face) (length (map plain_f defs)) b ≡ body = cc in
      subst (λ (c : Scope). Run tp sp
      (after (match_all tp sp c ds (onto c.names [])
      (with_types ts (formed_body face.modules face.stock [] [] (map plain_f defs)))) finish)
      (need (matched face.modules face.stock [] (map plain_d ds) (onto c.names [])) (some tt))
      (with_types ts (formed_body face.modules face.stock [] [] (map plain_f defs))) face.used
      (along (body_of face.modules face.stock [] [] (map plain_f defs))
      (λ made. formed_inward (seeing (types_of (onto made [])) face.modules face.stock) (map plain_d ds))) 0) z
      (rw (body-from face.modules face.stock (map plain_f defs) b f, in_order b)
      (match-runs tp sp (scope_with (outside face) (length (map plain_f defs)) b) m ds (onto b []) _ face.used h [] [] []
      (λ t a q. cc) (held-onto (types_of b) b [] (defines-held face.modules face.stock [] (map plain_f defs) b tt f) tt) i o)))))

  -- where so many places are in use, the modules n were before, and no name is in scope
  abbrev between : ℕ → Interfaces → Context → Scope
  between u n s = record { used = u; modules = n; stock = s; names = [] }

  pub modules-run : (ms : List Module) (closing : Exp) (u : ℕ) (n : Interfaces) (s : Context) (ts : List ExpandedType) → u ≤ sp →
      Run tp sp (after (check_modules tp sp ms (between u n s) ts) (typing tp sp closing))
      (modules_of s n (map plain_m ms) then λ n'. type_of (seeing [] n' s) [] (plain_e closing)) ts u
      (formed_modules s n (map plain_m ms) (plain_e closing)) (names_modules (map plain_m ms) (plain_e closing))
  modules-run [] closing u n s ts h = typing-runs tp sp closing (between u n s) ts h
  modules-run (m ∷ ms) closing u n s ts h =
      run-as tp sp (module-is s n (plain_m m) (map plain_m ms) (λ n'. type_of (seeing [] n' s) [] (plain_e closing)))
      (run-assoc tp sp (check_module tp sp m (between u n s) ts) (check_modules tp sp ms) (typing tp sp closing)
      (run-assoc tp sp (want (is_none (lookup n m.name.bytes) && not (same_name pantry_name m.name.bytes))
      (Repeated m.name.place) ts)
      (λ _ s'. after (declare_all tp sp m.name m.interface (between u n s) s') (λ face s''.
      after (check_body tp sp m.interface m.body face s'') (λ _. give (with_module m.name.bytes face)))) next
      (run-want tp sp (is_none (lookup n m.name.bytes) && not (same_name pantry_name m.name.bytes)) (Repeated m.name.place)
      (λ _ s'. after (after (declare_all tp sp m.name m.interface (between u n s) s') (λ face s''.
      after (check_body tp sp m.interface m.body face s'') (λ _. give (with_module m.name.bytes face)))) next) _ _ _ _ _ (λ _.
      run-assoc tp sp (declare_all tp sp m.name m.interface (between u n s) ts) (λ face s''.
      after (check_body tp sp m.interface m.body face s'') (λ _. give (with_module m.name.bytes face))) next
      (run-as tp sp (sym (then-then (declares n s m.name.bytes [] (map plain_d m.interface)) _
      (λ face. inside_of n s (map plain_d m.interface) (map plain_f m.body) then λ _.
      (modules_of s (n ++ (bind m.name.bytes (interface_of face.names) ∷ [])) (map plain_m ms) then λ n'.
      type_of (seeing [] n' s) [] (plain_e closing)))))
      (run-kept tp sp _ _ (declare_all-runs tp sp m.name m.interface (between u n s) ts h) (λ face e i.
      then-cases (declares n s m.name.bytes [] (map plain_d m.interface)) _ face e (λ k f g.
      let z : scope_with (between u n s) (length (map plain_d m.interface)) k ≡ face = cc in
      let o : outward_of n s m.name.bytes [] [] (map plain_d m.interface) ≡ some (interface_of k) =
      outward-from n s m.name.bytes (map plain_d m.interface) k f in
      subst (λ (c : Scope). Run tp sp
      (after (after (check_body tp sp m.interface m.body c before) (λ _. give (with_module m.name.bytes c))) next)
      (inside_of n s (map plain_d m.interface) (map plain_f m.body) then λ _.
      (modules_of s (n ++ (bind m.name.bytes (interface_of c.names) ∷ [])) (map plain_m ms) then λ n'.
      type_of (seeing [] n' s) [] (plain_e closing)))
      before (u + length (map plain_d m.interface))
      (formed_inside n s (map plain_d m.interface) (map plain_f m.body) ++
      along (outward_of n s m.name.bytes [] [] (map plain_d m.interface))
      (λ j. formed_modules s (n ++ (bind m.name.bytes j ∷ [])) (map plain_m ms) (plain_e closing)))
      (max (names_body (map plain_f m.body)) (names_modules (map plain_m ms) (plain_e closing)))) z
      (run-assoc tp sp (check_body tp sp m.interface m.body (face_of k) before)
      (λ _. give (with_module m.name.bytes (face_of k))) next
      (run-max tp sp (λ _. next (with_module m.name.bytes (face_of k))) _
      (body-runs m.name.bytes m.interface m.body (face_of k) before i (interface_of k) o)
      (λ _ _. rw o (modules-run ms closing (u + length (map plain_d m.interface))
      (n ++ (bind m.name.bytes (interface_of k) ∷ [])) s _ i))))))))))))
    where
      before : List ExpandedType
      before = with_types ts (formed_outward n s m.name.bytes [] (map plain_d m.interface))

      face_of : List Made → Scope
      face_of k = scope_with (between u n s) (length (map plain_d m.interface)) k

      next : Scope → List ExpandedType → Out (List ExpandedType) ExpandedType
      next g s' = after (check_modules tp sp ms g s') (typing tp sp closing)
