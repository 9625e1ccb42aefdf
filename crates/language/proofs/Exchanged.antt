-- The exchange law: what follows a module rests on its interface alone.
use Rattle.std.proofs.Common.{◌≡◌, List, [], ◌∷◌, ◌++◌, refl}
use Rattle.words.specs.Names.{Name}
use Rattle.language.specs.Names.{bind}
use Rattle.language.specs.Syntax.{Declaration, Definition, Module}
use Rattle.language.specs.Typing.{Context, Interface, Interfaces}
use Rattle.language.specs.Modules.{Outward, o_end, o_opaque, o_transparent, o_value, Accepts, ModulesTyped, y_module}
use Rattle.language.specs.Safety.{with_body, InterfacesAfter, i_none, i_more}

-- an interface read outward is one interface
pub outward-one : {n : Interfaces} {s : Context} {m : Name} {ts vs : Context} {ds : List Declaration} {i j : Interface} →
    Outward n s m ts vs ds i → Outward n s m ts vs ds j → i ≡ j
outward-one o_end o_end = refl
outward-one (o_opaque o) (o_opaque p) = outward-one o p
outward-one {m = m} {ts = ts} (o_transparent {t = t} {a = a} h o) (o_transparent {a = b} k p) =
    let q : b ≡ a = cc in outward-one o (rw q at p)
outward-one (o_value {x = x} {a = a} h o) (o_value {a = b} k p) =
    let q : b ≡ a = cc in outward-one o (rw q at p)

pub exchanged : (s : Context) (after : List Module) (m : Module) (body : List Definition) (before : List Module) (n k n' : Interfaces) →
    ModulesTyped s n (before ++ (m ∷ after)) n' → InterfacesAfter s n before k → Accepts k s m.interface body →
    ModulesTyped s n (before ++ (with_body m body ∷ after)) n'
exchanged s after m body [] n k n' (y_module f g d o a t) i_none b = y_module f g d o b t
exchanged s after m body (l ∷ before) n k n' (y_module {i = i} f g d o a t) (i_more {i = j} o' h) b =
    let q : j ≡ i = outward-one o' o in
    y_module f g d o a (exchanged s after m body before (n ++ (bind l.name i ∷ [])) k n' t (rw q at h) b)
