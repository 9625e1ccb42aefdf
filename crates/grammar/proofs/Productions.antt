-- Each form, step by step, is what its production says.
use Rattle.std.proofs.Common.{◌≡◌, ℕ, refl, arith}
use Rattle.words.specs.declared.keywords.Keyword.TheVariants as kw
use Rattle.words.specs.declared.marks.Mark.TheVariants as mk
use Rattle.grammar.specs.declared.tree.Operator.{Operator}
use Rattle.grammar.specs.Productions.{«the», sign, a_type, an_exp, a_declaration, a_definition, a_module}
use Rattle.grammar.specs.Productions as p
use Rattle.grammar.specs.Syntax.{Name}
use Rattle.grammar.specs.Table.{span_of}
use Rattle.grammar.specs.Laying.{State, form_m, qualified_type_m, arrow_m, qualified_m, is_zero_m, apply_m, proc_m, let_m, if_m, letrec_m, binary_m}
use Rattle.grammar.specs.Laying.{opaque_m, transparent_m, declared_m, type_is_m, value_is_m, module_m}
use Rattle.grammar.proofs.FormSteps.{part_then, part_in, word-then, word-in, name-then, name_in, parts_then, place-last}

pub qualified-type-form : (at : ℕ) (l : ℕ) (v : State) → form_m a_type (p.t_from, tt) at l v ≡ qualified_type_m at v
qualified-type-form at l v =
    name_in a_type v v _ _ _ (λ m q.
    word-in a_type v _ («the» kw.Take) _ _ _ (λ _ q.
    name_in a_type v _ _ _ _ (λ t q.
    place-last a_type v q _ _ _ _ at (omega arith) refl)))

pub arrow-form : (at : ℕ) (l : ℕ) (v : State) → form_m a_type (p.t_arrow, tt) at l v ≡ arrow_m at l v
arrow-form at l v =
    part_then a_type v v a_type l _ _ (λ a q.
    word-then a_type v _ (sign mk.Arrow) _ _ (λ _ q.
    part_then a_type v _ a_type l _ _ (λ b q.
    word-then a_type v _ (sign mk.Shut) _ _ (λ _ q.
    place-last a_type v q _ _ _ _ at (omega arith) refl))))

pub qualified-form : (at : ℕ) (l : ℕ) (v : State) → form_m an_exp (p.e_from, tt) at l v ≡ qualified_m at v
qualified-form at l v =
    name_in an_exp v v _ _ _ (λ m q.
    word-in an_exp v _ («the» kw.Take) _ _ _ (λ _ q.
    name_in an_exp v _ _ _ _ (λ x q.
    place-last an_exp v q _ _ _ _ at (omega arith) refl)))

pub zero-form : (at : ℕ) (l : ℕ) (v : State) → form_m an_exp (p.e_zero, tt) at l v ≡ is_zero_m at l v
zero-form at l v =
    word-then an_exp v v (sign mk.Open) _ _ (λ _ q.
    part_then an_exp v _ an_exp l _ _ (λ a q.
    word-then an_exp v _ (sign mk.Shut) _ _ (λ _ q.
    place-last an_exp v q _ _ _ _ at (omega arith) refl)))

pub apply-form : (at : ℕ) (l : ℕ) (v : State) → form_m an_exp (p.e_apply, tt) at l v ≡ apply_m at l v
apply-form at l v =
    part_then an_exp v v an_exp l _ _ (λ a q.
    part_then an_exp v _ an_exp l _ _ (λ b q.
    word-then an_exp v _ (sign mk.Shut) _ _ (λ _ q.
    place-last an_exp v q _ _ _ _ at (omega arith) refl)))

pub proc-form : (at : ℕ) (l : ℕ) (v : State) → form_m an_exp (p.e_proc, tt) at l v ≡ proc_m at l v
proc-form at l v =
    word-in an_exp v v (sign mk.Open) _ _ _ (λ _ q.
    name_in an_exp v _ _ _ _ (λ x q.
    word-in an_exp v _ (sign mk.Colon) _ _ _ (λ _ q.
    part_in an_exp v _ a_type l _ _ _ (λ t q.
    word-in an_exp v _ (sign mk.Shut) _ _ _ (λ _ q.
    part_then an_exp v _ an_exp l _ _ (λ e q.
    place-last an_exp v q _ _ _ _ at (omega arith) refl))))))

pub let-form : (at : ℕ) (l : ℕ) (v : State) → form_m an_exp (p.e_let, tt) at l v ≡ let_m at l v
let-form at l v =
    name-then an_exp v v _ _ (λ x q.
    word-in an_exp v _ (sign mk.Equal) _ _ _ (λ _ q.
    part_in an_exp v _ an_exp l _ _ _ (λ a q.
    word-in an_exp v _ («the» kw.In) _ _ _ (λ _ q.
    part_in an_exp v _ an_exp l _ _ _ (λ e q.
    place-last an_exp v q _ _ _ _ at (omega arith) refl)))))

pub if-form : (at : ℕ) (l : ℕ) (v : State) → form_m an_exp (p.e_if, tt) at l v ≡ if_m at l v
if-form at l v =
    part_then an_exp v v an_exp l _ _ (λ a q.
    word-then an_exp v _ («the» kw.Then) _ _ (λ _ q.
    part_then an_exp v _ an_exp l _ _ (λ b q.
    word-then an_exp v _ («the» kw.Else) _ _ (λ _ q.
    part_then an_exp v _ an_exp l _ _ (λ c q.
    place-last an_exp v q _ _ _ _ at (omega arith) refl)))))

pub letrec-form : (at : ℕ) (l : ℕ) (v : State) → form_m an_exp (p.e_letrec, tt) at l v ≡ letrec_m at l v
letrec-form at l v =
    part_then an_exp v v a_type l _ _ (λ r q.
    name-then an_exp v _ _ _ (λ f q.
    word-in an_exp v _ (sign mk.Open) _ _ _ (λ _ q.
    name_in an_exp v _ _ _ _ (λ x q.
    word-in an_exp v _ (sign mk.Colon) _ _ _ (λ _ q.
    part_in an_exp v _ a_type l _ _ _ (λ t q.
    word-in an_exp v _ (sign mk.Shut) _ _ _ (λ _ q.
    word-in an_exp v _ (sign mk.Equal) _ _ _ (λ _ q.
    part_in an_exp v _ an_exp l _ _ _ (λ a q.
    word-in an_exp v _ («the» kw.In) _ _ _ (λ _ q.
    part_in an_exp v _ an_exp l _ _ _ (λ e q.
    place-last an_exp v q _ _ _ _ at (omega arith) refl)))))))))))

pub binary-form : (at : ℕ) (o : Operator) (h : p.Held (p.op_sign o)) (l : ℕ) (v : State) → form_m an_exp (p.e_op o, h) at l v ≡ binary_m at o l v
binary-form at o h l v =
    word-in an_exp v v (sign mk.Open) _ _ _ (λ _ q.
    part_in an_exp v _ an_exp l _ _ _ (λ a q.
    word-in an_exp v _ (sign mk.Comma) _ _ _ (λ _ q.
    part_in an_exp v _ an_exp l _ _ _ (λ b q.
    word-in an_exp v _ (sign mk.Shut) _ _ _ (λ _ q.
    place-last an_exp v q _ _ _ _ at (omega arith) refl)))))

pub opaque-form : (at : ℕ) (l : ℕ) (v : State) → form_m a_declaration (p.d_opaque, tt) at l v ≡ opaque_m at v
opaque-form at l v =
    name-then a_declaration v v _ _ (λ t q.
    place-last a_declaration v q _ _ _ _ at (omega arith) refl)

pub transparent-form : (at : ℕ) (l : ℕ) (v : State) → form_m a_declaration (p.d_transparent, tt) at l v ≡ transparent_m at l v
transparent-form at l v =
    name_in a_declaration v v _ _ _ (λ t q.
    word-in a_declaration v _ (sign mk.Equal) _ _ _ (λ _ q.
    part_in a_declaration v _ a_type l _ _ _ (λ a q.
    place-last a_declaration v q _ _ _ _ at (omega arith) refl)))

pub declared-form : (x : Name) (at : ℕ) (l : ℕ) (v : State) → form_m a_declaration (p.d_value, x) at l v ≡ declared_m (span_of x) at l v
declared-form x at l v =
    word-then a_declaration v v (sign mk.Colon) _ _ (λ _ q.
    part_then a_declaration v _ a_type l _ _ (λ a q.
    place-last a_declaration v q _ _ _ _ at (omega arith) refl))

pub type-is-form : (at : ℕ) (l : ℕ) (v : State) → form_m a_definition (p.f_type, tt) at l v ≡ type_is_m at l v
type-is-form at l v =
    name_in a_definition v v _ _ _ (λ t q.
    word-in a_definition v _ (sign mk.Equal) _ _ _ (λ _ q.
    part_in a_definition v _ a_type l _ _ _ (λ a q.
    place-last a_definition v q _ _ _ _ at (omega arith) refl)))

pub value-is-form : (x : Name) (at : ℕ) (l : ℕ) (v : State) → form_m a_definition (p.f_value, x) at l v ≡ value_is_m (span_of x) at l v
value-is-form x at l v =
    word-then a_definition v v (sign mk.Equal) _ _ (λ _ q.
    part_then a_definition v _ an_exp l _ _ (λ a q.
    place-last a_definition v q _ _ _ _ at (omega arith) refl))

pub module-form : (at : ℕ) (v : State) → form_m a_module (p.m_module, tt) at 49 v ≡ module_m at v
module-form at v =
    name-then a_module v v _ _ (λ m q.
    word-in a_module v _ («the» kw.Interface) _ _ _ (λ _ q.
    word-in a_module v _ (sign mk.Begin) _ _ _ (λ _ q.
    parts_then a_module v _ a_declaration _ _ (λ ds q.
    word-in a_module v _ («the» kw.Body) _ _ _ (λ _ q.
    word-in a_module v _ (sign mk.Begin) _ _ _ (λ _ q.
    parts_then a_module v _ a_definition _ _ (λ fs q.
    place-last a_module v q _ _ _ _ at (omega arith) refl)))))))
