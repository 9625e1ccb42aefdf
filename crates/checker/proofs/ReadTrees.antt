-- The tree of a sheet that was read: it holds the parts of its items, and stands for that sheet.
use Rattle.std.proofs.Common.{◌≡◌, ℕ, zero, suc, ◌+◌, ◌<◌, ◌≤◌, true, List, [], ◌∷◌, ◌++◌, length, get_or, is_some, Some, None, Option, sym, refl, ap, ◌∙◌, subst, append_assoc, append-nil, arith, length-append}
use Rattle.std.specs.List.{slice_get}
use Rattle.grammar.specs.declared.tree.Node.{Node}
use Rattle.grammar.specs.declared.tree.Node.TheVariants as node
use Rattle.grammar.specs.Syntax as is
use Rattle.grammar.specs.Syntax.{WrittenType, Exp, Declaration, Definition, Module, Sheet, inner_t, inner_e, inner_d, inner_f, inner_m, places, count, size}
use Rattle.grammar.specs.Grammar.{levels_t, levels_d, levels_f, levels_m, deepest}
use Rattle.grammar.specs.Table.{of, nodes_t, nodes_e, nodes_d, nodes_f, nodes_m, nodes_s, nodes_of, type_at, exp_at, modules_of, sheet_at, SpelledT, SpelledD, SpelledF, SpelledM, Every}
use Rattle.grammar.specs.Reading.{Out, bad, good, reading}
use Rattle.grammar.specs.Read.{nodes_read, IsRead}
use Rattle.grammar.proofs.Exactly.{exactly}
use Rattle.grammar.proofs.Spelling.{reads-spelled}
use Rattle.grammar.proofs.Laid.{Stand, length-nodes_t, length-nodes_e, length-nodes_d, length-nodes_f, length-nodes_of, length-nodes_m, length-nodes_s, type-laid, exp-laid, sheet-laid}
use Rattle.checker.specs.Items.{NodeIn, AllIn}
use Rattle.checker.specs.Passes.{sheet_read, sheet_in}
use Rattle.checker.proofs.ItemsGo.{Each, each_none, each_more}

split : (ns : List Node) (u n : ℕ) (xs ys : List Node) → length xs ≡ n → Stand ns u (xs ++ ys) → Stand ns u xs × Stand ns (u + n) ys
split ns u n [] ys e h = (tt, let i : u + n ≡ u = omega arith in rw i h)
split ns u n (x ∷ xs) ys e h =
    let t = split ns (u + 1) (length xs) xs ys refl h.1 in
    let i : u + n ≡ (u + 1) + length xs = omega arith in
    ((h.0, t.0), rw i t.1)

module _ {P : Node → Type 0} where
  each_append : {xs ys : List Node} → Each P xs → Each P ys → Each P (xs ++ ys)
  each_append each_none h = h
  each_append (each_more p g) h = each_more p (each_append g h)

each_all : (P : Node → Type 0) (d : Node) {ns : List Node} → Each P ns → (k : ℕ) → k < length ns → P (get_or ns k d)
each_all P d each_none k h = absurd (omega arith)
each_all P d (each_more p g) zero h = p
each_all P d (each_more p g) (suc k) h = each_all P d g k (omega arith)

module _ (text : List ℕ) (tree : List Node) where
  abbrev In : Node → Type 0
  In = NodeIn text tree

  each-T : (t : WrittenType) (u : ℕ) → Each In (nodes_t u t)
  each-T (is.int_type at) u = each_more tt each_none
  each-T (is.bool_type at) u = each_more tt each_none
  each-T (is.named_type t) u = each_more tt each_none
  each-T (is.qualified_type at m t) u = each_more tt each_none
  each-T (is.arrow_type at a b) u = each_append (each-T a u) (each_append (each-T b _) (each_more tt each_none))

  each-E : (e : Exp) (u : ℕ) → Each In (nodes_e u e)
  each-E (is.number at v) u = each_more tt each_none
  each-E (is.boolean at b) u = each_more tt each_none
  each-E (is.variable x) u = each_more tt each_none
  each-E (is.qualified at m x) u = each_more tt each_none
  each-E (is.is_zero at a) u = each_append (each-E a u) (each_more tt each_none)
  each-E (is.apply at a b) u = each_append (each-E a u) (each_append (each-E b _) (each_more tt each_none))
  each-E (is.proc at x t e) u = each_append (each-T t u) (each_append (each-E e _) (each_more tt each_none))
  each-E (is.let_in at x a e) u = each_append (each-E a u) (each_append (each-E e _) (each_more tt each_none))
  each-E (is.conditional at a b c) u = each_append (each-E a u) (each_append (each-E b _) (each_append (each-E c _) (each_more tt each_none)))
  each-E (is.letrec at r f x t b e) u =
      each_append (each-T r u) (each_append (each-T t _) (each_append (each-E b _) (each_append (each-E e _) (each_more tt each_none))))
  each-E (is.binary at o a b) u = each_append (each-E a u) (each_append (each-E b _) (each_more tt each_none))

  type-there : (u : ℕ) (a : WrittenType) (x : Node) → levels_t a ≤ 48 → SpelledT text a → Stand tree u (nodes_t u a ++ (x ∷ [])) →
      is_some (type_at 48 text tree (u + inner_t a)) ≡ true
  type-there u a x l sp h = ap is_some (type-laid text a 48 u tree l sp (split tree u (inner_t a + 1) (nodes_t u a) (x ∷ []) (length-nodes_t u a) h).0)

  each-D : (u : ℕ) (d : Declaration) → levels_d d ≤ 48 → SpelledD text d → Stand tree u (nodes_d u d) → Each In (nodes_d u d)
  each-D u (is.opaque_type at t) l sp h = each_more tt each_none
  each-D u (is.transparent_type at t a) l sp h = each_append (each-T a u) (each_more (type-there u a _ l sp.1 h) each_none)
  each-D u (is.value_of_type x a) l sp h = each_append (each-T a u) (each_more (type-there u a _ l sp.1 h) each_none)

  each-F : (u : ℕ) (d : Definition) → levels_f d ≤ 48 → SpelledF text d → Stand tree u (nodes_f u d) → Each In (nodes_f u d)
  each-F u (is.type_is at t a) l sp h = each_append (each-T a u) (each_more (type-there u a _ l sp.1 h) each_none)
  each-F u (is.value_is x e) l sp h =
      each_append (each-E e u) (each_more (ap is_some (exp-laid text e 48 u tree l sp.1 (split tree u (inner_e e + 1) (nodes_e u e) _ (length-nodes_e u e) h).0)) each_none)

  each_of : {A : Type 0} (inner level : A → ℕ) (nodes : ℕ → A → List Node) (P : A → Type 0) → ((u : ℕ) (a : A) → length (nodes u a) ≡ inner a + 1) →
      ((u : ℕ) (a : A) → level a ≤ 48 → P a → Stand tree u (nodes u a) → Each In (nodes u a)) →
      (u : ℕ) (l : List A) → deepest level l ≤ 48 → Every P l → Stand tree u (nodes_of inner nodes u l) → Each In (nodes_of inner nodes u l)
  each_of inner level nodes P len f u [] b sp h = each_none
  each_of inner level nodes P len f u (a ∷ l) b sp h =
      let s = split tree u (inner a + 1) (nodes u a) (nodes_of inner nodes (u + (inner a + 1)) l) (len u a) h in
      each_append (f u a (omega arith) sp.0 s.0) (each_of inner level nodes P len f (u + (inner a + 1)) l (omega arith) sp.1 s.1)

  each-M : (u : ℕ) (m : Module) → levels_m m ≤ 48 → SpelledM text m → Stand tree u (nodes_m u m) → Each In (nodes_m u m)
  each-M u m l sp h =
      let s = split tree u (places inner_d m.interface) (nodes_of inner_d nodes_d u m.interface) _ (length-nodes_of inner_d nodes_d length-nodes_d u m.interface) h in
      let v = u + places inner_d m.interface in
      let t = split tree v (places inner_f m.body) (nodes_of inner_f nodes_f v m.body) _ (length-nodes_of inner_f nodes_f length-nodes_f v m.body) s.1 in
      each_append (each_of inner_d levels_d nodes_d (SpelledD text) length-nodes_d each-D u m.interface (omega arith) sp.1 s.0)
      (each_append (each_of inner_f levels_f nodes_f (SpelledF text) length-nodes_f each-F v m.body (omega arith) sp.2 t.0) (each_more tt each_none))

stand-whole : (ns : List Node) (k : ℕ) (front xs : List Node) → length front ≡ k → ns ≡ front ++ xs → Stand ns k xs
stand-whole ns k front [] l e = tt
stand-whole ns k front (x ∷ xs) l e =
    (rw (e, sym l) (nth-behind front x xs), stand-whole ns (k + 1) (front ++ (x ∷ [])) xs (simp length-append (omega arith)) (e ∙ sym (append_assoc front (x ∷ []) xs)))
  where
    nth-behind : (ys : List Node) (y : Node) (zs : List Node) → slice_get (ys ++ (y ∷ zs)) (length ys) ≡ Some y
    nth-behind [] y zs = refl
    nth-behind (z ∷ ys) y zs = nth-behind ys y zs

-- what a read sheet gives a check
pub record Facts (text : List ℕ) (tree : List Node) (close : ℕ) : Type 0 where
  pub sheet : Sheet
  pub end : ℕ
  pub reading-is : reading 65535 text ≡ good sheet end
  pub modules_are : modules_of text tree tree ≡ sheet.modules
  pub closing-is : exp_at 48 text tree close ≡ Some sheet.closing
  pub holds : AllIn text tree tree
  pub few : count (modules_of text tree tree) ≤ 32

sheet-parts : (o : Option Exp) (ms : List Module) (s : Sheet) → of o (λ e. Some (record { modules = ms; closing = e })) ≡ Some s → (o ≡ Some s.closing) × (ms ≡ s.modules)
sheet-parts None ms s e = let z : ◌≡◌ {A = ℕ} 0 1 = cc in absurd (omega arith)
sheet-parts (Some x) ms s e =
    let y : ◌≡◌ {A = Sheet} (record { modules = ms; closing = x }) s = cc in
    (ap (λ (v : Sheet). Some v.closing) y, ap (λ (v : Sheet). v.modules) y)

stands-for : (text : List ℕ) (tree : List Node) (close : ℕ) (s : Sheet) → sheet_at text tree close ≡ Some s → (exp_at 48 text tree close ≡ Some s.closing) × (modules_of text tree tree ≡ s.modules)
unfolding sheet_at
stands-for text tree close s e = sheet-parts (exp_at 48 text tree close) (modules_of text tree tree) s e

of_sheet : (text : List ℕ) (close : ℕ) (s : Sheet) (e : ℕ) → reading 65535 text ≡ good s e → length (nodes_s s) ≡ close + 1 → Facts text (nodes_s s) close
of_sheet text close s e r l =
    let w = (exactly 65535 text s e).0 r in
    let sp = reads-spelled 65535 text s e r in
    let n = places inner_m s.modules in
    let c : n + inner_e s.closing ≡ close = (let z = length-nodes_s s in omega arith) in
    let h = sheet-laid text s 0 w.nests sp in
    let g = subst (λ (k : ℕ). sheet_at text (nodes_s s) k ≡ Some s) c (subst (λ (ns : List Node). sheet_at text ns (n + inner_e s.closing) ≡ Some s) (append-nil (nodes_s s)) h) in
    let p = stands-for text (nodes_s s) close s g in
    let st = split (nodes_s s) 0 n (nodes_of inner_m nodes_m 0 s.modules) (nodes_e n s.closing) (length-nodes_of inner_m nodes_m length-nodes_m 0 s.modules) (stand-whole (nodes_s s) 0 [] (nodes_s s) refl refl) in
    let v = w.nests in
    record {
      sheet = s;
      end = e;
      reading-is = r;
      modules_are = p.1;
      closing-is = p.0;
      holds = each_all (NodeIn text (nodes_s s)) node.Blank (each_append (each_of text (nodes_s s) inner_m levels_m nodes_m (SpelledM text) length-nodes_m (each-M text (nodes_s s)) 0 s.modules (omega arith) sp.0 st.0)
          (each-E text (nodes_s s) s.closing n));
      few = subst (λ (ms : List Module). count ms ≤ 32) (sym p.1) w.modules;
    }

pub read-facts : (text : List ℕ) (tree : List Node) (close : ℕ) → IsRead text tree close → Facts text tree close
read-facts text tree close h = go (reading 65535 text) refl h.0 h.1
  where
    go : (o : Out Sheet) → reading 65535 text ≡ o → tree ≡ nodes_read o → length tree ≡ close + 1 → Facts text tree close
    go (bad k e) r q l = absurd (let z : length tree ≡ 0 = ap length q in omega arith)
    go (good s e) r q l = subst (λ (ns : List Node). Facts text ns close) (sym q) (of_sheet text close s e r (ap length (sym q) ∙ l))

-- the sheet in the tree is the one that the text is read as
pub sheet-in : (text : List ℕ) (tree : List Node) (close : ℕ) (f : Facts text tree close) →
    ◌≡◌ {A = Sheet} (record { modules = modules_of text tree tree; closing = f.sheet.closing }) (sheet_in text)
sheet-in text tree close f =
    ap (λ (ms : List Module). record { modules = ms; closing = f.sheet.closing }) f.modules_are ∙ sym (ap sheet_read f.reading-is)
