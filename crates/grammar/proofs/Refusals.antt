-- The law of refusal 5, for whole sheets and for texts; and that the same words are one sheet at most.
use Rattle.std.proofs.Common.{◌≡◌, ℕ, zero, suc, ◌+◌, ◌≤◌, max, Bool, true, false, cond, eqb, leb, List, [], ◌∷◌, ◌++◌, length, get_or, take, drop, Some, None, Option as Maybe, sym, refl, ap, ◌∙◌, subst, append-nil, arith}
use mathlib.Core.List.{cons≢nil, head-eq_of_cons-eq, append_cancel_left}
use mathlib.Core.Option.{Option, none, some}
use Rattle.words.specs.declared.classes.Class.{Class}
use Rattle.words.specs.declared.classes.Class.TheVariants as class
use Rattle.words.specs.declared.marks.Mark.{Mark}
use Rattle.words.specs.Classes.{class_of}
use Rattle.words.specs.Words.{Reading, figured, marked, begins, first, scan, start, is_letter, is_digit, value, largest}
use Rattle.words.specs.Words as words
use Rattle.grammar.specs.Syntax.{Exp, Module, Sheet, inner_m}
use Rattle.grammar.specs.Productions.{Word, place_of, an_exp, a_module, Opening, chosen}
use Rattle.grammar.specs.Reading.{Out, bad, Step, end, word, fault, Source, steps, step_of, read_part, levels, ended, closed, add_module}
use Rattle.grammar.specs.Reading.{begins_module, or_else, sheet_from, reading}
use Rattle.grammar.specs.Derives.{Along, Derives, DerivesSheet}
use Rattle.grammar.specs.Grammar.{SheetWords, levels_s}
use Rattle.grammar.specs.Laws.{Stops, Refused, RefusesFirst, OneReading}
use Rattle.grammar.proofs.Sound.{PartRead, part_sound, chosen-takes}
use Rattle.grammar.proofs.Begins.{none-some}
use Rattle.grammar.proofs.Complete.{module_at, no-module-at, module-takes}
use Rattle.grammar.proofs.Same.{sheet-derives, sheet-back}
use Rattle.grammar.proofs.Once.{derives-more, part-once}
use Rattle.grammar.proofs.Refused.{Lang, Fails, Starts, Stuck, Five, stops-map, five-bind, five-after, five-done, lang-head, part-five}
use Rattle.grammar.proofs.Refused.{sample_s}

-- word lists that are a sheet, limits apart
abbrev LangS : List Word → Type 0
LangS ws = (ms : List Module) × (e : Exp) × (l : ℕ) × DerivesSheet l ws ms e

abbrev NoSheet : List Word → Type 0
NoSheet zs = LangS zs → ⊥

sheet-more : (l k : ℕ) → l ≤ k → (ms : List Module) (ws : List Word) (e : Exp) → DerivesSheet l ws ms e → DerivesSheet k ws ms e
sheet-more l k b [] ws e d = derives-more l k b an_exp ws e d
sheet-more l k b (m ∷ ms) ws e d = (
  d.0,
  d.1,
  d.2,
  derives-more (suc (suc l)) (suc (suc k)) (omega arith) a_module d.0 m d.3,
  sheet-more l k b ms d.1 e d.4,
)

module-at : (w : Word) (o : Opening a_module) → chosen a_module w ≡ some o → module_at w ≡ some (place_of w)
module-at w o c = module-takes w o.0 o.1 (chosen-takes a_module w o c)

-- an expression and a module begin by different words
apart : (xs ys r t : List Word) → xs ++ r ≡ ys ++ t → Lang an_exp xs → Lang a_module ys → ⊥
apart xs ys r t e p q =
    let a = lang-head an_exp xs p in
    let b = lang-head a_module ys q in
    let i : (a.0 ∷ a.1) ++ r ≡ (b.0 ∷ b.1) ++ t = sym (ap (λ z. z ++ r) a.3) ∙ (e ∙ ap (λ z. z ++ t) b.3) in
    none-some (place_of b.0) (sym (no-module-at a.0 a.2 a.4) ∙ (ap module_at (head-eq_of_cons-eq i)
    ∙ module-at b.0 b.2 b.4))

once : (l k : ℕ) (ms ns : List Module) (ws : List Word) (e f : Exp) → DerivesSheet l ws ms e → DerivesSheet k ws ns f → (ms ≡ ns) × (e ≡ f)
once l k [] [] ws e f d g = (refl, (part-once an_exp ws ws [] [] refl l k e f d g).1)
once l k [] (n ∷ ns) ws e f d g = absurd (apart ws g.0 [] g.1 (append-nil ws ∙ g.2) (e, l, d) (n, suc (suc k), g.3))
once l k (m ∷ ms) [] ws e f d g = absurd (apart ws d.0 [] d.1 (append-nil ws ∙ d.2) (f, k, g) (m, suc (suc l), d.3))
once l k (m ∷ ms) (n ∷ ns) ws e f d g =
    let p = part-once a_module d.0 g.0 d.1 g.1 (sym d.2 ∙ g.2) (suc (suc l)) (suc (suc k)) m n d.3 g.3 in
    let j : d.1 ≡ g.1 = append_cancel_left d.0 d.1 g.1 (sym d.2 ∙ (g.2 ∙ ap (λ z. z ++ g.1) (sym p.0))) in
    let q = once l k ms ns d.1 e f d.4 (subst (λ z. DerivesSheet k z ns f) (sym j) g.4) in
    (rw (p.1, q.0), q.1)

pub one-reading : OneReading
one-reading ws s t a b =
    let q = once (levels_s s) (levels_s t) s.modules t.modules ws s.closing t.closing (sheet-derives (levels_s s) ws s a
    (omega arith)) (sheet-derives (levels_s t) ws t b (omega arith)) in
    λ i. record { modules = q.0 i; closing = q.1 i }

module _ (next : Source) (lawful : (p k e : ℕ) → next p ≡ fault k e → k ≡ 5 → ⊥) where
  starts-module : (p : ℕ) (zs xs ys : List Word) → Starts next p zs → zs ≡ xs ++ ys → Lang a_module xs → (at : ℕ) × (begins_module (next p)
      ≡ some at)
  starts-module p zs xs ys s e h =
      let t = lang-head a_module xs h in
      let i : zs ≡ (t.0 ∷ t.1) ++ ys = e ∙ ap (λ z. z ++ ys) t.3 in
      let j : Starts next p (t.0 ∷ (t.1 ++ ys)) = subst (Starts next p) i s in
      (place_of t.0, ap begins_module j.1 ∙ module-at t.0 t.2 t.4)

  starts-exp : (p : ℕ) (zs : List Word) → Starts next p zs → Lang an_exp zs → begins_module (next p) ≡ none
  starts-exp p zs s h =
      let t = lang-head an_exp zs h in
      let j : Starts next p (t.0 ∷ t.1) = subst (Starts next p) t.3 s in
      ap begins_module j.1 ∙ no-module-at t.0 t.2 t.4

  -- words of the source are where it starts
  along-starts : (p q m : ℕ) (w : Word) (ws vs : List Word) → Along next p q ws → next q ≡ word w m → Starts next p (ws ++ (w ∷ vs))
  along-starts p q m w [] vs al i = (m, ap next al ∙ i)
  along-starts p q m w (x ∷ ws) vs al i = (al.0, al.1)

  closed-five : (n u p : ℕ) → begins_module (next p) ≡ none → Five next LangS NoSheet p (closed next n u p)
  closed-five n u p nm =
      five-bind next (Lang an_exp) LangS NoSheet p (PartRead next n levels an_exp u p) (read_part levels next n an_exp u p) _
      (part-five next lawful levels n an_exp u p) (part_sound levels next n an_exp u p)
      (λ xs h. ([], ([], h.0, h.1, subst (λ z. Derives h.1 an_exp z h.0) (sym (append-nil xs)) h.2)))
      (λ zs st h s. lift zs st h s.0 s.1 s.2 s.3)
      (λ e q h. go e q h (next q) refl)
    where
      lift : (zs : List Word) → Starts next p zs → Fails (Lang an_exp) zs → (ms : List Module) (e : Exp) (l : ℕ) → DerivesSheet l zs ms e → ⊥
      lift zs st h [] e l d = h zs [] (e, l, d) (append-nil zs)
      lift zs st h (m ∷ ms) e l d = let t = starts-module p zs d.0 d.1 st d.2 (m, suc (suc l), d.3) in none-some t.0 (sym nm
          ∙ t.1)

      more : (ws vs : List Word) (w : Word) (e : Exp) → Derives levels an_exp ws e → Starts next p (ws ++ (w ∷ vs))
          → (ms : List Module) (f : Exp) (l : ℕ) → DerivesSheet l (ws ++ (w ∷ vs)) ms f → ⊥
      more ws vs w e d st [] f l g =
          let i = (part-once an_exp (ws ++ (w ∷ vs)) ws [] (w ∷ vs) (append-nil (ws ++ (w ∷ vs))) l levels f e g d).0 in
          cons≢nil (append_cancel_left ws (w ∷ vs) [] (i ∙ sym (append-nil ws)))
      more ws vs w e d st (m ∷ ms) f l g = let t = starts-module p (ws ++ (w ∷ vs)) g.0 g.1 st g.2
          (m, suc (suc l), g.3) in none-some t.0 (sym nm ∙ t.1)

      go : (e : Exp) (q : ℕ) → PartRead next n levels an_exp u p e q → (st : Step) → next q ≡ st
          → Five next LangS NoSheet p (ended st (record { modules = []; closing = e }))
      go e q h (end z) i = tt
      go e q h (fault k z) i = λ five. absurd (lawful q k z i five)
      go e q h (word w z) i = λ five. (
        h.0,
        q,
        h.1,
        ([], ([], e, levels, subst (λ z. Derives levels an_exp z e) (sym (append-nil h.0)) h.2)),
        subst (λ st. Stops st (place_of w) (λ us. NoSheet (h.0 ++ us))) (sym i) (
          refl,
          λ vs s. more h.0 vs w e h.2
              (along-starts p q z w h.0 vs h.1 i) s.0 s.1 s.2 s.3,
        ),
      )

  sheet-five : (modules n u p : ℕ) → Five next LangS NoSheet p (sheet_from modules next n u p)
  unfolding sheet_from
  sheet-five zero n u p = go (begins_module (next p)) refl
    where
      go : (o : Option ℕ) → begins_module (next p) ≡ o → Five next LangS NoSheet p (or_else o (λ at. bad 7 at) (closed next n u p))
      go none i = closed-five n u p i
      go (some at) i = λ five. absurd (omega arith)
  sheet-five (suc modules) n u p = go (begins_module (next p)) refl _ (λ at b.
      five-bind next (Lang a_module) LangS NoSheet p (PartRead next n (suc (suc levels)) a_module u p)
      (read_part (suc (suc levels)) next n a_module u p) _
      (part-five next lawful (suc (suc levels)) n a_module u p) (part_sound (suc (suc levels)) next n a_module u p)
      (λ xs h. more xs h)
      (λ zs st h s. lift at b zs st h s.0 s.1 s.2 s.3)
      (λ m q h. five-after next LangS NoSheet LangS NoSheet p q h.0 h.1
      (λ vs s. into h.0 m h.2 vs s)
      (λ zs f s. later h.0 m h.2 zs f s.0 s.1 s.2 s.3)
      _ (five-done next LangS NoSheet q (sheet_from modules next n (u + (inner_m m + 1)) q) (add_module m)
      (sheet-five modules n (u + (inner_m m + 1)) q))))
    where
      more : (xs : List Word) → Lang a_module xs → (ys : List Word) × LangS (xs ++ ys)
      more xs h =
          let t = sample_s an_exp in
          let l = max h.1 t.1.1 in (
            t.0,
            (
              h.0 ∷ [],
              t.1.0,
              l,
              (
                xs,
                t.0,
                refl,
                derives-more h.1 (suc (suc l)) (omega arith) a_module xs h.0 h.2,
                derives-more t.1.1 l (omega arith) an_exp t.0 t.1.0 t.1.2,
              ),
            ),
          )

      lift : (at : ℕ) → begins_module (next p) ≡ some at → (zs : List Word) → Starts next p zs → Fails (Lang a_module) zs
          → (ms : List Module) (e : Exp) (l : ℕ) → DerivesSheet l zs ms e → ⊥
      lift at b zs st h [] e l d = none-some at (sym (starts-exp p zs st (e, l, d)) ∙ b)
      lift at b zs st h (m ∷ ms) e l d = h d.0 d.1 (m, suc (suc l), d.3) (sym d.2)

      into : (ws : List Word) (m : Module) → Derives (suc (suc levels)) a_module ws m → (vs : List Word) → LangS vs → LangS (ws ++ vs)
      into ws m d vs s =
          let l = max levels s.2 in (
            m ∷ s.0,
            s.1,
            l,
            (
              ws,
              vs,
              refl,
              derives-more (suc (suc levels)) (suc (suc l)) (omega arith) a_module ws m d,
              sheet-more
                  s.2 l (omega arith) s.0 vs s.1 s.3,
            ),
          )

      later : (ws : List Word) (m : Module) → Derives (suc (suc levels)) a_module ws m → (zs : List Word) → NoSheet zs
          → (ms : List Module) (e : Exp) (l : ℕ) → DerivesSheet l (ws ++ zs) ms e → ⊥
      later ws m d zs f [] e l g = apart (ws ++ zs) ws [] zs (append-nil (ws ++ zs)) (e, l, g) (m, suc (suc levels), d)
      later ws m d zs f (n ∷ ms) e l g =
          let i : g.0 ≡ ws = (part-once a_module g.0 ws g.1 zs (sym g.2) (suc (suc l)) (suc (suc levels)) n m g.3 d).0 in
          let j : g.1 ≡ zs = append_cancel_left ws g.1 zs (ap (λ z. z ++ g.1) (sym i) ∙ sym g.2) in
          f (ms, e, l, subst (λ z. DerivesSheet l z ms e) j g.4)

      go : (o : Option ℕ) → begins_module (next p) ≡ o → (t : Out Sheet) → ((at : ℕ) → begins_module (next p) ≡ some at
          → Five next LangS NoSheet p t) → Five next LangS NoSheet p (or_else o (λ at. t) (closed next n u p))
      go none i t f = closed-five n u p i
      go (some at) i t f = f at i

-- THE FAULTS OF WORDS are others than 5
abbrev Others : Reading → Type 0
Others words.end = Unit {0}
Others (words.word k p w) = Unit {0}
Others (words.fault k p) = k ≡ 5 → ⊥

others-cond : (b : Bool) (x y : Reading) → Others x → Others y → Others (cond b x y)
others-cond true x y h k = h
others-cond false x y h k = k

others-figured : (p s n : ℕ) (bs : List ℕ) → Others (figured p s n bs)
others-figured p s n bs = others-cond (is_letter (class_of (get_or bs (s + n) 0))) _ _ (λ i. omega arith)
    (others-cond (leb (value (take n (drop s bs))) largest) _ (words.fault 4 p) tt (λ i. omega arith))

others-marked : (p : ℕ) (o : Maybe Mark) → Others (marked p o)
others-marked p (Some m) = tt
others-marked p None = λ i. omega arith

others-begins : (c : Class) (p : ℕ) (bs : List ℕ) → Others (begins c p bs)
others-begins class.Letter p bs = others-cond (leb (length (take (words.name_run bs) bs)) 16) _ (words.fault 3 p) tt (λ i. omega arith)
others-begins class.Digit p bs = others-figured p 0 _ bs
others-begins class.Dash p bs = others-cond (is_digit (class_of (get_or bs 1 0))) _ _ (others-figured p 1 _ bs)
    (others-cond (eqb (get_or bs 1 0) 62) _ _ tt tt)
others-begins class.Mark p bs = others-marked p _
others-begins class.Query p bs = λ i. omega arith
others-begins class.Blank p bs = λ i. omega arith
others-begins class.Percent p bs = λ i. omega arith
others-begins class.None p bs = λ i. omega arith

others-first : (p : ℕ) (bs : List ℕ) → Others (first p bs)
others-first p [] = tt
others-first p (b ∷ bs) = others-begins (class_of b) p (b ∷ bs)

step_of-fault : (z : ℕ) (r : Reading) (k e : ℕ) → Others r → step_of z r ≡ fault k e → k ≡ 5 → ⊥
step_of-fault z words.end k e h i five = let x : ◌≡◌ {A = ℕ} 0 1 = cc in omega arith
step_of-fault z (words.word j p w) k e h i five = let x : ◌≡◌ {A = ℕ} 0 1 = cc in omega arith
step_of-fault z (words.fault j p) k e h i five = let x : j ≡ k = cc in h (x ∙ five)

steps-lawful : (text : List ℕ) (p k e : ℕ) → steps text p ≡ fault k e → k ≡ 5 → ⊥
unfolding steps scan
steps-lawful text p k e i five = step_of-fault (start text p) (scan text p) k e (others-first (start text p)
    (drop (start text p) text)) i five

-- THE LAW
pub refuses-first : RefusesFirst
unfolding reading
refuses-first n text e h = go (leb (length text) 32768) h
  where
    go : (b : Bool) → cond b (sheet_from 32 (steps text) n 0 0) (bad 1 32768) ≡ bad 5 e → Refused text e
    go true h =
        let s : Stuck (steps text) LangS NoSheet 0 e = (subst (Five (steps text) LangS NoSheet 0) h (sheet-five (steps text)
        (steps-lawful text) 32 n 0 0)) refl in
        let v = s.3.1 in
        record {
          before = s.0;
          at = s.1;
          along = s.2;
          begins = (
            s.3.0,
            record { modules = v.0; closing = v.1 },
            (sheet-back v.2 (s.0 ++ s.3.0)
                (record { modules = v.0; closing = v.1 }) v.3).0,
          );
          stops = stops-map (steps text s.1) e (λ us. NoSheet (s.0 ++ us)) (λ us. (t : Sheet) → SheetWords (s.0 ++ us) t → ⊥)
              (λ us f g t d. g (t.modules, t.closing, levels_s t, sheet-derives (levels_s t) (s.0 ++ us) t d (omega arith))) s.4;
        }
    go false h = let x : ◌≡◌ {A = ℕ} 0 1 = cc in absurd (omega arith)
