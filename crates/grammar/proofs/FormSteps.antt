-- One step of a form, as it is read and laid.
use Rattle.std.proofs.Common.{◌≡◌, ℕ, suc, ◌+◌, Bool, true, false, cond, ltb, List, set, sym, refl, arith}
use Rattle.language.specs.declared.spans.Span.{Span}
use Rattle.grammar.specs.declared.tree.Node.{Node}
use Rattle.grammar.specs.Syntax.{Name, places}
use Rattle.grammar.specs.Productions.{Single, Held, Sort, Part, inner, a_name}
use Rattle.grammar.specs.Reading.{Out, bad, good, bind, room, steps, single, many, read_part}
use Rattle.grammar.specs.Table.{span_of, lay_of}
use Rattle.grammar.specs.Laying.{State, Outcome, refused, done, after, M, lay, lifted, part_laid, word_m, name_m, place_m, part_m, many_f}
use Rattle.grammar.specs.Laying.{many_m}
use Rattle.grammar.specs.Readers.{moved}

-- the state behind a part
abbrev pub behind_part : (s : Sort) → State → Part s → ℕ → State
behind_part s v a q = record {
  text = v.text;
  limit = v.limit;
  at = q;
  used = v.used + (inner s a + 1);
  table = lay s v.used a
      v.table;
}

-- the state behind a list of parts
abbrev pub behind_parts : (s : Sort) → State → List (Part s) → ℕ → State
behind_parts s v r q = record {
  text = v.text;
  limit = v.limit;
  at = q;
  used = v.used + places (inner s) r;
  table = lay_of (inner s)
      (lay s) v.used r v.table;
}

-- The form is of the sort S and began in the state v0; the step begins in the state v. What follows is k, and where the step belongs
-- to a group of its own, first the rest f of the group.
module _ (S : Sort) (v0 : State) where
  part_step : (v : State) (s : Sort) (K : Part s → ℕ → Out (Part S)) (G : Outcome ℕ → Outcome ℕ) → ((k e : ℕ) → G (refused k e)
      ≡ refused k e)
      → ((a : Part s) (q : ℕ) → part_laid S (K a q) v0 ≡ G (done (v.used + inner s a) (behind_part s v a q)))
      → (o : Out (Part s)) → part_laid S (bind o K) v0 ≡ G (part_laid s o v)
  part_step v s K G z h (bad k e) = sym (z k e)
  part_step v s K G z h (good a q) = h a q

  pub part_then : (v : State) (s : Sort) (l : ℕ) (K : Part s → ℕ → Out (Part S)) (k : ℕ → M ℕ)
      → ((a : Part s) (q : ℕ) → part_laid S (K a q) v0 ≡ k (v.used + inner s a) (behind_part s v a q))
      → part_laid S (bind (read_part l (steps v.text) v.limit s v.used v.at) K) v0 ≡ after (part_m s l v) k
  unfolding part_m
  part_then v s l K k h = part_step v s K (λ o. after o k) (λ n e. refl) h _

  pub part_in : {A : Type 0} (v : State) (s : Sort) (l : ℕ) (K : Part s → ℕ → Out (Part S)) (f : ℕ → M A) (k : A → M ℕ)
      → ((a : Part s) (q : ℕ) → part_laid S (K a q) v0 ≡ after (f (v.used + inner s a) (behind_part s v a q)) k)
      → part_laid S (bind (read_part l (steps v.text) v.limit s v.used v.at) K) v0 ≡ after (after (part_m s l v) f) k
  unfolding part_m
  part_in v s l K f k h = part_step v s K (λ o. after (after o f) k) (λ n e. refl) h _

  word-step : {A B : Type 0} (v : State) (value : A → B) (K : A → ℕ → Out (Part S)) (G : Outcome B → Outcome ℕ)
      → ((k e : ℕ) → G (refused k e) ≡ refused k e)
      → ((a : A) (q : ℕ) → part_laid S (K a q) v0 ≡ G (done (value a) (moved v q)))
      → (o : Out A) → part_laid S (bind o K) v0 ≡ G (lifted o value (λ _. v.used) (λ _ ns. ns) v)
  word-step v value K G z h (bad k e) = sym (z k e)
  word-step v value K G z h (good a q) = h a q

  pub word-then : (v : State) (m : Single) (K : Held m → ℕ → Out (Part S)) (k : Unit → M ℕ)
      → ((x : Held m) (q : ℕ) → part_laid S (K x q) v0 ≡ k tt (moved v q))
      → part_laid S (bind (single m (steps v.text) v.at) K) v0 ≡ after (word_m m v) k
  unfolding word_m
  word-then v m K k h = word-step v (λ _. tt) K (λ o. after o k) (λ n e. refl) h _

  pub word-in : {A : Type 0} (v : State) (m : Single) (K : Held m → ℕ → Out (Part S)) (f : Unit → M A) (k : A → M ℕ)
      → ((x : Held m) (q : ℕ) → part_laid S (K x q) v0 ≡ after (f tt (moved v q)) k)
      → part_laid S (bind (single m (steps v.text) v.at) K) v0 ≡ after (after (word_m m v) f) k
  unfolding word_m
  word-in v m K f k h = word-step v (λ _. tt) K (λ o. after (after o f) k) (λ n e. refl) h _

  pub name-then : (v : State) (K : Name → ℕ → Out (Part S)) (k : Span → M ℕ)
      → ((x : Name) (q : ℕ) → part_laid S (K x q) v0 ≡ k (span_of x) (moved v q))
      → part_laid S (bind (single a_name (steps v.text) v.at) K) v0 ≡ after (name_m v) k
  unfolding name_m
  name-then v K k h = word-step v span_of K (λ o. after o k) (λ n e. refl) h _

  pub name_in : {A : Type 0} (v : State) (K : Name → ℕ → Out (Part S)) (f : Span → M A) (k : A → M ℕ)
      → ((x : Name) (q : ℕ) → part_laid S (K x q) v0 ≡ after (f (span_of x) (moved v q)) k)
      → part_laid S (bind (single a_name (steps v.text) v.at) K) v0 ≡ after (after (name_m v) f) k
  unfolding name_m
  name_in v K f k h = word-step v span_of K (λ o. after (after o f) k) (λ n e. refl) h _

  pub parts_then : (v : State) (s : Sort) (K : List (Part s) → ℕ → Out (Part S)) (k : Unit → M ℕ)
      → ((r : List (Part s)) (q : ℕ) → part_laid S (K r q) v0 ≡ k tt (behind_parts s v r q))
      → part_laid S (bind (many (suc v.limit) (inner s) (read_part 49 (steps v.text) v.limit s) (steps v.text) v.used
      v.at) K) v0 ≡ after (many_m s v) k
  unfolding many_m many_f
  parts_then v s K k h = go (many (suc v.limit) (inner s) (read_part 49 (steps v.text) v.limit s) (steps v.text) v.used
      v.at)
    where
      go : (o : Out (List (Part s))) → part_laid S (bind o K) v0
          ≡ after (lifted o (λ _. tt) (λ r. v.used + places (inner s) r) (lay_of (inner s) (lay s) v.used) v) k
      go (bad n e) = refl
      go (good r q) = h r q

  -- the node of the form
  pub place-last : (q u : ℕ) (ns : List Node) (a : Part S) (n : Node) (at : ℕ) → u ≡ v0.used + inner S a
      → lay S v0.used a v0.table ≡ set ns u n
      → part_laid S (room v0.limit u at a q) v0
      ≡ place_m n at (record { text = v0.text; limit = v0.limit; at = q; used = u; table = ns })
  unfolding place_m
  place-last q u ns a n at e h = go (ltb u v0.limit)
    where
      i : v0.used + (inner S a + 1) ≡ u + 1
      i = omega (arith, e)

      go : (b : Bool) → part_laid S (cond b (good a q) (bad 21 at)) v0
          ≡ lifted (cond b (good n q) (bad 21 at)) (λ _. u) (λ _. u + 1) (λ n ns. set ns u n)
          (record { text = v0.text; limit = v0.limit; at = q; used = u; table = ns })
      go true = λ j. done (sym e j) (record { text = v0.text; limit = v0.limit; at = q; used = i j; table = h j })
      go false = refl
