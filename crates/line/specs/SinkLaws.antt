-- What a sink takes after another text, it takes of both texts: for a sink that counts, and for one that fills a buffer.
use Rattle.std.proofs.Common.{◌≡◌, ℕ, ◌+◌, ◌≤◌, List, ◌++◌, length, take, drop, refl, sym, ap, ◌∙◌, arith, length-append}
use lib.Seq.{paste}
use Rattle.std.proofs.lemmas.List.Edits.{paste_all, paste-paste}
use Rattle.line.specs.declared.buffer.Front.{Front}
use Rattle.line.specs.declared.sinks.Measure.{Measure}
use Rattle.line.specs.Sinks.{Counted, Filled}

pub counted-twice : (a b : List ℕ) (s t u : Measure) → Counted a s t → Counted b t u → Counted (a ++ b) s u
counted-twice a b s t u p q = tt

abbrev put_at : ℕ → List ℕ → List ℕ → List ℕ
put_at at bs xs = take at xs ++ (bs ++ drop (at + length bs) xs)

put-put : (at : ℕ) (a b xs : List ℕ) → at ≤ length xs → put_at (at + length a) b (put_at at a xs) ≡ put_at at (a ++ b) xs
put-put at a b xs h =
    let p : put_at at a xs ≡ paste xs at a (length a) = sym (paste_all xs at a (length a) refl) in
    let ys = put_at at a xs in
    sym (paste_all ys (at + length a) b (length b) refl)
    ∙ ap (λ zs. paste zs (at + length a) b (length b)) p
    ∙ paste-paste xs at a b (length a) (length b) refl refl h
    ∙ ap (paste xs at (a ++ b)) (sym (length-append a b))
    ∙ paste_all xs at (a ++ b) (length (a ++ b)) refl

pub filled-twice : (a b : List ℕ) (s t u : Front) → Filled a s t → Filled b t u → Filled (a ++ b) s u
filled-twice a b s t u p q =
    let l = length-append a b in
    record {
      same = q.same ∙ p.same;
      at = omega (arith, p.at, q.at);
      bytes = q.bytes ∙ rw (p.at, p.bytes) (put-put s.at a b s.buffer.now (omega arith));
    }
