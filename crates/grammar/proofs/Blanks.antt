-- A table whose first places are blank.
use Rattle.std.proofs.Common.{◌≡◌, ℕ, min, List, [], ◌++◌, length, drop, replicate, sym, ap, ◌∙◌, subst, ⊎_elim, arith, length-append, length-drop}
use lib.ListN.{length-replicate}
use lib.Seq.{drop-append_seam}
use Rattle.std.proofs.lemmas.List.{drop_all}
use Rattle.std.proofs.lemmas.Bool.{cases_lt}
use Rattle.grammar.specs.declared.tree.Node.{Node}
use Rattle.grammar.specs.declared.tree.Node.TheVariants as node
use Rattle.grammar.specs.Read.{limit_of, blanked}

drop-limit : (ns : List Node) → drop (limit_of ns) ns ≡ drop 65535 ns
drop-limit ns =
    ⊎_elim
    (λ h. let i : limit_of ns ≡ length ns = omega arith in rw i (drop_all (length ns) ns (omega arith)
    ∙ sym (drop_all 65535 ns (omega arith))))
    (λ h. let i : limit_of ns ≡ 65535 = omega arith in rw i)
    (cases_lt (length ns) 65535)

pub fill-all : (i : ℕ) (ns : List Node) → i ≡ limit_of ns → replicate i node.Blank ++ drop i ns ≡ blanked ns
unfolding blanked
fill-all i ns e = rw e (ap (λ z. replicate (limit_of ns) node.Blank ++ z) (drop-limit ns))

pub length-blanked : (ns : List Node) → length (blanked ns) ≡ length ns
unfolding blanked
length-blanked ns = omega (
  arith,
  length-append (replicate (limit_of ns) node.Blank) (drop 65535 ns),
  length-replicate
      (limit_of ns) node.Blank,
  length-drop 65535 ns,
)

pub drop-blanked : (ns : List Node) → drop 65535 (blanked ns) ≡ drop 65535 ns
unfolding blanked
drop-blanked ns =
    ⊎_elim
    (λ h.
    let i : drop 65535 ns ≡ [] = drop_all 65535 ns (omega arith) in
    rw i (drop_all 65535 (replicate (limit_of ns) node.Blank ++ []) (omega (
      arith,
      length-append (replicate (limit_of ns) node.Blank) [],
      length-replicate (limit_of ns) node.Blank,
    ))))
    (λ h.
    let i : length (replicate (limit_of ns) node.Blank) ≡ 65535 = omega (arith, length-replicate (limit_of ns) node.Blank) in
    subst (λ k. drop k (replicate (limit_of ns) node.Blank ++ drop 65535 ns)
    ≡ drop 65535 ns) i (drop-append_seam (replicate (limit_of ns) node.Blank) (drop 65535 ns)))
    (cases_lt (length ns) 65535)

-- tables that are as long and the same behind the limit have the same blanks
pub same-blanked : (ms ns : List Node) → length ms ≡ length ns → drop 65535 ms ≡ drop 65535 ns → blanked ms ≡ blanked ns
unfolding blanked
same-blanked ms ns e h = ap (λ k. replicate (min k 65535) node.Blank ++ drop 65535 ms) e
    ∙ ap (λ z. replicate (limit_of ns) node.Blank ++ z) h
