-- The safety law, from what is known of a sheet that passed.
use Rattle.std.proofs.Common.{◌≡◌, ℕ, ◌⊎◌, List, ap, subst, inl, inr}
use Rattle.language.specs.Typing.{ExpandedType}
use Rattle.language.specs.Pantry.{Stock}
use Rattle.language.specs.Safety.{Passes}
use Rattle.language.proofs.Checks.{passes-computed}
use Rattle.language.proofs.Safe.{whole-safety}
use Rattle.grammar.specs.declared.tree.Node.{Node}
use Rattle.grammar.specs.Syntax.{Sheet}
use Rattle.grammar.specs.Plain.{plain}
use Rattle.grammar.specs.Plan.{plan_of}
use Rattle.grammar.specs.Read.{IsRead}
use Rattle.rules.specs.Checking.{checking}
use Rattle.rules.specs.Laws.{Typed, Passed, Exceeds}
use Rattle.rules.proofs.Passing.{passing-sound}
use Rattle.rules.proofs.Exchange.{exchanging-typed}
use Rattle.checker.specs.declared.passes.Pass.{Pass}
use Rattle.checker.specs.Passes.{sheet_read, sheet_in}
use Rattle.job.specs.Safety.{JobsSound, Exchanged, stock_for, type_for, SafeRuns}
use Rattle.job.proofs.Sheets.{planned}

-- the jobs of a sheet that was read and has a type
jobs-sound : (text : List ℕ) (nodes : List Node) (close : ℕ) → IsRead text nodes close → (stock : Stock) (r : ExpandedType) →
    Typed stock (sheet_in text) r → JobsSound (plan_of text nodes close) stock (plain (sheet_in text)) r
jobs-sound text nodes close read stock r typed =
    let passes : Passes stock (plain (sheet_in text)) r = record { typed = typed } in
    record {
      stands = (planned text nodes close read).stands;
      passes = passes;
      safe = (whole-safety stock (plain (sheet_in text)) r passes).0;
    }

exchanged : (stock : Stock) (sheet : Sheet) (r : ExpandedType) → Typed stock sheet r → Exchanged stock sheet r
exchanged stock sheet r typed text sheet' end e nodes close read x tp sp accepted fits =
    go (exchanging-typed stock tp sp sheet sheet' x r typed accepted)
  where
    there : sheet_in text ≡ sheet'
    there = ap sheet_read e

    go : Passed stock tp sp sheet' r ⊎ Exceeds (checking stock tp sp sheet') →
        Passed stock tp sp sheet' r × JobsSound (plan_of text nodes close) stock (plain sheet') r
    go (inl passed) =
        let new : Typed stock sheet' r = (passing-sound stock tp sp sheet' r _ passed).0 in
        let P : Sheet → Type 0 = λ s. Typed stock s r → JobsSound (plan_of text nodes close) stock (plain s) r in
        (passed, subst P there (jobs-sound text nodes close read stock r) new)
    go (inr exceeds) = absurd (fits exceeds)

pub safe-runs : (p : Pass) → SafeRuns p
safe-runs p =
    let text = p.sheet.text.now in
    let t = (passes-computed (stock_for p) (plain (sheet_in text)) (type_for p)).0 p.passes in
    record {
      sound = jobs-sound text p.sheet.tree.now p.sheet.close p.sheet.read (stock_for p) (type_for p) t.typed;
      exchanged = exchanged (stock_for p) (sheet_in text) (type_for p) t.typed;
      lawful = λ pantry l same. record { same_stock = same; by_kind = l.by_kind };
    }
