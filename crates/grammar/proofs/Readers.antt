-- Where a reader is, step by step.
use Rattle.std.proofs.Common.{◌≡◌, ℕ, min, List, ◌∙◌}
use Rattle.grammar.specs.declared.tree.Node.{Node}
use Rattle.grammar.specs.declared.reader.Reader.{Reader}
use Rattle.grammar.specs.Laying.{State}
use Rattle.grammar.specs.Readers.{Kept}

-- a table as long as it was has the same limit
pub state-long : (text : List ℕ) (m n at used : ℕ) (ns : List Node) → m ≡ n
    → ◌≡◌ {A = State} (record { text = text; limit = min m 65535; at = at; used = used; table = ns })
    (record { text = text; limit = min n 65535; at = at; used = used; table = ns })
state-long text m n at used ns e = λ i. record { text = text; limit = min (e i) 65535; at = at; used = used; table = ns }

-- the same text
pub state-text : (text text' : List ℕ) (n at used : ℕ) (ns : List Node) → text' ≡ text
    → ◌≡◌ {A = State} (record { text = text'; limit = n; at = at; used = used; table = ns })
    (record { text = text; limit = n; at = at; used = used; table = ns })
state-text text text' n at used ns e = λ i. record { text = e i; limit = n; at = at; used = used; table = ns }

pub kept_then : (s t u : Reader) → Kept s t → Kept t u → Kept s u
kept_then s t u h k = record { same = k.same ∙ h.same; long = k.long ∙ h.long; behind = k.behind ∙ h.behind }
