-- Derivations by the table of productions, within so many levels: what the laws' proofs go by. The grammar itself is stated in Grammar.
-- Assumes nothing.
use Rattle.std.specs.Prelude.{◌≡◌, ℕ, zero, suc, List, [], ◌∷◌, ◌++◌}
use Rattle.std.proofs.Math.Option.{some}
use Rattle.words.specs.declared.marks.Mark.TheVariants as mk
use Rattle.grammar.specs.Syntax.{Exp, Module}
use Rattle.grammar.specs.Productions.{Word, mark, place_of, Held, takes, Sort, an_exp, a_module, Part, Symbol, one, part, parts, Values}
use Rattle.grammar.specs.Productions.{Form, first, rest, build}
use Rattle.grammar.specs.Reading.{Source, word, end}

-- the words that a source gives from the place p up to the place q
abbrev pub Along : Source → ℕ → ℕ → List Word → Type 0
Along next p q [] = p ≡ q
Along next p q (w ∷ ws) = (m : ℕ) × (next p ≡ word w m) × Along next m q ws

-- all words of a source from the place p on: it ends behind them, at the place e
abbrev pub Spells : Source → ℕ → List Word → ℕ → Type 0
Spells next p ws e = (q : ℕ) × Along next p q ws × (next q ≡ end e)

-- parts of one sort, and a `]` behind them
abbrev pub Many : {A : Type 0} → (List Word → A → Type 0) → List Word → List A → Type 0
Many D ws [] = (at : ℕ) × (ws ≡ mark at mk.End ∷ [])
Many D ws (a ∷ r) = (xs : List Word) × (ys : List Word) × (ws ≡ xs ++ ys) × D xs a × Many D ys r

-- symbols in order, one word list behind the other
abbrev pub InOrder : ((s : Sort) → List Word → Part s → Type 0) → (ss : List Symbol) → List Word → Values ss → Type 0
InOrder D [] ws v = ws ≡ []
InOrder D (one m ∷ ss) ws v = (w : Word) × (ys : List Word) × (ws ≡ w ∷ ys) × (takes m w ≡ some v.0) × InOrder D ss ys v.1
InOrder D (part s ∷ ss) ws v = (xs : List Word) × (ys : List Word) × (ws ≡ xs ++ ys) × D s xs v.0 × InOrder D ss ys v.1
InOrder D (parts s ∷ ss) ws v = (xs : List Word) × (ys : List Word) × (ws ≡ xs ++ ys) × Many (D s) xs v.0 × InOrder D ss ys v.1

-- a part by one of its forms: its first word, and its symbols behind that
pub record Formed (D : (s : Sort) → List Word → Part s → Type 0) (s : Sort) (ws : List Word) (a : Part s) : Type 0 where
  pub form : Form s
  pub has : Held (first s form)
  pub values : Values (rest s form)
  pub head : Word
  pub behind : List Word
  pub all : ws ≡ head ∷ behind
  pub begins : takes (first s form) head ≡ some has
  pub goes : InOrder D (rest s form) behind values
  pub gives : a ≡ build s (place_of head) form has values

-- the words derive the part, which nests at most so many levels
unfoldable pub Derives : ℕ → (s : Sort) → List Word → Part s → Type 0
Derives zero s ws a = ⊥
Derives (suc l) s ws a = Formed (Derives l) s ws a

-- modules, and the closing expression behind them; types and expressions nest at most l levels, and a module stands two above them
abbrev pub DerivesSheet : ℕ → List Word → List Module → Exp → Type 0
DerivesSheet l ws [] e = Derives l an_exp ws e
DerivesSheet l ws (m ∷ ms) e = (xs : List Word) × (ys : List Word) × (ws ≡ xs ++ ys) × Derives (suc (suc l)) a_module xs m
    × DerivesSheet l ys ms e
