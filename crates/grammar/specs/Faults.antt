-- What each fault tells: its number, its place and its layer. Assumes nothing.
use Rattle.std.specs.Prelude.{ℕ, List, codes, cond, Some, None, Ok, Err, Option, Result, nat_le}
use Rattle.words.specs.Shown as words
use Rattle.grammar.specs.declared.faults.Layer.{Layer}
use Rattle.grammar.specs.declared.faults.Layer.TheVariants as in-layer
use Rattle.grammar.specs.declared.faults.Fault.{Fault}
use Rattle.grammar.specs.declared.faults.Fault.TheVariants.{Word, Unexpected, TooDeep, TooManyModules, TreeFull}

-- a layer's name, as it is printed
abbrev pub layer_name : Layer → List ℕ
layer_name in-layer.Words = codes "words"
layer_name in-layer.Grammar = codes "grammar"

-- what a refusal tells
pub record Refusal : Type 0 where
  pub number : ℕ
  pub place : ℕ
  pub layer : Layer

-- each fault with its number, its place and its layer
abbrev pub refusal_of : Fault → Refusal
refusal_of (Word f) = record { number = words.number_of f; place = words.place_of f; layer = in-layer.Words }
refusal_of (Unexpected at) = record { number = 5; place = at; layer = in-layer.Grammar }
refusal_of (TooDeep at) = record { number = 6; place = at; layer = in-layer.Grammar }
refusal_of (TooManyModules at) = record { number = 7; place = at; layer = in-layer.Grammar }
refusal_of (TreeFull at) = record { number = 21; place = at; layer = in-layer.Grammar }

-- a refusal by its number and place: the words' layer has 1 to 4
abbrev pub refusal : ℕ → ℕ → Refusal
refusal k at = record { number = k; place = at; layer = cond (nat_le k 4) in-layer.Words in-layer.Grammar }

-- the refusal that an answer tells, if any
abbrev pub told : {B : Type 0} → Result B Fault → Option Refusal
told (Ok x) = None
told (Err f) = Some (refusal_of f)
