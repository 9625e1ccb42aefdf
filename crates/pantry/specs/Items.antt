-- What the item pantry means, from the records of its file. Assumes nothing.
use Rattle.std.specs.Prelude.{List, [], ◌∷◌, length, ℤ, pos, negsuc, Some, None, codes, Option, ◌==◌}
use Rattle.std.proofs.Math.Option.{Option as Maybe, none, some}
use Rattle.language.specs.Pantry.{Pantry, figure_kind, figure_by_item, flag_by_item, Reply, figure_reply, flag_reply}
use Rattle.pantry.specs.declared.records.Record.{Record}
use Rattle.pantry.specs.File.{first_with}

-- the record of the item that an argument names
abbrev pub record_for : List Record → ℤ → Option Record
record_for rs (pos n) = first_with n rs
record_for rs (negsuc n) = None

-- the figure of a record, if there is one
abbrev pub kcal_in : Option Record → Maybe Reply
kcal_in None = none
kcal_in (Some r) = some (figure_reply (pos r.kcal))

-- the flag of a record, if there is one
abbrev pub flag_in : Option Record → Maybe Reply
flag_in None = none
flag_in (Some r) = some (flag_reply (r.flag == 1))

-- the pantry over these records
abbrev pub item_pantry : List Record → Pantry
item_pantry rs =
    record { name = codes "kcal"; kind = figure_by_item; reply = λ z. kcal_in (record_for rs z) } ∷
    record { name = codes "allergen"; kind = flag_by_item; reply = λ z. flag_in (record_for rs z) } ∷
    record { name = codes "items"; kind = figure_kind; reply = λ z. some (figure_reply (pos (length rs))) } ∷ []
