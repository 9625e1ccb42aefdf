-- What a pantry means to the language: its entries, what a fetch gives, and the law that every pantry keeps.
use Rattle.std.specs.Prelude.{◌≡◌, ℕ, ◌≤◌, Bool, true, false, cond, not, ◌&&◌, List, [], ◌∷◌, map, length, ℤ, nat_le, unsigned_abs}
use Rattle.std.proofs.Math.Option.{Option, none, some}
use Rattle.std.proofs.Math.ListN.{get_elem?}
use Rattle.words.specs.Names.{Name, is_name, is_keyword}
use Rattle.language.specs.Names.{Binding, bind, distinct}

-- entries are numbered from 0
abbrev pub EntryNumber : Type 0
EntryNumber = ℕ

-- a figure, a flag, or a procedure from item numbers to either
pub data Kind : Type 0 where
  figure_kind flag_kind figure_by_item flag_by_item : Kind

-- what an entry gives
pub data Reply : Type 0 where
  figure_reply : ℤ → Reply
  flag_reply : Bool → Reply

-- an entry: its name, its kind, and its reply to each argument; none where it has none
pub record Entry : Type 0 where
  pub name : Name
  pub kind : Kind
  pub reply : ℤ → Option Reply

-- a pantry is its entries in order
abbrev pub Pantry : Type 0
Pantry = List Entry

-- the greatest size of a figure
abbrev pub max_magnitude : ℕ
max_magnitude = 2000000000

-- the figure is of a size that is allowed
abbrev pub in_range : ℤ → Bool
in_range z = nat_le (unsigned_abs z) max_magnitude

-- the reply of an entry that may be missing
abbrev pub reply_of : Option Entry → ℤ → Option Reply
reply_of none z = none
reply_of (some e) z = e.reply z

-- what entry i gives for z: nothing if there is no such entry or z is too large
abbrev pub fetch : Pantry → EntryNumber → ℤ → Option Reply
fetch p i z = cond (in_range z) (reply_of (get_elem? p i) z) none

-- the names and kinds of a pantry: all that a check of a sheet uses
abbrev pub Stock : Type 0
Stock = List (Binding Kind)

-- what a check sees of an entry
abbrev pub name_and_kind : Entry → Binding Kind
name_and_kind e = bind e.name e.kind

-- what it sees of a pantry
abbrev pub stock_of : Pantry → Stock
stock_of p = map name_and_kind p

-- ── the law ──

-- a reply of that kind
abbrev pub ReplyFits : Kind → Reply → Type 0
ReplyFits figure_kind (figure_reply z) = Unit {0}
ReplyFits figure_kind (flag_reply b) = ⊥
ReplyFits flag_kind (figure_reply z) = ⊥
ReplyFits flag_kind (flag_reply b) = Unit {0}
ReplyFits figure_by_item (figure_reply z) = Unit {0}
ReplyFits figure_by_item (flag_reply b) = ⊥
ReplyFits flag_by_item (figure_reply z) = ⊥
ReplyFits flag_by_item (flag_reply b) = Unit {0}

-- is it a procedure from item numbers?
abbrev pub by_item : Kind → Bool
by_item figure_kind = false
by_item flag_kind = false
by_item figure_by_item = true
by_item flag_by_item = true

-- each entry replies as its kind says: of the law, this much is needed for safety
abbrev pub RepliesByKind : Pantry → Type 0
RepliesByKind p = (i : EntryNumber) (e : Entry) (z : ℤ) (a : Reply) → get_elem? p i ≡ some e → fetch p i z ≡ some a → ReplyFits e.kind a

-- an entry's name
abbrev pub entry_name : Entry → Name
entry_name e = e.name

-- the words have such a name, and it is no keyword
abbrev pub lawful_name : Name → Bool
lawful_name x = is_name x && not (is_keyword x)

-- so have they all
abbrev pub lawful_names : List Name → Bool
lawful_names [] = true
lawful_names (x ∷ xs) = lawful_name x && lawful_names xs

-- The law of pantries: at most 64 entries, under lawful names of which no two are the same; replies of the entry's kind, with figures of
-- a size that is allowed; and from a plain figure or flag one and the same reply for every argument in range.
pub record Lawful (p : Pantry) : Type 0 where
  pub few : length p ≤ 64
  pub apart : distinct (map entry_name p) ≡ true
  pub named : lawful_names (map entry_name p) ≡ true
  pub by_kind : RepliesByKind p
  pub figures_in_range : (i : EntryNumber) (z y : ℤ) → fetch p i z ≡ some (figure_reply y) → in_range y ≡ true
  pub plain_reply : (i : EntryNumber) (e : Entry) → get_elem? p i ≡ some e → by_item e.kind ≡ false →
      (a : Reply) × ((z : ℤ) → in_range z ≡ true → fetch p i z ≡ some a)
