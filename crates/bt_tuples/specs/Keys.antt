-- The keys of an item: that of its first entry and that of its last, which differ in their TIDs alone. Of a pivot both
-- are what it keeps.
use Rattle.std.specs.Prelude.{◌≡◌, ℕ, true, List, [], ◌∷◌, ◌++◌, Option, Some, Ok}
use Rattle.laws_search.specs.Keys.{Separator}
use Rattle.key_orders.specs.declared.columns.KeySpec.{KeySpec}
use Rattle.key_orders.specs.declared.columns.Value.{Value}
use Rattle.key_orders.specs.declared.more.MoreSpec.{MoreSpec}
use Rattle.key_orders.specs.declared.Tid.{Tid}
use Rattle.key_orders.specs.Separators.{separator_of}
use Rattle.key_attrs.specs.Keyed.{KeyValues}
use Rattle.bt_meta.specs.declared.records.HeadKind.{HeadKind}
use Rattle.bt_meta.specs.declared.records.HeadKind.TheVariants as head
use Rattle.bt_meta.specs.declared.records.TreeHead.{TreeHead}
use Rattle.bt_meta.specs.Heads.{tree_head_of}
use Rattle.bt_tuples.specs.declared.keys.ItemKeys.{ItemKeys}
use Rattle.bt_tuples.specs.Items.{Item, ItemFits, ItemOutcome, Pivot, Plain, Posting}
use Rattle.bt_tuples.specs.Rules.{is_pivot}
use Rattle.bt_tuples.specs.Tuples.{kept_tid, number_of, plain_tid, tids_in}

-- the first and the last TID of a list
abbrev pub first_or : Tid → List Tid → Tid
first_or t [] = t
first_or t (u ∷ us) = u

abbrev pub last_tid : Tid → List Tid → Tid
last_tid t [] = t
last_tid t (u ∷ us) = last_tid u us

abbrev pub no_tid : Tid
no_tid = record { block = 0; item = 0 }

abbrev pub key_with : List Value → Tid → Separator Value Tid
key_with key tid = record { kept = key; tid = Some tid }

abbrev pub first_key : Item → Separator Value Tid
first_key (Pivot sep down) = sep
first_key (Plain key more tid killed) = key_with key tid
first_key (Posting key tids killed) = key_with key (first_or no_tid tids)

abbrev pub last_key : Item → Separator Value Tid
last_key (Pivot sep down) = sep
last_key (Plain key more tid killed) = key_with key tid
last_key (Posting key tids killed) = key_with key (last_tid no_tid tids)

-- the keys are those of the item that is read, whose values fit the columns
pub record HasKeys (specs : List KeySpec) (outcome : ItemOutcome) (keys : ItemKeys) : Type 0 where
  pub item : Item
  pub is : outcome ≡ Ok item
  pub fits : ItemFits specs item
  pub first : separator_of keys.first ≡ first_key item
  pub last : record { kept = keys.first.kept; tid = keys.last } ≡ last_key item

-- The key of a tuple

-- its first and its last TID
abbrev pub first_tid_in : HeadKind → List ℕ → Option Tid
first_tid_in head.Pivot tuple = kept_tid tuple
first_tid_in head.Plain tuple = Some (plain_tid (tree_head_of tuple))
first_tid_in head.Posting tuple = Some (first_or no_tid (tids_in tuple))

abbrev pub last_tid_in : HeadKind → List ℕ → Option Tid
last_tid_in head.Pivot tuple = kept_tid tuple
last_tid_in head.Plain tuple = Some (plain_tid (tree_head_of tuple))
last_tid_in head.Posting tuple = Some (last_tid no_tid (tids_in tuple))

-- how many values of the key a tuple has, in an index of so many key columns
abbrev pub count_by : HeadKind → TreeHead → (columns : ℕ) → ℕ
count_by head.Pivot h columns = number_of h
count_by head.Plain h columns = columns
count_by head.Posting h columns = columns

abbrev pub key_count : TreeHead → (columns : ℕ) → ℕ
key_count h columns = count_by h.kind h columns

-- the values are told, and those of the key are the first; a pivot has no others, nor has any tuple of an index that
-- includes no columns
pub record BeginsWithKey (more : List MoreSpec) (kind : HeadKind) (told : KeyValues) (key : List Value) : Type 0 where
  pub rest : List Value
  pub is : told ≡ Ok (key ++ rest)
  pub kept : is_pivot kind ≡ true → rest ≡ []
  pub alone : more ≡ [] → rest ≡ []
