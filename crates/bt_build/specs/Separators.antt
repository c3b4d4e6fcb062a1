-- The separators of neighbouring entries.
use Rattle.std.specs.Prelude.{ℕ, zero, suc, List, [], ◌∷◌, take, drop, Option, Some, None, unwrap_or}
use Rattle.laws_search.specs.Keys.{Separator}
use Rattle.key_orders.specs.declared.columns.KeySpec.{KeySpec}
use Rattle.key_orders.specs.declared.columns.Value.{Value}
use Rattle.key_orders.specs.declared.Tid.{Tid}
use Rattle.bt_image.specs.Image.{LeafEntry, minus_infinity}
use Rattle.page_write.specs.declared.index_tuples.Kept.{Kept}
use Rattle.laws_built_index.specs.Items.{pivot_item}
use Rattle.laws_built_index.specs.Sizes.{splitter_of}

abbrev pub split_of : List KeySpec → LeafEntry → LeafEntry → Separator Value Tid
split_of specs d e = (splitter_of specs).split_key d.entry e.entry

-- so many first values of an entry, and perhaps a TID
abbrev pub front_of : LeafEntry → Kept → Separator Value Tid
front_of e kept = record { kept = take kept.count e.entry.values; tid = kept.tid }

-- the separator of the first two
abbrev pub first_split : List KeySpec → List LeafEntry → Option (Separator Value Tid)
first_split specs [] = None
first_split specs (d ∷ []) = None
first_split specs (d ∷ e ∷ es) = Some (split_of specs d e)

-- the separator of entry j and the one before it; there is none before the first, and none behind the last
abbrev pub split_before : List KeySpec → List LeafEntry → (j : ℕ) → Option (Separator Value Tid)
split_before specs es zero = None
split_before specs es (suc i) = first_split specs (drop i es)

-- its bytes with a downlink; where there is none, those of one that keeps nothing
abbrev pub split_item : List KeySpec → List LeafEntry → (j down : ℕ) → List ℕ
split_item specs es j down = pivot_item specs down (unwrap_or (split_before specs es j) minus_infinity)
