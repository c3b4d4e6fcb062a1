-- The order of places: that of the keys that lie there, and of TIDs where keys are equal. The numbers of keys tell most
-- of them apart. And the places of entries that are too large.
use Rattle.std.specs.Prelude.{◌+◌, ℕ, Bool, List, length, map, drop, nat_lt}
use Rattle.std.specs.List.{filter}
use Rattle.std.specs.Ordering.{is_lt, nat_cmp, ordering_then}
use Rattle.std.specs.declared.cmp.Ordering.{Ordering}
use Rattle.laws_search.specs.Keys.{compare_values}
use Rattle.key_orders.specs.declared.columns.KeySpec.{KeySpec}
use Rattle.key_orders.specs.declared.columns.Value.{Value}
use Rattle.key_orders.specs.declared.Tid.{Tid}
use Rattle.key_orders.specs.Keys.{columns_of, tid_order}
use Rattle.page_write.specs.Tuples.{index_size}
use Rattle.key_storage.specs.Stored.{values_read}
use Rattle.bt_build.specs.declared.entries.Place.{Place}

-- the TID of a place's entry
abbrev pub tid_of : Place → Tid
tid_of p = record { block = p.block; item = p.item }

-- the first values at a place, behind the byte that counts them
abbrev pub first_values : (columns : ℕ) → (arena : List ℕ) → (at : ℕ) → List Value
first_values n arena at = values_read n (drop (at + 1) arena)

abbrev pub key_order_at : List KeySpec → (arena : List ℕ) → (a b : ℕ) → Ordering
key_order_at specs arena a b =
    compare_values (columns_of specs) 0 (first_values (length specs) arena a) (first_values (length specs) arena b)

abbrev pub place_order : List KeySpec → (arena : List ℕ) → Place → Place → Ordering
place_order specs arena p q =
    ordering_then (nat_cmp p.prefix q.prefix)
    (ordering_then (key_order_at specs arena p.at q.at) (tid_order (tid_of p) (tid_of q)))

abbrev pub is_below : List KeySpec → (arena : List ℕ) → Place → Place → Bool
is_below specs arena p q = is_lt (place_order specs arena p q)

-- as an item of its own the entry of a place would have more than 2704 bytes (BTMaxItemSize)
abbrev pub is_large : Place → Bool
is_large p = nat_lt 2704 (index_size p.body_length)

abbrev pub large_tids : List Place → List Tid
large_tids places = map tid_of (filter is_large places)
