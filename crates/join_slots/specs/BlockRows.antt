-- Rows of a block that are kept at once, in slots one after another.
use Rattle.std.specs.Prelude.{◌≡◌, ◌+◌, ◌-◌, ◌<◌, ◌≤◌, ◌&&◌, Bool, ℕ, List, Option}
use Rattle.std.specs.Prelude.{cond, get_or, length, nat_le, nat_lt, slice_get}
use Rattle.key_orders.specs.declared.columns.Value.{Value}
use Rattle.join_slots.specs.Slots.{key_of}

-- from this slot on lie those of a block's first so many line pointers
pub record AreSlots (first : ℕ) (starts : List ℕ) (block count slot : ℕ) : Type 0 where
  pub low : first ≤ block
  pub high : block - first + 1 < length starts
  pub slot_is : slot ≡ get_or starts (block - first) 0
  pub fits : slot + count ≤ get_or starts (block - first + 1) 0

-- so many slots have no row
abbrev pub AreFree : List ℕ → ℕ → ℕ → Type 0
AreFree records slot count = (i : ℕ) → i < count → get_or records (slot + i) 0 ≡ 0

-- the key at a slot
abbrev pub key_at : List ℕ → List ℕ → ℕ → Option (List Value)
key_at records arena k = key_of arena (get_or records k 0)

-- one of so many slots
abbrev pub is_among : ℕ → ℕ → ℕ → Bool
is_among slot count k = nat_le slot k && nat_lt k (slot + count)

-- the keys at slots, with the first so many rows from a slot on
abbrev pub rows_at : List ℕ → List ℕ → ℕ → List (List Value) → ℕ → ℕ → Option (List Value)
rows_at records arena slot rows count k =
    cond (is_among slot count k) (slice_get rows (k - slot)) (key_at records arena k)
