-- How the entries are kept: the values of each lie in an arena, and a place says where.
use Rattle.std.specs.Prelude.{◌≡◌, ◌<◌, true, false, ℕ, List, ◌++◌, length, map, take, drop, min, All}
use Rattle.std.specs.declared.cmp.Ordering.TheVariants.{Less}
use Rattle.laws_search.specs.Keys.{compare_values}
use Rattle.key_orders.specs.declared.columns.ColType.{ColType}
use Rattle.key_orders.specs.declared.columns.KeySpec.{KeySpec}
use Rattle.key_orders.specs.declared.columns.Value.{Value}
use Rattle.key_orders.specs.declared.more.MoreSpec.{MoreSpec}
use Rattle.key_orders.specs.declared.Tid.{Tid}
use Rattle.key_orders.specs.Keys.{columns_of, fits_columns}
use Rattle.key_orders.specs.Prefixes.{IsPrefix}
use Rattle.key_storage.specs.Stored.{key_read}
use Rattle.key_storage.specs.RowLists.{LiesAt}
use Rattle.page_write.specs.Bodies.{index_body}
use Rattle.bt_image.specs.Image.{LeafEntry, leaf_entry}
use Rattle.laws_built_index.specs.Items.{MayBeLaid, entry_types}
use Rattle.bt_build.specs.declared.entries.Place.{Place}
use Rattle.bt_build.specs.Listed.{AreApart, AreColumns, Listed}
use Rattle.bt_build.specs.Places.{tid_of}

-- an entry of these values, of which the first are its key
abbrev pub entry_with : (columns : ℕ) → List Value → Tid → LeafEntry
entry_with n values tid = leaf_entry (take n values) (drop n values) tid false

abbrev pub entry_at : List KeySpec → (arena : List ℕ) → Place → LeafEntry
entry_at specs arena p = entry_with (length specs) (key_read (drop p.at arena)) (tid_of p)

abbrev pub entries_at : List KeySpec → (arena : List ℕ) → List Place → List LeafEntry
entries_at specs arena places = map (entry_at specs arena) places

abbrev pub listed_in : List KeySpec → List MoreSpec → (arena : List ℕ) → List Place → Listed
listed_in specs more arena places =
    record { specs = specs; more = more; entries = entries_at specs arena places }

-- the number of a key that fits its columns: where that of another is greater, so is the key
pub record HasPrefix (specs : List KeySpec) (key : List Value) (number : ℕ) : Type 0 where
  pub fits : fits_columns specs key ≡ true
  pub is : IsPrefix specs key number
  pub below : (other : List Value) (higher : ℕ) → IsPrefix specs other higher → number < higher
      → fits_columns specs other ≡ true → compare_values (columns_of specs) 0 key other ≡ Less

-- how many bytes the body of an entry has, or 65535 where it has more
abbrev pub told_length : List KeySpec → List MoreSpec → LeafEntry → ℕ
told_length specs more e = min 65535 (length (index_body (entry_types specs more) (e.entry.values ++ e.more)))

-- the entry of a place lies there, has its number and its length, and may be laid
pub record IsKept (specs : List KeySpec) (more : List MoreSpec) (arena : List ℕ) (p : Place) : Type 0 where
  pub lies : LiesAt arena p.at
  pub prefix : HasPrefix specs (entry_at specs arena p).entry.values p.prefix
  pub length_is : p.body_length ≡ told_length specs more (entry_at specs arena p)
  pub laid : MayBeLaid specs more (entry_at specs arena p)

pub record AreKept (specs : List KeySpec) (more : List MoreSpec) (types : List ColType) (arena : List ℕ)
    (places : List Place) : Type 0 where
  pub columns : AreColumns specs more
  pub types_are : types ≡ entry_types specs more
  pub each : All (IsKept specs more arena) places
  pub apart : AreApart (entries_at specs arena places)
