-- The indexes of the generated table: their entries in order, cut into leaves, and a root above them.
use Rattle.std.specs.Prelude.{◌≡◌, ℕ, pos, zero, suc, ◌+◌, ◌-◌, ◌*◌, Bool, true, ◌==◌, ◌&&◌, ◌||◌, nat_lt, List, []}
use Rattle.std.specs.Prelude.{◌∷◌, ◌++◌, if◌then◌else◌}
use Rattle.std.specs.Prelude.{length, map, filter, Option, Some, None, slice_index_or, nat_le}
use Rattle.std.specs.Ordering.{is_lt}
use Rattle.byteorder.specs.Endian.{little_bytes}
use Rattle.key_orders.specs.declared.columns.ColType.TheVariants.{Int4, Int8}
use Rattle.key_orders.specs.declared.columns.KeySpec.{KeySpec}
use Rattle.key_orders.specs.declared.columns.Value.{Value}
use Rattle.key_orders.specs.declared.columns.Value.TheVariants.{Int}
use Rattle.key_orders.specs.declared.Tid.{Tid}
use Rattle.key_orders.specs.Keys.{tid_order}
use Rattle.case_file.specs.Generated.{rising_key}
use Rattle.bt_meta.specs.declared.records.Meta.{Meta}
use Rattle.bt_meta.specs.declared.records.Opaque.{Opaque}
use Rattle.outside.specs.Adds.{each_below, one_list}
use Rattle.rel_build.specs.declared.rows.Row.{Row}
use Rattle.rel_build.specs.declared.trees.Key.{Key}
use Rattle.rel_build.specs.declared.trees.Key.TheVariants.{Id, Group}
use Rattle.page_write.specs.Pages.{meta_page, tree_page}
use Rattle.rel_build.specs.Rows.{pages_for, part_of, tid_of}
use Rattle.page_write.specs.Tuples.{fixed_width, pivot_tuple, plain_tuple}

-- The entries: one for each row, with the row's own TID. Rows of a lower number have lower TIDs.

-- the rows of one group, in the order of their numbers
abbrev pub rows_of_group : List Row → ℕ → List Row
rows_of_group rows group = filter (λ row. row.group == group) rows

-- the rows in the order of an index's entries: by its key, and rows of one key by their TIDs
unfoldable pub in_order : Key → List Row → List Row
in_order Id rows = rows
in_order Group rows = each_below one_list (rows_of_group rows) 100

-- the key of a row, and its bytes: `id` is an int8, `grp` an int4
abbrev pub key_of : Key → Row → ℕ
key_of Id row = row.id
key_of Group row = row.group

unfoldable pub key_bytes : Key → Row → List ℕ
key_bytes Id row = little_bytes 8 row.id
key_bytes Group row = little_bytes 4 row.group

unfoldable pub leaf_item : Key → Row → List ℕ
leaf_item key row = plain_tuple (tid_of row) fixed_width (key_bytes key row)

-- an entry is below another: by its key, or by its TID where the keys are one
unfoldable pub is_below : Key → Row → Row → Bool
is_below key a b =
    nat_lt (key_of key a) (key_of key b) || ((key_of key a == key_of key b) && is_lt (tid_order (tid_of a) (tid_of b)))

abbrev pub IsBelow : Key → Row → Row → Type 0
IsBelow key a b = is_below key a b ≡ true

-- Separators

-- the separator between the last entry on the left and the first one on the right: the key on the right, where it
-- differs, and else that key with the TID on the left
abbrev pub tid_between : Key → (left right : Row) → Option Tid
tid_between key left right = if key_of key left == key_of key right then Some (tid_of left) else None

unfoldable pub separator_item : Key → (down : ℕ) → (left right : Row) → List ℕ
separator_item key down left right = pivot_tuple down 1 (tid_between key left right) fixed_width (key_bytes key right)

-- some row, for a place past the end
abbrev pub no_row : Row
no_row = record { id = 0; group = 0 }

abbrev pub row_at : List Row → ℕ → Row
row_at rows k = slice_index_or rows k no_row

-- the separator before leaf k, counted from 0
abbrev pub separator_before : Key → List Row → (down k : ℕ) → List ℕ
separator_before key rows down k = separator_item key down (row_at rows (300 * k - 1)) (row_at rows (300 * k))

-- The leaves: 300 entries stand on each, and leaf k is block k + 1

abbrev pub leaves_for : List Row → ℕ
leaves_for rows = pages_for 300 (length rows)

-- leaf k is the last one
abbrev pub is_last : List Row → ℕ → Bool
is_last rows k = leaves_for rows == k + 1

-- a leaf with another one to the right has a high key
unfoldable pub high_keys : Key → List Row → ℕ → List (List ℕ)
high_keys key rows k = if is_last rows k then [] else separator_before key rows 0 (k + 1) ∷ []

abbrev pub leaf_items : Key → List Row → ℕ → List (List ℕ)
leaf_items key rows k = high_keys key rows k ++ map (leaf_item key) (part_of 300 rows k)

-- its siblings, and the flag BTP_LEAF, with BTP_ROOT where it is alone
unfoldable pub leaf_special : List Row → ℕ → Opaque
leaf_special rows k = record {
  prev = k;
  next = if is_last rows k then 0 else k + 2;
  level = 0;
  flags = if leaves_for rows == 1 then 3 else 1;
  cycle = 0;
}

abbrev pub leaf_page : Key → List Row → ℕ → List ℕ
leaf_page key rows k = tree_page (leaf_items key rows k) (leaf_special rows k)

unfoldable pub leaf_pages : Key → List Row → List ℕ
leaf_pages key rows = each_below one_list (leaf_page key rows) (leaves_for rows)

-- The root, where there is more than one leaf: an item for each leaf, of which the first keeps nothing

unfoldable pub root_item : Key → List Row → ℕ → List ℕ
root_item key rows zero = pivot_tuple 1 0 None fixed_width []
root_item key rows (suc k) = separator_before key rows (suc k + 1) (suc k)

abbrev pub root_items_below : Key → List Row → ℕ → List (List ℕ)
root_items_below key rows n = each_below one_list (λ k. root_item key rows k ∷ []) n

unfoldable pub root_items : Key → List Row → List (List ℕ)
root_items key rows = root_items_below key rows (leaves_for rows)

-- level 1, and the flag BTP_ROOT
abbrev pub root_special : Opaque
root_special = record { prev = 0; next = 0; level = 1; flags = 2; cycle = 0 }

-- there is a root above the leaves
abbrev pub has_upper_root : List Row → Bool
has_upper_root rows = nat_le 2 (leaves_for rows)

unfoldable pub root_pages : Key → List Row → List ℕ
root_pages key rows = if has_upper_root rows then tree_page (root_items key rows) root_special else []

-- The metapage

-- the root is the page above the leaves, or the one leaf; an empty tree has none
abbrev pub root_block : List Row → ℕ
root_block rows = if has_upper_root rows then leaves_for rows + 1 else leaves_for rows

abbrev pub root_level : List Row → ℕ
root_level rows = if has_upper_root rows then 1 else 0

-- the fast root is the root
unfoldable pub tree_meta : List Row → Meta
tree_meta rows = record {
  magic = 0x00053162;
  version = 4;
  root = root_block rows;
  level = root_level rows;
  fastroot = root_block rows;
  fastlevel = root_level rows;
}

-- The file

-- the metapage, the leaves from left to right, and the root above them
unfoldable pub tree_with : Key → List Row → List ℕ
tree_with key rows =
    meta_page (tree_meta rows) ++ leaf_pages key rows ++ root_pages key rows

-- how many blocks these are
abbrev pub tree_blocks : List Row → ℕ
tree_blocks rows = root_block rows + 1

-- the index of a table with these rows, in the order of their numbers
abbrev pub index_file : Key → List Row → List ℕ
index_file key rows = tree_with key (in_order key rows)

-- What readers of the index read

-- the key column: ascending, with nulls last
abbrev pub spec_of : Key → KeySpec
spec_of Id = rising_key 0 Int8
spec_of Group = rising_key 1 Int4

abbrev pub key_value : Key → Row → List Value
key_value key row = Int (pos (key_of key row)) ∷ []
