-- An index and its heap, as the code goes through them.
use Rattle.std.specs.Prelude.{◌≡◌, ◌≤◌, ℕ, All, Bool, cond, nat_lt, true, length, List, [], None, Option, Some}
use Rattle.outside.specs.Outside.{Names}
use Rattle.rel_files.specs.Relation.{count_of}
use Rattle.laws_search.specs.Keys.{Entry}
use Rattle.laws_search.specs.Search.{At, IsWanted}
use Rattle.key_orders.specs.declared.columns.Value.{Value}
use Rattle.key_orders.specs.declared.Tid.{Tid}
use Rattle.key_orders.specs.Scans.{Bounds, bounds_of, order_of}
use Rattle.case_file.specs.Record.{CaseRecord}
use Rattle.bt_levels.specs.Sound.{image_of, index_columns, specs_of}
use Rattle.bt_steps.specs.Pages.{is_killed}
use Rattle.bt_search.specs.declared.spot.Spot.{Spot}
use Rattle.bt_search.specs.Descents.{ComesTo}
use Rattle.bt_search.specs.Spots.{left_at, left_from, rest_at, rest_from, scan_on}
use Rattle.heap_table_check.specs.Files.{heap_in}
use Rattle.heap_rows.specs.declared.rows.LiveRow.{LiveRow}
use Rattle.heap_rows.specs.Rows.{block_rows, rows_of}
use Rattle.join_rules.specs.Rows.{key_numbers, values_at}
use Rattle.join_unique.specs.declared.grouping.Grouping.{Grouping}
use Rattle.join_row_keys.specs.declared.joined.IndexedHeap.{IndexedHeap}
use Rattle.case_file.specs.declared.case.Unique.{Unique}
use Rattle.join_unique.specs.declared.roots.Roots.{Roots}
use Rattle.join_unique.specs.Groups.{Group, Table, closed, entries_met, first_group, rows_met}
use Rattle.join_unique.specs.Roots.{is_root_in}

-- the rows of a block, of a heap of so many
abbrev pub rows_within : CaseRecord → Names → (blocks : ℕ) → ℕ → List LiveRow
rows_within case names blocks b = cond (nat_lt b blocks) (block_rows case names b) []

-- an index and its heap, and what may be the root of a row
abbrev pub table_with : Names → IndexedHeap → Unique → (Tid → Bool) → Table
table_with names at unique may_root = record {
  unique = unique;
  key_in = λ row. values_at (key_numbers (index_columns at.tree.now)) row.cells;
  rows_in = rows_within at.case.now names (count_of (heap_in at.heap.now));
  may_root = may_root;
}

-- the same, where what is in a set may be one
unfoldable pub table_for : Names → IndexedHeap → Unique → Roots → Table
table_for names at unique roots = table_with names at unique (is_root_in roots)

abbrev pub table_seen : Names → Grouping → Table
table_seen names grouping = table_for names grouping.index.at grouping.unique grouping.roots.now

-- the group after these rows
abbrev pub group_after : Table → Group → List LiveRow → Group
group_after t g rows = record g { met = rows_met t g.key rows g.met }

-- the group after the unkilled entries of a leaf from a spot on, but for those that the right sibling leads to
pub record GoesRight (names : Names) (grouping : Grouping) (spot : Spot) (next : ℕ) (old new : Group) : Type 0 where
  pub comes : ComesTo names grouping.index.at.tree.now grouping.scan.now next
  pub left : left_at names grouping.index.at.tree.now grouping.scan.now spot
      ≡ left_from names grouping.index.at.tree.now grouping.scan.now (At next [])
  pub met : entries_met (table_seen names grouping)
      (rest_from names grouping.index.at.tree.now grouping.scan.now (At next [])) new
      ≡ entries_met (table_seen names grouping)
      (rest_at names grouping.index.at.tree.now grouping.scan.now spot) old

-- all that was left is taken, or the walk goes on to a block
abbrev pub TakesLeaf : Names → Grouping → Spot → Option ℕ → (old new : Group) → Type 0
TakesLeaf names grouping spot None old new =
    new ≡ entries_met (table_seen names grouping)
    (rest_at names grouping.index.at.tree.now grouping.scan.now spot) old
TakesLeaf names grouping spot (Some next) old new = GoesRight names grouping spot next old new

-- the group after all unkilled entries of the index
pub record IsWalked (names : Names) (grouping : Grouping) (bounds : Bounds) (old new : Group) : Type 0 where
  pub entries : List (Entry Value Tid)
  pub wanted : IsWanted (order_of (specs_of grouping.index.at.tree.now)) is_killed
      (image_of names grouping.index.at.tree.now) (scan_on grouping.index.at.tree.now bounds) entries
  pub walked : new ≡ entries_met (table_seen names grouping) entries old

-- a scan without bounds
abbrev pub no_bounds : Bounds
no_bounds = bounds_of [] true [] true

-- the group after all unkilled entries of the index, from the first to the end of the last group
pub record IsDone (names : Names) (at : IndexedHeap) (unique : Unique) (roots : Roots) (group : Group) : Type 0 where
  pub entries : List (Entry Value Tid)
  pub wanted : IsWanted (order_of (specs_of at.tree.now)) is_killed (image_of names at.tree.now)
      (scan_on at.tree.now no_bounds) entries
  pub is : group ≡ closed (table_for names at unique roots)
      (entries_met (table_for names at unique roots) entries (first_group unique))

-- the looks are no more than the unkilled entries of the index
pub record AreFewLooks (names : Names) (at : IndexedHeap) (looks : ℕ) : Type 0 where
  pub entries : List (Entry Value Tid)
  pub wanted : IsWanted (order_of (specs_of at.tree.now)) is_killed (image_of names at.tree.now)
      (scan_on at.tree.now no_bounds) entries
  pub few : looks ≤ length entries

-- they are those that these entries lead to, where each root of a row is among what may be one
pub record AreLooks (names : Names) (at : IndexedHeap) (unique : Unique) (looks : ℕ) : Type 0 where
  pub may_root : Tid → Bool
  pub roots : All (λ row. may_root row.root ≡ true) (rows_of at.case.now names)
  pub entries : List (Entry Value Tid)
  pub wanted : IsWanted (order_of (specs_of at.tree.now)) is_killed (image_of names at.tree.now)
      (scan_on at.tree.now no_bounds) entries
  pub are : looks ≡ (closed (table_with names at unique may_root)
      (entries_met (table_with names at unique may_root) entries (first_group unique))).looks
