-- What is true of a table and of an index of it of which `index`, or `all`, finds nothing. Who reads one page reads
-- this.
--
-- A case tells which files a table and its indexes have and how their columns are stored, and `names` the bytes of each
-- file. Blocks of a file count from 0, items of a page and indexes of a case from 1. A TID names a block of the heap
-- and an item of it. All that is said here is said of those bytes, and of nothing that the program does.
use Rattle.std.specs.Prelude.{◌≡◌, ℕ, true, List, Contains, Some}
use Rattle.outside.specs.Outside.{Names}
use Rattle.laws_search.specs.Keys.{Entry}
use Rattle.laws_search.specs.Search.{Answers, IsWanted}
use Rattle.key_orders.specs.Scans.{Bounds, bounds_of, order_of, scan_of}
use Rattle.key_orders.specs.declared.Tid.{Tid}
use Rattle.key_orders.specs.declared.columns.Value.{Value}
use Rattle.case_file.specs.Record.{CaseRecord}
use Rattle.heap_table_check.specs.Truth.{IsTrueHeap}
use Rattle.bt_image.specs.Image.{LeafEntry, TreeIndex}
use Rattle.bt_level_check.specs.Trees.{image_of}
use Rattle.bt_levels.specs.Index.{tree_of}
use Rattle.bt_steps.specs.Pages.{is_killed}
use Rattle.heap_rows.specs.RowLaws.{IsLiveAt, IsWholeRow}
use Rattle.heap_rows.specs.declared.rows.LiveRow.{LiveRow}
use Rattle.join_rules.specs.Broken.{IsAt}
use Rattle.join_rules.specs.Entries.{may_be_named, tree_entries}
use Rattle.join_rules.specs.Rows.{key_of, keys_of, more_of}
use Rattle.join_rules.specs.Unique.{AreUnique}

-- The pages of index n, as a search reads their bytes: entries, separators and downlinks, siblings, the fast root.
abbrev pub pages_of : CaseRecord → Names → ℕ → TreeIndex
pages_of case names n = image_of (tree_of case names n)

-- The search for all that lies between two bounds finds these entries. They are exactly the entries of the leaves whose
-- keys keep to the bounds, but for killed ones: each once, rising by key and, where keys are equal, by TID. The search
-- begins at the fast root and moves right and down by what it reads; after at most as many visits as there are blocks
-- it has ended, and has yielded these entries in this order.
pub record Finds (case : CaseRecord) (names : Names) (n : ℕ) (bounds : Bounds) (es : List (Entry Value Tid))
    : Type 0 where
  pub wanted :
      IsWanted (order_of (keys_of case n)) is_killed (pages_of case names n) (scan_of (keys_of case n) bounds) es
  pub ended :
      Answers is_killed (pages_of case names n) (scan_of (keys_of case n) bounds) (pages_of case names n).blocks es

-- There are such entries.
pub record IsAnswered (case : CaseRecord) (names : Names) (n : ℕ) (bounds : Bounds) : Type 0 where
  pub entries : List (Entry Value Tid)
  pub finds : Finds case names n bounds entries

-- Both bounds are this key, and count as within.
abbrev pub just_at : List Value → Bounds
just_at key = bounds_of key true key true

-- The entries of the leaves of index n, each with the values of the columns that the index includes. A search looks at
-- none of these.
abbrev pub leaf_entries_of : CaseRecord → Names → ℕ → List LeafEntry
leaf_entries_of case names n = tree_entries (tree_of case names n)

-- The live tuple at this place is found. It is a row: of the roots on its page, which alone an entry may name, exactly
-- one leads to it, and its cells are what its columns hold, in the heap or in the TOAST table. It has a key in the
-- index, and the search for just this key comes to an entry that names the row's root. That entry stands on a leaf, has
-- the row's key, and has the values of the row in the columns that the index includes.
pub record IsFound (case : CaseRecord) (names : Names) (n : ℕ) (tid : Tid) : Type 0 where
  pub row : LiveRow
  pub at : row.tid ≡ tid
  pub whole : IsWholeRow case names row
  pub key : List Value
  pub values : key_of case n row ≡ Some key
  pub entries : List (Entry Value Tid)
  pub finds : Finds case names n (just_at key) entries
  pub entry : LeafEntry
  pub stands : Contains (leaf_entries_of case names n) entry
  pub among : Contains entries entry.entry
  pub root : entry.entry.tid ≡ row.root
  pub own_key : entry.entry.values ≡ key
  pub included : more_of case n row ≡ Some entry.more

-- Index n is true to its table:
pub record IsTrueIndex (case : CaseRecord) (names : Names) (n : ℕ) : Type 0 where
  -- whatever the two bounds, the search between them ends and finds what it should;
  pub scans : (bounds : Bounds) → IsAnswered case names n bounds
  -- each live tuple of the table, one that a committed transaction inserted and none deleted, is found;
  pub rows : (tid : Tid) → IsLiveAt case names tid → IsFound case names n tid
  -- in a unique index under its own key alone: no other live tuple has that key, unless a null in it makes it equal to
  -- none;
  pub unique : AreUnique case names n
  -- each entry, killed or not, names a line pointer of the heap: a redirect, a dead one, or that of a tuple that isn't
  -- heap-only;
  pub entries : (block item : ℕ) (e : Entry Value Tid) → IsAt case names n block item e
      → may_be_named case names e.tid ≡ true
  -- and each set bit of the visibility map and each set page flag is true, besides what else is so of a clean table.
  pub table : IsTrueHeap case names
