-- The page of a heap from which rows are taken.
use Rattle.std.specs.Prelude.{◌≡◌, ℕ, ◌+◌, ◌-◌, ◌<◌, ◌≤◌, Bool, true, false, List, [], ◌∷◌, All, drop, length, map}
use Rattle.std.specs.Prelude.{slice_get, take, Option, Some, None}
use Rattle.outside.specs.Outside.{Names}
use Rattle.page_layout.specs.Items.{is_normal}
use Rattle.page_layout.specs.Page.{item_of}
use Rattle.page_layout.specs.declared.page.LineFlag.{LineFlag}
use Rattle.page_layout.specs.declared.page.LinePtr.{LinePtr}
use Rattle.rel_files.specs.declared.relation.Relation.{Relation}
use Rattle.key_orders.specs.declared.columns.ColType.{ColType}
use Rattle.case_file.specs.Record.{CaseRecord}
use Rattle.case_file.specs.declared.case.Column.{Column}
use Rattle.tuple_head.specs.Head.{has_misplaced_attributes}
use Rattle.varlena_attrs.specs.Forms.{Attribute}
use Rattle.heap_tuples.specs.Places.{IsTupleAt, tuple_at}
use Rattle.heap_tuples.specs.Tuples.{IsReadAs, attributes_in}
use Rattle.liveness.specs.declared.states.ItemState.{ItemState}
use Rattle.hot_chains.specs.Chains.{is_live_tuple, item_at}
use Rattle.toast_chunks.specs.declared.map.Chunk.{Chunk}
use Rattle.heap_page_check.specs.declared.verdict.ItemVerdict.TheVariants.{Passes}
use Rattle.heap_page_check.specs.Broken.{AllPass}
use Rattle.heap_page_check.specs.Found.{live_attributes, states_of}
use Rattle.heap_page_check.specs.Table.{Table}
use Rattle.heap_page_check.specs.Verdicts.{head_at, item_verdict}
use Rattle.heap_table_check.specs.Case.{table_of}
use Rattle.heap_rows.specs.declared.row_cells.Cell.{Cell}
use Rattle.heap_rows.specs.declared.row_page.RowPage.{RowPage}
use Rattle.heap_rows.specs.declared.row_values.AskedColumns.{AskedColumns}
use Rattle.heap_rows.specs.declared.rows.LiveRow.{LiveRow}
use Rattle.heap_rows.specs.RowFits.{FitColumns}
use Rattle.heap_rows.specs.Roots.{AreRoots}
use Rattle.heap_rows.specs.RowValues.{FitAsked, IsThere, asked_cell, column_asked, count_asked}
use Rattle.heap_rows.specs.Rows.{each_from, item_rows, row_at}

-- Attributes

-- the item is a tuple, whose attributes are these
pub record HasAttributes (columns : List ColType) (page : List ℕ) (i : ℕ) (list : List Attribute) : Type 0 where
  pub tuple : IsTupleAt page i
  pub header : has_misplaced_attributes (item_of page i).len (head_at page i) ≡ false
  pub read : IsReadAs (attributes_in columns (tuple_at page i)) list

-- the body of the tuple that a line pointer of a page points to: it ends where the item does
pub record IsBodyOf (page : List ℕ) (pointer : LinePtr) (body : List ℕ) : Type 0 where
  pub inside : pointer.off + pointer.len ≤ 8192
  pub part : length body ≤ pointer.len
  pub piece : body ≡ take (length body) (drop (pointer.off + (pointer.len - length body)) page)

-- The page in hand

-- an item is a live tuple: by its line pointer on a plain page, and else by its state
abbrev pub is_live_by : (plain : Bool) → LineFlag → ItemState → Bool
is_live_by true flag state = is_normal flag
is_live_by false flag state = is_live_tuple state

-- item i of the page is, as far as is kept of it
abbrev pub is_live_in : RowPage → ℕ → Bool
is_live_in page i = is_live_by page.plain (item_of page.bytes i).flag (item_at page.states.items i)

-- what is kept of the items of the page is so, where these are their states
pub record TellsOf (states : List ItemState) (page : RowPage) : Type 0 where
  pub count : page.count ≡ length states
  pub live : (i : ℕ) → 1 ≤ i → i ≤ length states → is_live_in page i ≡ is_live_tuple (item_at states i)
  pub roots : AreRoots page.block states page.roots

-- where a page and its items break no rule, and none is in doubt, what is kept of its items is so
abbrev pub AreKnown : Table → ℕ → RowPage → Type 0
AreKnown table block page = AllPass table block page.bytes → TellsOf (states_of table page.bytes) page

-- what is known of item i of the page in hand: its state, its root, and if it is live its values
pub record IsKnown
    (case : CaseRecord) (names : Names) (toast : Option Relation) (chunks : List Chunk) (page : RowPage) (i : ℕ)
    : Type 0 where
  pub tells : TellsOf (states_of (table_of case names) page.bytes) page
  pub verdict : item_verdict (table_of case names) page.bytes i
      ≡ Passes (item_at (states_of (table_of case names) page.bytes) i)
  pub attributes : is_live_in page i ≡ true
      → HasAttributes (map (λ c. c.ctype) case.columns) page.bytes i
      (live_attributes (table_of case names) page.bytes i)
  pub values : is_live_in page i ≡ true
      → All (IsThere toast chunks) (live_attributes (table_of case names) page.bytes i)

-- the page is a case's, and all its items are known
abbrev pub IsInHand : CaseRecord → Names → Option Relation → List Chunk → RowPage → Type 0
IsInHand case names toast chunks page =
    (i : ℕ) → 1 ≤ i → i ≤ page.count → IsKnown case names toast chunks page i

-- the rows of its items that aren't done yet
unfoldable pub rows_in_hand : CaseRecord → Names → RowPage → List LiveRow
rows_in_hand case names page =
    each_from (item_rows case names page.block page.bytes) (page.done + 1) (page.count - page.done)

-- A row that was found

-- the cells of a row at a column, one or none
abbrev pub cell_or_none : Option Cell → List Cell
cell_or_none (Some c) = c ∷ []
cell_or_none None = []

-- the cell of the k-th column that is asked for, by where its value was found
abbrev pub cell_found : List Column → AskedColumns → RowPage → ℕ → List Cell
cell_found columns asked page k =
    asked_cell page.bytes page.values.joined.items columns asked page.values.places.items k

-- places were found of all columns that are asked for, at which these may have values
pub record HasPlaces (columns : List Column) (asked : AskedColumns) (page : RowPage) : Type 0 where
  pub found : page.found ≡ true
  pub count : length page.values.places.items ≡ count_asked (length columns) asked
  pub fit : FitAsked (length page.values.joined.items) columns asked page.values.places.items
      (count_asked (length columns) asked)

-- the item gives one row, and the values that were found are cells of it
pub record IsRowFound (case : CaseRecord) (names : Names) (asked : AskedColumns) (page : RowPage) (i : ℕ) : Type 0 where
  pub one : item_rows case names page.block page.bytes i ≡ row_at case names page.block page.bytes i ∷ []
  pub columns : length (row_at case names page.block page.bytes i).cells ≡ length case.columns
  pub cells : (k : ℕ) → k < count_asked (length case.columns) asked → cell_found case.columns asked page k
      ≡ cell_or_none (slice_get (row_at case names page.block page.bytes i).cells (column_asked asked k))

-- the next item that isn't done is that of the row that was found
pub record IsNext (case : CaseRecord) (names : Names) (asked : AskedColumns) (page : RowPage) : Type 0 where
  pub inside : page.done < page.count
  pub row : IsRowFound case names asked page (page.done + 1)

-- Rows

-- the first of them with the others after it; none exactly where none was left
abbrev pub IsFirst : Option LiveRow → List LiveRow → List LiveRow → Type 0
IsFirst (Some row) before after = before ≡ row ∷ after
IsFirst None before after = (before ≡ []) × (after ≡ [])

-- a row has places in its block, and one cell for each column, which fits it
pub record IsRow (columns : List Column) (row : LiveRow) : Type 0 where
  pub tid : 1 ≤ row.tid.item
  pub root : 1 ≤ row.root.item
  pub cells : FitColumns columns row.cells

-- the same page, in which other items may be known
pub record IsSameBlock (old new : RowPage) : Type 0 where
  pub block : new.block ≡ old.block
  pub bytes : new.bytes ≡ old.bytes
  pub done : new.done ≡ old.done
  pub found : new.found ≡ old.found

-- the page after a look at its tuples: only the memory for values and how many items are done may differ
pub record IsSamePage (old new : RowPage) : Type 0 where
  pub block : new.block ≡ old.block
  pub bytes : new.bytes ≡ old.bytes
  pub count : new.count ≡ old.count
  pub plain : new.plain ≡ old.plain
  pub states : new.states ≡ old.states
  pub roots : new.roots ≡ old.roots
