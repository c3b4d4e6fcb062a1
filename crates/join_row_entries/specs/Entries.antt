-- The entries that the live rows of a heap have in an index of its case, and which rows are in doubt.
use Rattle.std.specs.Prelude.{◌≡◌, ◌<◌, ℕ, true, false, List, [], ◌∷◌, length, map, Option, Some, None}
use Rattle.std.specs.List.{flat_map}
use Rattle.outside.specs.Outside.{Names}
use Rattle.key_orders.specs.declared.columns.Value.{Value}
use Rattle.key_orders.specs.declared.Tid.{Tid}
use Rattle.case_file.specs.Record.{CaseRecord}
use Rattle.bt_image.specs.Image.{LeafEntry, leaf_entry}
use Rattle.reports.specs.Added.{report_lists}
use Rattle.reports.specs.Lists.{Lists}
use Rattle.bt_levels.specs.Index.{case_columns, index_of}
use Rattle.heap_rows.specs.Rows.{rows_of}
use Rattle.heap_rows.specs.declared.rows.LiveRow.{LiveRow}
use Rattle.join_rules.specs.Lists.{of_each, row_lists}
use Rattle.join_rules.specs.Rows.{key_of, more_of}
use Rattle.bt_build.specs.Listed.{Listed as Entries}
use Rattle.join_row_entries.specs.declared.gather.RowEntries.{RowEntries}
use Rattle.join_row_entries.specs.declared.gather.RowEntries.TheVariants.{Listed, Doubted}

-- the entry of a row with this key, these included values and this root, where all of them can be read
abbrev pub entry_by : (key more : Option (List Value)) → (root : Tid) → Option LeafEntry
entry_by (Some key) (Some more) root = Some (leaf_entry key more root false)
entry_by (Some key) None root = None
entry_by None more root = None

-- the entry that a row has in index n of a case: its own values, and the TID of its root
abbrev pub entry_of : CaseRecord → ℕ → LiveRow → Option LeafEntry
entry_of case n row = entry_by (key_of case n row) (more_of case n row) row.root

-- the entries of these rows, of each of which all values can be read
abbrev pub if_read : Option LeafEntry → List LeafEntry
if_read None = []
if_read (Some e) = e ∷ []

abbrev pub entries_of_rows : CaseRecord → ℕ → List LiveRow → List LeafEntry
entries_of_rows case n rows = flat_map (λ row. if_read (entry_of case n row)) rows

-- those of the live rows of a case's heap, with the columns of the index
abbrev pub rows_listed : CaseRecord → Names → ℕ → Entries
rows_listed case names n = record {
  specs = (index_of case n).keys;
  more = (index_of case n).more;
  entries = entries_of_rows case n (rows_of case names);
}

-- the rows of which a value in index n is compressed (U6): what is listed of an index that has every entry
abbrev pub doubts_in : CaseRecord → ℕ → List LiveRow → Lists
doubts_in case n rows = of_each report_lists (row_lists n (case_columns case n) (λ key more tid. true)) rows

-- those of a case's heap
unfoldable pub doubts_of : CaseRecord → Names → ℕ → Lists
doubts_of case names n = doubts_in case n (rows_of case names)

-- the entries of these rows in index n of a case: one for each, in their order
pub record AreListed (case : CaseRecord) (n : ℕ) (rows : List LiveRow) (l : Entries) : Type 0 where
  pub specs : l.specs ≡ (index_of case n).keys
  pub more : l.more ≡ (index_of case n).more
  pub entries : map Some l.entries ≡ map (entry_of case n) rows

-- the rows that are in doubt, of which there is one
pub record AreDoubted (case : CaseRecord) (names : Names) (n : ℕ) (report : Lists) : Type 0 where
  pub doubts : report ≡ doubts_of case names n
  pub some : 0 < length report.unjudged

-- the entries of the live rows of a case's heap in index n, or the rows that are in doubt
abbrev pub AreEntries : CaseRecord → Names → ℕ → RowEntries → Type 0
AreEntries case names n (Listed l) = AreListed case n (rows_of case names) l
AreEntries case names n (Doubted report) = AreDoubted case names n report
