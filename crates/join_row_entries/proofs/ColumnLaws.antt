-- The columns of an index of a case, for which rows are read.
use Rattle.std.proofs.Common.{ℕ, ◌<◌, ◌≤◌, length, sym, subst, arith}
use Rattle.std.specs.Prelude.{All}
use Rattle.std.proofs.lemmas.List.Elements.{All-append}
use Rattle.key_orders.specs.Types.{HasAlignment}
use Rattle.key_attrs.specs.Columns.{tree_columns}
use Rattle.key_attrs.specs.Keyed.{key_types, more_types}
use Rattle.case_file.specs.Record.{CaseRecord}
use Rattle.case_file.specs.Sound.{IsSound}
use Rattle.bt_levels.specs.Index.{case_columns, index_of}
use Rattle.bt_levels.proofs.Keys.{aligned-keys, aligned-more, few-keys, few-more}
use Rattle.heap_rows.specs.declared.row_cursor.RowCursor.{RowCursor}
use Rattle.heap_rows.specs.RowCursor.{asked_at, case_at}
use Rattle.join_row_keys.specs.Rows.{AreAskedFrom, AreColumnsOf, IsReaderOf, columns_in}
use Rattle.join_row_keys.proofs.KeyLaws.{columns-within, sound-index}
use Rattle.bt_build.specs.Listed.{AreColumns}
use Rattle.join_row_entries.specs.declared.index.IndexReader.{IndexReader}
use Rattle.join_row_entries.specs.Reading.{IsAskedFor, IsReader}

-- An index of a case

-- an index of them may be built
pub may-be-built : (case : CaseRecord) (n : ℕ) → IsSound case → 1 ≤ n → n ≤ length case.indexes → AreColumns (index_of case n).keys (index_of case n).more
may-be-built case n sound first last =
    let index = sound-index case n sound first last in
    let some : 0 < length (index_of case n).keys = grind arith in
    record {
      some = some;
      few = few-keys case n sound first last;
      few_more = few-more case n sound first last;
      aligned = All-append HasAlignment (key_types (index_of case n).keys) (more_types (index_of case n).more) (aligned-keys case n sound first last) (aligned-more case n sound first last);
    }

pub columns-of : (case : CaseRecord) (n : ℕ) → IsSound case → 1 ≤ n → n ≤ length case.indexes → AreColumnsOf case.columns (case_columns case n)
columns-of case n sound first last =
    let index = sound-index case n sound first last in
    record { keys = index.keys; more = index.more }

pub columns-there : (case : CaseRecord) (n : ℕ) → IsSound case → 1 ≤ n → n ≤ length case.indexes → All (λ k. k < length case.columns) (columns_in (case_columns case n))
columns-there case n sound first last = columns-within case.columns (case_columns case n) (columns-of case n sound first last)

-- rows are read for it
pub reader-of : (reader : IndexReader) (cursor : RowCursor) → IsSound reader.case.now → IsReader reader → IsAskedFor reader cursor → IsReaderOf reader.rows cursor
reader-of reader cursor sound is asked =
    let are = columns-of reader.case.now reader.index sound is.first is.last in
    let here : AreColumnsOf (case_at cursor).columns (case_columns reader.case.now reader.index) =
    subst (λ (case : CaseRecord). AreColumnsOf case.columns (case_columns reader.case.now reader.index)) (sym asked.case) are in
    record {
      columns = subst (AreColumnsOf (case_at cursor).columns) (sym is.columns) here;
      asked = subst (λ (n : ℕ). AreAskedFrom n (columns_in (tree_columns reader.rows.columns)) (asked_at cursor)) (sym is.begin) asked.asked;
    }
