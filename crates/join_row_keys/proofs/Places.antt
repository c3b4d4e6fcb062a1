-- A cursor that went on, and the row that it finds.
use Rattle.std.proofs.Common.{◌≡◌, ◌∙◌, [], ◌∷◌, List, refl, sym, subst}
use Rattle.std.specs.Prelude.{Some}
use Rattle.outside.specs.Outside.{Names}
use Rattle.bt_levels.specs.Sound.{index_columns}
use Rattle.heap_rows.specs.declared.row_cursor.RowCursor.{RowCursor}
use Rattle.heap_rows.specs.declared.row_cursor.RowPlace.{RowPlace}
use Rattle.heap_rows.specs.declared.rows.LiveRow.{LiveRow}
use Rattle.heap_rows.specs.RowCursor.{IsCursorOf, IsPlaceOfFirst, IsSameCursor, rows_here}
use Rattle.join_row_keys.specs.declared.keys.KeyedHeap.{KeyedHeap}
use Rattle.join_row_keys.specs.Rows.{AreAskedFrom, IsFound, IsIndexAt, columns_in}

-- a cursor of the same heap that is asked for the same columns
pub same-index : (index : KeyedHeap) (old new : RowCursor) → IsSameCursor old new → IsIndexAt index old → IsIndexAt index new
same-index index old new same at = record {
  belong = at.belong;
  case = same.case ∙ at.case;
  heap = same.heap ∙ at.heap;
  asked = subst (AreAskedFrom index.first (columns_in (index_columns index.at.tree.now))) (sym same.asked) at.asked;
}

pub same-then : (a b d : RowCursor) → IsSameCursor a b → IsSameCursor b d → IsSameCursor a d
same-then a b d one two = record { case = two.case ∙ one.case; heap = two.heap ∙ one.heap; asked = two.asked ∙ one.asked }

pub found-row : (names : Names) (cursor : RowCursor) (place : RowPlace) → IsCursorOf names cursor → IsPlaceOfFirst (Some place) (rows_here names cursor) → (row : LiveRow) × IsFound names cursor place row
found-row names cursor place are first = go (rows_here names cursor) refl first
  where
    go : (xs : List LiveRow) → rows_here names cursor ≡ xs → IsPlaceOfFirst (Some place) xs → (row : LiveRow) × IsFound names cursor place row
    go [] is first = absurd first
    go (row ∷ rows) is first = (row, record { cursor_of = are; rows = rows; here = is; tid = first.0; root = first.1 })
