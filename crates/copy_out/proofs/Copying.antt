-- Rows are written as a cursor goes over them.
use Rattle.std.proofs.Common.{◌≡◌, ℕ, ◌+◌, ◌<◌, ◌≤◌, List, [], ◌∷◌, ◌++◌, cond, drop, get_or, length, refl, sym, ap, subst, ◌∙◌, arith, append-nil, append_assoc}
use Rattle.std.specs.Prelude.{Some, slice_get}
use Rattle.std.proofs.lemmas.List.{drop_all, drop_more}
use Rattle.std.proofs.lemmas.List.Sums.{sum_by-append, sum_by-cons}
use Rattle.std.proofs.lemmas.Option.{get_or_from_slice_get, slice_get_within}
use Rattle.outside.specs.Outside.{Names}
use Rattle.case_file.specs.declared.case.Column.{Column}
use Rattle.heap_rows.specs.declared.row_cells.Cell.{Cell}
use Rattle.heap_rows.specs.declared.row_cursor.RowPlace.{RowPlace}
use Rattle.heap_rows.specs.declared.rows.LiveRow.{LiveRow}
use Rattle.heap_rows.specs.declared.row_cursor.RowCursor.{RowCursor}
use Rattle.heap_rows.specs.RowCursor.{IsPlaceOfFirst, rows_ahead}
use Rattle.copy_out.specs.Fields.{field_text}
use Rattle.copy_out.specs.Lines.{fields_of, is_unread, line_of, row_text, tab_before, text_of, unread_in, unread_of}
use Rattle.copy_out.specs.Live.{AreLeft, IsAdded, cells_in}
use Rattle.copy_out.specs.declared.live.CopyWriter.{CopyWriter}
use Rattle.copy_out.proofs.Joining.{field_written, none_left, rest_of}

-- A row, field by field

-- what is written and counted of the first k fields of a row, and what is left of it, are all of it
pub record IsPart (columns : List Column) (cells : List Cell) (k : ℕ) (old new : CopyWriter) : Type 0 where
  pub text : new.text ++ rest_of k (fields_of (drop k columns) (drop k cells)) ≡ old.text ++ row_text columns cells
  pub unread : new.unread + unread_in (drop k cells) ≡ old.unread + unread_in cells

cells_from : (cells : List Cell) (k : ℕ) (c : Cell) → slice_get cells k ≡ Some c → drop k cells ≡ c ∷ drop (k + 1) cells
cells_from cells k c is =
    drop_more cells k c (slice_get_within cells k c is) ∙ ap (λ (x : Cell). x ∷ drop (k + 1) cells) (get_or_from_slice_get cells k c c is)

fields_from : (columns : List Column) (cells : List Cell) (k : ℕ) (column : Column) (c : Cell) → k < length columns → column ≡ get_or columns k column
    → slice_get cells k ≡ Some c → fields_of (drop k columns) (drop k cells) ≡ field_text column.ctype c ∷ fields_of (drop (k + 1) columns) (drop (k + 1) cells)
fields_from columns cells k column c lt at is =
    ap (λ (cs : List Column). fields_of cs (drop k cells)) (drop_more columns k column lt ∙ ap (λ (x : Column). x ∷ drop (k + 1) columns) (sym at))
    ∙ ap (fields_of (column ∷ drop (k + 1) columns)) (cells_from cells k c is)

unread_from : (cells : List Cell) (k : ℕ) (c : Cell) → slice_get cells k ≡ Some c → unread_in (drop k cells) ≡ unread_in (c ∷ []) + unread_in (drop (k + 1) cells)
unread_from cells k c is =
    ap unread_in (cells_from cells k c is) ∙ sum_by-append (λ (x : Cell). cond (is_unread x) 1 0) (c ∷ []) (drop (k + 1) cells)

pub part_none : (columns : List Column) (cells : List Cell) (old : CopyWriter) → IsPart columns cells 0 old old
part_none columns cells old = record { text = refl; unread = refl }

-- one field more is written, behind a tab unless it is the first
pub part_next : (columns : List Column) (cells : List Cell) (k : ℕ) (column : Column) (c : Cell) (old now new : CopyWriter) → k < length columns
    → column ≡ get_or columns k column → slice_get cells k ≡ Some c → new.text ≡ (now.text ++ tab_before k) ++ field_text column.ctype c
    → new.unread ≡ now.unread + unread_in (c ∷ []) → IsPart columns cells k old now → IsPart columns cells (k + 1) old new
part_next columns cells k column c old now new lt at is text count part = record {
  text =
      ap (λ (r : List ℕ). r ++ rest_of (k + 1) (fields_of (drop (k + 1) columns) (drop (k + 1) cells))) text
      ∙ field_written k now.text (field_text column.ctype c) (fields_of (drop (k + 1) columns) (drop (k + 1) cells))
      ∙ ap (λ (fs : List (List ℕ)). now.text ++ rest_of k fs) (sym (fields_from columns cells k column c lt at is)) ∙ part.text;
  unread = omega (arith, count, unread_from cells k c is, part.unread);
}

-- with its line feed it is the row's line
pub part_all : (columns : List Column) (cells : List Cell) (k : ℕ) (old now new : CopyWriter) → length columns ≤ k → length cells ≤ k
    → new.text ≡ now.text ++ 10 ∷ [] → new.unread ≡ now.unread → IsPart columns cells k old now → IsAdded columns cells old new
unfolding line_of
part_all columns cells k old now new past end text count part =
    let none : fields_of (drop k columns) (drop k cells) ≡ [] = ap (λ (cs : List Column). fields_of cs (drop k cells)) (drop_all k columns past) in
    let whole : now.text ≡ old.text ++ row_text columns cells =
    sym (append-nil now.text) ∙ ap (λ (r : List ℕ). now.text ++ r) (sym (none_left k))
    ∙ ap (λ (fs : List (List ℕ)). now.text ++ rest_of k fs) (sym none) ∙ part.text in
    let left : unread_in (drop k cells) ≡ 0 = ap unread_in (drop_all k cells end) in
    record {
      text = text ∙ ap (λ (r : List ℕ). r ++ 10 ∷ []) whole ∙ append_assoc old.text (row_text columns cells) (10 ∷ []);
      unread = omega (arith, count, left, part.unread);
    }

-- Rows

-- one row more is written
pub left_next : (columns : List Column) (all rows rest : List LiveRow) (row : LiveRow) (old new : CopyWriter) → rows ≡ row ∷ rest
    → IsAdded columns row.cells old new → AreLeft columns all rows old → AreLeft columns all rest new
left_next columns all rows rest row old new is added left =
    let before = subst (λ (rs : List LiveRow). AreLeft columns all rs old) is left in
    record {
      text =
          ap (λ (r : List ℕ). r ++ text_of columns (cells_in rest)) added.text
          ∙ append_assoc old.text (line_of columns row.cells) (text_of columns (cells_in rest)) ∙ before.text;
      unread = omega (arith, added.unread, sum_by-cons unread_in row.cells (cells_in rest), before.unread);
    }

-- before the first all rows are left
left_all : (columns : List Column) (all : List LiveRow) (new : CopyWriter) → new.text ≡ [] → new.unread ≡ 0 → AreLeft columns all all new
left_all columns all new text count = record {
  text = ap (λ (r : List ℕ). r ++ text_of columns (cells_in all)) text;
  unread = omega (arith, count);
}

pub begun_all : (names : Names) (columns : List Column) (all : List LiveRow) (cursor : RowCursor) (new : CopyWriter) → rows_ahead names cursor ≡ all
    → new.text ≡ [] → new.unread ≡ 0 → AreLeft columns all (rows_ahead names cursor) new
begun_all names columns all cursor new is text count =
    subst (λ (rows : List LiveRow). AreLeft columns all rows new) (sym is) (left_all columns all new text count)

-- and at the end none
pub left_none : (columns : List Column) (all : List LiveRow) (new : CopyWriter) → AreLeft columns all [] new
    → (new.text ≡ text_of columns (cells_in all)) × (new.unread ≡ unread_of (cells_in all))
left_none columns all new left = (sym (append-nil new.text) ∙ left.text, omega (arith, left.unread))

-- the row at whose place a cursor is
pub row_there : (place : RowPlace) (rows : List LiveRow) → IsPlaceOfFirst (Some place) rows → (row : LiveRow) × (rest : List LiveRow) × (rows ≡ row ∷ rest)
row_there place [] first = absurd first
row_there place (row ∷ rest) first = (row, rest, refl)

pub none_there : {X : Type 0} (xs : List X) → length xs ≤ 0 → xs ≡ []
none_there [] le = refl
none_there (x ∷ xs) le = absurd (omega arith)
