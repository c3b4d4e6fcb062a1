-- What a quiet case says of the values of its rows.
use Rattle.std.proofs.Common.{◌≡◌, ℕ, ◌-◌, ◌<◌, ◌≤◌, Bool, true, false, List, [], ◌∷◌, ◌++◌, length, All, map, refl, ap, sym, subst, ◌∙◌, arith}
use Rattle.std.specs.Prelude.{Result, Ok, Err, IfOk, OnErr, Option, Some, None}
use Rattle.std.proofs.lemmas.Bool.{false≢true}
use Rattle.std.specs.List.{AllByRecursion}
use Rattle.std.specs.Option.{option_copied}
use Rattle.std.proofs.lemmas.List.{length-map}
use Rattle.outside.specs.Outside.{IfTold, Names, Seen}
use Rattle.rel_files.specs.Relation.{size_of}
use Rattle.rel_files.specs.declared.relation.Relation.{Relation}
use Rattle.std.proofs.lemmas.List.Elements.{All-from_recursion}
use Rattle.key_orders.specs.declared.columns.ColType.{ColType}
use Rattle.case_file.specs.Record.{CaseRecord}
use Rattle.case_file.specs.Sound.{IsSound, IsSoundColumn}
use Rattle.case_file.specs.declared.case.Column.{Column}
use Rattle.key_orders.specs.Types.{HasAlignment}
use Rattle.varlena_attrs.specs.declared.places.ToastPointer.{ToastPointer}
use Rattle.toast_chunks.specs.Stored.{AllStand}
use Rattle.toast_chunks.specs.Value.{joined_bytes}
use Rattle.toast_chunks.specs.declared.map.Chunk.{Chunk}
use Rattle.heap_page_check.specs.Table.{AreReadable}
use Rattle.heap_table_check.specs.Case.{heap_blocks}
use Rattle.heap_table_check.specs.Found.{chunks_of}
use Rattle.heap_table_check.specs.Files.{IsToastIn, IsToastNamed, chunks_in, toast_in}
use Rattle.heap_table_check.proofs.ColumnLaws.{columns_aligned}
use Rattle.heap_rows.specs.RowCursor.{IsAtRow, IsCursorOf, asked_at, case_at, heap_at, rows_ahead, rows_unread}
use Rattle.heap_rows.specs.RowPages.{HasPlaces, IsInHand, IsNext, rows_in_hand}
use Rattle.heap_rows.specs.RowValues.{AreStarts, AreValuesOf, AsksColumns, IsReadableValue, bytes_seen}
use Rattle.heap_rows.specs.RowFits.{HasMissing}
use Rattle.heap_rows.specs.Rows.{block_rows, bytes_in_toast, each_from, toast_bytes}
use Rattle.heap_rows.specs.declared.row_page.RowPage.{RowPage}
use Rattle.heap_rows.specs.declared.row_values.AskedColumns.{AskedColumns}
use Rattle.heap_rows.specs.declared.row_values.ValueSources.{ValueSources}
use Rattle.heap_rows.specs.declared.rows.LiveRow.{LiveRow}
use Rattle.heap_rows.specs.declared.row_cursor.RowCursor.{RowCursor}
use Rattle.heap_rows.proofs.Stand.{all_stand}

-- Columns

pub columns_readable : (case : CaseRecord) (types : List ColType) → IsSound case → types ≡ map (λ c. c.ctype) case.columns → AreReadable types
columns_readable case types sound are = record {
  few = subst (λ (ts : List ColType). length ts ≤ 64) (sym are) (omega (arith, length-map case.columns (λ (c : Column). c.ctype), sound.column_count.1));
  aligned = subst (λ (ts : List ColType). All HasAlignment ts) (sym are) (columns_aligned case.columns sound.columns);
}

-- a column of a case may have the value that stands for it in older tuples
pub missing_fit : (case : CaseRecord) (columns : List Column) → IsSound case → columns ≡ case.columns → All HasMissing columns
missing_fit case columns sound are =
    subst (λ (cs : List Column). All HasMissing cs) (sym are) (All-from_recursion HasMissing case.columns (each case.columns sound.columns))
  where
    each : (columns : List Column) → AllByRecursion IsSoundColumn columns → AllByRecursion HasMissing columns
    each [] h = tt
    each (c ∷ cs) h = (h.0.missing, each cs h.1)

-- The TOAST table

pub readable_by : (case : CaseRecord) (names : Names) (t : Option (List ℕ × ℕ)) (r : Option Relation) (chunks : List Chunk) → case.toast ≡ t → IsToastIn names case.segment_blocks t r → IsToastNamed case.segment_blocks t r → chunks ≡ chunks_of case names → IsReadableValue names r chunks
readable_by case names None None chunks is attached named are = tt
readable_by case names (Some t) (Some r) chunks is attached named are =
    (attached.attached, subst (λ (cs : List Chunk). AllStand names r cs) (sym are) (all_stand case names t r is attached named))
readable_by case names None (Some r) chunks is attached named are = absurd attached
readable_by case names (Some t) None chunks is attached named are = absurd attached

-- the bytes of a pointer in the TOAST table that was attached
pub bytes_by : (case : CaseRecord) (names : Names) (t : Option (List ℕ × ℕ)) (r : Option Relation) (chunks : List Chunk) (p : ToastPointer) → case.toast ≡ t → IsToastNamed case.segment_blocks t r → chunks ≡ chunks_of case names → bytes_seen names r chunks p ≡ toast_bytes case names p
unfolding toast_bytes
bytes_by case names None None chunks p is named are = sym (ap (λ (o : Option (List ℕ × ℕ)). bytes_in_toast names case.segment_blocks (chunks_of case names) o p) is)
bytes_by case names (Some t) (Some r) chunks p is named are =
    ap (λ (f : List ℕ). joined_bytes names f (size_of r) chunks p) named.named
    ∙ ap (λ (n : ℕ). joined_bytes names t.0 n chunks p) named.sized
    ∙ ap (λ (cs : List Chunk). joined_bytes names t.0 case.segment_blocks cs p) are
    ∙ sym (ap (λ (o : Option (List ℕ × ℕ)). bytes_in_toast names case.segment_blocks (chunks_of case names) o p) is)
bytes_by case names None (Some r) chunks p is named are = absurd named
bytes_by case names (Some t) None chunks p is named are = absurd named

pub readable : (names : Names) (cursor : RowCursor) (toast : Option Relation) (chunks : List Chunk) → toast ≡ toast_in (heap_at cursor) → chunks ≡ chunks_in (heap_at cursor) → IsCursorOf names cursor → IsReadableValue names toast chunks
readable names cursor toast chunks is same are =
    subst (λ (cs : List Chunk). IsReadableValue names toast cs) (sym same)
    (subst (λ (t : Option Relation). IsReadableValue names t (chunks_in (heap_at cursor))) (sym is)
    (readable_by (case_at cursor) names _ (toast_in (heap_at cursor)) (chunks_in (heap_at cursor)) refl are.heap.files.toast are.belong.toast are.heap.chunks))

pub values_are : (names : Names) (cursor : RowCursor) (from : ValueSources) → option_copied from.toast ≡ toast_in (heap_at cursor) → from.chunks.now ≡ chunks_in (heap_at cursor) → from.columns.now ≡ (case_at cursor).columns → from.asked.now ≡ asked_at cursor → from.starts.now ≡ cursor.starts.items → IsCursorOf names cursor → AreValuesOf (case_at cursor) names from
values_are names cursor from toast chunks columns asked starts are = record {
  columns = columns;
  bytes = λ p.
      ap (λ (t : Option Relation). bytes_seen names t from.chunks.now p) toast
      ∙ bytes_by (case_at cursor) names _ (toast_in (heap_at cursor)) from.chunks.now p refl are.belong.toast (chunks ∙ are.heap.chunks);
  asked = subst (AsksColumns (length (case_at cursor).columns)) (sym asked) are.asked;
  starts =
      subst (λ (ss : List (Option ℕ)). AreStarts (map (λ (c : Column). c.ctype) (case_at cursor).columns) from.asked.now ss) (sym starts)
      (subst (λ (a : AskedColumns). AreStarts (map (λ (c : Column). c.ctype) (case_at cursor).columns) a cursor.starts.items) (sym asked) are.starts);
}

pub in_hand : (names : Names) (cursor : RowCursor) (from : ValueSources) → option_copied from.toast ≡ toast_in (heap_at cursor) → from.chunks.now ≡ chunks_in (heap_at cursor) → IsCursorOf names cursor → IsInHand (case_at cursor) names (option_copied from.toast) from.chunks.now cursor.page
in_hand names cursor from toast chunks are =
    subst (λ (t : Option Relation). IsInHand (case_at cursor) names t from.chunks.now cursor.page) (sym toast)
    (subst (λ (cs : List Chunk). IsInHand (case_at cursor) names (toast_in (heap_at cursor)) cs cursor.page) (sym chunks) are.hand)

-- The page in hand of a cursor

pub ahead_is : (names : Names) (cursor : RowCursor) → rows_ahead names cursor ≡ rows_in_hand (case_at cursor) names cursor.page ++ each_from (block_rows (case_at cursor) names) cursor.next (heap_blocks (case_at cursor) names - cursor.next)
unfolding rows_ahead rows_unread
ahead_is names cursor = refl

-- the cursor with another page in hand
pub moved : (names : Names) (cursor : RowCursor) (page : RowPage) (next taken : ℕ) → IsCursorOf names cursor → page.count ≤ 2042 → IsInHand (case_at cursor) names (toast_in (heap_at cursor)) (chunks_in (heap_at cursor)) page → (page.found ≡ true → IsNext (case_at cursor) names cursor.asked page) → IsCursorOf names (record { case = cursor.case; heap = cursor.heap; asked = cursor.asked; starts = cursor.starts; logs = cursor.logs; page = page; next = next; taken = taken })
moved names cursor page next taken are few hand found = record {
  heap = are.heap;
  belong = are.belong;
  quiet = are.quiet;
  logs = are.logs;
  asked = are.asked;
  starts = are.starts;
  few = few;
  hand = hand;
  next = found;
}

-- with another page of which as many rows are ahead
pub ahead_same : (names : Names) (old new : RowCursor) → case_at new ≡ case_at old → new.next ≡ old.next → rows_in_hand (case_at old) names new.page ≡ rows_in_hand (case_at old) names old.page → rows_ahead names new ≡ rows_ahead names old
ahead_same names old new case next rows =
    ahead_is names new
    ∙ ap (λ (c : CaseRecord). rows_in_hand c names new.page ++ each_from (block_rows c names) new.next (heap_blocks c names - new.next)) case
    ∙ ap (λ (k : ℕ). rows_in_hand (case_at old) names new.page ++ each_from (block_rows (case_at old) names) k (heap_blocks (case_at old) names - k)) next
    ∙ ap (λ (xs : List LiveRow). xs ++ each_from (block_rows (case_at old) names) old.next (heap_blocks (case_at old) names - old.next)) rows
    ∙ sym (ahead_is names old)

-- What was told of a look at the page, for a cursor

module _ {S E : Type 0} (seen : S → Seen) (files : S) (old : RowCursor) (page : RowPage) (told : IfTold seen files (λ names. IsCursorOf names old)) where
  pub done_by : (result : Result Bool E) → IfOk result (λ found. IfTold seen files (λ names. (case : CaseRecord) → found ≡ false → old.page.count ≤ 2042 → rows_in_hand case names page ≡ []))
      → IfOk result (λ found. IfTold seen files (λ names. found ≡ false → rows_in_hand (case_at old) names page ≡ []))
  done_by (Ok found) none = λ names held not. none names held (case_at old) not (told names held).few
  done_by (Err e) none = tt

  pub next_by : (result : Result Bool E) (from : ValueSources) → option_copied from.toast ≡ toast_in (heap_at old) → from.chunks.now ≡ chunks_in (heap_at old) → from.columns.now ≡ (case_at old).columns → from.asked.now ≡ asked_at old → from.starts.now ≡ old.starts.items
      → IfOk result (λ found. page.found ≡ found) → OnErr result (page.found ≡ false)
      → IfOk result (λ found. IfTold seen files (λ names. (case : CaseRecord) → found ≡ true → IsInHand case names (option_copied from.toast) from.chunks.now old.page → AreValuesOf case names from → IsNext case names from.asked.now page))
      → IfTold seen files (λ names. page.found ≡ true → IsNext (case_at old) names old.asked page)
  next_by (Ok found) from toast chunks columns asked starts is err next = λ names held yes.
      let here = told names held in
      subst (λ (a : AskedColumns). IsNext (case_at old) names a page) asked
      (next names held (case_at old) (sym is ∙ yes) (in_hand names old from toast chunks here) (values_are names old from toast chunks columns asked starts here))
  next_by (Err e) from toast chunks columns asked starts is err next = λ names held yes. absurd (false≢true (sym err ∙ yes))

pub at_row_by : {E : Type 0} (result : Result Bool E) (old new : RowCursor) (columns : List Column) (asked : AskedColumns) → columns ≡ (case_at old).columns → asked ≡ new.asked → case_at new ≡ case_at old
    → IfOk result (λ found. found ≡ true → HasPlaces columns asked new.page) → IfOk result (λ found. found ≡ true → new.page.done < 2042) → IfOk result (λ found. found ≡ true → IsAtRow new)
at_row_by (Ok found) old new columns asked cols same case places few = λ yes. record {
  places = subst (λ (a : AskedColumns). HasPlaces (case_at new).columns a new.page) same (subst (λ (cs : List Column). HasPlaces cs asked new.page) (cols ∙ sym (ap (λ (c : CaseRecord). c.columns) case)) (places yes));
  few = few yes;
}
at_row_by (Err e) old new columns asked cols same case places few = tt
