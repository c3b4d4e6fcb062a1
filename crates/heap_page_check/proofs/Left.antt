-- What the attributes of a live tuple leave, column by column.
use Rattle.std.proofs.Common.{◌≡◌, ℕ, ◌+◌, List, [], ◌∙◌, refl, ap, sym, length}
use Rattle.std.specs.Prelude.{slice_get, Option, Some, option_map}
use Rattle.std.proofs.lemmas.Option.{slice_get-map}
use Rattle.std.proofs.lemmas.List.{length-map}
use Rattle.outside.specs.Adds.{each_below}
use Rattle.varlena_attrs.specs.Shown.{shown_at, shown_in}
use Rattle.varlena_attrs.specs.declared.places.AttrPlace.{AttrPlace}
use Rattle.toast_chunks.specs.Rows.{row_of}
use Rattle.toast_chunks.specs.declared.map.Chunk.{Chunk}
use Rattle.reports.specs.Added.{report_lists}
use Rattle.reports.specs.declared.places.Place.TheVariants.{Column}
use Rattle.heap_page_check.specs.Found.{FoundLists, both_found, found_parts, late_at, late_in, late_of, left_by, nothing_found}
use Rattle.heap_page_check.specs.declared.table.TableKind.{TableKind}
use Rattle.heap_page_check.specs.declared.table.TableKind.TheVariants as kind

-- the column after those before it
pub late_next : (toast : Option ℕ) (chunks : List Chunk) (block item k : ℕ) (body : List ℕ) (places : List AttrPlace) (place : AttrPlace)
    → slice_get places k ≡ Some place → late_in toast chunks (Column block item (k + 1)) (Some (shown_at body place)) ≡ late_at toast chunks block item (shown_in body places) k
unfolding late_at
late_next toast chunks block item k body places place e =
    ap (late_in toast chunks (Column block item (k + 1))) (sym (slice_get-map (shown_at body) places k ∙ ap (option_map (shown_at body)) e))

-- all columns
pub late_all : (toast : Option ℕ) (chunks : List Chunk) (block item k : ℕ) (body : List ℕ) (places : List AttrPlace)
    → k ≡ length places → each_below report_lists (late_at toast chunks block item (shown_in body places)) k ≡ late_of toast chunks block item (shown_in body places)
unfolding late_of
late_all toast chunks block item k body places e = rw (length-map places (shown_at body), e) refl

-- no attributes leave nothing
pub none_left : (kind : TableKind) (toast : Option ℕ) (chunks : List Chunk) (block item : ℕ) → left_by kind toast chunks block item [] ≡ nothing_found
unfolding late_of each_below row_of
none_left kind.Heap toast chunks block item = refl
none_left kind.Toast toast chunks block item = refl

pub nothing_left : (kind : TableKind) (toast : Option ℕ) (chunks : List Chunk) (block item : ℕ) (old : FoundLists) → old ≡ both_found old (left_by kind toast chunks block item [])
nothing_left kind toast chunks block item old = sym (ap (both_found old) (none_left kind toast chunks block item) ∙ found_parts.with_none old)

-- what is joined to nothing stays
pub left_of_heap : (toast : Option ℕ) (chunks : List Chunk) (block item : ℕ) (old : FoundLists) → both_found old nothing_found ≡ old
left_of_heap toast chunks block item old = found_parts.with_none old
