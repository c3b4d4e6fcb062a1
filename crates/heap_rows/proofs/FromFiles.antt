-- What a quiet case says of the pages of its heap and of the values of its live tuples, and whose rows its chunks are.
use Rattle.std.proofs.Common.{◌≡◌, ℕ, ◌+◌, ◌-◌, ◌<◌, false, List, [], subst, ap, arith, ◌∙◌, refl}
use Rattle.std.specs.Prelude.{Some, slice_get}
use Rattle.std.specs.List.{All}
use Rattle.std.proofs.lemmas.Option.{slice_get-get_or}
use Rattle.outside.specs.Outside.{Names}
use Rattle.rel_files.specs.Blocks.{block_of}
use Rattle.case_file.specs.Record.{CaseRecord}
use Rattle.varlena_attrs.specs.Forms.{External}
use Rattle.varlena_attrs.specs.declared.places.ToastPointer.{ToastPointer}
use Rattle.vis_map.specs.Bits.{no_bits}
use Rattle.toast_chunks.specs.Chunks.{IsWhole}
use Rattle.toast_chunks.specs.declared.map.Chunk.{Chunk}
use Rattle.heap_page_check.specs.Broken.{HasExternal}
use Rattle.heap_page_check.specs.Judged.{HasNothing}
use Rattle.heap_page_check.specs.Pages.{page_found}
use Rattle.heap_page_check.specs.Values.{is_stray_pointer}
use Rattle.heap_page_check.specs.Verdicts.{head_at}
use Rattle.heap_page_check.proofs.ItemLaws.{live_keeps}
use Rattle.heap_page_check.proofs.ValueLaws.{external_keeps}
use Rattle.heap_page_check.proofs.PageLaws.{each_passes, page_is_quiet}
use Rattle.heap_table_check.specs.Case.{case_bits, heap_blocks, table_of, toast_blocks, toast_long_segment, toast_table_of, unmapped}
use Rattle.heap_table_check.specs.Found.{IsQuiet, chunks_of, toast_found_in}
use Rattle.heap_table_check.proofs.CaseLaws.{of_toast}
use Rattle.heap_table_check.proofs.Silent.{heap_block_is_silent, quiet_files}
use Rattle.heap_table_check.proofs.TableLaws.{table_chunks}
use Rattle.heap_table_check.proofs.TrueLaws.{value_is_whole}

module _ (case : CaseRecord) (names : Names) (quiet : IsQuiet case names) where
  abbrev page_at : ℕ → List ℕ
  page_at b = block_of names case.heap_file case.segment_blocks b

  -- nothing is listed of a page of the heap
  pub heap_has_nothing : (b : ℕ) → b < heap_blocks case names → HasNothing (table_of case names) (chunks_of case names) (case_bits case names b) b (page_at b)
  heap_has_nothing = heap_block_is_silent case names (quiet_files case names quiet)

  -- a value of a live tuple isn't stray
  pub value_has_table : (b : ℕ) → b < heap_blocks case names → (i : ℕ) (p : ToastPointer) → HasExternal (table_of case names) (page_at b) i p → is_stray_pointer (table_of case names).toast (head_at (page_at b) i) p ≡ false
  value_has_table b lt i p has =
      let nothing = heap_has_nothing b lt in
      let pass = (page_is_quiet (table_of case names) (chunks_of case names) (case_bits case names b) b (page_at b) nothing.findings nothing.unjudged).pass in
      let own = each_passes (table_of case names) b (page_at b) pass i has.live.item.first has.live.item.last in
      (external_keeps (table_of case names) (page_at b) i p (live_keeps (table_of case names) (page_at b) i own.0 own.1 has.live) has).0

  -- and its chunks are whole
  pub values_are_whole : (b : ℕ) → b < heap_blocks case names → (i : ℕ) (p : ToastPointer) → HasExternal (table_of case names) (page_at b) i p → IsWhole (chunks_of case names) p
  values_are_whole b lt i p has =
      let k = has.among.0 in
      let there : slice_get has.list k ≡ Some (External p) = slice_get-get_or has.list k (External p) has.among.1 ∙ ap Some has.among.2 in
      let P : ℕ → Type 0 = λ n. slice_get has.list n ≡ Some (External p) in
      let same : k ≡ k + 1 - 1 = omega arith in
      value_is_whole case names quiet b i (k + 1) p lt (record { live = has.live; list = has.list; read = has.read; first = omega arith; value = subst P same there })

-- what holds of the chunks of each page of the TOAST table holds of all
module _ (case : CaseRecord) (names : Names) (P : Chunk → Type 0) where
  abbrev pub OfPages : List ℕ → Type 0
  OfPages file = (b : ℕ) → b < toast_blocks case names file → All P (page_found (toast_table_of case names) [] no_bits b (block_of names file case.segment_blocks b)).chunks

  in_file : (file : List ℕ) → OfPages file → All P (toast_found_in case names file).chunks
  unfolding toast_found_in
  in_file file each = table_chunks (toast_table_of case names) [] unmapped names file case.segment_blocks (toast_blocks case names file) (toast_long_segment case names file) P each

  pub All-chunks : ((file : List ℕ) (oid : ℕ) → case.toast ≡ Some (file, oid) → OfPages file) → All P (chunks_of case names)
  All-chunks each = of_toast case names P (λ f. f.chunks) refl (λ file oid has. in_file file (each file oid has))
