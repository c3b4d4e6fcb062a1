-- What is true of the heap of a case of which no rule is broken and all of which can be judged.
use Rattle.std.specs.Prelude.{◌≡◌, ℕ, ◌<◌, List, Some}
use Rattle.outside.specs.Outside.{Names}
use Rattle.case_file.specs.Record.{CaseRecord}
use Rattle.varlena_attrs.specs.declared.places.ToastPointer.{ToastPointer}
use Rattle.toast_chunks.specs.Chunks.{IsWhole}
use Rattle.toast_chunks.specs.declared.map.Chunk.{Chunk}
use Rattle.vis_map.specs.Bits.{no_bits}
use Rattle.heap_page_check.specs.Left.{HasValue}
use Rattle.heap_page_check.specs.Truth.{IsTruePage}
use Rattle.heap_table_check.specs.Broken.{AreChunksOf}
use Rattle.heap_table_check.specs.Case.{case_bits, case_page, heap_blocks, heap_page, table_of, toast_blocks, toast_table_of}

-- Each page of the heap can be read, each bit that is set for it and its own flag are true, and exactly one root
-- reaches each live tuple; so it is with each page of the TOAST table; and each value of a live tuple of the heap that
-- stands in the TOAST table has its chunks whole among the live rows there.
pub record IsTrueHeap (case : CaseRecord) (names : Names) : Type 0 where
  pub pages : (block : ℕ) → block < heap_blocks case names
      → IsTruePage (table_of case names) (case_bits case names block) block (heap_page case names block)
  pub toast_pages : (file : List ℕ) (oid block : ℕ) → case.toast ≡ Some (file, oid)
      → block < toast_blocks case names file
      → IsTruePage (toast_table_of case names) no_bits block (case_page case names file block)
  pub chunks : List Chunk
  pub rows : AreChunksOf case names chunks
  pub values : (block i column : ℕ) (pointer : ToastPointer) → block < heap_blocks case names
      → HasValue (table_of case names) (heap_page case names block) i column pointer → IsWhole chunks pointer
