-- The rules of a case's files, each by its sentence, with the place where it is broken; and what can't be judged.
use Rattle.std.specs.Prelude.{◌≡◌, ℕ, ◌<◌, List, Some, All, AllPairs, Contains}
use Rattle.outside.specs.Outside.{Names}
use Rattle.page_layout.specs.declared.page.PageKind.TheVariants.{Map}
use Rattle.page_layout.specs.declared.rules.Rule.{Rule}
use Rattle.page_layout.specs.declared.rules.Rule.TheVariants.{S1}
use Rattle.case_file.specs.Record.{CaseRecord}
use Rattle.toast_chunks.specs.declared.map.Chunk.{Chunk}
use Rattle.vis_map.specs.Bits.{no_bits}
use Rattle.reports.specs.declared.places.Place.{Place}
use Rattle.reports.specs.declared.places.Place.TheVariants.{Segment}
use Rattle.reports.specs.declared.places.Reason.{Reason}
use Rattle.reports.specs.declared.places.Rel.TheVariants.{Heap as heap, Map as vis_map, Toast as toast}
use Rattle.heap_page_check.specs.Alone.{BreaksHeader}
use Rattle.heap_page_check.specs.Broken.{BreaksPage, DoubtsPage}
use Rattle.heap_page_check.specs.Left.{BreaksValue, IsRowOnPage}
use Rattle.heap_table_check.specs.Case.{case_bits, case_page, heap_blocks, heap_long_segment, heap_page, map_blocks}
use Rattle.heap_table_check.specs.Case.{map_long_segment, map_page, table_of, toast_blocks, toast_long_segment}
use Rattle.heap_table_check.specs.Case.{toast_table_of}

-- The files, each by itself

-- what the visibility map, the heap and the TOAST table may break
pub data BreaksFiles (case : CaseRecord) (names : Names) : Rule → Place → Type 0 where
  long_map_segment : (k : ℕ) → map_long_segment case names ≡ Some k → BreaksFiles case names S1 (Segment vis_map k)
  in_map : (block : ℕ) (rule : Rule) (place : Place) → block < map_blocks case names
      → BreaksHeader Map vis_map block (map_page case names block) rule place → BreaksFiles case names rule place
  long_heap_segment : (k : ℕ) → heap_long_segment case names ≡ Some k → BreaksFiles case names S1 (Segment heap k)
  in_heap : (block : ℕ) (rule : Rule) (place : Place) → block < heap_blocks case names
      → BreaksPage (table_of case names) (case_bits case names block) block (heap_page case names block) rule place
      → BreaksFiles case names rule place
  long_toast_segment : (file : List ℕ) (oid k : ℕ) → case.toast ≡ Some (file, oid)
      → toast_long_segment case names file ≡ Some k → BreaksFiles case names S1 (Segment toast k)
  in_toast_table : (file : List ℕ) (oid block : ℕ) (rule : Rule) (place : Place) → case.toast ≡ Some (file, oid)
      → block < toast_blocks case names file
      → BreaksPage (toast_table_of case names) no_bits block (case_page case names file block) rule place
      → BreaksFiles case names rule place

-- what of them can't be judged
pub data Doubts (case : CaseRecord) (names : Names) : Reason → Place → Type 0 where
  of_heap : (block : ℕ) (reason : Reason) (place : Place) → block < heap_blocks case names
      → DoubtsPage (table_of case names) block (heap_page case names block) reason place
      → Doubts case names reason place
  of_toast_table : (file : List ℕ) (oid block : ℕ) (reason : Reason) (place : Place) → case.toast ≡ Some (file, oid)
      → block < toast_blocks case names file
      → DoubtsPage (toast_table_of case names) block (case_page case names file block) reason place
      → Doubts case names reason place

-- no rule is broken there, and all of them can be judged
pub record FilesPass (case : CaseRecord) (names : Names) : Type 0 where
  pub unbroken : (rule : Rule) (place : Place) → BreaksFiles case names rule place → ⊥
  pub certain : (reason : Reason) (place : Place) → Doubts case names reason place → ⊥

-- The chunks of the TOAST table

-- the case has a TOAST table, and a live tuple of it is the row of this chunk
pub record IsChunkRow (case : CaseRecord) (names : Names) (c : Chunk) : Type 0 where
  pub file : List ℕ
  pub oid : ℕ
  pub has : case.toast ≡ Some (file, oid)
  pub inside : c.tid.block < toast_blocks case names file
  pub row : IsRowOnPage (toast_table_of case names) c.tid.block (case_page case names file c.tid.block) c

-- no two of the chunks have the same place in the TOAST table
abbrev pub AreApart : List Chunk → Type 0
AreApart chunks = AllPairs (λ c d. ¬ (c.tid ≡ d.tid)) chunks

-- these are the chunks of the case's TOAST table: the live rows of it, each once, in any order
pub record AreChunksOf (case : CaseRecord) (names : Names) (chunks : List Chunk) : Type 0 where
  pub each : All (IsChunkRow case names) chunks
  pub all : (c : Chunk) → IsChunkRow case names c → Contains chunks c
  pub apart : AreApart chunks

-- What the files of a case may break: each by itself; and where they break nothing, a value of a live tuple of the heap
-- may not have the chunks in the TOAST table that it should have (H21)
pub data Breaks (case : CaseRecord) (names : Names) : Rule → Place → Type 0 where
  in_files : (rule : Rule) (place : Place) → BreaksFiles case names rule place → Breaks case names rule place
  in_value : (chunks : List Chunk) (block : ℕ) (rule : Rule) (place : Place) → FilesPass case names
      → AreChunksOf case names chunks → block < heap_blocks case names
      → BreaksValue chunks (table_of case names) block (heap_page case names block) rule place
      → Breaks case names rule place
