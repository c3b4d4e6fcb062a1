-- What is found of a case but for its indexes, in the order of a report.
use Rattle.std.specs.Prelude.{◌≡◌, ℕ, List, [], Option, Some, None}
use Rattle.outside.specs.Outside.{Names}
use Rattle.case_file.specs.Record.{CaseRecord}
use Rattle.toast_chunks.specs.declared.map.Chunk.{Chunk}
use Rattle.reports.specs.Added.{joined}
use Rattle.reports.specs.Lists.{Lists}
use Rattle.reports.specs.declared.places.Finding.{Finding}
use Rattle.reports.specs.declared.places.Rel.TheVariants.{Map as vis_map}
use Rattle.reports.specs.declared.places.UnjudgedPlace.{UnjudgedPlace}
use Rattle.heap_page_check.specs.Found.{FoundLists, nothing_found}
use Rattle.heap_page_check.specs.Pages.{if_silent}
use Rattle.heap_table_check.specs.Case.{case_bits, heap_blocks, heap_long_segment, map_blocks, map_long_segment, table_of}
use Rattle.heap_table_check.specs.Case.{toast_blocks, toast_long_segment, toast_table_of, unmapped}
use Rattle.heap_table_check.specs.Map.{map_blocks_found, map_name}
use Rattle.heap_table_check.specs.Relations.{segment_found, table_found}

-- The visibility map

unfoldable pub map_found : CaseRecord → Names → Lists
map_found case names =
    joined (segment_found vis_map (map_long_segment case names))
    (map_blocks_found names (map_name case.heap_file) case.segment_blocks (map_blocks case names))

-- The TOAST table, where the case has one; no value of its own tuples stands in a TOAST table

unfoldable pub toast_found_in : CaseRecord → Names → List ℕ → FoundLists
toast_found_in case names file =
    table_found (toast_table_of case names) [] unmapped names file case.segment_blocks (toast_blocks case names file)
    (toast_long_segment case names file)

abbrev pub found_of_toast : (List ℕ → FoundLists) → Option (List ℕ × ℕ) → FoundLists
found_of_toast f None = nothing_found
found_of_toast f (Some t) = f t.0

unfoldable pub toast_found : CaseRecord → Names → FoundLists
toast_found case names = found_of_toast (toast_found_in case names) case.toast

-- its live chunks
abbrev pub chunks_of : CaseRecord → Names → List Chunk
chunks_of case names = (toast_found case names).chunks

-- these chunks, where the case has a TOAST table
abbrev pub chunks_given : Option (List ℕ × ℕ) → List Chunk → List Chunk
chunks_given None chunks = []
chunks_given (Some t) chunks = chunks

-- The heap, whose values in the TOAST table have these chunks

unfoldable pub heap_found : CaseRecord → Names → FoundLists
heap_found case names =
    table_found (table_of case names) (chunks_of case names) (case_bits case names) names case.heap_file
    case.segment_blocks (heap_blocks case names) (heap_long_segment case names)

-- All of them, in the order of a report: the TOAST table comes after the heap, and where nothing is found of all three,
-- the values that aren't whole

unfoldable pub files_found : CaseRecord → Names → Lists
files_found case names =
    joined (joined (map_found case names) (heap_found case names).listed) (toast_found case names).listed

-- what the three files give
abbrev pub parts_found : CaseRecord → Names → FoundLists
parts_found case names =
    record { listed = files_found case names; late = (heap_found case names).late; chunks = chunks_of case names }

-- what is listed in any case, and what comes late only where that is nothing
abbrev pub lists_with : Lists → Lists → Lists
lists_with listed late = joined listed (if_silent listed.findings listed.unjudged late)

-- what a report gets of what is found
abbrev pub lists_in : FoundLists → Lists
lists_in found = lists_with found.listed found.late

unfoldable pub case_found : CaseRecord → Names → Lists
case_found case names = lists_in (parts_found case names)

abbrev pub findings_of : CaseRecord → Names → List Finding
findings_of case names = (case_found case names).findings

abbrev pub doubts_of : CaseRecord → Names → List UnjudgedPlace
doubts_of case names = (case_found case names).unjudged

-- nothing is found of a case, and nothing of it can't be judged
pub record IsQuiet (case : CaseRecord) (names : Names) : Type 0 where
  pub findings : findings_of case names ≡ []
  pub doubts : doubts_of case names ≡ []
