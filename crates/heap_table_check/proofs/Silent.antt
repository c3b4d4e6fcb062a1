-- A case of which nothing is found, and what is found of its files in parts.
use Rattle.std.proofs.Common.{◌≡◌, ℕ, ◌<◌, List, [], ◌++◌, refl, subst}
use Rattle.std.specs.Prelude.{Option, Some}
use Rattle.outside.specs.Outside.{Names}
use Rattle.case_file.specs.Record.{CaseRecord}
use Rattle.toast_chunks.specs.declared.map.Chunk.{Chunk}
use Rattle.vis_map.specs.Bits.{no_bits}
use Rattle.vis_map.specs.declared.bits.MapBits.{MapBits}
use Rattle.reports.specs.Lists.{Lists}
use Rattle.reports.proofs.Parts.{below_is_empty, first_is_empty, second_is_empty}
use Rattle.heap_page_check.specs.Found.{found_parts}
use Rattle.heap_page_check.specs.Judged.{HasNothing}
use Rattle.heap_page_check.specs.Pages.{if_silent}
use Rattle.heap_page_check.specs.Table.{Table}
use Rattle.heap_page_check.proofs.JointRules.{silent_is}
use Rattle.heap_table_check.specs.Case.{case_bits, case_page, heap_blocks, heap_page, table_of, toast_blocks, toast_table_of, unmapped}
use Rattle.heap_table_check.specs.Found.{IsQuiet, case_found, chunks_of, files_found, found_of_toast, heap_found, map_found, toast_found, toast_found_in}
use Rattle.heap_table_check.specs.Relations.{block_found, blocks_found, table_found}

-- nothing is listed
pub record AreEmpty (lists : Lists) : Type 0 where
  pub findings : lists.findings ≡ []
  pub unjudged : lists.unjudged ≡ []

-- A block of a table of which nothing is listed
pub block_is_silent : (table : Table) (chunks : List Chunk) (bits : ℕ → MapBits) (names : Names) (base : List ℕ) (size n : ℕ) (long : Option ℕ) (block : ℕ) → AreEmpty (table_found table chunks bits names base size n long).listed → block < n → AreEmpty (block_found table chunks bits names base size block).listed
unfolding table_found blocks_found
block_is_silent table chunks bits names base size n long block empty inside = record {
  findings = below_is_empty found_parts (λ f. f.listed.findings) refl (λ a b. refl) (block_found table chunks bits names base size) n block (second_is_empty _ _ empty.findings) inside;
  unjudged = below_is_empty found_parts (λ f. f.listed.unjudged) refl (λ a b. refl) (block_found table chunks bits names base size) n block (second_is_empty _ _ empty.unjudged) inside;
}

module _ (case : CaseRecord) (names : Names) where
  heap_has_nothing : AreEmpty (heap_found case names).listed → (block : ℕ) → block < heap_blocks case names → HasNothing (table_of case names) (chunks_of case names) (case_bits case names block) block (heap_page case names block)
  unfolding heap_found block_found
  heap_has_nothing empty block inside =
      let silent = block_is_silent (table_of case names) (chunks_of case names) (case_bits case names) names case.heap_file case.segment_blocks (heap_blocks case names) _ block empty inside in
      record { findings = silent.findings; unjudged = silent.unjudged }

  toast_has_nothing : (file : List ℕ) (oid block : ℕ) → case.toast ≡ Some (file, oid) → AreEmpty (toast_found case names).listed → block < toast_blocks case names file → HasNothing (toast_table_of case names) [] no_bits block (case_page case names file block)
  unfolding toast_found toast_found_in block_found
  toast_has_nothing file oid block has empty inside =
      let here : AreEmpty (found_of_toast (toast_found_in case names) (Some (file, oid))).listed = subst (λ o. AreEmpty (found_of_toast (toast_found_in case names) o).listed) has empty in
      let silent = block_is_silent (toast_table_of case names) [] unmapped names file case.segment_blocks (toast_blocks case names file) _ block here inside in
      record { findings = silent.findings; unjudged = silent.unjudged }

  -- nothing is found of the three files
  pub record AreSilent : Type 0 where
    pub map : AreEmpty (map_found case names)
    pub heap : AreEmpty (heap_found case names).listed
    pub toast : AreEmpty (toast_found case names).listed

  pub files_are_silent : AreEmpty (files_found case names) → AreSilent
  unfolding files_found
  files_are_silent empty = record {
    map = record {
      findings = first_is_empty _ _ (first_is_empty _ _ empty.findings);
      unjudged = first_is_empty _ _ (first_is_empty _ _ empty.unjudged);
    };
    heap = record {
      findings = second_is_empty (map_found case names).findings _ (first_is_empty _ _ empty.findings);
      unjudged = second_is_empty (map_found case names).unjudged _ (first_is_empty _ _ empty.unjudged);
    };
    toast = record {
      findings = second_is_empty ((map_found case names).findings ++ (heap_found case names).listed.findings) _ empty.findings;
      unjudged = second_is_empty ((map_found case names).unjudged ++ (heap_found case names).listed.unjudged) _ empty.unjudged;
    };
  }

  pub heap_block_is_silent : AreEmpty (files_found case names) → (block : ℕ) → block < heap_blocks case names → HasNothing (table_of case names) (chunks_of case names) (case_bits case names block) block (heap_page case names block)
  heap_block_is_silent empty = heap_has_nothing (files_are_silent empty).heap

  pub toast_block_is_silent : AreEmpty (files_found case names) → (file : List ℕ) (oid block : ℕ) → case.toast ≡ Some (file, oid) → block < toast_blocks case names file → HasNothing (toast_table_of case names) [] no_bits block (case_page case names file block)
  toast_block_is_silent empty file oid block has = toast_has_nothing file oid block has (files_are_silent empty).toast

  -- where nothing is found of the files, what comes late is found
  pub late_is : AreEmpty (files_found case names) → if_silent (files_found case names).findings (files_found case names).unjudged (heap_found case names).late ≡ (heap_found case names).late
  late_is empty = silent_is (files_found case names).findings (files_found case names).unjudged (heap_found case names).late empty.findings empty.unjudged

  -- of a quiet case nothing is found of the files, and nothing comes late
  module _ (quiet : IsQuiet case names) where
    pub quiet_files : AreEmpty (files_found case names)
    unfolding case_found
    quiet_files = record { findings = first_is_empty _ _ quiet.findings; unjudged = first_is_empty _ _ quiet.doubts }

    pub quiet_late : AreEmpty (heap_found case names).late
    unfolding case_found
    quiet_late = subst AreEmpty (late_is quiet_files) (record {
      findings = second_is_empty (files_found case names).findings _ quiet.findings;
      unjudged = second_is_empty (files_found case names).unjudged _ quiet.doubts;
    })
