-- What is found of a case's files is what is broken there, and where a rule is broken the place is listed.
use Rattle.std.proofs.Common.{◌≡◌, ℕ, ◌<◌, List, [], ◌++◌, refl, sym, ap, subst}
use Rattle.std.specs.Prelude.{Option, Some, None}
use Rattle.std.specs.List.{All}
use Rattle.std.proofs.lemmas.List.Elements.{All-append, All-nil, All-weaker, Contains-append_left, Contains-append_right}
use Rattle.outside.specs.Outside.{Names}
use Rattle.page_layout.specs.Page.{page_rule_of}
use Rattle.page_layout.specs.declared.page.PageKind.TheVariants.{Map}
use Rattle.page_layout.specs.declared.rules.Rule.{Rule}
use Rattle.case_file.specs.Record.{CaseRecord}
use Rattle.vis_map.specs.Bits.{no_bits}
use Rattle.reports.proofs.Parts.{All-below, among_below}
use Rattle.reports.specs.Added.{IsListed, finding_at, report_lists}
use Rattle.reports.specs.declared.places.Finding.{Finding}
use Rattle.reports.specs.declared.places.Place.{Place}
use Rattle.reports.specs.declared.places.Place.TheVariants.{Block, Segment}
use Rattle.reports.specs.declared.places.Reason.{Reason}
use Rattle.reports.specs.declared.places.Rel.TheVariants.{Heap as heap, Map as vis_map, Toast as toast}
use Rattle.reports.specs.declared.places.UnjudgedPlace.{UnjudgedPlace}
use Rattle.heap_page_check.specs.Alone.{BreaksHeader}
use Rattle.heap_page_check.specs.Found.{FoundLists, nothing_found}
use Rattle.heap_page_check.specs.Pages.{page_found}
use Rattle.heap_page_check.proofs.HeaderLaws.{All-finding_at, no_header_is_broken, page_rule_is_broken, place_of_header}
use Rattle.heap_page_check.proofs.Judged.{is_judged}
use Rattle.heap_page_check.proofs.PageLaws.{listed_at, listed_in, no_members, none_listed}
use Rattle.heap_table_check.specs.Broken.{BreaksFiles, long_map_segment, in_map, long_heap_segment, in_heap, long_toast_segment, in_toast_table, Doubts, of_heap, of_toast_table, FilesPass}
use Rattle.heap_table_check.specs.Case.{case_bits, case_page, heap_blocks, heap_long_segment, heap_page, map_blocks, map_long_segment, map_page, table_of, toast_blocks, toast_long_segment, toast_table_of, unmapped}
use Rattle.heap_table_check.specs.Found.{chunks_of, files_found, found_of_toast, heap_found, map_found, toast_found, toast_found_in}
use Rattle.heap_table_check.specs.Relations.{segment_found}
use Rattle.heap_table_check.specs.Map.{map_block_found, map_blocks_found, map_name, map_page_found}
use Rattle.heap_table_check.proofs.Silent.{AreEmpty}
use Rattle.heap_table_check.proofs.TableLaws.{segment_certain, segment_listed, segment_sound, table_doubts, table_listed, table_segment_listed, table_sound}

-- a finding leaves nothing in doubt
no_doubt_at : (P : UnjudgedPlace → Type 0) (place : Place) (rule : Option Rule) → All P (finding_at place rule).unjudged
no_doubt_at P place None = All-nil P
no_doubt_at P place (Some rule) = All-nil P

module _ (case : CaseRecord) (names : Names) where
  abbrev pub BreaksThere : Finding → Type 0
  BreaksThere f = BreaksFiles case names f.rule f.place

  abbrev pub DoubtsThere : UnjudgedPlace → Type 0
  DoubtsThere u = Doubts case names u.reason u.place

  -- The visibility map

  map_block_sound : (block : ℕ) → block < map_blocks case names → All BreaksThere (map_block_found names (map_name case.heap_file) case.segment_blocks block).findings
  unfolding map_block_found map_page_found
  map_block_sound block inside =
      All-finding_at BreaksThere (Block vis_map block) (page_rule_of Map (map_page case names block))
      (λ rule e. in_map block rule (Block vis_map block) inside (page_rule_is_broken Map vis_map block (map_page case names block) rule e))

  map_sound : All BreaksThere (map_found case names).findings
  unfolding map_found map_blocks_found
  map_sound =
      All-append BreaksThere (segment_found vis_map (map_long_segment case names)).findings _ (segment_sound BreaksThere vis_map (map_long_segment case names) (λ k e. long_map_segment k e))
      (All-below report_lists (λ l. l.findings) refl (λ a b. refl) BreaksThere (map_block_found names (map_name case.heap_file) case.segment_blocks) (map_blocks case names) map_block_sound)

  map_certain : All DoubtsThere (map_found case names).unjudged
  unfolding map_found map_blocks_found map_block_found map_page_found
  map_certain =
      All-append DoubtsThere (segment_found vis_map (map_long_segment case names)).unjudged _ (segment_certain DoubtsThere vis_map (map_long_segment case names))
      (All-below report_lists (λ l. l.unjudged) refl (λ a b. refl) DoubtsThere (map_block_found names (map_name case.heap_file) case.segment_blocks) (map_blocks case names)
      (λ block inside. no_doubt_at DoubtsThere (Block vis_map block) (page_rule_of Map (map_page case names block))))

  map_segment_listed : (k : ℕ) → map_long_segment case names ≡ Some k → IsListed (map_found case names) (Segment vis_map k)
  unfolding map_found
  map_segment_listed k e =
      listed_in (segment_found vis_map (map_long_segment case names)) _ (Segment vis_map k)
      (λ f has. Contains-append_left _ _ f has) (λ u has. Contains-append_left _ _ u has)
      (segment_listed vis_map (map_long_segment case names) k e)

  map_header_listed : (block : ℕ) (rule : Rule) (place : Place) → block < map_blocks case names → BreaksHeader Map vis_map block (map_page case names block) rule place → IsListed (map_found case names) (Block vis_map block)
  unfolding map_found map_blocks_found map_block_found map_page_found
  map_header_listed block rule place inside broken =
      listed_in (finding_at (Block vis_map block) (page_rule_of Map (map_page case names block))) _ (Block vis_map block)
      (λ f has. Contains-append_right (segment_found vis_map (map_long_segment case names)).findings _ f (among_below report_lists (λ l. l.findings) refl (λ a b. refl) (map_block_found names (map_name case.heap_file) case.segment_blocks) (map_blocks case names) block f inside has))
      (λ u has. Contains-append_right (segment_found vis_map (map_long_segment case names)).unjudged _ u (among_below report_lists (λ l. l.unjudged) refl (λ a b. refl) (map_block_found names (map_name case.heap_file) case.segment_blocks) (map_blocks case names) block u inside has))
      (listed_at (Block vis_map block) (page_rule_of Map (map_page case names block)) (λ none. no_header_is_broken Map vis_map block (map_page case names block) none rule place broken))

  -- The heap

  heap_sound : All BreaksThere (heap_found case names).listed.findings
  unfolding heap_found table_of
  heap_sound =
      table_sound (table_of case names) (chunks_of case names) (case_bits case names) names case.heap_file case.segment_blocks (heap_blocks case names) (heap_long_segment case names) BreaksThere
      (λ k e. long_heap_segment k e)
      (λ block inside. All-weaker _ BreaksThere (λ f broken. in_heap block f.rule f.place inside broken) _ (is_judged (table_of case names) (chunks_of case names) (case_bits case names block) block (heap_page case names block)).sound)

  heap_doubts : All DoubtsThere (heap_found case names).listed.unjudged
  unfolding heap_found
  heap_doubts =
      table_doubts (table_of case names) (chunks_of case names) (case_bits case names) names case.heap_file case.segment_blocks (heap_blocks case names) (heap_long_segment case names) DoubtsThere
      (λ block inside. All-weaker _ DoubtsThere (λ u doubted. of_heap block u.reason u.place inside doubted) _ (is_judged (table_of case names) (chunks_of case names) (case_bits case names block) block (heap_page case names block)).doubts)

  heap_segment_listed : (k : ℕ) → heap_long_segment case names ≡ Some k → IsListed (heap_found case names).listed (Segment heap k)
  unfolding heap_found table_of
  heap_segment_listed k e = table_segment_listed (table_of case names) (chunks_of case names) (case_bits case names) names case.heap_file case.segment_blocks (heap_blocks case names) (heap_long_segment case names) k e

  heap_block_listed : (block : ℕ) (place : Place) → block < heap_blocks case names → IsListed (page_found (table_of case names) (chunks_of case names) (case_bits case names block) block (heap_page case names block)).listed place → IsListed (heap_found case names).listed place
  unfolding heap_found
  heap_block_listed block place inside is = table_listed (table_of case names) (chunks_of case names) (case_bits case names) names case.heap_file case.segment_blocks (heap_blocks case names) (heap_long_segment case names) block place inside is

  -- The TOAST table

  toast_sound_in : (file : List ℕ) (oid : ℕ) → case.toast ≡ Some (file, oid) → All BreaksThere (toast_found_in case names file).listed.findings
  unfolding toast_found_in toast_table_of
  toast_sound_in file oid has =
      table_sound (toast_table_of case names) [] unmapped names file case.segment_blocks (toast_blocks case names file) (toast_long_segment case names file) BreaksThere
      (λ k e. long_toast_segment file oid k has e)
      (λ block inside. All-weaker _ BreaksThere (λ f broken. in_toast_table file oid block f.rule f.place has inside broken) _ (is_judged (toast_table_of case names) [] no_bits block (case_page case names file block)).sound)

  toast_doubts_in : (file : List ℕ) (oid : ℕ) → case.toast ≡ Some (file, oid) → All DoubtsThere (toast_found_in case names file).listed.unjudged
  unfolding toast_found_in
  toast_doubts_in file oid has =
      table_doubts (toast_table_of case names) [] unmapped names file case.segment_blocks (toast_blocks case names file) (toast_long_segment case names file) DoubtsThere
      (λ block inside. All-weaker _ DoubtsThere (λ u doubted. of_toast_table file oid block u.reason u.place has inside doubted) _ (is_judged (toast_table_of case names) [] no_bits block (case_page case names file block)).doubts)

  -- what each TOAST table that the case may have has, its own has
  pub of_toast : {X : Type 0} (P : X → Type 0) (part : FoundLists → List X) → part nothing_found ≡ [] → ((file : List ℕ) (oid : ℕ) → case.toast ≡ Some (file, oid) → All P (part (toast_found_in case names file))) → All P (part (toast_found case names))
  unfolding toast_found
  of_toast P part none each = by_toast case.toast refl
    where
      by_toast : (o : Option (List ℕ × ℕ)) → case.toast ≡ o → All P (part (found_of_toast (toast_found_in case names) o))
      by_toast None e = subst (All P) (sym none) (All-nil P)
      by_toast (Some t) e = each t.0 t.1 e

  pub toast_is : (file : List ℕ) (oid : ℕ) → case.toast ≡ Some (file, oid) → toast_found_in case names file ≡ toast_found case names
  unfolding toast_found
  toast_is file oid has = sym (ap (found_of_toast (toast_found_in case names)) has)

  toast_segment_listed : (file : List ℕ) (oid k : ℕ) → case.toast ≡ Some (file, oid) → toast_long_segment case names file ≡ Some k → IsListed (toast_found case names).listed (Segment toast k)
  unfolding toast_found_in toast_table_of
  toast_segment_listed file oid k has e =
      subst (λ (f : FoundLists). IsListed f.listed (Segment toast k)) (toast_is file oid has)
      (table_segment_listed (toast_table_of case names) [] unmapped names file case.segment_blocks (toast_blocks case names file) (toast_long_segment case names file) k e)

  toast_block_listed : (file : List ℕ) (oid block : ℕ) (place : Place) → case.toast ≡ Some (file, oid) → block < toast_blocks case names file → IsListed (page_found (toast_table_of case names) [] no_bits block (case_page case names file block)).listed place → IsListed (toast_found case names).listed place
  unfolding toast_found_in
  toast_block_listed file oid block place has inside is =
      subst (λ (f : FoundLists). IsListed f.listed place) (toast_is file oid has)
      (table_listed (toast_table_of case names) [] unmapped names file case.segment_blocks (toast_blocks case names file) (toast_long_segment case names file) block place inside is)

  -- All three

  pub files_sound : All BreaksThere (files_found case names).findings
  unfolding files_found
  files_sound =
      All-append BreaksThere ((map_found case names).findings ++ (heap_found case names).listed.findings) _
      (All-append BreaksThere (map_found case names).findings _ map_sound heap_sound)
      (of_toast BreaksThere (λ f. f.listed.findings) refl toast_sound_in)

  pub files_doubts : All DoubtsThere (files_found case names).unjudged
  unfolding files_found
  files_doubts =
      All-append DoubtsThere ((map_found case names).unjudged ++ (heap_found case names).listed.unjudged) _
      (All-append DoubtsThere (map_found case names).unjudged _ map_certain heap_doubts)
      (of_toast DoubtsThere (λ f. f.listed.unjudged) refl toast_doubts_in)

  in_map_list : (place : Place) → IsListed (map_found case names) place → IsListed (files_found case names) place
  unfolding files_found
  in_map_list place is =
      listed_in (map_found case names) _ place
      (λ f has. Contains-append_left _ _ f (Contains-append_left _ _ f has))
      (λ u has. Contains-append_left _ _ u (Contains-append_left _ _ u has)) is

  in_heap_list : (place : Place) → IsListed (heap_found case names).listed place → IsListed (files_found case names) place
  unfolding files_found
  in_heap_list place is =
      listed_in (heap_found case names).listed _ place
      (λ f has. Contains-append_left _ _ f (Contains-append_right (map_found case names).findings _ f has))
      (λ u has. Contains-append_left _ _ u (Contains-append_right (map_found case names).unjudged _ u has)) is

  in_toast_list : (place : Place) → IsListed (toast_found case names).listed place → IsListed (files_found case names) place
  unfolding files_found
  in_toast_list place is =
      listed_in (toast_found case names).listed _ place
      (λ f has. Contains-append_right ((map_found case names).findings ++ (heap_found case names).listed.findings) _ f has)
      (λ u has. Contains-append_right ((map_found case names).unjudged ++ (heap_found case names).listed.unjudged) _ u has) is

  -- where a rule is broken, the place is listed
  pub files_listed : (rule : Rule) (place : Place) → BreaksFiles case names rule place → IsListed (files_found case names) place
  files_listed _ _ (long_map_segment k e) = in_map_list (Segment vis_map k) (map_segment_listed k e)
  files_listed _ _ (in_map block rule place inside broken) =
      subst (λ (p : Place). IsListed (files_found case names) p) (sym (place_of_header Map vis_map block (map_page case names block) rule place broken))
      (in_map_list (Block vis_map block) (map_header_listed block rule place inside broken))
  files_listed _ _ (long_heap_segment k e) = in_heap_list (Segment heap k) (heap_segment_listed k e)
  files_listed _ _ (in_heap block rule place inside broken) =
      in_heap_list place (heap_block_listed block place inside ((is_judged (table_of case names) (chunks_of case names) (case_bits case names block) block (heap_page case names block)).listed rule place broken))
  files_listed _ _ (long_toast_segment file oid k has e) = in_toast_list (Segment toast k) (toast_segment_listed file oid k has e)
  files_listed _ _ (in_toast_table file oid block rule place has inside broken) =
      in_toast_list place (toast_block_listed file oid block place has inside ((is_judged (toast_table_of case names) [] no_bits block (case_page case names file block)).listed rule place broken))

  pub files_doubt_listed : (reason : Reason) (place : Place) → Doubts case names reason place → IsListed (files_found case names) place
  files_doubt_listed _ _ (of_heap block reason place inside doubted) =
      in_heap_list place (heap_block_listed block place inside ((is_judged (table_of case names) (chunks_of case names) (case_bits case names block) block (heap_page case names block)).doubts_listed reason place doubted))
  files_doubt_listed _ _ (of_toast_table file oid block reason place has inside doubted) =
      in_toast_list place (toast_block_listed file oid block place has inside ((is_judged (toast_table_of case names) [] no_bits block (case_page case names file block)).doubts_listed reason place doubted))

  -- the files pass exactly where nothing is found of them
  pub pass_is_empty : FilesPass case names → AreEmpty (files_found case names)
  pass_is_empty pass = record {
    findings = no_members BreaksThere _ files_sound (λ f broken. pass.unbroken f.rule f.place broken);
    unjudged = no_members DoubtsThere _ files_doubts (λ u doubted. pass.certain u.reason u.place doubted);
  }

  pub empty_is_pass : AreEmpty (files_found case names) → FilesPass case names
  empty_is_pass empty = record {
    unbroken = λ rule place broken. none_listed _ place empty.findings empty.unjudged (files_listed rule place broken);
    certain = λ reason place doubted. none_listed _ place empty.findings empty.unjudged (files_doubt_listed reason place doubted);
  }
