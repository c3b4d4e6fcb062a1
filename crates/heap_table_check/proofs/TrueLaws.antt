-- What the lists of a case say of it, and what is true where they are empty.
use Rattle.std.proofs.Common.{◌≡◌, inl, inr, ℕ, ◌-◌, ◌<◌, Bool, true, false, List, [], refl, sym, ap, subst, ◌∙◌, arith}
use Rattle.std.specs.Prelude.{Option, Some, None, Contains, not, ◌||◌}
use Rattle.std.specs.List.{All}
use Rattle.std.proofs.lemmas.Bool.{both_ways, cases_Bool}
use Rattle.std.proofs.lemmas.Option.{slice_get_cases}
use Rattle.std.proofs.lemmas.List.Elements.{All-append, All-weaker, Contains-append_left, Contains-append_right}
use Rattle.outside.specs.Outside.{Names}
use Rattle.key_orders.specs.declared.Tid.{Tid}
use Rattle.page_layout.specs.declared.rules.Rule.{Rule}
use Rattle.page_layout.specs.declared.rules.Rule.TheVariants.{H19, H21}
use Rattle.case_file.specs.Record.{CaseRecord}
use Rattle.varlena_attrs.specs.Forms.{Attribute, External}
use Rattle.varlena_attrs.specs.declared.places.ToastPointer.{ToastPointer}
use Rattle.toast_chunks.specs.Chunks.{IsWhole, is_whole}
use Rattle.toast_chunks.specs.declared.map.Chunk.{Chunk}
use Rattle.toast_chunks.proofs.Finding.{is_whole-from, is_whole-tells}
use Rattle.vis_map.specs.Bits.{no_bits}
use Rattle.reports.specs.Added.{IsListed}
use Rattle.reports.specs.Lists.{Lists}
use Rattle.reports.specs.declared.places.Finding.{Finding}
use Rattle.reports.specs.declared.places.Place.{Place}
use Rattle.reports.specs.declared.places.Place.TheVariants.{Column, Item}
use Rattle.reports.specs.declared.places.Rel.TheVariants.{Heap as heap}
use Rattle.reports.specs.declared.places.UnjudgedPlace.{UnjudgedPlace}
use Rattle.heap_page_check.specs.Broken.{HasExternal, at_item, on_item, stray_pointer}
use Rattle.heap_page_check.specs.Found.{FoundLists}
use Rattle.heap_page_check.specs.Judged.{IsSilent}
use Rattle.heap_page_check.specs.Left.{BreaksValue, not_whole, HasValue, IsRowOnPage}
use Rattle.heap_page_check.specs.Pages.{if_silent}
use Rattle.heap_page_check.specs.Values.{has_externals, is_stray_pointer}
use Rattle.heap_page_check.specs.Verdicts.{head_at}
use Rattle.heap_page_check.proofs.Judged.{is_judged, is_silent}
use Rattle.heap_page_check.proofs.PageLaws.{listed_in, none_listed, silent_sound}
use Rattle.heap_table_check.specs.Broken.{AreApart, AreChunksOf, Breaks, in_files, in_value, FilesPass, IsChunkRow}
use Rattle.heap_table_check.specs.Case.{case_bits, case_page, heap_blocks, heap_long_segment, heap_page, table_of, toast_blocks, toast_long_segment, toast_table_of, unmapped}
use Rattle.heap_table_check.specs.Found.{IsQuiet, case_found, chunks_of, files_found, found_of_toast, heap_found, toast_found, toast_found_in}
use Rattle.heap_table_check.specs.Judged.{IsJudged}
use Rattle.heap_table_check.specs.Truth.{IsTrueHeap}
use Rattle.heap_table_check.proofs.CaseLaws.{BreaksThere, DoubtsThere, empty_is_pass, files_doubt_listed, files_doubts, files_listed, files_sound, of_toast, pass_is_empty, toast_is}
use Rattle.heap_table_check.proofs.SameChunks.{whole_there}
use Rattle.heap_table_check.proofs.Silent.{AreEmpty, heap_block_is_silent, late_is, quiet_files, quiet_late, toast_block_is_silent}
use Rattle.heap_table_check.proofs.TableLaws.{table_chunk_among, table_chunks, table_chunks_apart, table_late, table_late_certain, table_late_listed}

module _ (case : CaseRecord) (names : Names) where
  -- The chunks of the TOAST table

  chunks_are_rows_in : (file : List ℕ) (oid : ℕ) → case.toast ≡ Some (file, oid) → All (IsChunkRow case names) (toast_found_in case names file).chunks
  unfolding toast_found_in
  chunks_are_rows_in file oid has =
      table_chunks (toast_table_of case names) [] unmapped names file case.segment_blocks (toast_blocks case names file) (toast_long_segment case names file) (IsChunkRow case names)
      (λ block inside. All-weaker (IsRowOnPage (toast_table_of case names) block (case_page case names file block)) (IsChunkRow case names)
      (λ c row.
      let at : block ≡ c.tid.block = sym (ap (λ (t : Tid). t.block) row.1.place) in
      record {
        file = file;
        oid = oid;
        has = has;
        inside = subst (λ (b : ℕ). b < toast_blocks case names file) at inside;
        row = subst (λ (b : ℕ). IsRowOnPage (toast_table_of case names) b (case_page case names file b) c) at row;
      })
      _ (is_judged (toast_table_of case names) [] no_bits block (case_page case names file block)).chunks_are_rows)

  chunks_are_apart_in : (file : List ℕ) → AreApart (toast_found_in case names file).chunks
  unfolding toast_found_in
  chunks_are_apart_in file = table_chunks_apart (toast_table_of case names) [] unmapped names file case.segment_blocks (toast_blocks case names file) (toast_long_segment case names file)

  chunks_are_apart : AreApart (chunks_of case names)
  unfolding toast_found
  chunks_are_apart = by_toast case.toast
    where
      by_toast : (o : Option (List ℕ × ℕ)) → AreApart (found_of_toast (toast_found_in case names) o).chunks
      by_toast None = λ i j d lt within. absurd (omega (arith, within))
      by_toast (Some t) = chunks_are_apart_in t.0

  row_is_chunk_in : (pass : FilesPass case names) (file : List ℕ) (oid block : ℕ) (c : Chunk) → case.toast ≡ Some (file, oid) → block < toast_blocks case names file → IsRowOnPage (toast_table_of case names) block (case_page case names file block) c → Contains (toast_found_in case names file).chunks c
  unfolding toast_found_in toast_table_of
  row_is_chunk_in pass file oid block c has inside row =
      table_chunk_among (toast_table_of case names) [] unmapped names file case.segment_blocks (toast_blocks case names file) (toast_long_segment case names file) block c inside
      ((is_silent (toast_table_of case names) [] no_bits block (case_page case names file block) (toast_block_is_silent case names (pass_is_empty case names pass) file oid block has inside)).rows_are_chunks refl c row)

  pub chunks_are : FilesPass case names → AreChunksOf case names (chunks_of case names)
  chunks_are pass = record {
    each = of_toast case names (IsChunkRow case names) (λ f. f.chunks) refl chunks_are_rows_in;
    all = λ c is. subst (λ (f : FoundLists). Contains f.chunks c) (toast_is case names is.file is.oid is.has) (row_is_chunk_in pass is.file is.oid c.tid.block c is.has is.inside is.row);
    apart = chunks_are_apart;
  }

  -- Values

  abbrev BreaksHere : Finding → Type 0
  BreaksHere f = Breaks case names f.rule f.place

  late_sound : AreEmpty (files_found case names) → All BreaksHere (heap_found case names).late.findings
  unfolding heap_found
  late_sound empty =
      let pass = empty_is_pass case names empty in
      table_late (table_of case names) (chunks_of case names) (case_bits case names) names case.heap_file case.segment_blocks (heap_blocks case names) (heap_long_segment case names) BreaksHere
      (λ block inside. All-weaker _ BreaksHere (λ f broken. in_value (chunks_of case names) block f.rule f.place pass (chunks_are pass) inside broken)
      _ (is_judged (table_of case names) (chunks_of case names) (case_bits case names block) block (heap_page case names block)).late_sound)

  late_certain : All (λ (u : UnjudgedPlace). ⊥) (heap_found case names).late.unjudged
  unfolding heap_found
  late_certain = table_late_certain (table_of case names) (chunks_of case names) (case_bits case names) names case.heap_file case.segment_blocks (heap_blocks case names) (heap_long_segment case names)

  -- a value that isn't whole by some chunks of the table isn't by the others
  broken_there : (chunks : List Chunk) (block : ℕ) (rule : Rule) (place : Place) → FilesPass case names → AreChunksOf case names chunks → BreaksValue chunks (table_of case names) block (heap_page case names block) rule place → BreaksValue (chunks_of case names) (table_of case names) block (heap_page case names block) rule place
  broken_there chunks block _ _ pass are (not_whole oid i column pointer has value broken) =
      not_whole oid i column pointer has value (λ whole. broken (whole_there case names (chunks_of case names) chunks (chunks_are pass) are pointer whole))

  late_listed : (block : ℕ) (rule : Rule) (place : Place) → AreEmpty (files_found case names) → block < heap_blocks case names → BreaksValue (chunks_of case names) (table_of case names) block (heap_page case names block) rule place → IsListed (heap_found case names).late place
  unfolding heap_found table_of
  late_listed block rule place empty inside broken =
      table_late_listed (table_of case names) (chunks_of case names) (case_bits case names) names case.heap_file case.segment_blocks (heap_blocks case names) (heap_long_segment case names) block place inside
      ((is_silent (table_of case names) (chunks_of case names) (case_bits case names block) block (heap_page case names block) (heap_block_is_silent case names empty block inside)).late_listed refl rule place broken)

  -- The case

  sound : All BreaksHere (case_found case names).findings
  unfolding case_found
  sound =
      All-append BreaksHere (files_found case names).findings _
      (All-weaker (BreaksThere case names) BreaksHere (λ f broken. in_files f.rule f.place broken) _ (files_sound case names))
      (silent_sound BreaksHere (λ l. l.findings) (files_found case names).findings (files_found case names).unjudged (heap_found case names).late refl
      (λ none sure. late_sound (record { findings = none; unjudged = sure })))

  doubts : All (DoubtsThere case names) (case_found case names).unjudged
  unfolding case_found
  doubts =
      All-append (DoubtsThere case names) (files_found case names).unjudged _ (files_doubts case names)
      (silent_sound (DoubtsThere case names) (λ l. l.unjudged) (files_found case names).findings (files_found case names).unjudged (heap_found case names).late refl
      (λ none sure. All-weaker (λ (u : UnjudgedPlace). ⊥) (DoubtsThere case names) (λ u no. absurd no) _ late_certain))

  in_files_list : (place : Place) → IsListed (files_found case names) place → IsListed (case_found case names) place
  unfolding case_found
  in_files_list place is =
      listed_in (files_found case names) _ place (λ f has. Contains-append_left _ _ f has) (λ u has. Contains-append_left _ _ u has) is

  in_late_list : (place : Place) → AreEmpty (files_found case names) → IsListed (heap_found case names).late place → IsListed (case_found case names) place
  unfolding case_found
  in_late_list place empty is =
      let late = if_silent (files_found case names).findings (files_found case names).unjudged (heap_found case names).late in
      listed_in late _ place
      (λ f has. Contains-append_right (files_found case names).findings _ f has)
      (λ u has. Contains-append_right (files_found case names).unjudged _ u has)
      (subst (λ (l : Lists). IsListed l place) (sym (late_is case names empty)) is)

  listed : (rule : Rule) (place : Place) → Breaks case names rule place → IsListed (case_found case names) place
  listed _ _ (in_files rule place broken) = in_files_list place (files_listed case names rule place broken)
  listed _ _ (in_value chunks block rule place pass are inside broken) =
      let empty = pass_is_empty case names pass in
      in_late_list place empty (late_listed block rule place empty inside (broken_there chunks block rule place pass are broken))

  pub case_is_judged : IsJudged case names
  case_is_judged = record {
    sound = sound;
    doubts = doubts;
    listed = listed;
    doubts_listed = λ reason place doubted. in_files_list place (files_doubt_listed case names reason place doubted);
    chunks = chunks_are;
  }

  -- A case of which nothing is found

  module _ (quiet : IsQuiet case names) where
    empty : AreEmpty (files_found case names)
    empty = quiet_files case names quiet

    pass : FilesPass case names
    pass = empty_is_pass case names empty

    silent_at : (block : ℕ) → block < heap_blocks case names → IsSilent (table_of case names) (chunks_of case names) (case_bits case names block) block (heap_page case names block)
    silent_at block inside = is_silent (table_of case names) (chunks_of case names) (case_bits case names block) block (heap_page case names block) (heap_block_is_silent case names empty block inside)

    -- a value of it is an external one, and there is a TOAST table
    is_external : (block i column : ℕ) (pointer : ToastPointer) → HasValue (table_of case names) (heap_page case names block) i column pointer → HasExternal (table_of case names) (heap_page case names block) i pointer
    is_external block i column pointer has = record {
      live = has.live;
      list = has.list;
      read = has.read;
      among = elim (slice_get_cases has.list (column - 1)).1 [
        | inl at ↦ let same : at.0 ≡ External pointer = some_is at.0 (External pointer) (sym at.2 ∙ has.value) in subst (λ (a : Attribute). Contains has.list a) same (column - 1, at.1, at.3)
        | inr past ↦ absurd (none_is (sym past.1 ∙ has.value))
      ];
    }
      where
        some_is : (a b : Attribute) → ◌≡◌ {A = Option Attribute} (Some a) (Some b) → a ≡ b
        some_is a b e = cc

        none_is : {a : Attribute} → ◌≡◌ {A = Option Attribute} None (Some a) → ⊥
        none_is e = cc

    toast_by : (block i column : ℕ) (pointer : ToastPointer) (o : Option ℕ) → (table_of case names).toast ≡ o → block < heap_blocks case names → HasValue (table_of case names) (heap_page case names block) i column pointer → (oid : ℕ) × ((table_of case names).toast ≡ Some oid)
    unfolding table_of
    toast_by block i column pointer (Some oid) e inside has = (oid, e)
    toast_by block i column pointer None e inside has =
        let external = is_external block i column pointer has in
        let stray : is_stray_pointer (table_of case names).toast (head_at (heap_page case names block) i) pointer ≡ true = ap (λ (o : Option ℕ). is_stray_pointer o (head_at (heap_page case names block) i) pointer) e ∙ or_true (not (has_externals (head_at (heap_page case names block) i))) in
        let broken = on_item H19 (Item heap block i) (silent_at block inside).true_page.header (at_item i H19 has.live.item (stray_pointer pointer external stray)) in
        absurd (none_listed _ (Item heap block i) (heap_block_is_silent case names empty block inside).findings (heap_block_is_silent case names empty block inside).unjudged ((is_judged (table_of case names) (chunks_of case names) (case_bits case names block) block (heap_page case names block)).listed H19 (Item heap block i) broken))
      where
        or_true : (b : Bool) → (b || true) ≡ true
        or_true true = refl
        or_true false = refl

    pub value_is_whole : (block i column : ℕ) (pointer : ToastPointer) → block < heap_blocks case names → HasValue (table_of case names) (heap_page case names block) i column pointer → IsWhole (chunks_of case names) pointer
    value_is_whole block i column pointer inside has =
        let toast = toast_by block i column pointer (table_of case names).toast refl inside has in
        elim (cases_Bool (is_whole (chunks_of case names) pointer)) [
          | inl whole ↦ is_whole-tells (chunks_of case names) pointer whole
          | inr broken ↦
              let late = quiet_late case names quiet in
              absurd (none_listed _ (Column block i column) late.findings late.unjudged
              (late_listed block H21 (Column block i column) empty inside (not_whole toast.0 i column pointer toast.1 has (λ whole. both_ways _ broken (is_whole-from (chunks_of case names) pointer whole)))))
        ]

    pub case_is_true : IsTrueHeap case names
    case_is_true = record {
      pages = λ block inside. (silent_at block inside).true_page;
      toast_pages = λ file oid block has inside. (is_silent (toast_table_of case names) [] no_bits block (case_page case names file block) (toast_block_is_silent case names empty file oid block has inside)).true_page;
      chunks = chunks_of case names;
      rows = chunks_are pass;
      values = value_is_whole;
    }
