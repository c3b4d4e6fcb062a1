-- The case of a document that breaks no rule is sound.
use Rattle.std.proofs.Common.{◌≡◌, ℕ, ◌≤◌, ◌<◌, List, ◌++◌, true, false, Option, Some, None, is_some, option_map, option_and_then, unwrap_or, refl, sym, ap}
use Rattle.std.proofs.Common.{subst, codes, arith, lit<}
use Rattle.std.proofs.lemmas.Bool.{false≢true, leb-false, or_parts}
use Rattle.std.proofs.lemmas.Bool.Decides.{nat_tests}
use Rattle.std.proofs.lemmas.List.{length-map}
use Rattle.std.proofs.lemmas.Option.{none-some}
use Rattle.std.specs.Int.{IsInRange}
use Rattle.std.specs.Option.{ForSome}
use Rattle.toml.specs.Data.{Data, string, integer, float, boolean, datetime, array, table, Members, get_member, as_str}
use Rattle.rel_files.specs.Ranges.{distance}
use Rattle.case_rules.specs.declared.keys.Place.TheVariants.{Top, Cluster, Heap}
use Rattle.case_rules.specs.declared.keys.Key.TheVariants.{SegmentBlocks, ClusterTable, NextXid, OldestXid, NextMulti, OldestMulti, NextMember, XactDir}
use Rattle.case_rules.specs.declared.keys.Key.TheVariants.{OffsetsDir, MembersDir, HeapTable, HeapFile, ToastOid, Columns}
use Rattle.case_rules.specs.declared.keys.Kind.TheVariants.{Text}
use Rattle.case_file.specs.Case.{cluster_of, first_broken, record_of, rules_in_order, segment_blocks_of, toast_of}
use Rattle.case_file.specs.Columns.{column_of}
use Rattle.case_file.specs.Indexes.{index_of}
use Rattle.case_rules.specs.Keys.{keys_of, row_of}
use Rattle.case_rules.specs.Rules.{applies, at_least_one, breaks, fails, has_other_kind, has_too_old, is_between, is_fit, is_needed, is_of, is_out_of_range}
use Rattle.case_rules.specs.Rules.{is_too_old}
use Rattle.case_file.specs.Sound.{IsPath, IsSound, IsSoundCluster}
use Rattle.case_rules.specs.Spots.{cluster_part, column_part, heap_part, in_table, index_part, listed, spots, top_part}
use Rattle.case_rules.specs.Tables.{has, number_at, number_in, table_at, tables_at, text_at, text_in}
use Rattle.case_file.proofs.Passing.{each_passes, EachPasses, Passes, passes_after, passes_before}
use Rattle.case_file.proofs.Rows.{needed_key, needed_tables, number_in_range, optional_number, optional_tables, table_found, text_fits, text_in_range}
use Rattle.case_file.proofs.SoundColumns.{sound_columns}
use Rattle.case_file.proofs.SoundIndexes.{sound_indexes}

sound_blocks : (top : Members) → Passes top (listed Top SegmentBlocks top) → IsInRange 1 131072 (segment_blocks_of top)
unfolding breaks has_other_kind is_out_of_range applies row_of number_at has is_fit
sound_blocks top passes = optional_number 1 131072 131072 (get_member (codes "segment_blocks") top) (lit< tt) (omega arith, omega arith) passes.c3 passes.c4

near : (oldest next : ℕ) → is_too_old oldest next ≡ false → distance oldest next < 2147483648
unfolding is_too_old
near oldest next h = leb-false 2147483648 (distance oldest next) h

read_as_one : (n : ℕ) → n ≤ 4294967295 → IsInRange 1 4294967295 (at_least_one n)
read_as_one n l = (grind (arith, nat_tests), grind (arith, nat_tests))

sound_cluster : (top : Members) (o : Option Members) → is_some o ≡ true → EachPasses top (in_table Cluster o) → IsSoundCluster (cluster_of o)
unfolding in_table keys_of row_of is_needed breaks has_too_old cluster_of number_in
sound_cluster top None there all = absurd (false≢true there)
sound_cluster top (Some t) there all =
    let next_xid = needed_key top Cluster NextXid t all.1.0 refl in
    let oldest_xid = needed_key top Cluster OldestXid t all.1.1.0 refl in
    let next_multi = needed_key top Cluster NextMulti t all.1.1.1.0 refl in
    let oldest_multi = needed_key top Cluster OldestMulti t all.1.1.1.1.0 refl in
    let next_member = needed_key top Cluster NextMember t all.1.1.1.1.1.0 refl in
    let multi = number_in_range NextMulti t 0 4294967295 next_multi refl refl (lit< tt) in
    let member = number_in_range NextMember t 0 4294967295 next_member refl refl (lit< tt) in
    let turned =
    or_parts (is_too_old (number_at (codes "oldest_xid") t) (number_at (codes "next_xid") t)) (is_too_old (number_at (codes "oldest_multi") t) (at_least_one (number_at (codes "next_multi") t))) all.0.c7 in
    record {
      next_xid = number_in_range NextXid t 3 4294967295 next_xid refl refl (lit< tt);
      oldest_xid = number_in_range OldestXid t 3 4294967295 oldest_xid refl refl (lit< tt);
      next_multi = read_as_one (number_at (codes "next_multi") t) multi.1;
      oldest_multi = number_in_range OldestMulti t 1 4294967295 oldest_multi refl refl (lit< tt);
      next_member = member.1;
      xids = near (number_at (codes "oldest_xid") t) (number_at (codes "next_xid") t) turned.0;
      multis = near (number_at (codes "oldest_multi") t) (at_least_one (number_at (codes "next_multi") t)) turned.1;
    }

-- the folders of a cluster
record HasFolders (o : Option Members) : Type 0 where
  xact : IsPath (text_in o (codes "xact"))
  offsets : IsPath (text_in o (codes "offsets"))
  members : IsPath (text_in o (codes "members"))

sound_folders : (top : Members) (o : Option Members) → is_some o ≡ true → EachPasses top (in_table Cluster o) → HasFolders o
unfolding in_table keys_of row_of is_needed
sound_folders top None there all = absurd (false≢true there)
sound_folders top (Some t) there all = record {
  xact = text_in_range XactDir t 1 200 (needed_key top Cluster XactDir t all.1.1.1.1.1.1.0 refl) refl refl;
  offsets = text_in_range OffsetsDir t 1 200 (needed_key top Cluster OffsetsDir t all.1.1.1.1.1.1.1.0 refl) refl refl;
  members = text_in_range MembersDir t 1 200 (needed_key top Cluster MembersDir t all.1.1.1.1.1.1.1.1.0 refl) refl refl;
}

-- a TOAST table that is told has a file and an oid
abbrev IsSoundToast : Option (List ℕ × ℕ) → Type 0
IsSoundToast o = ForSome o (λ toast. IsPath toast.0 × IsInRange 1 4294967295 toast.1)

toast_found : (o : Option Data) (oid : ℕ) → fails (is_of Text) o ≡ false → fails (is_between 1 200) o ≡ false → (is_some o ≡ true → IsInRange 1 4294967295 oid)
    → IsSoundToast (option_map (λ file. (file, oid)) (option_and_then as_str o))
unfolding is_of
toast_found None oid kind range told = λ toast is. absurd (none-some toast is)
toast_found (Some (string s)) oid kind range told =
    let P : List ℕ × ℕ → Type 0 = λ toast. IsPath toast.0 × IsInRange 1 4294967295 toast.1 in
    λ toast is. subst P (ap (λ (o : Option (List ℕ × ℕ)). unwrap_or o (s, oid)) is) (text_fits 1 200 (Some (string s)) refl refl range, told refl)
toast_found (Some (integer z)) oid kind range told = absurd (false≢true (sym kind))
toast_found (Some (float x)) oid kind range told = absurd (false≢true (sym kind))
toast_found (Some (boolean b)) oid kind range told = absurd (false≢true (sym kind))
toast_found (Some (datetime dt)) oid kind range told = absurd (false≢true (sym kind))
toast_found (Some (array ds)) oid kind range told = absurd (false≢true (sym kind))
toast_found (Some (table ms)) oid kind range told = absurd (false≢true (sym kind))

-- the file of a heap, and its TOAST table
record HasFiles (o : Option Members) : Type 0 where
  file : IsPath (text_in o (codes "file"))
  toast : IsSoundToast (toast_of o)

sound_heap : (top : Members) (o : Option Members) → is_some o ≡ true → EachPasses top (in_table Heap o) → HasFiles o
unfolding in_table keys_of row_of is_needed breaks has_other_kind is_out_of_range applies is_fit toast_of text_at number_in has
sound_heap top None there all = absurd (false≢true there)
sound_heap top (Some t) there all = record {
  file = text_in_range HeapFile t 1 200 (needed_key top Heap HeapFile t all.1.0 refl) refl refl;
  toast = toast_found (get_member (codes "toast_file") t) (number_at (codes "toast_oid") t) all.1.1.0.c3 all.1.1.0.c4
      (λ told. number_in_range ToastOid t 1 4294967295 (needed_key top Heap ToastOid t all.1.1.1.0 told) refl refl (lit< tt));
}

pub sound_record : (top : Members) → first_broken top (spots top) rules_in_order ≡ None → IsSound (record_of top)
unfolding spots record_of row_of is_needed is_fit table_at tables_at breaks has_other_kind is_out_of_range applies
sound_record top none =
    let all = each_passes top (spots top) none in
    let up_to_columns = passes_before top (top_part top ++ cluster_part top ++ heap_part top ++ column_part top) (index_part top) all in
    let up_to_heap = passes_before top (top_part top ++ cluster_part top ++ heap_part top) (column_part top) up_to_columns in
    let up_to_cluster = passes_before top (top_part top ++ cluster_part top) (heap_part top) up_to_heap in
    let in_top = passes_before top (top_part top) (cluster_part top) up_to_cluster in
    let in_cluster = passes_after top (top_part top) (cluster_part top) up_to_cluster in
    let in_heap = passes_after top (top_part top ++ cluster_part top) (heap_part top) up_to_heap in
    let in_columns = passes_after top (top_part top ++ cluster_part top ++ heap_part top) (column_part top) up_to_columns in
    let in_indexes = passes_after top (top_part top ++ cluster_part top ++ heap_part top ++ column_part top) (index_part top) all in
    let cluster = needed_key top Top ClusterTable top in_cluster.0 refl in
    let cluster_there = table_found (get_member (codes "cluster") top) cluster.is_there cluster.kind in
    let folders = sound_folders top (table_at (codes "cluster") top) cluster_there in_cluster.1 in
    let heap = needed_key top Top HeapTable top in_heap.0 refl in
    let files = sound_heap top (table_at (codes "heap") top) (table_found (get_member (codes "heap") top) heap.is_there heap.kind) in_heap.1 in
    let column = needed_key top Top Columns top in_columns.0 refl in
    let columns = needed_tables 1 64 (get_member (codes "column") top) column.is_there column.kind column.range in
    let indexes = optional_tables 32 (get_member (codes "index") top) in_indexes.0.c3 in_indexes.0.c4 in
    record {
      segment_blocks = sound_blocks top in_top.1.0;
      cluster = sound_cluster top (table_at (codes "cluster") top) cluster_there in_cluster.1;
      xact = folders.xact;
      offsets = folders.offsets;
      members = folders.members;
      heap_file = files.file;
      toast = files.toast;
      column_count = rw (length-map (tables_at (codes "column") top) column_of) columns.count;
      columns = sound_columns top 0 (tables_at (codes "column") top) in_columns.1;
      index_count = rw (length-map (tables_at (codes "index") top) (index_of (tables_at (codes "column") top))) indexes.count.1;
      indexes = sound_indexes top 0 (tables_at (codes "index") top) columns.count.1 indexes.are_tables in_indexes.1;
    }
