-- What is read of the document that is written.
use Rattle.std.proofs.Common.{◌≡◌, ℕ, pos, ◌<◌, ◌≤◌, List, ◌∷◌, length, map, true, Option, Some, None, codes, refl, ap, ◌∙◌}
use Rattle.std.proofs.Common.{string_bytes}
use Rattle.std.proofs.lemmas.Bool.{lt-ltb}
use Rattle.toml.specs.Data.{Members, string}
use Rattle.case_rules.specs.Rules.{at_least_one}
use Rattle.case_rules.specs.Tables.{below_2_32, has, is_table, number_at, number_in, table_at, tables_at, text_at, text_in}
use Rattle.case_file.specs.Case.{cluster_of, record_of, segment_blocks_of, toast_of}
use Rattle.case_file.specs.Columns.{column_of}
use Rattle.case_file.specs.Indexes.{index_of}
use Rattle.case_text.specs.declared.parts.ClusterPart.{ClusterPart}
use Rattle.case_text.specs.declared.parts.ColumnPart.{ColumnPart}
use Rattle.case_text.specs.declared.parts.IndexPart.{IndexPart}
use Rattle.case_text.specs.declared.parts.TablePart.{TablePart}
use Rattle.case_text.specs.declared.parts.ToastPart.{ToastPart}
use Rattle.case_text.specs.Plain.{IsPlainCluster, IsPlainTable, IsPlainToast}
use Rattle.case_text.specs.Told.{are_found, case_told, counters_told, toast_told}
use Rattle.case_text.specs.Written.{cluster_pairs, column_data, document_told, heap_pairs, index_data, members_with, toast_pairs, top_pairs, with_member}
use Rattle.case_text.proofs.ColumnReads.{columns_back}
use Rattle.case_text.proofs.IndexReads.{AreBack, are_tables, indexes_back, tables_back}

number_back : (n : ℕ) → n < 4294967296 → below_2_32 (pos n) ≡ n
number_back n l = rw (lt-ltb n 4294967296 l) refl

abbrev cluster_members : ClusterPart → Members
cluster_members c = members_with (cluster_pairs c)

cluster_back : (c : ClusterPart) → IsPlainCluster c → cluster_of (Some (cluster_members c)) ≡ counters_told c.counters
unfolding cluster_of cluster_pairs number_in number_at with_member
cluster_back c are =
    let next_xid = number_back c.counters.next_xid are.next_xid in
    let oldest_xid = number_back c.counters.oldest_xid are.oldest_xid in
    let next_multi = number_back c.counters.next_multi are.next_multi in
    let oldest_multi = number_back c.counters.oldest_multi are.oldest_multi in
    let next_member = number_back c.counters.next_member are.next_member in
    λ i. record {
      next_xid = next_xid i;
      oldest_xid = oldest_xid i;
      next_multi = at_least_one (next_multi i);
      oldest_multi = oldest_multi i;
      next_member = next_member i;
    }

-- the folders of a cluster
record HaveFolders (c : ClusterPart) : Type 0 where
  xact : text_in (Some (cluster_members c)) (codes "xact") ≡ string_bytes c.xact
  offsets : text_in (Some (cluster_members c)) (codes "offsets") ≡ string_bytes c.offsets
  members : text_in (Some (cluster_members c)) (codes "members") ≡ string_bytes c.members

folders_back : (c : ClusterPart) → HaveFolders c
unfolding cluster_pairs text_in text_at with_member
folders_back c = record { xact = refl; offsets = refl; members = refl }

abbrev heap_members : List ℕ → Option ToastPart → Members
heap_members file toast = members_with ((codes "file", string file) ∷ toast_pairs toast)

toast_back : (file : List ℕ) (toast : Option ToastPart) → IsPlainToast toast
    → toast_of (Some (heap_members file toast)) ≡ toast_told toast
unfolding toast_of toast_pairs text_at number_in number_at with_member
toast_back file None small = refl
toast_back file (Some t) small = rw (number_back t.oid small) refl

file_back : (file : List ℕ) (toast : Option ToastPart) → text_in (Some (heap_members file toast)) (codes "file") ≡ file
unfolding toast_pairs text_in text_at with_member
file_back file None = refl
file_back file (Some t) = refl

column_is_table : (c : ColumnPart) → is_table (column_data c) ≡ true
unfolding column_data
column_is_table c = refl

index_is_table : (cs : List ColumnPart) (i : IndexPart) → is_table (index_data cs i) ≡ true
unfolding index_data
index_is_table cs i = refl

-- the columns and the indexes of the document
pub columns_in : (c : ClusterPart) (t : TablePart) → tables_at (codes "column") (document_told c t) ≡ map column_data t.columns.items
unfolding document_told top_pairs tables_at with_member
columns_in c t = tables_back (map column_data t.columns.items) (are_tables column_data t.columns.items column_is_table)

indexes_in : (c : ClusterPart) (t : TablePart) → tables_at (codes "index") (document_told c t) ≡ map (index_data t.columns.items) t.indexes.items
unfolding document_told top_pairs tables_at with_member
indexes_in c t =
    tables_back (map (index_data t.columns.items) t.indexes.items)
    (are_tables (index_data t.columns.items) t.indexes.items (index_is_table t.columns.items))

cluster_in : (c : ClusterPart) (t : TablePart) → table_at (codes "cluster") (document_told c t) ≡ Some (cluster_members c)
unfolding document_told top_pairs table_at with_member
cluster_in c t = refl

heap_in : (c : ClusterPart) (t : TablePart) → table_at (codes "heap") (document_told c t) ≡ Some (heap_members (string_bytes t.file) t.toast)
unfolding document_told top_pairs heap_pairs table_at with_member
heap_in c t = refl

blocks_in : (c : ClusterPart) (t : TablePart) → c.segment_blocks < 4294967296 → segment_blocks_of (document_told c t) ≡ c.segment_blocks
unfolding document_told top_pairs has number_at with_member
blocks_in c t small = number_back c.segment_blocks small

pub reads_back : (c : ClusterPart) (t : TablePart) → IsPlainCluster c → IsPlainTable t → length t.columns.items ≤ 64 → are_found t ≡ true
    → record_of (document_told c t) ≡ case_told c t
unfolding record_of case_told are_found
reads_back c t small plain few found =
    let cs : List ColumnPart = t.columns.items in
    let back : AreBack cs = record { columns = columns_back cs plain.columns; few = few } in
    let cluster = cluster_in c t in
    let heap = heap_in c t in
    let folders = folders_back c in
    let blocks = blocks_in c t small.segment_blocks in
    let counters = ap cluster_of cluster ∙ cluster_back c small in
    let xact = ap (λ (o : Option Members). text_in o (codes "xact")) cluster ∙ folders.xact in
    let offsets = ap (λ (o : Option Members). text_in o (codes "offsets")) cluster ∙ folders.offsets in
    let members = ap (λ (o : Option Members). text_in o (codes "members")) cluster ∙ folders.members in
    let file = ap (λ (o : Option Members). text_in o (codes "file")) heap ∙ file_back (string_bytes t.file) t.toast in
    let toast = ap toast_of heap ∙ toast_back (string_bytes t.file) t.toast plain.toast in
    let written = columns_in c t in
    let columns = ap (map column_of) written ∙ back.columns in
    let listed = indexes_in c t in
    let read : map (index_of (tables_at (codes "column") (document_told c t))) (tables_at (codes "index") (document_told c t))
    ≡ map (index_of (map column_data cs)) (map (index_data cs) t.indexes.items) =
    λ i. map (index_of (written i)) (listed i) in
    let indexes = read ∙ indexes_back cs back t.indexes.items found in
    λ i. record {
      segment_blocks = blocks i;
      cluster = counters i;
      xact = xact i;
      offsets = offsets i;
      members = members i;
      heap_file = file i;
      toast = toast i;
      columns = columns i;
      indexes = indexes i;
    }
