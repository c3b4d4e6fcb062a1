-- What the code judges of a case is what is found of the case.
use Rattle.std.proofs.Common.{◌≡◌, ℕ, ◌-◌, ◌/◌, ◌≤◌, Bool, false, List, [], refl, sym, ap, ◌∙◌}
use Rattle.std.specs.Prelude.{Option, Some, None, IfSome, map, nat_lt, if◌then◌else◌}
use Rattle.std.proofs.lemmas.Grind.{common_steps}
use Rattle.std.proofs.Common.{arith}
use Rattle.rel_files.proofs.Refusals.{first_is_last, no_blocks}
use Rattle.rel_files.specs.Refusals.{IsNamed, heap_limit, toast_limit}
use Rattle.outside.specs.Adds.{each_below}
use Rattle.outside.specs.Outside.{Names}
use Rattle.outside.specs.declared.files.Part.TheVariants.{Segment}
use Rattle.key_orders.specs.declared.columns.ColType.{ColType}
use Rattle.rel_files.specs.Blocks.{block_of, front_blocks_of, front_long_segment_of, last_segment, long_at, segment_length}
use Rattle.rel_files.specs.Relation.{FindsFront, IsFrontOf, IsRelationOf, base_of, count_of, long_of, size_of}
use Rattle.rel_files.specs.declared.relation.Relation.{Relation}
use Rattle.case_file.specs.Record.{CaseRecord}
use Rattle.liveness.specs.LogFiles.{LogFiles, log_files_of}
use Rattle.vis_map.specs.Bits.{map_page_of, map_pages_for, no_bits}
use Rattle.vis_map.specs.declared.bits.MapBits.{MapBits}
use Rattle.toast_chunks.specs.Rows.{toast_columns}
use Rattle.toast_chunks.specs.declared.map.Chunk.{Chunk}
use Rattle.reports.specs.Added.{joined, report_lists}
use Rattle.reports.specs.Lists.{Lists}
use Rattle.reports.specs.declared.places.Rel.TheVariants.{Map as map_pages}
use Rattle.heap_page_check.specs.Found.{FoundLists, both_found, nothing_found, only_listed}
use Rattle.heap_page_check.specs.Table.{Table, table_seen, table_with, toast_oid_seen}
use Rattle.heap_page_check.specs.declared.table.TableKind.{TableKind}
use Rattle.heap_page_check.specs.declared.table.TableRules.{TableRules}
use Rattle.heap_page_check.specs.declared.table.ToastTable.{ToastTable}
use Rattle.heap_page_check.specs.declared.table.TableKind.TheVariants as kind
use Rattle.heap_table_check.specs.Case.{case_bits, heap_blocks, heap_long_segment, log_files_in, map_blocks, map_long_segment, oid_in, table_of, toast_blocks, toast_long_segment, toast_table_of, unmapped}
use Rattle.heap_table_check.specs.Found.{chunks_given, chunks_of, files_found, heap_found, map_found, parts_found, toast_found, toast_found_in}
use Rattle.heap_table_check.specs.Files.{IsToastIn, IsToastNamed}
use Rattle.heap_table_check.specs.Map.{bits_seen, map_bits, map_blocks_found, map_name, page_bits}
use Rattle.heap_table_check.specs.MapPage.{IsMapAttached}
use Rattle.heap_table_check.specs.Relations.{segment_found, table_found}

-- The map

-- a map that isn't held has no pages, and none of its segments is too long
no_front_blocks : (names : Names) (base : List ℕ) (size limit : ℕ) → 1 ≤ size → names base (Segment 0) ≡ None → front_blocks_of names base size limit ≡ 0
unfolding front_blocks_of
no_front_blocks names base size limit some none = rw (no_blocks names base size limit some none) (grind (arith, common_steps))

no_long_segment : (names : Names) (base : List ℕ) (size limit : ℕ) → 1 ≤ size → names base (Segment 0) ≡ None → front_long_segment_of names base size limit ≡ None
unfolding front_long_segment_of long_at last_segment
no_long_segment names base size limit some none =
    let empty : segment_length names base 0 ≡ 0 = rw none refl in
    rw (first_is_last (segment_length names base) size ((limit - 1) / size) (omega (arith, some, empty)), empty) (by_test (nat_lt size 0) (grind (arith, common_steps)))
  where
    by_test : (t : Bool) → t ≡ false → ◌≡◌ {A = Option ℕ} (if t then Some 0 else None) None
    by_test t e = rw e refl

pub no_map : (case : CaseRecord) (names : Names) (old : Lists) → 1 ≤ case.segment_blocks → names (map_name case.heap_file) (Segment 0) ≡ None → old ≡ joined old (map_found case names)
unfolding map_found map_long_segment map_blocks map_blocks_found each_below
no_map case names old some none =
    rw (no_long_segment names (map_name case.heap_file) case.segment_blocks (map_pages_for (heap_blocks case names)) some none, no_front_blocks names (map_name case.heap_file) case.segment_blocks (map_pages_for (heap_blocks case names)) some none) (sym (report_lists.with_none old))

-- what is found of an attached map is what is found of the case's
map_is_case : (case : CaseRecord) (names : Names) (r : Relation) → IsNamed (map_name case.heap_file) case.segment_blocks r → IsFrontOf names (map_name case.heap_file) case.segment_blocks (map_pages_for (heap_blocks case names)) r → joined (segment_found map_pages (long_of r)) (map_blocks_found names (base_of r) (size_of r) (count_of r)) ≡ map_found case names
unfolding map_found map_long_segment map_blocks
map_is_case case names r called is = rw (is.long, is.count, called.named, called.sized) refl

pub map_added : (case : CaseRecord) (names : Names) (r : Relation) (old mid new : Lists) → IsNamed (map_name case.heap_file) case.segment_blocks r → IsFrontOf names (map_name case.heap_file) case.segment_blocks (map_pages_for (heap_blocks case names)) r
    → mid ≡ joined old (segment_found map_pages (long_of r)) → new ≡ joined mid (map_blocks_found names (base_of r) (size_of r) (count_of r)) → new ≡ joined old (map_found case names)
map_added case names r old mid new called is first now =
    now ∙ ap (λ (l : Lists). joined l (map_blocks_found names (base_of r) (size_of r) (count_of r))) first
    ∙ report_lists.in_turn old (segment_found map_pages (long_of r)) (map_blocks_found names (base_of r) (size_of r) (count_of r))
    ∙ ap (joined old) (map_is_case case names r called is)

pub map_is_attached : (names : Names) (base : List ℕ) (size limit : ℕ) (found : Option Relation) → FindsFront names base size limit found → IsMapAttached names found
map_is_attached names base size limit None is = tt
map_is_attached names base size limit (Some r) is = is.attached

-- what it says is what the case's map says
no_page_at_all : (names : Names) (base : List ℕ) (size block : ℕ) → no_bits ≡ map_bits names base size 0 block
unfolding map_bits
no_page_at_all names base size block = by_test (nat_lt (map_page_of block) 0) (grind (arith, common_steps))
  where
    by_test : (t : Bool) → t ≡ false → no_bits ≡ (if t then page_bits (block_of names base size (map_page_of block)) block else no_bits)
    by_test t e = rw e refl

bits_at : (case : CaseRecord) (names : Names) (found : Option Relation) (block : ℕ) → 1 ≤ case.segment_blocks → FindsFront names (map_name case.heap_file) case.segment_blocks (map_pages_for (heap_blocks case names)) found → IfSome found (IsNamed (map_name case.heap_file) case.segment_blocks) → bits_seen names found block ≡ map_bits names (map_name case.heap_file) case.segment_blocks (map_blocks case names) block
unfolding map_blocks
bits_at case names None block some none called =
    rw (no_front_blocks names (map_name case.heap_file) case.segment_blocks (map_pages_for (heap_blocks case names)) some none) (no_page_at_all names (map_name case.heap_file) case.segment_blocks block)
bits_at case names (Some r) block some is called = rw (is.count, called.named, called.sized) refl

pub bits_are : (case : CaseRecord) (names : Names) (found : Option Relation) → 1 ≤ case.segment_blocks → FindsFront names (map_name case.heap_file) case.segment_blocks (map_pages_for (heap_blocks case names)) found → IfSome found (IsNamed (map_name case.heap_file) case.segment_blocks) → ◌≡◌ {A = ℕ → MapBits} (bits_seen names found) (case_bits case names)
unfolding case_bits
bits_are case names found some is called = λ i. λ block. bits_at case names found block some is called i

-- The heap

pub table_is_case : (case : CaseRecord) (names : Names) (columns : List ColType) (toast : Option ℕ) (files : LogFiles) → columns ≡ map (λ c. c.ctype) case.columns → toast ≡ oid_in case.toast → files ≡ log_files_in case → table_with names kind.Heap columns toast files ≡ table_of case names
unfolding table_with table_of
table_is_case case names columns toast files e1 e2 e3 = rw (e1, e2, e3) refl

pub heap_is_case : (case : CaseRecord) (names : Names) (table : Table) (chunks : List Chunk) (bits : ℕ → MapBits) (r : Relation) → table ≡ table_of case names → chunks ≡ chunks_of case names → ◌≡◌ {A = ℕ → MapBits} bits (case_bits case names) → IsNamed case.heap_file case.segment_blocks r → IsRelationOf names case.heap_file case.segment_blocks heap_limit r
    → table_found table chunks bits names (base_of r) (size_of r) (count_of r) (long_of r) ≡ heap_found case names
unfolding heap_found heap_blocks heap_long_segment
heap_is_case case names table chunks bits r e whole f called is =
    ap (λ (t : Table). table_found t chunks bits names (base_of r) (size_of r) (count_of r) (long_of r)) e
    ∙ ap (λ (cs : List Chunk). table_found (table_of case names) cs bits names (base_of r) (size_of r) (count_of r) (long_of r)) whole
    ∙ ap (λ (b : ℕ → MapBits). table_found (table_of case names) (chunks_of case names) b names (base_of r) (size_of r) (count_of r) (long_of r)) f
    ∙ rw (is.long, is.count, called.named, called.sized) refl

-- The TOAST table

pub toast_table_is : (case : CaseRecord) (names : Names) (columns : List ColType) (files : LogFiles) → columns ≡ toast_columns → files ≡ log_files_in case → table_with names kind.Toast columns None files ≡ toast_table_of case names
unfolding table_with toast_table_of
toast_table_is case names columns files e f = rw (e, f) refl

-- the case has a TOAST table where one is attached, and none where none is
pub record ToastOf (case : CaseRecord) (names : Names) (r : Relation) : Type 0 where
  pub table : List ℕ × ℕ
  pub has : case.toast ≡ Some table
  pub called : IsNamed table.0 case.segment_blocks r
  pub attached : IsRelationOf names table.0 case.segment_blocks toast_limit r

toast_by : (case : CaseRecord) (names : Names) (r : Relation) (o : Option (List ℕ × ℕ)) → case.toast ≡ o → IsToastIn names case.segment_blocks o (Some r) → IsToastNamed case.segment_blocks o (Some r) → ToastOf case names r
toast_by case names r None e is called = absurd is
toast_by case names r (Some t) e is called = record { table = t; has = e; called = called; attached = is }

pub toast_of : (case : CaseRecord) (names : Names) (r : Relation) → IsToastIn names case.segment_blocks case.toast (Some r) → IsToastNamed case.segment_blocks case.toast (Some r) → ToastOf case names r
toast_of case names r is called = toast_by case names r case.toast refl is called

pub toast_absent : (names : Names) (size : ℕ) (o : Option (List ℕ × ℕ)) → IsToastIn names size o None → o ≡ None
toast_absent names size None is = refl
toast_absent names size (Some t) is = absurd is

pub no_toast : (case : CaseRecord) (names : Names) → case.toast ≡ None → nothing_found ≡ toast_found case names
unfolding toast_found
no_toast case names e = rw e refl

pub toast_is_case : (case : CaseRecord) (names : Names) (table : Table) (chunks : List Chunk) (bits : ℕ → MapBits) (r : Relation) → table ≡ toast_table_of case names → chunks ≡ [] → ◌≡◌ {A = ℕ → MapBits} bits unmapped → ToastOf case names r
    → table_found table chunks bits names (base_of r) (size_of r) (count_of r) (long_of r) ≡ toast_found case names
unfolding toast_found toast_found_in toast_blocks toast_long_segment
toast_is_case case names table chunks bits r e none f is =
    ap (λ (t : Table). table_found t chunks bits names (base_of r) (size_of r) (count_of r) (long_of r)) e
    ∙ ap (λ (cs : List Chunk). table_found (toast_table_of case names) cs bits names (base_of r) (size_of r) (count_of r) (long_of r)) none
    ∙ ap (λ (b : ℕ → MapBits). table_found (toast_table_of case names) [] b names (base_of r) (size_of r) (count_of r) (long_of r)) f
    ∙ rw (is.has, is.attached.long, is.attached.count, is.called.named, is.called.sized) refl

pub unmapped_is : (names : Names) → ◌≡◌ {A = ℕ → MapBits} (bits_seen names None) unmapped
unmapped_is names = λ i. λ block. no_bits

-- the same of the code's rules of tables
abbrev seen_as : Names → TableKind → List ColType → Option ℕ → LogFiles → Table
seen_as names what columns toast logs = table_with names what columns toast logs

pub toast_rules_are : (case : CaseRecord) (names : Names) (rules : TableRules) → rules.kind ≡ kind.Toast → rules.columns.now ≡ toast_columns → rules.toast ≡ None → log_files_of rules.logs ≡ log_files_in case → table_seen names rules ≡ toast_table_of case names
toast_rules_are case names rules what columns none logs =
    ap (λ (k : TableKind). seen_as names k rules.columns.now (toast_oid_seen rules.toast) (log_files_of rules.logs)) what
    ∙ ap (λ (o : Option ToastTable). seen_as names kind.Toast rules.columns.now (toast_oid_seen o) (log_files_of rules.logs)) none
    ∙ toast_table_is case names rules.columns.now (log_files_of rules.logs) columns logs

pub heap_rules_are : (case : CaseRecord) (names : Names) (rules : TableRules) → rules.kind ≡ kind.Heap → rules.columns.now ≡ map (λ c. c.ctype) case.columns → toast_oid_seen rules.toast ≡ oid_in case.toast → log_files_of rules.logs ≡ log_files_in case → table_seen names rules ≡ table_of case names
heap_rules_are case names rules what columns toast logs =
    ap (λ (k : TableKind). seen_as names k rules.columns.now (toast_oid_seen rules.toast) (log_files_of rules.logs)) what
    ∙ table_is_case case names rules.columns.now (toast_oid_seen rules.toast) (log_files_of rules.logs) columns toast logs

-- the chunks of a case's TOAST table; there are none where it has no such table
chunks_by : (case : CaseRecord) (names : Names) (o : Option (List ℕ × ℕ)) → case.toast ≡ o → chunks_given o (chunks_of case names) ≡ chunks_of case names
chunks_by case names None e = ap (λ (f : FoundLists). f.chunks) (no_toast case names e)
chunks_by case names (Some t) e = refl

pub chunks_are_given : (case : CaseRecord) (names : Names) → chunks_given case.toast (chunks_of case names) ≡ chunks_of case names
chunks_are_given case names = chunks_by case names case.toast refl

-- what was found from nothing on
pub from_nothing : (old new found wanted : FoundLists) → old ≡ nothing_found → new ≡ both_found old found → found ≡ wanted → new ≡ wanted
from_nothing old new found wanted none now same = now ∙ ap (λ (f : FoundLists). both_found f found) none ∙ same

-- what is listed before anything else was found
pub listed_first : (old : FoundLists) (new lists : Lists) → old ≡ nothing_found → new ≡ joined old.listed lists → record { listed = new; late = old.late; chunks = old.chunks } ≡ only_listed lists
listed_first old new lists none now =
    ap (λ (l : Lists). record { listed = l; late = old.late; chunks = old.chunks }) now
    ∙ ap (λ (f : FoundLists). record { listed = joined f.listed lists; late = f.late; chunks = f.chunks }) none

-- the three parts of a case
pub parts_are : (case : CaseRecord) (names : Names) (rest t : FoundLists) → rest ≡ both_found (only_listed (map_found case names)) (heap_found case names) → t ≡ toast_found case names
    → record { listed = joined rest.listed t.listed; late = rest.late; chunks = t.chunks } ≡ parts_found case names
unfolding files_found
parts_are case names rest t e f = rw (e, f) refl
