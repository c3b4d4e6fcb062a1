-- Each chunk of a case's TOAST table stands at its place.
use Rattle.std.proofs.Common.{◌≡◌, ℕ, ◌<◌, ◌≤◌, true, false, List, [], All, length, refl, ap, sym, subst, ◌∙◌}
use Rattle.std.specs.Prelude.{Option, Some, None, Ok, Err, IsSome}
use Rattle.std.proofs.lemmas.List.Elements.{All-append, All-cons, All-nil}
use Rattle.outside.specs.Outside.{Names}
use Rattle.page_layout.specs.Page.{count_of, page_rule_of}
use Rattle.page_layout.specs.declared.page.PageKind.TheVariants.{Heap}
use Rattle.page_layout.specs.declared.rules.Rule.{Rule}
use Rattle.key_orders.specs.declared.columns.ColType.{ColType}
use Rattle.rel_files.specs.Blocks.{block_of}
use Rattle.rel_files.specs.Relation.{IsRelationOf, base_of, size_of}
use Rattle.rel_files.specs.Relation.{count_of as blocks_in_relation}
use Rattle.rel_files.specs.declared.relation.Relation.{Relation}
use Rattle.case_file.specs.Record.{CaseRecord}
use Rattle.tuple_head.specs.Head.{has_more_attributes_than_columns}
use Rattle.varlena_attrs.specs.Forms.{Attribute}
use Rattle.varlena_attrs.specs.Reading.{Outcome}
use Rattle.heap_tuples.specs.Tuples.{attributes_in}
use Rattle.liveness.specs.declared.states.ItemState.{ItemState}
use Rattle.liveness.specs.declared.states.ItemState.TheVariants.{Unused, Dead, Redirect, Tuple}
use Rattle.liveness.specs.declared.states.Life.{Life}
use Rattle.liveness.specs.declared.states.Life.TheVariants as life
use Rattle.hot_chains.specs.Chains.{is_live, is_live_tuple}
use Rattle.toast_chunks.specs.Rows.{row_of, toast_columns}
use Rattle.heap_tuples.specs.Places.{tuple_at}
use Rattle.toast_chunks.specs.Stored.{AllStand, IsRowOf, StandsIn}
use Rattle.toast_chunks.specs.declared.map.Chunk.{Chunk}
use Rattle.toast_chunks.specs.declared.rows.ChunkRow.{ChunkRow}
use Rattle.vis_map.specs.Bits.{no_bits}
use Rattle.reports.proofs.Parts.{All-upto}
use Rattle.rel_files.specs.Refusals.{IsNamed, toast_limit}
use Rattle.heap_page_check.specs.declared.table.TableKind.{TableKind}
use Rattle.heap_page_check.specs.declared.table.TableKind.TheVariants as kind
use Rattle.heap_page_check.specs.declared.verdict.ItemVerdict.{ItemVerdict}
use Rattle.heap_page_check.specs.declared.verdict.ItemVerdict.TheVariants.{Passes, Breaks, InDoubt}
use Rattle.heap_page_check.specs.Found.{attributes_by, attributes_by_life, attributes_read, chunk_by, chunks_left, found_parts, item_found, items_found, live_attributes}
use Rattle.heap_page_check.specs.Pages.{found_by_rule, page_found}
use Rattle.heap_page_check.specs.Table.{Table}
use Rattle.heap_page_check.specs.Verdicts.{head_at, item_verdict}
use Rattle.heap_table_check.specs.Case.{toast_blocks, toast_table_of}
use Rattle.heap_table_check.specs.Found.{chunks_of}
use Rattle.heap_rows.proofs.FromFiles.{All-chunks, OfPages}
use Rattle.heap_rows.proofs.LiveTuples.{attributes_of_live, header_count, header_place, sound_tuple}

-- A row is a live tuple's

no_row : row_of [] ≡ None
unfolding row_of
no_row = refl

none_is_not : (row : ChunkRow) → ◌≡◌ {A = Option ChunkRow} None (Some row) → ⊥
none_is_not row e = cc

by_life : (outcome : Outcome) (l : Life) (row : ChunkRow) → row_of (attributes_by_life outcome l) ≡ Some row → is_live l ≡ true
by_life outcome life.Live row is = refl
by_life outcome life.Dead row is = absurd (none_is_not row (sym no_row ∙ is))
by_life outcome (life.Unjudged u) row is = absurd (none_is_not row (sym no_row ∙ is))
by_life outcome (life.Broken rule) row is = absurd (none_is_not row (sym no_row ∙ is))

-- the verdict is that of a live tuple
record IsLiveVerdict (v : ItemVerdict) : Type 0 where
  state : ItemState
  passes : v ≡ Passes state
  live : is_live_tuple state ≡ true

by_verdict : (outcome : Outcome) (v : ItemVerdict) (row : ChunkRow) → row_of (attributes_by outcome v) ≡ Some row → IsLiveVerdict v
by_verdict outcome (Passes (Tuple head judged)) row is = record { state = Tuple head judged; passes = refl; live = by_life outcome judged.life row is }
by_verdict outcome (Passes Unused) row is = absurd (none_is_not row (sym no_row ∙ is))
by_verdict outcome (Passes Dead) row is = absurd (none_is_not row (sym no_row ∙ is))
by_verdict outcome (Passes (Redirect target)) row is = absurd (none_is_not row (sym no_row ∙ is))
by_verdict outcome (Breaks rule) row is = absurd (none_is_not row (sym no_row ∙ is))
by_verdict outcome (InDoubt reason) row is = absurd (none_is_not row (sym no_row ∙ is))

live_by_row : (table : Table) (page : List ℕ) (i : ℕ) (row : ChunkRow) → row_of (live_attributes table page i) ≡ Some row → IsLiveVerdict (item_verdict table page i)
unfolding live_attributes
live_by_row table page i row is = by_verdict (attributes_in table.columns (tuple_at page i)) (item_verdict table page i) row is

-- whose attributes were read
ok_by_row : (outcome : Outcome) (list : List Attribute) (row : ChunkRow) → list ≡ attributes_read outcome → row_of list ≡ Some row → outcome ≡ Ok list
ok_by_row (Ok found) list row are is = ap (λ (l : List Attribute). Ok l) (sym are)
ok_by_row (Err e) list row are is = absurd (none_is_not row (sym no_row ∙ sym (ap row_of are) ∙ is))

-- It stands at its place

row_stands : (table : Table) (page : List ℕ) (i : ℕ) (row : ChunkRow) (c : Chunk) → page_rule_of Heap page ≡ None → 1 ≤ i → i ≤ count_of page → table.columns ≡ toast_columns → row_of (live_attributes table page i) ≡ Some row → ◌≡◌ {A = ChunkRow} row (record { id = c.id; seq = c.seq; size = c.size }) → IsRowOf page i c
row_stands table page i row c rules first last columns is same =
    let at = live_by_row table page i row is in
    let sound = sound_tuple table page i at.state at.passes at.live in
    let list = live_attributes table page i in
    let are = attributes_of_live table page i at.state at.passes at.live in
    let read = ok_by_row (attributes_in table.columns (tuple_at page i)) list row are is in
    record {
      row = record {
        tuple = record { rules = rules; first = first; last = last; normal = sound.normal; placed = sound.placed };
        form = sound.form;
        columns = subst (λ (cs : List ColType). has_more_attributes_than_columns (length cs) (head_at page i) ≡ false) columns (header_count table page i sound);
        attributes = header_place table page i sound;
      };
      list = list;
      read = subst (λ (cs : List ColType). attributes_in cs (tuple_at page i) ≡ Ok list) columns read;
      chunk = is ∙ ap (λ (r : ChunkRow). Some r) same;
    }

-- what is asked of each chunk
abbrev Stands : Names → Relation → Chunk → Type 0
Stands names r c = IsSome c.size → StandsIn names r c

chunk_stands : (names : Names) (r : Relation) (table : Table) (block : ℕ) (page : List ℕ) (i : ℕ) (found : Option ChunkRow) → page_rule_of Heap page ≡ None → 1 ≤ i → i ≤ count_of page → block < blocks_in_relation r → page ≡ block_of names (base_of r) (size_of r) block → table.columns ≡ toast_columns → row_of (live_attributes table page i) ≡ found → All (Stands names r) (chunk_by block i found)
chunk_stands names r table block page i None rules first last below at columns is = All-nil (Stands names r)
chunk_stands names r table block page i (Some row) rules first last below at columns is =
    let c : Chunk = record { id = row.id; seq = row.seq; tid = record { block = block; item = i }; size = row.size } in
    All-cons (Stands names r) c [] (λ sized. record { block = below; item = subst (λ (p : List ℕ). IsRowOf p i c) at (row_stands table page i row c rules first last columns is refl) }) (All-nil (Stands names r))

item_stands : (names : Names) (r : Relation) (table : Table) (block : ℕ) (page : List ℕ) (i : ℕ) → table.kind ≡ kind.Toast → page_rule_of Heap page ≡ None → 1 ≤ i → i ≤ count_of page → block < blocks_in_relation r → page ≡ block_of names (base_of r) (size_of r) block → table.columns ≡ toast_columns → All (Stands names r) (item_found table [] block page i).chunks
unfolding item_found
item_stands names r table block page i what rules first last below at columns =
    All-append (Stands names r) (chunks_left table.kind block i (live_attributes table page i)) []
    (subst (λ (k : TableKind). All (Stands names r) (chunks_left k block i (live_attributes table page i))) (sym what)
    (chunk_stands names r table block page i _ rules first last below at columns refl))
    (All-nil (Stands names r))

page_stands : (names : Names) (r : Relation) (table : Table) (block : ℕ) (page : List ℕ) (rule : Option Rule) → page_rule_of Heap page ≡ rule → table.kind ≡ kind.Toast → block < blocks_in_relation r → page ≡ block_of names (base_of r) (size_of r) block → table.columns ≡ toast_columns → All (Stands names r) (found_by_rule table [] no_bits block page rule).chunks
unfolding items_found
page_stands names r table block page (Some rule) is what below at columns = All-nil (Stands names r)
page_stands names r table block page None is what below at columns =
    All-append (Stands names r) (items_found table [] block page).chunks []
    (All-upto found_parts (λ f. f.chunks) refl (λ a b. refl) (Stands names r) (item_found table [] block page) (count_of page) (λ i first last. item_stands names r table block page i what is first last below at columns))
    (All-nil (Stands names r))

block_stands : (names : Names) (r : Relation) (table : Table) (file : List ℕ) (size block : ℕ) → table.kind ≡ kind.Toast → block < blocks_in_relation r → base_of r ≡ file → size_of r ≡ size → table.columns ≡ toast_columns → All (Stands names r) (page_found table [] no_bits block (block_of names file size block)).chunks
unfolding page_found
block_stands names r table file size block what below base full columns =
    page_stands names r table block (block_of names file size block) _ refl what below (ap (λ (f : List ℕ). block_of names f size block) (sym base) ∙ ap (λ (n : ℕ). block_of names (base_of r) n block) (sym full)) columns

toast_kind : (case : CaseRecord) (names : Names) → (toast_table_of case names).kind ≡ kind.Toast
unfolding toast_table_of
toast_kind case names = refl

toast_types : (case : CaseRecord) (names : Names) → (toast_table_of case names).columns ≡ toast_columns
unfolding toast_table_of
toast_types case names = refl

same_toast : (t u : List ℕ × ℕ) → ◌≡◌ {A = Option (List ℕ × ℕ)} (Some t) (Some u) → t.0 ≡ u.0
same_toast t u e = cc

pages_stand : (case : CaseRecord) (names : Names) (file : List ℕ) (r : Relation) → IsRelationOf names file case.segment_blocks toast_limit r → IsNamed file case.segment_blocks r → OfPages case names (Stands names r) file
unfolding toast_blocks
pages_stand case names file r relation named = λ block below.
    block_stands names r (toast_table_of case names) file case.segment_blocks block (toast_kind case names) (subst (λ n. block < n) (sym relation.count) below) named.named named.sized (toast_types case names)

-- each chunk of a case stands at its place in the TOAST table
pub all_stand : (case : CaseRecord) (names : Names) (t : List ℕ × ℕ) (r : Relation) → case.toast ≡ Some t → IsRelationOf names t.0 case.segment_blocks toast_limit r → IsNamed t.0 case.segment_blocks r → AllStand names r (chunks_of case names)
all_stand case names t r is relation named =
    All-chunks case names (Stands names r) (λ file oid has.
    subst (OfPages case names (Stands names r)) (same_toast t (file, oid) (sym is ∙ has)) (pages_stand case names t.0 r relation named))
