-- The rows are live tuples, and where nothing is found of the heap they are exactly these.
use Rattle.std.proofs.Common.{◌≡◌, ℕ, suc, ◌<◌, ◌≤◌, Bool, true, false, List, [], ◌∷◌, All, refl, ap, sym, subst, ◌∙◌, arith}
use Rattle.std.specs.Prelude.{Option, Some, None, Ok, Err, if◌then◌else◌, map, unwrap_or, AllPairs, Contains}
use Rattle.std.proofs.lemmas.Bool.{cond-false, cond-true, false≢true}
use Rattle.std.proofs.lemmas.List.Elements.{All-cons, All-contains, All-nil, All-weaker, recursion_from_All}
use Rattle.outside.specs.Adds.{one_list}
use Rattle.outside.specs.Outside.{Names}
use Rattle.page_layout.specs.Items.{is_normal}
use Rattle.page_layout.specs.Page.{count_of, page_rule_of}
use Rattle.page_layout.specs.declared.page.PageKind.TheVariants.{Heap}
use Rattle.page_layout.specs.declared.rules.Rule.{Rule}
use Rattle.key_orders.specs.Types.{HasAlignment}
use Rattle.key_orders.specs.declared.Tid.{Tid}
use Rattle.key_orders.specs.declared.columns.ColType.{ColType}
use Rattle.tuple_head.specs.Head.{natts_of, tuple_head_of}
use Rattle.case_file.specs.Record.{CaseRecord}
use Rattle.case_file.specs.Sound.{IsSound}
use Rattle.case_file.specs.declared.case.Column.{Column}
use Rattle.varlena_attrs.specs.Forms.{Attribute, External, Missing, Null, Packed, Plain}
use Rattle.varlena_attrs.specs.Faults.{fixed_fault, in_content, in_header, in_length, in_tag, varlena_fault}
use Rattle.varlena_attrs.specs.Laws.{FailsAt}
use Rattle.varlena_attrs.specs.Reading.{Outcome, failure_in, fault_at}
use Rattle.varlena_attrs.specs.declared.fault.AttrFault.{AttrFault}
use Rattle.varlena_attrs.specs.declared.fault.AttrFault.TheVariants as fault
use Rattle.varlena_attrs.specs.declared.places.ToastPointer.{ToastPointer}
use Rattle.varlena_attrs.proofs.First.{fails_first}
use Rattle.varlena_attrs.proofs.Law.{read_sound}
use Rattle.liveness.specs.declared.states.ItemState.{ItemState}
use Rattle.hot_chains.specs.Chains.{IsRootOf, Reaches, is_live, is_live_tuple, item_at, root_of}
use Rattle.hot_chains.specs.Quiet.{HasOneRoot}
use Rattle.hot_chains.proofs.Whole.{root_is_right}
use Rattle.heap_tuples.specs.Places.{tuple_at}
use Rattle.heap_tuples.specs.Tuples.{IsReadAs, attributes_in, body_of, nulls_of}
use Rattle.toast_chunks.specs.Chunks.{IsWhole}
use Rattle.toast_chunks.specs.Pointer.{is_compressed}
use Rattle.reports.proofs.Pairs.{pairs-below, pairs-none, pairs-one, pairs-upto}
use Rattle.reports.proofs.Parts.{All-below, All-upto, among_below, among_upto}
use Rattle.reports.specs.Added.{each_upto}
use Rattle.heap_page_check.specs.declared.verdict.ItemVerdict.{ItemVerdict}
use Rattle.heap_page_check.specs.declared.verdict.ItemVerdict.TheVariants.{Breaks, InDoubt, Passes}
use Rattle.heap_page_check.specs.Broken.{HoldsLiveTuple}
use Rattle.heap_page_check.specs.Found.{live_attributes}
use Rattle.heap_page_check.specs.States.{AreStatesOf, IsStateOf, dead, redirect, tuple as of_tuple, unused}
use Rattle.heap_page_check.specs.Table.{Table}
use Rattle.heap_page_check.specs.Verdicts.{head_at, item_verdict}
use Rattle.heap_page_check.proofs.ItemLaws.{live_passes}
use Rattle.heap_page_check.proofs.LifeLaws.{live_is as life_is_live}
use Rattle.heap_page_check.proofs.PageLaws.{each_passes}
use Rattle.heap_page_check.proofs.StateLaws.{EachPasses, passes_there, states_are_there}
use Rattle.heap_page_check.proofs.Judged.{is_silent}
use Rattle.heap_table_check.specs.Case.{case_bits, heap_blocks, table_of}
use Rattle.heap_table_check.specs.Found.{IsQuiet, chunks_of}
use Rattle.heap_rows.specs.declared.row_cells.Cell.{Cell}
use Rattle.heap_rows.specs.declared.rows.LiveRow.{LiveRow}
use Rattle.heap_rows.specs.RowLaws.{AreAttributesOf, AreCellsOf, AreLiveTuples, IsBefore, IsCellOf, IsLiveAt, IsRowOfTuple, IsWholeRow, RowsAreLive, TidsRise, in_lower_block, in_place, in_same_block, in_toast_table, no_columns, of_missing, of_null, one_more, packed_in_place, packed_in_toast_table, states_at}
use Rattle.heap_rows.specs.RowValues.{FitTypes}
use Rattle.heap_rows.specs.Roots.{root_item}
use Rattle.heap_rows.specs.Rows.{block_rows, cell_of, cells_of, external_cell, heap_page, item_rows, page_rows, row_at, row_by, rows_by_rule, rows_of, toast_bytes}
use Rattle.heap_rows.proofs.FromFiles.{heap_has_nothing, values_are_whole}
use Rattle.heap_rows.proofs.RowCells.{cells_of-next, cells_of-none}
use Rattle.heap_rows.proofs.LiveTuples.{live_are_read, sound_tuple}
use Rattle.heap_rows.proofs.QuietHeap.{heap_types, page_passes}
use Rattle.heap_rows.proofs.RowFits.{attributes_fit}
use Rattle.heap_rows.proofs.RowSources.{columns_readable}

-- Rows of an item

where_live : (P : LiveRow → Type 0) (row : LiveRow) (live : Bool) → (live ≡ true → P row) → All P (if live then row ∷ [] else [])
where_live P row true holds = All-cons P row [] (holds refl) (All-nil P)
where_live P row false holds = All-nil P

where_passes : (P : LiveRow → Type 0) (row : LiveRow) (v : ItemVerdict) → ((state : ItemState) → v ≡ Passes state → is_live_tuple state ≡ true → P row) → All P (row_by v row)
where_passes P row (Passes state) holds = where_live P row (is_live_tuple state) (holds state refl)
where_passes P row (Breaks rule) holds = All-nil P
where_passes P row (InDoubt reason) holds = All-nil P

alone_where_live : (R : LiveRow → LiveRow → Type 0) (row : LiveRow) (live : Bool) → AllPairs R (if live then row ∷ [] else [])
alone_where_live R row true = pairs-one R row
alone_where_live R row false = pairs-none R

alone : (R : LiveRow → LiveRow → Type 0) (row : LiveRow) (v : ItemVerdict) → AllPairs R (row_by v row)
alone R row (Passes state) = alone_where_live R row (is_live_tuple state)
alone R row (Breaks rule) = pairs-none R
alone R row (InDoubt reason) = pairs-none R

all_by_rule : (P : LiveRow → Type 0) (rule : Option Rule) (rows : List LiveRow) → All P rows → All P (rows_by_rule rule rows)
all_by_rule P (Some rule) rows all = All-nil P
all_by_rule P None rows all = all

pairs_by_rule : (R : LiveRow → LiveRow → Type 0) (rule : Option Rule) (rows : List LiveRow) → AllPairs R rows → AllPairs R (rows_by_rule rule rows)
pairs_by_rule R (Some rule) rows all = pairs-none R
pairs_by_rule R None rows all = all

-- What holds of each row where an item passes and is live holds of all rows

module _ (case : CaseRecord) (names : Names) (P : LiveRow → Type 0) where
  abbrev page_at : ℕ → List ℕ
  page_at block = heap_page case names block

  -- what is asked for
  abbrev OfLive : Type 0
  OfLive =
      (block i : ℕ) (state : ItemState) → block < heap_blocks case names → 1 ≤ i → i ≤ count_of (page_at block)
      → item_verdict (table_of case names) (page_at block) i ≡ Passes state → is_live_tuple state ≡ true
      → P (row_at case names block (page_at block) i)

  of_item : OfLive → (block i : ℕ) → block < heap_blocks case names → 1 ≤ i → i ≤ count_of (page_at block) → All P (item_rows case names block (page_at block) i)
  unfolding item_rows
  of_item holds block i below first last =
      where_passes P (row_at case names block (page_at block) i) (item_verdict (table_of case names) (page_at block) i)
      (λ state passes live. holds block i state below first last passes live)

  of_block : OfLive → (block : ℕ) → block < heap_blocks case names → All P (block_rows case names block)
  unfolding block_rows page_rows
  of_block holds block below =
      all_by_rule P (page_rule_of Heap (page_at block)) _
      (All-upto one_list (λ l. l) refl (λ a b. refl) P (item_rows case names block (page_at block)) (count_of (page_at block)) (λ i first last. of_item holds block i below first last))

  of_all : OfLive → All P (rows_of case names)
  unfolding rows_of
  of_all holds = All-below one_list (λ l. l) refl (λ a b. refl) P (block_rows case names) (heap_blocks case names) (λ block below. of_block holds block below)

module _ (case : CaseRecord) (names : Names) where
  -- a row is a live tuple
  live_at : (block i : ℕ) (state : ItemState) → block < heap_blocks case names → 1 ≤ i → i ≤ count_of (heap_page case names block) → item_verdict (table_of case names) (heap_page case names block) i ≡ Passes state → is_live_tuple state ≡ true → IsLiveAt case names (record { block = block; item = i })
  live_at block i state below first last passes live =
      let sound = sound_tuple (table_of case names) (heap_page case names block) i state passes live in
      let says = life_is_live (table_of case names).names (table_of case names).logs (head_at (heap_page case names block) i) sound.life in
      record { block = below; live = record { item = record { first = first; last = last; normal = sound.normal }; inserted = says.0; kept = says.1 } }

  pub rows_live : RowsAreLive case names
  unfolding row_at
  rows_live =
      of_all case names (IsRowOfTuple case names)
      (λ block i state below first last passes live. record { live = live_at block i state below first last passes live; root = refl })

  -- rows rise

  abbrev IsAt : ℕ → ℕ → LiveRow → Type 0
  IsAt block i row = (row.tid.block ≡ block) × (row.tid.item ≡ i)

  item_at_place : (block i : ℕ) (page : List ℕ) → All (IsAt block i) (item_rows case names block page i)
  unfolding item_rows row_at
  item_at_place block i page =
      where_passes (IsAt block i) (row_at case names block page i) (item_verdict (table_of case names) page i) (λ state passes live. (refl, refl))

  block_at_place : (block : ℕ) → All (λ row. row.tid.block ≡ block) (block_rows case names block)
  unfolding block_rows page_rows
  block_at_place block =
      let page = heap_page case names block in
      all_by_rule (λ row. row.tid.block ≡ block) (page_rule_of Heap page) _
      (All-upto one_list (λ l. l) refl (λ a b. refl) (λ row. row.tid.block ≡ block) (item_rows case names block page) (count_of page)
      (λ i first last. All-weaker (IsAt block i) (λ row. row.tid.block ≡ block) (λ row at. at.0) (item_rows case names block page i) (item_at_place block i page)))

  abbrev Rise : LiveRow → LiveRow → Type 0
  Rise row later = IsBefore row.tid later.tid

  item_rises : (block i : ℕ) (page : List ℕ) → AllPairs Rise (item_rows case names block page i)
  unfolding item_rows
  item_rises block i page = alone Rise (row_at case names block page i) (item_verdict (table_of case names) page i)

  items_rise : (block : ℕ) (page : List ℕ) (i j : ℕ) (x y : LiveRow) → i < j → Contains (item_rows case names block page i) x → Contains (item_rows case names block page j) y → Rise x y
  items_rise block page i j x y lt first second =
      let here = All-contains (IsAt block i) (item_rows case names block page i) x (item_at_place block i page) first in
      let there = All-contains (IsAt block j) (item_rows case names block page j) y (item_at_place block j page) second in
      let a = here.1 in
      let b = there.1 in
      in_same_block (here.0 ∙ sym there.0) (omega (arith, lt, a, b))

  block_rises : (block : ℕ) → AllPairs Rise (block_rows case names block)
  unfolding block_rows page_rows
  block_rises block =
      let page = heap_page case names block in
      pairs_by_rule Rise (page_rule_of Heap page) _
      (pairs-upto one_list (λ l. l) refl (λ a b. refl) Rise (item_rows case names block page) (count_of page) (λ i first last. item_rises block i page) (items_rise block page))

  pub rows_rise : TidsRise (rows_of case names)
  unfolding rows_of
  rows_rise =
      pairs-below one_list (λ l. l) refl (λ a b. refl) Rise (block_rows case names) (heap_blocks case names) (λ block below. block_rises block)
      (λ j k x y lt inside first second.
      let here = All-contains (λ row. row.tid.block ≡ j) (block_rows case names j) x (block_at_place j) first in
      let there = All-contains (λ row. row.tid.block ≡ k) (block_rows case names k) y (block_at_place k) second in
      in_lower_block (omega (arith, lt, here, there)))

-- Attributes

-- what can't be read is so for a cause of its own, and not for want of memory
not_past : (column : ℕ) → ◌≡◌ {A = AttrFault} fault.NoMemory (fault.PastEnd column) → ⊥
not_past column e = cc

not_header : (column : ℕ) → ◌≡◌ {A = AttrFault} fault.NoMemory (fault.BadHeader column) → ⊥
not_header column e = cc

not_tag : (column : ℕ) → ◌≡◌ {A = AttrFault} fault.NoMemory (fault.BadTag column) → ⊥
not_tag column e = cc

no_memory_fault : (columns : List ColType) (body : List ℕ) (nulls : Option (List ℕ)) (natts : ℕ) → FailsAt columns body nulls natts fault.NoMemory → ⊥
no_memory_fault columns body nulls natts f =
    elim f.fault [
      | fixed_fault len start fixed aligned past e ↦ not_past (suc f.k) (f.named ∙ ap (fault_at (suc f.k)) e)
      | varlena_fault start varies begins first ↦ elim first [
        | in_header passes e ↦ not_past (suc f.k) (f.named ∙ ap (fault_at (suc f.k)) e)
        | in_tag inside tag e ↦ not_tag (suc f.k) (f.named ∙ ap (fault_at (suc f.k)) e)
        | in_length inside tag low e ↦ not_header (suc f.k) (f.named ∙ ap (fault_at (suc f.k)) e)
        | in_content inside tag low passes e ↦ not_past (suc f.k) (f.named ∙ ap (fault_at (suc f.k)) e)
      ]
    ]

pub never_in : (columns : List ColType) (tuple : List ℕ) → All HasAlignment columns → attributes_in columns tuple ≡ Err fault.NoMemory → ⊥
unfolding attributes_in
never_in columns tuple aligned e =
    no_memory_fault columns (body_of tuple) (nulls_of tuple) (natts_of (tuple_head_of tuple))
    (fails_first columns (body_of tuple) (nulls_of tuple) (natts_of (tuple_head_of tuple)) aligned fault.NoMemory (ap failure_in e))

pub read_or_not : (outcome : Outcome) (list : List Attribute) → IsReadAs outcome list → (outcome ≡ Err fault.NoMemory → ⊥) → outcome ≡ Ok list
read_or_not (Ok found) list is never = ap Ok is
read_or_not (Err (fault.PastEnd column)) list is never = absurd is
read_or_not (Err (fault.BadHeader column)) list is never = absurd is
read_or_not (Err (fault.BadTag column)) list is never = absurd is
read_or_not (Err fault.NoMemory) list is never = absurd (never refl)

attributes_are : (columns : List Column) (tuple : List ℕ) (list : List Attribute) → All HasAlignment (map (λ c. c.ctype) columns) → attributes_in (map (λ c. c.ctype) columns) tuple ≡ Ok list → AreAttributesOf columns tuple list
unfolding attributes_in
attributes_are columns tuple list aligned is =
    read_sound (map (λ c. c.ctype) columns) (nulls_of tuple) (natts_of (tuple_head_of tuple)) (body_of tuple) 0 0 list (recursion_from_All HasAlignment (map (λ c. c.ctype) columns) aligned) is

-- Cells

module _ (case : CaseRecord) (names : Names) where
  external_is : (column : Column) (p : ToastPointer) (packed : Bool) → is_compressed p ≡ packed → IsWhole (chunks_of case names) p → IsCellOf case names column (External p) (external_cell (toast_bytes case names p) p)
  external_is column p true is whole =
      subst (λ (c : Cell). IsCellOf case names column (External p) c) (sym (cond-true _ _ _ is)) (packed_in_toast_table p whole is)
  external_is column p false is whole =
      subst (λ (c : Cell). IsCellOf case names column (External p) c) (sym (cond-false _ _ _ is)) (in_toast_table p whole is)

  cell_is : (column : Column) (a : Attribute) → ((p : ToastPointer) → a ≡ External p → IsWhole (chunks_of case names) p) → IsCellOf case names column a (cell_of (toast_bytes case names) column a)
  cell_is column Null whole = of_null
  cell_is column Missing whole = of_missing
  cell_is column (Plain content) whole = in_place content
  cell_is column (Packed piece) whole = packed_in_place piece
  cell_is column (External p) whole = external_is column p (is_compressed p) refl (whole p refl)

  cells_are : (columns : List Column) (list : List Attribute) → FitTypes (map (λ c. c.ctype) columns) list → ((p : ToastPointer) → Contains list (External p) → IsWhole (chunks_of case names) p) → AreCellsOf case names columns list (cells_of (toast_bytes case names) columns list)
  cells_are [] [] fit whole = subst (λ (cs : List Cell). AreCellsOf case names [] [] cs) (sym (cells_of-none (toast_bytes case names))) no_columns
  cells_are (column ∷ columns) (a ∷ list) fit whole =
      subst (λ (cs : List Cell). AreCellsOf case names (column ∷ columns) (a ∷ list) cs) (sym (cells_of-next (toast_bytes case names) column columns a list))
      (one_more column columns a list (cell_of (toast_bytes case names) column a) (cells_of (toast_bytes case names) columns list)
      (cell_is column a (λ p is. whole p (0, omega arith, is)))
      (cells_are columns list fit.1 (λ p among. whole p (suc among.0, omega (arith, among.1), among.2))))
  cells_are [] (a ∷ list) fit whole = absurd fit
  cells_are (column ∷ columns) [] fit whole = absurd fit

-- Roots

record IsRootOfItem (block : ℕ) (states : List ItemState) (i r : ℕ) : Type 0 where
  reaches : Reaches block states r i
  only : (q : ℕ) → Reaches block states q i → q ≡ r

root_found : (block : ℕ) (states : List ItemState) (i : ℕ) (o : Option ℕ) → IsRootOf block states i o → HasOneRoot block states i → IsRootOfItem block states i (unwrap_or o i)
root_found block states i None lowest one = absurd (lowest one.root one.reaches)
root_found block states i (Some r) lowest one = record { reaches = lowest.0; only = λ q reaches. one.only q reaches ∙ sym (one.only r lowest.0) }

-- The rows of a quiet case

-- a live tuple has the state of one
live_state : (table : Table) (page : List ℕ) (i : ℕ) (state : ItemState) → item_verdict table page i ≡ Passes state → IsStateOf table page i state → HoldsLiveTuple table page i → is_live_tuple state ≡ true
live_state table page i _ passes (of_tuple normal) live = ap is_live (live_passes table page i _ passes live)
live_state table page i _ passes (unused e) live = absurd (false≢true (sym (ap is_normal e) ∙ live.item.normal))
live_state table page i _ passes (dead e) live = absurd (false≢true (sym (ap is_normal e) ∙ live.item.normal))
live_state table page i _ passes (redirect e) live = absurd (false≢true (sym (ap is_normal e) ∙ live.item.normal))

row_place : (case : CaseRecord) (names : Names) (tid : Tid) (page : List ℕ) → (row_at case names tid.block page tid.item).tid ≡ tid
unfolding row_at
row_place case names tid page = refl

one_row : (row : LiveRow) (v : ItemVerdict) (state : ItemState) → v ≡ Passes state → is_live_tuple state ≡ true → Contains (row_by v row) row
one_row row v state passes live =
    let P : List LiveRow → Type 0 = λ rows. Contains rows row in
    subst P (sym (ap (λ (x : ItemVerdict). row_by x row) passes ∙ cond-true _ _ _ live)) (0, omega arith, refl)

module _ (case : CaseRecord) (names : Names) (quiet : IsQuiet case names) where
  each_passes_at : (block : ℕ) → block < heap_blocks case names → EachPasses (table_of case names) (heap_page case names block)
  each_passes_at block below = each_passes (table_of case names) block (heap_page case names block) (page_passes case names quiet block below)

  passes_at : (block : ℕ) → block < heap_blocks case names → (i : ℕ) → 1 ≤ i → i ≤ count_of (heap_page case names block) → item_verdict (table_of case names) (heap_page case names block) i ≡ Passes (item_at (states_at case names block) i)
  passes_at block below = passes_there (table_of case names) (heap_page case names block) (each_passes_at block below)

  are_states : (block : ℕ) → block < heap_blocks case names → AreStatesOf (table_of case names) (heap_page case names block) (states_at case names block)
  are_states block below = states_are_there (table_of case names) (heap_page case names block) (each_passes_at block below)

  one_root : (block : ℕ) → block < heap_blocks case names → (i : ℕ) → HoldsLiveTuple (table_of case names) (heap_page case names block) i → HasOneRoot block (states_at case names block) i
  one_root block below i live =
      (is_silent (table_of case names) (chunks_of case names) (case_bits case names block) block (heap_page case names block) (heap_has_nothing case names quiet block below)).true_page.roots
      (states_at case names block) (are_states block below) i live

  root_is : (block i : ℕ) → block < heap_blocks case names → HoldsLiveTuple (table_of case names) (heap_page case names block) i → IsRootOfItem block (states_at case names block) i (root_item block (states_at case names block) i)
  root_is block i below live =
      let first = live.item.first in
      root_found block (states_at case names block) i (root_of block (states_at case names block) i)
      (root_is_right block (states_at case names block) i (λ z. absurd (omega (arith, first, z))))
      (one_root block below i live)

  read_is : IsSound case → (block i : ℕ) (state : ItemState) → item_verdict (table_of case names) (heap_page case names block) i ≡ Passes state → is_live_tuple state ≡ true → attributes_in (table_of case names).columns (tuple_at (heap_page case names block) i) ≡ Ok (live_attributes (table_of case names) (heap_page case names block) i)
  read_is sound block i state passes live =
      let page = heap_page case names block in
      let aligned = (columns_readable case (table_of case names).columns sound (heap_types case names)).aligned in
      read_or_not (attributes_in (table_of case names).columns (tuple_at page i)) (live_attributes (table_of case names) page i)
      (live_are_read (table_of case names) page i state passes live) (never_in (table_of case names).columns (tuple_at page i) aligned)

  whole_row : IsSound case → (block i : ℕ) (state : ItemState) → block < heap_blocks case names → 1 ≤ i → i ≤ count_of (heap_page case names block) → item_verdict (table_of case names) (heap_page case names block) i ≡ Passes state → is_live_tuple state ≡ true → IsWholeRow case names (row_at case names block (heap_page case names block) i)
  unfolding row_at
  whole_row sound block i state below first last passes live =
      let page = heap_page case names block in
      let list = live_attributes (table_of case names) page i in
      let here = live_at case names block i state below first last passes live in
      let root = root_is block i below here.live in
      let read = read_is sound block i state passes live in
      let aligned = (columns_readable case (map (λ c. c.ctype) case.columns) sound refl).aligned in
      let plain = subst (λ (cs : List ColType). attributes_in cs (tuple_at page i) ≡ Ok list) (heap_types case names) read in
      record {
        live = here;
        root = record { block = refl; reaches = root.reaches; only = root.only };
        cells = record {
          list = list;
          attributes = attributes_are case.columns (tuple_at page i) list aligned plain;
          cells = cells_are case names case.columns list (attributes_fit (map (λ c. c.ctype) case.columns) (tuple_at page i) list aligned plain)
              (λ p among. values_are_whole case names quiet block below i p (record { live = here.live; list = list; read = read; among = among }));
        };
      }

  -- each live tuple has its row
  row_there : (block i : ℕ) → block < heap_blocks case names → HoldsLiveTuple (table_of case names) (heap_page case names block) i → Contains (rows_of case names) (row_at case names block (heap_page case names block) i)
  unfolding rows_of block_rows page_rows item_rows
  row_there block i below live =
      let page = heap_page case names block in
      let rule = (page_passes case names quiet block below).header in
      let passes = passes_at block below i live.item.first live.item.last in
      let row = row_at case names block page i in
      let P : Option Rule → Type 0 = λ r. Contains (rows_by_rule r (each_upto one_list (item_rows case names block page) (count_of page))) row in
      among_below one_list (λ l. l) refl (λ a b. refl) (block_rows case names) (heap_blocks case names) block row below
      (subst P (sym rule)
      (among_upto one_list (λ l. l) refl (λ a b. refl) (item_rows case names block page) (count_of page) i row live.item.first live.item.last
      (one_row row (item_verdict (table_of case names) page i) (item_at (states_at case names block) i) passes
      (live_state (table_of case names) page i (item_at (states_at case names block) i) passes ((are_states block below).each i live.item.first live.item.last) live))))

  pub rows_exact : IsSound case → AreLiveTuples case names (rows_of case names)
  rows_exact sound = record {
    each = of_all case names (IsWholeRow case names) (whole_row sound);
    all = λ tid live. record { row = row_at case names tid.block (heap_page case names tid.block) tid.item; among = row_there tid.block tid.item live.block live.live; at = row_place case names tid (heap_page case names tid.block) };
    rise = rows_rise case names;
  }
