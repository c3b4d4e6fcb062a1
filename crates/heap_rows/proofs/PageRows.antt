-- The rows of a page, one for each of its items.
use Rattle.std.proofs.Common.{◌≡◌, ℕ, ◌+◌, ◌-◌, ◌<◌, ◌≤◌, Bool, true, false, if◌then◌else◌, List, [], ◌∷◌, ◌++◌, length, take, drop, get_or, map, All, refl, ap, sym, subst, ◌∙◌, arith, inl, inr}
use Rattle.std.specs.Prelude.{Option, Some, None, slice_get, unwrap_or}
use Rattle.std.proofs.Math.Seq.{drop-append_seam}
use Rattle.std.proofs.lemmas.List.{get_or-map, get_or_append_left, get_or_push, length-append, length-map}
use Rattle.std.proofs.lemmas.Option.{get_or_from_slice_get, slice_get-get_or, slice_get_within}
use Rattle.outside.specs.Outside.{Names}
use Rattle.outside.specs.Adds.{one_list}
use Rattle.reports.specs.Added.{each_upto}
use Rattle.page_layout.specs.Items.{is_normal}
use Rattle.page_layout.specs.Page.{item_of}
use Rattle.key_orders.specs.declared.columns.ColType.{ColType}
use Rattle.key_orders.specs.declared.columns.Value.{Value}
use Rattle.key_orders.specs.Types.{HasAlignment, HasLength}
use Rattle.key_orders.specs.Values.{value_in}
use Rattle.rel_files.specs.declared.relation.Relation.{Relation}
use Rattle.case_file.specs.Record.{CaseRecord}
use Rattle.case_file.specs.declared.case.Column.{Column}
use Rattle.varlena_attrs.specs.Forms.{Attribute, External, Missing, Null, Packed, Plain}
use Rattle.varlena_attrs.specs.InTurn.{IsAttributeOf}
use Rattle.varlena_attrs.specs.declared.places.ToastPointer.{ToastPointer}
use Rattle.liveness.specs.declared.states.ItemState.{ItemState}
use Rattle.hot_chains.specs.Chains.{is_root_at, item_at, root_of}
use Rattle.hot_chains.proofs.Bare.{bare_roots}
use Rattle.toast_chunks.specs.declared.map.Chunk.{Chunk}
use Rattle.heap_page_check.specs.Found.{live_attributes, states_of}
use Rattle.heap_tuples.specs.Places.{tuple_at}
use Rattle.heap_tuples.specs.Tuples.{attributes_in}
use Rattle.heap_table_check.specs.Case.{heap_blocks, table_of}
use Rattle.heap_rows.specs.declared.row_cells.Cell.{Cell}
use Rattle.heap_rows.specs.declared.row_cells.Cell.TheVariants as cell
use Rattle.heap_rows.specs.declared.row_values.AskedColumns.{AskedColumns}
use Rattle.heap_rows.specs.declared.row_cursor.RowCursor.{RowCursor}
use Rattle.heap_rows.specs.declared.row_page.RowPage.{RowPage}
use Rattle.heap_rows.specs.declared.rows.LiveRow.{LiveRow}
use Rattle.heap_rows.specs.RowCursor.{case_at, rows_ahead, rows_here}
use Rattle.heap_rows.specs.PageRows.{ArePageRows, HasValue, HasValues, IsPageRow, value_there}
use Rattle.heap_rows.specs.RowPages.{HasAttributes, IsKnown, is_live_by, is_live_in, rows_in_hand}
use Rattle.heap_rows.specs.Roots.{AreChainsWhere, AreRoots, root_item}
use Rattle.heap_rows.specs.declared.roots.Roots.{Roots}
use Rattle.heap_rows.specs.RowValues.{FitTypes, column_asked}
use Rattle.heap_rows.specs.Rows.{block_rows, cell_of, cells_of, each_from, item_rows, row_at, toast_bytes}
use Rattle.heap_rows.proofs.Lists.{each_upto-next, each_upto-none}
use Rattle.heap_rows.proofs.RowCells.{cell_there}
use Rattle.heap_rows.proofs.RowFits.{attributes_fit, fits_attribute}
use Rattle.heap_rows.proofs.RowHeads.{one_cell}
use Rattle.heap_rows.proofs.RowLaws.{never_in, read_or_not}
use Rattle.heap_rows.proofs.RowPages.{known_attributes, one_row, told_state}
use Rattle.heap_rows.proofs.RowSources.{ahead_is}
use Rattle.heap_rows.proofs.RowSteps.{all_upto}
use Rattle.heap_rows.proofs.RowValues.{before_or_last, cell_is, some_column}

-- A tuple

-- a value in line has the length of its type
pub value_fits : (ctype : ColType) (body content : List ℕ) → IsAttributeOf ctype body (Plain content) → HasLength ctype (length content)
value_fits ctype body content is = fits_attribute is.presence ctype body is.place (Plain content) is.next is.is

-- so have the bytes of it that are read
pub piece_fits : (ctype : ColType) (body own : List ℕ) (start len : ℕ) → own ≡ body → IsAttributeOf ctype body (Plain (take len (drop start body))) → HasLength ctype (length (take (start + len - start) (drop start own)))
piece_fits ctype body own start len same is =
    let long : start + len - start ≡ len = omega arith in
    subst (λ (b : List ℕ). HasLength ctype (length (take (start + len - start) (drop start b)))) (sym same)
    (subst (λ (m : ℕ). HasLength ctype (length (take m (drop start body)))) (sym long) (value_fits ctype body (take len (drop start body)) is))

-- a column has the value that is read of these bytes
pub piece_value : (types : List ColType) (list : List Attribute) (column : ℕ) (ctype : ColType) (body own : List ℕ) (start len : ℕ) (v : Value) → slice_get types column ≡ Some ctype → own ≡ body → slice_get list column ≡ Some (Plain (take len (drop start body)))
    → v ≡ value_in ctype (take (start + len - start) (drop start own)) → HasValue types list column v
piece_value types list column ctype body own start len v typed same there is =
    let long : start + len - start ≡ len = omega arith in
    record {
      ctype = ctype;
      typed = typed;
      attribute = Plain (take len (drop start body));
      there = there;
      value_is = ap (λ (w : Value). Some w) (sym (is ∙ ap (λ (b : List ℕ). value_in ctype (take (start + len - start) (drop start b))) same ∙ ap (λ (m : ℕ). value_in ctype (take m (drop start body))) long));
    }

-- Its values

value_before : (vs : List Value) (v w : Value) (k : ℕ) → k < length vs → slice_get (vs ++ v ∷ []) k ≡ Some w → slice_get vs k ≡ Some w
value_before vs v w k lt is =
    let long : length (vs ++ v ∷ []) ≡ length vs + 1 = length-append vs (v ∷ []) in
    slice_get-get_or vs k v lt
    ∙ ap (λ (u : Value). Some u) (sym (get_or_append_left vs (v ∷ []) v k lt))
    ∙ sym (slice_get-get_or (vs ++ v ∷ []) k v (omega (arith, lt, long)))
    ∙ is

value_last : (vs : List Value) (v w : Value) (k : ℕ) → k ≡ length vs → slice_get (vs ++ v ∷ []) k ≡ Some w → v ≡ w
value_last vs v w k last is =
    sym (get_or_push vs v v k (sym last)) ∙ get_or_from_slice_get (vs ++ v ∷ []) k w v is

-- a value more
pub next_values : (types : List ColType) (asked : AskedColumns) (first k : ℕ) (list : List Attribute) (vs : List Value) (v : Value) → length vs ≡ k - first → first ≤ k → HasValues types asked first list vs → HasValue types list (column_asked asked k) v → HasValues types asked first list (vs ++ v ∷ [])
next_values types asked first k list vs v many le before has j w is =
    let long : length (vs ++ v ∷ []) ≡ length vs + 1 = length-append vs (v ∷ []) in
    let within : j < length (vs ++ v ∷ []) = slice_get_within (vs ++ v ∷ []) j w is in
    elim (before_or_last j (length vs) (omega (arith, within, long))) [
      | inl lt ↦ before j w (value_before vs v w j lt is)
      | inr last ↦
          let number : k ≡ first + j = omega (arith, last, many, le) in
          subst (λ (u : Value). HasValue types list (column_asked asked (first + j)) u) (value_last vs v w j last is)
          (subst (λ (n : ℕ). HasValue types list (column_asked asked n) v) number has)
    ]

-- Its cells

-- the type of a column
type_at : (columns : List Column) (k : ℕ) (d : Column) (ctype : ColType) → k < length columns → slice_get (map (λ c. c.ctype) columns) k ≡ Some ctype → (get_or columns k d).ctype ≡ ctype
type_at columns k d ctype lt is =
    same (get_or columns k d).ctype ctype
    (ap (λ (t : ColType). Some t) (sym (get_or-map (λ (c : Column). c.ctype) columns k d d.ctype lt))
    ∙ sym (slice_get-get_or (map (λ (c : Column). c.ctype) columns) k d.ctype (omega (arith, lt, length-map columns (λ (c : Column). c.ctype))))
    ∙ is)
  where
    same : (a b : ColType) → ◌≡◌ {A = Option ColType} (Some a) (Some b) → a ≡ b
    same a b e = cc

-- a value that stands in the tuple is held
held : (bytes : ToastPointer → List ℕ) (column : Column) (a : Attribute) (v : Value) → value_there column.ctype a ≡ Some v → cell_of bytes column a ≡ cell.Held v
held bytes column Null v is = cc
held bytes column (Plain content) v is = cc
held bytes column Missing v is = cc
held bytes column (Packed piece) v is = cc
held bytes column (External pointer) v is = cc

-- a value that the attributes have is that of the cell
value_cell : (bytes : ToastPointer → List ℕ) (columns : List Column) (types : List ColType) (list : List Attribute) (k : ℕ) (v : Value) → types ≡ map (λ c. c.ctype) columns → FitTypes (map (λ c. c.ctype) columns) list → HasValue types list k v
    → slice_get (cells_of bytes columns list) k ≡ Some (cell.Held v)
value_cell bytes columns types list k v are fit has =
    let typed : slice_get (map (λ (c : Column). c.ctype) columns) k ≡ Some has.ctype = subst (λ (ts : List ColType). slice_get ts k ≡ Some has.ctype) are has.typed in
    let lt : k < length columns = omega (arith, slice_get_within (map (λ (c : Column). c.ctype) columns) k has.ctype typed, length-map columns (λ (c : Column). c.ctype)) in
    let d : Column = some_column columns k lt in
    let there : value_there (get_or columns k d).ctype has.attribute ≡ Some v = ap (λ (t : ColType). value_there t has.attribute) (type_at columns k d has.ctype lt typed) ∙ has.value_is in
    one_cell (slice_get (cells_of bytes columns list) k) (cell.Held v)
    (ap (λ (c : Cell). c ∷ []) (sym (held bytes (get_or columns k d) has.attribute v there))
    ∙ sym (cell_is bytes columns list k d has.attribute lt has.there)
    ∙ cell_there bytes columns list k fit lt)

-- Its root

root_by : (o : Option ℕ) (b : Bool) (i : ℕ) → o ≡ (if b then Some i else None) → unwrap_or o i ≡ i
root_by o true i is = ap (λ (p : Option ℕ). unwrap_or p i) is
root_by o false i is = ap (λ (p : Option ℕ). unwrap_or p i) is

-- where the page has no chains it is the item itself
own_root : (block : ℕ) (items : List ItemState) (roots : Roots) (i : ℕ) → roots.has_chains ≡ false → AreRoots block items roots → 1 ≤ i → root_item block items i ≡ i
own_root block items roots i none are first =
    root_by (root_of block items i) (is_root_at items i) i
    (bare_roots block items (subst (λ (b : Bool). AreChainsWhere b block items roots.chains) none are) i first)

-- An item of a plain page in hand, whose tuple has values in columns

module _ (case : CaseRecord) (names : Names) (toast : Option Relation) (chunks : List Chunk) (page : RowPage) (i : ℕ) (known : IsKnown case names toast chunks page i) (first : 1 ≤ i) (last : i ≤ page.count) (plain : page.plain ≡ true) (normal : is_normal (item_of page.bytes i).flag ≡ true) where
  abbrev live : is_live_in page i ≡ true
  live = ap (λ (b : Bool). is_live_by b (item_of page.bytes i).flag (item_at page.states.items i)) plain ∙ normal

  -- it gives one row
  pub one_here : item_rows case names page.block page.bytes i ≡ row_at case names page.block page.bytes i ∷ []
  one_here =
      one_row case names page.block page.bytes i (item_at (states_of (table_of case names) page.bytes) i) known.verdict
      (told_state case names toast chunks page i true known first last live)

  -- with those values
  pub row_here : (types : List ColType) (asked : AskedColumns) (from count : ℕ) (values : List Value) → page.roots.has_chains ≡ false → All HasAlignment types → types ≡ map (λ c. c.ctype) case.columns → length values ≡ count
      → ((list : List Attribute) → HasAttributes types page.bytes i list → HasValues types asked from list values) → IsPageRow page.block asked from count i values (row_at case names page.block page.bytes i)
  unfolding row_at
  row_here types asked from count values none aligned are many says =
      let list = live_attributes (table_of case names) page.bytes i in
      let tuple = tuple_at page.bytes i in
      let has = known_attributes case names toast chunks page i types case.columns known are refl live in
      let own = read_or_not (attributes_in types tuple) list has.read (never_in types tuple aligned) in
      let fit : FitTypes (map (λ (c : Column). c.ctype) case.columns) list = subst (λ (ts : List ColType). FitTypes ts list) are (attributes_fit types tuple list aligned own) in
      let root = own_root page.block (states_of (table_of case names) page.bytes) page.roots i none known.tells.roots first in
      record {
        root = λ j. record { block = page.block; item = root j };
        many = many;
        cells = λ k v is. value_cell (toast_bytes case names) case.columns types list (column_asked asked (from + k)) v are fit (says list has k v is);
      }

-- One row more

rows-next : (block : ℕ) (asked : AskedColumns) (first count item : ℕ) (vs : List (List Value)) (v : List Value) (rows : List LiveRow) (row : LiveRow) → ArePageRows block asked first count item vs rows → IsPageRow block asked first count (item + length vs) v row → ArePageRows block asked first count item (vs ++ v ∷ []) (rows ++ row ∷ [])
rows-next block asked first count item [] v [] row are is = (subst (λ (i : ℕ). IsPageRow block asked first count i v row) (omega arith) is, tt)
rows-next block asked first count item (m ∷ vs) v (r ∷ rows) row are is =
    (are.0, rows-next block asked first count (item + 1) vs v rows row are.1 (subst (λ (i : ℕ). IsPageRow block asked first count i v row) (omega arith) is))
rows-next block asked first count item [] v (r ∷ rows) row are is = absurd are
rows-next block asked first count item (m ∷ vs) v [] row are is = absurd are

pub item_rows_are : (block : ℕ) (asked : AskedColumns) (first count i : ℕ) (f : ℕ → List LiveRow) (vs new : List (List Value)) (v : List Value) (row : LiveRow) → new ≡ vs ++ v ∷ [] → length vs ≡ i → ArePageRows block asked first count 1 vs (each_upto one_list f i) → f (i + 1) ≡ row ∷ [] → IsPageRow block asked first count (i + 1) v row
    → ArePageRows block asked first count 1 new (each_upto one_list f (i + 1))
item_rows_are block asked first count i f vs new v row is long are one own =
    let here : IsPageRow block asked first count (1 + length vs) v row = subst (λ (j : ℕ). IsPageRow block asked first count j v row) (omega (arith, long)) own in
    let rows : each_upto one_list f (i + 1) ≡ each_upto one_list f i ++ row ∷ [] = each_upto-next f i ∙ ap (λ (xs : List LiveRow). each_upto one_list f i ++ xs) one in
    subst (λ (ms : List (List Value)). ArePageRows block asked first count 1 ms (each_upto one_list f (i + 1))) (sym is)
    (subst (λ (xs : List LiveRow). ArePageRows block asked first count 1 (vs ++ v ∷ []) xs) (sym rows) (rows-next block asked first count 1 vs v (each_upto one_list f i) row are here))

pub no_rows_are : (block : ℕ) (asked : AskedColumns) (first count : ℕ) (f : ℕ → List LiveRow) (vs : List (List Value)) → vs ≡ [] → ArePageRows block asked first count 1 vs (each_upto one_list f 0)
no_rows_are block asked first count f vs none =
    subst (λ (ms : List (List Value)). ArePageRows block asked first count 1 ms (each_upto one_list f 0)) (sym none)
    (subst (λ (xs : List LiveRow). ArePageRows block asked first count 1 [] xs) (sym (each_upto-none f)) tt)

-- All of a page

pub all_here : (case : CaseRecord) (names : Names) (page : RowPage) → page.done ≡ 0 → rows_in_hand case names page ≡ each_upto one_list (item_rows case names page.block page.bytes) page.count
unfolding rows_in_hand
all_here case names page none =
    let f = item_rows case names page.block page.bytes in
    ap (λ (d : ℕ). each_from f (d + 1) (page.count - d)) none ∙ ap (λ (n : ℕ). each_from f 1 n) (omega arith) ∙ all_upto f page.count

-- past it
pub ahead_past : (names : Names) (old new : RowCursor) → case_at new ≡ case_at old → new.next ≡ old.next → rows_here names new ≡ [] → rows_ahead names new ≡ drop (length (rows_here names old)) (rows_ahead names old)
ahead_past names old new case next none =
    let rest : List LiveRow = each_from (block_rows (case_at old) names) old.next (heap_blocks (case_at old) names - old.next) in
    ahead_is names new
    ∙ ap (λ (xs : List LiveRow). xs ++ each_from (block_rows (case_at new) names) new.next (heap_blocks (case_at new) names - new.next)) none
    ∙ ap (λ (c : CaseRecord). each_from (block_rows c names) new.next (heap_blocks c names - new.next)) case
    ∙ ap (λ (k : ℕ). each_from (block_rows (case_at old) names) k (heap_blocks (case_at old) names - k)) next
    ∙ sym (drop-append_seam (rows_here names old) rest)
    ∙ ap (λ (xs : List LiveRow). drop (length (rows_here names old)) xs) (sym (ahead_is names old))
