-- The chunks that are kept of a page of a TOAST table are its rows, each once.
use Rattle.std.proofs.Common.{◌≡◌, ℕ, List, [], ◌∷◌, refl, sym, subst, ap, ◌∙◌, arith, append-nil, inl, inr}
use Rattle.std.specs.Prelude.{Option, Some, None, AllPairs, Contains}
use Rattle.std.specs.List.{All}
use Rattle.std.proofs.lemmas.List.Elements.{All-append, All-cons, All-contains, All-nil, All-weaker, Contains-append_left}
use Rattle.key_orders.specs.declared.Tid.{Tid}
use Rattle.page_layout.specs.Page.{count_of, page_rule_of}
use Rattle.page_layout.specs.declared.page.PageKind.TheVariants.{Heap}
use Rattle.page_layout.specs.declared.rules.Rule.{Rule}
use Rattle.varlena_attrs.specs.Forms.{Attribute}
use Rattle.vis_map.specs.declared.bits.MapBits.{MapBits}
use Rattle.toast_chunks.specs.Rows.{row_of}
use Rattle.toast_chunks.specs.declared.map.Chunk.{Chunk}
use Rattle.toast_chunks.specs.declared.rows.ChunkRow.{ChunkRow}
use Rattle.reports.proofs.Pairs.{pairs-none, pairs-one, pairs-upto}
use Rattle.reports.proofs.Parts.{All-upto, among_upto}
use Rattle.heap_page_check.specs.Broken.{AllPass}
use Rattle.heap_page_check.specs.Found.{chunk_by, chunks_left, found_parts, item_found, items_found, live_attributes}
use Rattle.heap_page_check.specs.Left.{IsRowOn, IsRowOnPage}
use Rattle.heap_page_check.specs.Pages.{found_by_rule, page_found}
use Rattle.heap_page_check.specs.Table.{Table}
use Rattle.heap_page_check.specs.declared.table.TableKind.{TableKind}
use Rattle.heap_page_check.specs.declared.table.TableKind.TheVariants as kind
use Rattle.heap_page_check.proofs.LeftLaws.{IsReadOrNone, live_is_read, read_is_live}
use Rattle.heap_page_check.proofs.PageLaws.{each_passes}

-- A chunk is that of its row

no_row : (list : List Attribute) (row : ChunkRow) → list ≡ [] → row_of list ≡ Some row → ⊥
unfolding row_of
no_row [] row e is = cc
no_row (a ∷ list) row e is = cc

All-chunk_by : (P : Chunk → Type 0) (block item : ℕ) (found : Option ChunkRow) → ((row : ChunkRow) → found ≡ Some row → P (record { id = row.id; seq = row.seq; tid = record { block = block; item = item }; size = row.size })) → All P (chunk_by block item found)
All-chunk_by P block item None each = All-nil P
All-chunk_by P block item (Some row) each =
    All-cons P (record { id = row.id; seq = row.seq; tid = record { block = block; item = item }; size = row.size }) [] (each row refl) (All-nil P)

among_chunk : (c : Chunk) (block i : ℕ) (list : List Attribute) → row_of list ≡ Some (record { id = c.id; seq = c.seq; size = c.size }) → c.tid ≡ record { block = block; item = i } → Contains (chunk_by block i (row_of list)) c
among_chunk c block i list is place =
    let P : Option ChunkRow → Type 0 = λ o. Contains (chunk_by block i o) c in
    let same : record { id = c.id; seq = c.seq; tid = record { block = block; item = i }; size = c.size } ≡ c = ap (λ (t : Tid). record { id = c.id; seq = c.seq; tid = t; size = c.size }) (sym place) in
    subst P (sym is) (0, omega arith, same)

module _ (table : Table) (chunks : List Chunk) (block : ℕ) (page : List ℕ) where
  row_by : (i : ℕ) (list : List Attribute) → IsReadOrNone table page i list → All (IsRowOnPage table block page) (chunk_by block i (row_of list))
  row_by i list (inl none) = All-chunk_by (IsRowOnPage table block page) block i (row_of list) (λ row e. absurd (no_row list row none e))
  row_by i list (inr is) =
      All-chunk_by (IsRowOnPage table block page) block i (row_of list) (λ row e. (i, record { live = is.live; list = list; read = is.read; row = e; place = refl }))

  rows_by_kind : (what : TableKind) (i : ℕ) (list : List Attribute) → IsReadOrNone table page i list → All (IsRowOnPage table block page) (chunks_left what block i list)
  rows_by_kind kind.Heap i list is = All-nil (IsRowOnPage table block page)
  rows_by_kind kind.Toast i list is = row_by i list is

  items_are_rows : All (IsRowOnPage table block page) (items_found table chunks block page).chunks
  unfolding items_found item_found
  items_are_rows =
      All-upto found_parts (λ f. f.chunks) refl (λ a b. refl) (IsRowOnPage table block page) (item_found table chunks block page) (count_of page) (λ i first last.
      All-append (IsRowOnPage table block page) (chunks_left table.kind block i (live_attributes table page i)) []
      (rows_by_kind table.kind i (live_attributes table page i) (live_is_read table page i first last)) (All-nil (IsRowOnPage table block page)))

  rows_by_rule : (bits : MapBits) (rule : Option Rule) → All (IsRowOnPage table block page) (found_by_rule table chunks bits block page rule).chunks
  rows_by_rule bits (Some rule) = All-nil (IsRowOnPage table block page)
  rows_by_rule bits None = All-append (IsRowOnPage table block page) (items_found table chunks block page).chunks [] items_are_rows (All-nil (IsRowOnPage table block page))

  -- each chunk of a page is a row of it
  pub page_chunks_are_rows : (bits : MapBits) → All (IsRowOnPage table block page) (page_found table chunks bits block page).chunks
  unfolding page_found
  page_chunks_are_rows bits = rows_by_rule bits (page_rule_of Heap page)

  module _ (bits : MapBits) (pass : AllPass table block page) (is_toast : table.kind ≡ kind.Toast) where
    row_on_item : (i : ℕ) (c : Chunk) → IsRowOn table block page i c → Contains (chunks_left table.kind block i (live_attributes table page i)) c
    row_on_item i c is =
        let passes = each_passes table block page pass i is.live.item.first is.live.item.last in
        let read = read_is_live table page i is.list is.live is.read passes.0 passes.1 in
        let P : TableKind → Type 0 = λ what. Contains (chunks_left what block i (live_attributes table page i)) c in
        let Q : List Attribute → Type 0 = λ list. Contains (chunk_by block i (row_of list)) c in
        subst P (sym is_toast) (subst Q (sym read) (among_chunk c block i is.list is.row is.place))

    row_on_items : (i : ℕ) (c : Chunk) → IsRowOn table block page i c → Contains (items_found table chunks block page).chunks c
    unfolding items_found item_found
    row_on_items i c is =
        among_upto found_parts (λ x. x.chunks) refl (λ a b. refl) (item_found table chunks block page) (count_of page) i c is.live.item.first is.live.item.last
        (Contains-append_left (chunks_left table.kind block i (live_attributes table page i)) [] c (row_on_item i c is))

    on_page_by : (rule : Option Rule) (c : Chunk) → rule ≡ None → Contains (items_found table chunks block page).chunks c → Contains (found_by_rule table chunks bits block page rule).chunks c
    on_page_by (Some rule) c e has = cc
    on_page_by None c e has = Contains-append_left (items_found table chunks block page).chunks [] c has

    -- each row of a page of a TOAST table whose items all pass is among its chunks
    pub page_rows_are_chunks : (c : Chunk) → IsRowOnPage table block page c → Contains (page_found table chunks bits block page).chunks c
    unfolding page_found
    page_rows_are_chunks c is = on_page_by (page_rule_of Heap page) c pass.header (row_on_items is.0 c is.1)

-- No two chunks have the same place

abbrev Differ : Chunk → Chunk → Type 0
Differ c d = ¬ (c.tid ≡ d.tid)

-- a chunk stands at its item
abbrev IsAt : ℕ → ℕ → Chunk → Type 0
IsAt block i c = (c.tid.block ≡ block) × (c.tid.item ≡ i)

placed_by_row : (block i : ℕ) (row : Option ChunkRow) → All (IsAt block i) (chunk_by block i row)
placed_by_row block i None = All-nil (IsAt block i)
placed_by_row block i (Some row) =
    All-cons (IsAt block i) (record { id = row.id; seq = row.seq; tid = record { block = block; item = i }; size = row.size }) [] (refl, refl) (All-nil (IsAt block i))

placed_by_kind : (what : TableKind) (block i : ℕ) (list : List Attribute) → All (IsAt block i) (chunks_left what block i list)
placed_by_kind kind.Heap block i list = All-nil (IsAt block i)
placed_by_kind kind.Toast block i list = placed_by_row block i (row_of list)

apart_by_row : (block i : ℕ) (row : Option ChunkRow) → AllPairs Differ (chunk_by block i row)
apart_by_row block i None = pairs-none Differ
apart_by_row block i (Some row) = pairs-one Differ (record { id = row.id; seq = row.seq; tid = record { block = block; item = i }; size = row.size })

apart_by_kind : (what : TableKind) (block i : ℕ) (list : List Attribute) → AllPairs Differ (chunks_left what block i list)
apart_by_kind kind.Heap block i list = pairs-none Differ
apart_by_kind kind.Toast block i list = apart_by_row block i (row_of list)

module _ (table : Table) (chunks : List Chunk) (block : ℕ) (page : List ℕ) where
  item_is : (i : ℕ) → (item_found table chunks block page i).chunks ≡ chunks_left table.kind block i (live_attributes table page i)
  unfolding item_found
  item_is i = append-nil (chunks_left table.kind block i (live_attributes table page i))

  item_placed : (i : ℕ) → All (IsAt block i) (item_found table chunks block page i).chunks
  item_placed i = subst (All (IsAt block i)) (sym (item_is i)) (placed_by_kind table.kind block i (live_attributes table page i))

  items_apart : AllPairs Differ (items_found table chunks block page).chunks
  unfolding items_found
  items_apart =
      pairs-upto found_parts (λ f. f.chunks) refl (λ a b. refl) Differ (item_found table chunks block page) (count_of page)
      (λ i first last. subst (AllPairs Differ) (sym (item_is i)) (apart_by_kind table.kind block i (live_attributes table page i)))
      (λ i j c d lt first second same.
      let here = All-contains (IsAt block i) (item_found table chunks block page i).chunks c (item_placed i) first in
      let there = All-contains (IsAt block j) (item_found table chunks block page j).chunks d (item_placed j) second in
      let e : i ≡ j = sym here.1 ∙ ap (λ (t : Tid). t.item) same ∙ there.1 in
      absurd (omega (arith, lt, e)))

  items_placed : All (λ c. c.tid.block ≡ block) (items_found table chunks block page).chunks
  unfolding items_found
  items_placed =
      All-upto found_parts (λ f. f.chunks) refl (λ a b. refl) (λ c. c.tid.block ≡ block) (item_found table chunks block page) (count_of page)
      (λ i first last. All-weaker (IsAt block i) (λ c. c.tid.block ≡ block) (λ c at. at.0) (item_found table chunks block page i).chunks (item_placed i))

  chunks_by : (bits : MapBits) (rule : Option Rule) → AllPairs Differ (found_by_rule table chunks bits block page rule).chunks
  chunks_by bits (Some rule) = pairs-none Differ
  chunks_by bits None = subst (AllPairs Differ) (sym (append-nil (items_found table chunks block page).chunks)) items_apart

  -- no two chunks of a page have the same place
  pub page_chunks_apart : (bits : MapBits) → AllPairs (λ (c d : Chunk). ¬ (c.tid ≡ d.tid)) (page_found table chunks bits block page).chunks
  unfolding page_found
  page_chunks_apart bits = chunks_by bits (page_rule_of Heap page)

  placed_by : (bits : MapBits) (rule : Option Rule) → All (λ c. c.tid.block ≡ block) (found_by_rule table chunks bits block page rule).chunks
  placed_by bits (Some rule) = All-nil (λ c. c.tid.block ≡ block)
  placed_by bits None = subst (All (λ c. c.tid.block ≡ block)) (sym (append-nil (items_found table chunks block page).chunks)) items_placed

  -- and they stand in its block
  pub page_chunks_placed : (bits : MapBits) → All (λ (c : Chunk). c.tid.block ≡ block) (page_found table chunks bits block page).chunks
  unfolding page_found
  page_chunks_placed bits = placed_by bits (page_rule_of Heap page)
