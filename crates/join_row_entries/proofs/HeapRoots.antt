-- The roots of the live rows of a heap in which nothing was found may be taken, one after another.
use Rattle.std.proofs.Common.{◌≡◌, ◌<◌, ◌≤◌, ℕ, true, get_or, length, sym, ap, arith}
use Rattle.std.specs.Prelude.{Contains, not, nat_lt}
use Rattle.std.proofs.lemmas.Bool.{and_from, lt-ltb, not_from_false}
use Rattle.std.proofs.lemmas.List.Elements.{Contains-get_or}
use Rattle.outside.specs.Outside.{Names}
use Rattle.page_layout.specs.Page.{count_of}
use Rattle.key_orders.specs.declared.Tid.{Tid}
use Rattle.case_file.specs.Record.{CaseRecord}
use Rattle.heap_page_check.proofs.StateLaws.{states_are_there}
use Rattle.heap_table_check.specs.Case.{heap_blocks, table_of}
use Rattle.heap_table_check.specs.Found.{IsQuiet}
use Rattle.heap_rows.specs.declared.rows.LiveRow.{LiveRow}
use Rattle.heap_rows.specs.RowLaws.{AreLiveTuples, IsBefore, in_lower_block, in_same_block, states_at}
use Rattle.heap_rows.specs.Rows.{heap_page, rows_of}
use Rattle.heap_rows.proofs.QuietHeap.{page_passes}
use Rattle.join_row_keys.proofs.HeapRoots.{each-of, of-row, root-inside, roots-apart}
use Rattle.join_row_keys.proofs.Pages.{few-items}
use Rattle.join_row_entries.specs.Gathering.{AreFree}
use Rattle.join_row_entries.specs.Roots.{IsNoneTaken, Taken, is_item, is_taken}

-- Rows rise

not-lower : (t u : Tid) → IsBefore t u → t.block ≤ u.block
not-lower t u (in_lower_block lt) = omega (arith, lt)
not-lower t u (in_same_block is lt) = omega (arith, is)

not-itself : (t u : Tid) → IsBefore t u → t ≡ u → ⊥
not-itself t u (in_lower_block lt) same = let block = ap (λ (x : Tid). x.block) same in omega (arith, lt, block)
not-itself t u (in_same_block is lt) same = let item = ap (λ (x : Tid). x.item) same in omega (arith, lt, item)

module _ (case : CaseRecord) (names : Names) (quiet : IsQuiet case names) (whole : AreLiveTuples case names (rows_of case names)) where
  states-few : (block : ℕ) → block < heap_blocks case names → length (states_at case names block) ≤ 2042
  states-few block below =
      let page = heap_page case names block in
      let count : length (states_at case names block) ≡ count_of page = (states_are_there (table_of case names) page (each-of case names quiet whole block below)).count in
      let few = few-items page (page_passes case names quiet block below).header in
      omega (arith, count, few)

  root-item : (row : LiveRow) → Contains (rows_of case names) row → is_item row.root ≡ true
  root-item row among =
      let own = of-row case names quiet whole row among in
      let within = root-inside (states_at case names row.tid.block) row.root.item own.root.reaches.0 in
      let few = states-few row.tid.block own.live.block in
      let some = within.0 in
      let last = within.1 in
      and_from (nat_lt 0 row.root.item) (nat_lt row.root.item 2048) (lt-ltb 0 row.root.item (omega (arith, some))) (lt-ltb row.root.item 2048 (omega (arith, last, few)))

  -- where no root is taken, all of them may be, one after another
  pub all-free : (taken : Taken) → IsNoneTaken taken → AreFree taken (rows_of case names)
  all-free taken none = record {
    each = λ i d lt.
        let row : LiveRow = get_or (rows_of case names) i d in
        and_from (is_item row.root) (not (is_taken taken row.root)) (root-item row (Contains-get_or (rows_of case names) i d lt)) (not_from_false (is_taken taken row.root) (none row.root));
    after = λ i j d lt within.
        let row : LiveRow = get_or (rows_of case names) i d in
        let later : LiveRow = get_or (rows_of case names) j d in
        let first = Contains-get_or (rows_of case names) i d (omega (arith, lt, within)) in
        let second = Contains-get_or (rows_of case names) j d within in
        let before : IsBefore row.tid later.tid = whole.rise i j d lt within in
        let le = not-lower row.tid later.tid before in
        let block = (of-row case names quiet whole row first).root.block in
        let behind = (of-row case names quiet whole later second).root.block in
        record {
          block = omega (arith, le, block, behind);
          other = λ same. not-itself row.tid later.tid before (roots-apart case names quiet whole row later first second (sym same));
        };
  }
