use Rattle.std.proofs.Common.{◌≡◌, ◌≤◌, ◌∷◌, [], ◌++◌, ◌+◌, List, ℕ, Option, append-nil, length, length-append, map, sym, ap, subst, ◌∙◌, arith}
use Rattle.key_orders.specs.declared.columns.ColType.{ColType}
use Rattle.key_orders.specs.declared.columns.Value.{Value}
use Rattle.key_orders.specs.Values.{value_shown}
use Rattle.case_file.specs.declared.case.Column.{Column}
use Rattle.heap_table_check.specs.Files.{chunks_in, toast_in}
use Rattle.heap_rows.specs.declared.rows.LiveRow.{LiveRow}
use Rattle.heap_rows.specs.RowCursor.{asked_at, case_at, heap_at}
use Rattle.heap_rows.specs.PageRows.{ArePageRows}
use Rattle.heap_rows.specs.RowValues.{AreStarts}
use Rattle.heap_rows.specs.Rows.{item_rows, row_at}
use Rattle.outside.specs.Adds.{one_list}
use Rattle.reports.specs.Added.{each_upto}
use Rattle.heap_rows.proofs.PageRows.{all_here, item_rows_are, no_rows_are, one_here, row_here}
use Rattle.heap_rows.proofs.RowSources.{columns_readable}
use Rattle.heap_rows.proofs.row_cursor.RowCursor.page_rows.Goals as goal

pub loop-i-init : goal.loop-i-init
loop-i-init c = record {
  count = ap length c.clear.ensures;
  are = λ names are.
      let cursor = c.args.self.now in
      let page = cursor.page in
      no_rows_are page.block (asked_at cursor) c.args.first c.args.count (item_rows (case_at cursor) names page.block page.bytes) c.clear.new.self c.clear.ensures;
}

pub read_row-requires-clause-aligned : goal.read_row-requires-clause-aligned
read_row-requires-clause-aligned c = (columns_readable c.args.self.now.case.now c.column_types.result.now c.sound.ensures c.column_types.ensures).aligned

pub loop-i-preserved : goal.loop-i-preserved
loop-i-preserved c =
    let cursor = c.args.self.now in
    let page = cursor.page in
    let case = case_at cursor in
    let asked = asked_at cursor in
    let types = c.column_types.result.now in
    let i = c.loop-i.i in
    let rows = c.loop-i.rows in
    let values = c.read_row.new.values in
    let told = c.if-not-read_row.ensures in
    let shown : map value_shown c.as_slice.result.now ++ [] ≡ values = append-nil (map value_shown c.as_slice.result.now) ∙ c.as_slice.ensures.values in
    let pushed : c.push.new.self ≡ rows ++ values ∷ [] = c.in_ok-push.ensures.ok ∙ ap (λ (vs : List Value). rows ++ vs ∷ []) shown in
    record {
      count = ap length pushed ∙ length-append rows (values ∷ []) ∙ ap (λ (m : ℕ). m + 1) c.loop-i.invariant.count;
      are = λ names are.
          let first : 1 ≤ i + 1 = omega arith in
          let last : i + 1 ≤ page.count = omega (arith, c.loop-i-test.true, c.min-i-end.ensures) in
          let known = are.hand (i + 1) first last in
          let toast = toast_in (heap_at cursor) in
          let chunks = chunks_in (heap_at cursor) in
          let starts : AreStarts types asked c.deref.result.now =
          subst (λ (ts : List ColType). AreStarts ts asked c.deref.result.now) (sym c.column_types.ensures)
          (subst (λ (ss : List (Option ℕ)). AreStarts (map (λ (t : Column). t.ctype) case.columns) asked ss) (sym c.deref.ensures.value) are.starts) in
          let many : length values ≡ c.args.count = omega (arith, told.count, c.in-Some.ensures) in
          item_rows_are page.block asked c.args.first c.args.count i (item_rows case names page.block page.bytes) rows c.push.new.self values (row_at case names page.block page.bytes (i + 1)) pushed c.loop-i.invariant.count (c.loop-i.invariant.are names are)
          (one_here case names toast chunks page (i + 1) known first last c.if-not-page.false told.normal)
          (row_here case names toast chunks page (i + 1) known first last c.if-not-page.false told.normal types asked c.args.first c.args.count values (sym c.has_chains.ensures ∙ c.if-has_chains.false)
          (columns_readable case types c.sound.ensures c.column_types.ensures).aligned c.column_types.ensures many (λ list has. told.values list has starts));
    }

pub returns : goal.returns
returns c = λ is names are.
    let cursor = c.args.self.now in
    let page = cursor.page in
    let f = item_rows (case_at cursor) names page.block page.bytes in
    let rows = c.loop-i.rows in
    let few = are.few in
    let all : c.loop-i.i ≡ page.count = omega (arith, c.loop-i-test.false, c.loop-i.auto.i-end, c.min-i-end.ensures, few) in
    subst (λ (xs : List LiveRow). ArePageRows page.block (asked_at cursor) c.args.first c.args.count 1 rows xs) (sym (all_here (case_at cursor) names page c.if-page-ne0.false))
    (subst (λ (m : ℕ). ArePageRows page.block (asked_at cursor) c.args.first c.args.count 1 rows (each_upto one_list f m)) all (c.loop-i.invariant.are names are))
