use Rattle.std.proofs.Common.{◌∙◌, ℕ, List, length, ap, subst, sym}
use Rattle.key_orders.specs.declared.columns.Value.{Value}
use Rattle.bt_levels.specs.Sound.{index_columns}
use Rattle.key_attrs.specs.Columns.{TreeColumns}
use Rattle.heap_rows.specs.declared.rows.LiveRow.{LiveRow}
use Rattle.heap_rows.specs.RowCursor.{asked_at, rows_here}
use Rattle.heap_rows.specs.PageRows.{ArePageRows, block_in}
use Rattle.join_row_keys.specs.Rows.{columns_in}
use Rattle.heap_indexed.proofs.KeptLaws.{kept-either, rooted-either}
use Rattle.heap_indexed.proofs.meeting.Meeting.keep_page.Goals as goal

pub returns-in_ok-self : goal.returns-in_ok-self
returns-in_ok-self c = λ names done strays range are work.
    let columns : TreeColumns = index_columns c.args.index.at.tree.now in
    let cursor = c.args.cursor.now in
    let asked = asked_at cursor in
    let first : ℕ = c.args.index.first in
    let rows : List LiveRow = rows_here names cursor in
    let all : List (List Value) = c.page_rows.new.rows in
    let told : ArePageRows (block_in cursor) asked first c.value_count.result 1 all rows = c.in_ok-told.ensures c.if-told.true names are in
    let each : ArePageRows c.block.result asked first (length (columns_in columns)) 1 all rows =
    subst (λ (b : ℕ). ArePageRows b asked first (length (columns_in columns)) 1 all rows) (sym c.block.ensures)
    (subst (λ (n : ℕ). ArePageRows (block_in cursor) asked first n 1 all rows) c.value_count.ensures told) in
    record {
      pages = work.pages;
      done_is = work.done_is;
      strays_are = work.strays_are;
      apart = work.apart;
      unmet = λ tid. ap (λ m. m tid) c.keep_rows.ensures.met ∙ work.unmet tid;
      kept = λ whole.
          kept-either columns asked first c.requires.index.asked c.args.self.now.slots c.keep_rows.new.self c.block.result all range rows c.in_ok-self.field-0
          c.in_ok-self.ensures.kept c.in_ok-self.ensures.fresh c.in_ok-self.ensures.same each (work.kept whole);
      rooted = rooted-either c.args.self.now.slots c.keep_rows.new.self c.block.result asked first (length (columns_in columns)) all range rows c.in_ok-self.field-0
          c.in_ok-self.ensures.kept c.in_ok-self.ensures.same each work.rooted;
    }
