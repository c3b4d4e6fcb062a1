use Rattle.std.proofs.Common.{◌∙◌, ◌-◌, ap, sym, arith, ◌≡◌, ◌+◌, ◌*◌, length}
use Rattle.std.proofs.lemmas.Result.{on_ok_weaker}
use Rattle.reports.specs.Added.{joined, report_lists}
use Rattle.heap_rows.specs.RowCursor.{next_in, heap_at}
use Rattle.join_look_ups.specs.Rows.{rows_from}
use Rattle.heap_indexed.proofs.KeptLaws.{rows-met}
use Rattle.heap_rows.specs.Reads.{columns_at, page_reads}
use Rattle.heap_rows.proofs.ReadLaws.{page-same}
use Rattle.join_look_ups.specs.Looking.{look_length}
use Rattle.heap_indexed.proofs.meeting.Meeting.judge_rows.Goals as goal

pub returns-then-is_all_met-clause-behind : goal.returns-then-is_all_met-clause-behind
returns-then-is_all_met-clause-behind g c = λ names told. (c.requires.told names told).behind

pub returns-then-is_all_met-clause-rows : goal.returns-then-is_all_met-clause-rows
returns-then-is_all_met-clause-rows g c = λ names told kept.
    let tree = c.args.index.at.tree.now in
    let rows = rows_from c.args.index.at.case.now names c.args.first (next_in c.args.cursor.now - c.args.first) in
    let all = c.is_all_met.ensures c.if-is_all_met.true in
    let none = rows-met names tree c.args.self.now.slots (λ tid key more count there met. sym ((c.requires.told names told).kept tid key more count there) ∙ met) all.1 rows (kept all.0) in
    sym (ap (joined c.args.self.now.rows) none ∙ report_lists.with_none c.args.self.now.rows)

pub judge_blocks-requires-clause-told : goal.judge_blocks-requires-clause-told
judge_blocks-requires-clause-told g c = λ names told.
    let before = c.requires.told names told in
    record {
      ready = record { tree = before.tree; kept = before.kept; pages = before.pages };
      behind = record { cursor_of = c.go_to.ensures.told names before.behind.cursor_of; none = c.go_to.ensures.here names };
    }

pub returns-clause-behind : goal.returns-clause-behind
returns-clause-behind g c = λ names told. on_ok_weaker c.judge_blocks.result (λ between. between.behind) (c.judge_blocks.ensures.told names told)

pub returns-clause-taken : goal.returns-clause-taken
returns-clause-taken g c = omega (arith, c.judge_blocks.ensures.taken, c.go_to.ensures.taken, c.go_to.ensures.next, c.next_block-end.ensures)

-- How often files are read

pub returns-then-is_all_met-clause-reads : goal.returns-then-is_all_met-clause-reads
returns-then-is_all_met-clause-reads g c = λ names told. omega arith

pub returns-clause-reads : goal.returns-clause-reads
returns-clause-reads g c = λ names told.
    let cursor = c.args.cursor.now in
    let page = page-same cursor c.go_to.new.self c.go_to.ensures.same in
    let looks = look_length names c.args.index.at.tree.now in
    let so : page_reads (heap_at c.go_to.new.self) (columns_at c.go_to.new.self) * (c.next_block-end.result - next_in c.go_to.new.self)
    + length (rows_from c.args.index.at.case.now names (next_in c.go_to.new.self) (c.next_block-end.result - next_in c.go_to.new.self)) * looks
    ≡ page_reads (heap_at cursor) (columns_at cursor) * (next_in cursor - c.args.first) + length (rows_from c.args.index.at.case.now names c.args.first (next_in cursor - c.args.first)) * looks =
    (λ i. page i * (c.next_block-end.ensures i - c.go_to.ensures.next i) + length (rows_from c.args.index.at.case.now names (c.go_to.ensures.next i) (c.next_block-end.ensures i - c.go_to.ensures.next i)) * looks) in
    omega (arith, so, c.judge_blocks.ensures.reads names told)
