use Rattle.std.proofs.Common.{◌≡◌, ◌∙◌, ◌+◌, ◌*◌, ◌<◌, ◌≤◌, ℕ, List, length, ap, sym, subst, arith}
use Rattle.std.proofs.lemmas.Result.{on_ok_weaker}
use Rattle.outside.proofs.Adding.{Adds-exit, Begins-none}
use Rattle.reports.specs.Added.{report_lists}
use Rattle.rel_files.specs.Relation.{count_of}
use Rattle.case_file.specs.Record.{CaseRecord}
use Rattle.heap_table_check.specs.declared.files.SoundHeap.{SoundHeap}
use Rattle.heap_table_check.specs.Files.{heap_in}
use Rattle.heap_rows.specs.declared.row_cursor.RowCursor.{RowCursor}
use Rattle.heap_rows.specs.RowCursor.{case_at, heap_at, next_in, rows_here}
use Rattle.heap_rows.specs.Reads.{block_reads, columns_at, most_block_reads, next_reads, page_reads, value_reads}
use Rattle.heap_rows.proofs.ReadLaws.{block-most, read-most, value-same}
use Rattle.heap_rows.specs.Rows.{block_rows}
use Rattle.heap_rows.specs.declared.rows.LiveRow.{LiveRow}
use Rattle.join_look_ups.specs.Looking.{look_length}
use Rattle.join_look_ups.specs.Rows.{owed_for}
use Rattle.join_row_keys.specs.declared.keys.KeyedHeap.{KeyedHeap}
use Rattle.join_row_keys.specs.Rows.{IsIndexAt}
use Rattle.join_row_keys.proofs.Pages.{block-few}
use Rattle.join_row_keys.proofs.Places.{same-index}
use Rattle.join_look_ups.proofs.Taken.{once-more}
use Rattle.join_look_ups.proofs.row_judge.RowJudge.judge_next_block.Goals as goal

pub take_block-requires-clause-told : goal.take_block-requires-clause-told
take_block-requires-clause-told g c = λ names told. (c.requires.told names told).behind.cursor_of

pub take_block-requires-clause-done : goal.take_block-requires-clause-done
take_block-requires-clause-done g c = λ names told. (c.requires.told names told).behind.none

pub returns-in_err-take_block-clause-lists : goal.returns-in_err-take_block-clause-lists
returns-in_err-take_block-clause-lists g c = λ names told.
    let owed = owed_for names c.args.self.index.at.tree.now (block_rows c.args.self.index.at.case.now names (next_in c.args.cursor.now)) in
    Adds-exit report_lists c.from_residual.result _ c.args.report.now c.args.report.now owed c.from_residual.ensures.1 (Begins-none report_lists c.args.report.now owed)

pub judge_block-requires-clause-index : goal.judge_block-requires-clause-index
judge_block-requires-clause-index g c = same-index c.args.self.index c.args.cursor.now c.take_block.new.self c.take_block.ensures.same c.requires.index

pub judge_block-requires-clause-told : goal.judge_block-requires-clause-told
judge_block-requires-clause-told g c = λ names told.
    let before = sym c.take_block.ensures.asked.same ∙ told in
    record { ready = (c.requires.told names before).ready; cursor_of = c.take_block.ensures.told names before }

pub returns-in_err-take_block-clause-ready : goal.returns-in_err-take_block-clause-ready
returns-in_err-take_block-clause-ready g c = λ names told. (c.requires.told names told).ready

pub judge_block-requires-clause-few : goal.judge_block-requires-clause-few
judge_block-requires-clause-few g c = λ names told.
    let before = sym c.take_block.ensures.asked.same ∙ told in
    subst (λ (rs : List LiveRow). length rs ≤ 2042) (sym (c.in_ok-take_block.ensures.here names before))
    (block-few (case_at c.args.cursor.now) names (next_in c.args.cursor.now))

pub returns-clause-ready : goal.returns-clause-ready
returns-clause-ready g c = λ names told. (c.judge_block.ensures.told names (c.take_block.ensures.asked.same ∙ told)).ready

pub returns-clause-told : goal.returns-clause-told
returns-clause-told g c = λ names told.
    let same = c.take_block.ensures.asked.same ∙ told in
    let within = c.judge_block.ensures.told names same in
    on_ok_weaker c.judge_block.result (λ none. record { ready = within.ready; behind = record { cursor_of = within.cursor_of; none = none } }) (c.judge_block.ensures.end names same)

pub returns-in_err-take_block-clause-taken : goal.returns-in_err-take_block-clause-taken
returns-in_err-take_block-clause-taken g c = once-more _ _ c.take_block.ensures.taken

pub returns-clause-taken : goal.returns-clause-taken
returns-clause-taken g c = omega (arith, c.judge_block.ensures.taken, once-more _ _ c.take_block.ensures.taken)

-- a block and its rows
whole : (a b d block most V W n L page : ℕ) → block ≤ most → W ≡ V → most + V * 2042 ≤ page → b ≤ a + block → d ≤ b + (W * 2042 + n * L) → d ≤ a + (page + n * L)
whole a b d block most V W n L page few same all first rest = omega (arith, few, same, all, first, rest)

-- what is read for a block is within what is read for it and its rows
page-all : (heap : SoundHeap) (columns : ℕ) → most_block_reads heap + next_reads heap columns * 2042 ≤ page_reads heap columns
unfolding page_reads
page-all heap columns = omega arith

-- the block is one of the heap
block-within : (index : KeyedHeap) (cursor : RowCursor) → IsIndexAt index cursor → next_in cursor < count_of (heap_in index.at.heap.now) → block_reads (heap_at cursor) (next_in cursor) ≤ most_block_reads (heap_at cursor)
block-within index cursor at inside = block-most (heap_at cursor) (next_in cursor) (subst (λ (h : SoundHeap). next_in cursor < count_of (heap_in h)) (sym at.heap) inside)

pub returns-in_err-take_block-clause-reads : goal.returns-in_err-take_block-clause-reads
returns-in_err-take_block-clause-reads g c = λ names told.
    let old = c.args.cursor.now in
    let few = block-within c.args.self.index old c.requires.index c.requires.inside in
    let page = page-all (heap_at old) (columns_at old) in
    read-most (omega (arith, few, page)) c.in_err-take_block.ensures.asked

pub returns-clause-reads : goal.returns-clause-reads
returns-clause-reads g c = λ names told.
    let index = c.args.self.index in
    let old = c.args.cursor.now in
    let new = c.take_block.new.self in
    let L = look_length names index.at.tree.now in
    let rows : rows_here names new ≡ block_rows index.at.case.now names (next_in old) = c.in_ok-take_block.ensures.here names told ∙ ap (λ (k : CaseRecord). block_rows k names (next_in old)) c.requires.index.case in
    let few = block-within index old c.requires.index c.requires.inside in
    let first : (g.F.Files.seen c.take_block.new.files).reads ≤ (g.F.Files.seen c.args.files.now).reads + block_reads (heap_at old) (next_in old) = c.in_ok-take_block.ensures.asked.most in
    subst (λ (rs : List LiveRow). (g.F.Files.seen c.judge_block.new.files).reads ≤ (g.F.Files.seen c.args.files.now).reads + (page_reads (heap_at old) (columns_at old) + length rs * L)) rows
    (whole (g.F.Files.seen c.args.files.now).reads (g.F.Files.seen c.take_block.new.files).reads (g.F.Files.seen c.judge_block.new.files).reads (block_reads (heap_at old) (next_in old)) (most_block_reads (heap_at old)) (value_reads old) (value_reads new) (length (rows_here names new)) L (page_reads (heap_at old) (columns_at old))
    few (value-same old new c.take_block.ensures.same) (page-all (heap_at old) (columns_at old)) first (c.judge_block.ensures.reads names (c.take_block.ensures.asked.same ∙ told)))
