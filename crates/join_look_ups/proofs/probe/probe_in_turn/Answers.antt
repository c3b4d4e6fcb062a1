use Rattle.std.proofs.Common.{◌∙◌, ◌+◌, ◌++◌, ◌-◌, ◌*◌, ◌<◌, ◌≤◌, ◌≡◌, ℕ, List, length, ap, sym, subst, arith}
use Rattle.std.specs.Prelude.{All, None, OnOk, Some}
use Rattle.outside.specs.Adds.{AddsIn}
use Rattle.outside.proofs.Adding.{Adds-exit, Begins-none}
use Rattle.reports.specs.Added.{report_lists}
use Rattle.reports.specs.Lists.{Lists}
use Rattle.bt_levels.specs.Files.{number_of}
use Rattle.bt_levels.specs.Sound.{file_of, index_columns}
use Rattle.join_look_ups.specs.Looking.{look_length, probe_reads}
use Rattle.rel_files.specs.Relation.{count_of}
use Rattle.heap_table_check.specs.Case.{heap_blocks}
use Rattle.heap_table_check.specs.Files.{heap_in}
use Rattle.heap_rows.specs.declared.row_values.AskedColumns.{AskedColumns}
use Rattle.heap_rows.specs.declared.row_values.AskedColumns.TheVariants.{All as AllColumns, Only}
use Rattle.heap_rows.specs.RowCursor.{AreAsked, case_at, heap_at, next_in}
use Rattle.heap_rows.specs.RowValues.{count_asked}
use Rattle.heap_rows.specs.Reads.{columns_at, page_reads}
use Rattle.heap_rows.specs.Rows.{rows_of}
use Rattle.heap_rows.specs.declared.rows.LiveRow.{LiveRow}
use Rattle.join_rules.specs.Lists.{rows_lists}
use Rattle.join_row_keys.specs.Rows.{AreAskedFrom, columns_in}
use Rattle.join_look_ups.specs.Rows.{rows_from}
use Rattle.join_look_ups.proofs.Cases.{rows-are}
use Rattle.join_row_keys.proofs.KeyLaws.{asked-all, columns-there}
use Rattle.join_look_ups.proofs.Owed.{rows-all}
use Rattle.join_row_keys.proofs.Pages.{count-is}
use Rattle.join_look_ups.proofs.probe.probe_in_turn.Goals as goal

pub returns-in_err-columns-clause-lists : goal.returns-in_err-columns-clause-lists
returns-in_err-columns-clause-lists g c = λ names told.
    let owed = rows_lists c.args.at.case.now names (number_of (file_of c.args.at.tree.now)) in
    Adds-exit report_lists c.from_residual.result _ c.args.report.now c.args.report.now owed c.from_residual.ensures.1 (Begins-none report_lists c.args.report.now owed)

pub new-requires-clause-asked : goal.new-requires-clause-asked
new-requires-clause-asked g c =
    let case = c.args.at.case.now in
    let tree = c.args.at.tree.now in
    let all : All (λ k. k < length case.columns) c.deref.result.now =
    subst (λ (ks : List ℕ). All (λ k. k < length case.columns) ks) (sym (c.deref.ensures.value ∙ c.in_ok-columns.ensures ∙ ap columns_in c.columns.ensures.lists))
    (columns-there case (number_of (file_of tree)) tree c.sound.ensures c.requires.belong.index) in
    all

pub returns-in_err-cursor-clause-lists : goal.returns-in_err-cursor-clause-lists
returns-in_err-cursor-clause-lists g c = λ names told.
    let owed = rows_lists c.args.at.case.now names (number_of (file_of c.args.at.tree.now)) in
    Adds-exit report_lists c.from_residual-in_err-cursor.result _ c.args.report.now c.args.report.now owed c.from_residual-in_err-cursor.ensures.1 (Begins-none report_lists c.args.report.now owed)

pub returns-in_err-slots-clause-lists : goal.returns-in_err-slots-clause-lists
returns-in_err-slots-clause-lists g c = λ names told.
    let owed = rows_lists c.args.at.case.now names (number_of (file_of c.args.at.tree.now)) in
    Adds-exit report_lists c.from_residual-in_err-slots.result _ c.args.report.now c.args.report.now owed c.from_residual-in_err-slots.ensures.1 (Begins-none report_lists c.args.report.now owed)

pub judge_blocks-requires-clause-index : goal.judge_blocks-requires-clause-index
judge_blocks-requires-clause-index g c =
    let tree = c.args.at.tree.now in
    let columns : c.deref.result.now ≡ columns_in (index_columns tree) = c.deref.ensures.value ∙ c.in_ok-columns.ensures ∙ ap columns_in c.columns.ensures.lists in
    record {
      belong = c.requires.belong;
      case = c.in_ok-cursor.ensures.case;
      heap = c.in_ok-cursor.ensures.heap;
      asked = subst (λ (ks : List ℕ). AreAskedFrom 0 ks c.in_ok-cursor.cursor.asked) columns (asked-all c.deref.result.now c.in_ok-cursor.cursor.asked c.in_ok-cursor.ensures.asked);
    }

pub judge_blocks-requires-clause-told : goal.judge_blocks-requires-clause-told
judge_blocks-requires-clause-told g c = λ names told.
    let hold = c.requires.hold names told in
    record {
      ready = record {
        tree = hold.tree;
        kept = λ tid key more count kept. absurd (let clash : None ≡ Some (key ++ more) = sym (c.in_ok-slots.ensures.keys tid) ∙ kept in cc);
        pages = c.requires.of names told;
      };
      behind = record { cursor_of = c.in_ok-cursor.ensures.told names hold.heap hold.quiet; none = c.in_ok-cursor.ensures.none names };
    }

-- all rows of the case
pub returns-clause-lists : goal.returns-clause-lists
returns-clause-lists g c = λ names told.
    let case = c.args.at.case.now in
    let tree = c.args.at.tree.now in
    let hold = c.requires.hold names told in
    let blocks = count-is case names c.args.at.heap.now c.requires.belong.heap hold.heap in
    let all : c.blocks-2.result ≡ heap_blocks case names = c.blocks-2.ensures ∙ ap count_of c.heap.ensures ∙ blocks in
    let count : c.blocks-2.result - 0 ≡ heap_blocks case names = omega (arith, all) in
    let rows : rows_from case names (next_in c.in_ok-cursor.cursor) (c.blocks-2.result - next_in c.in_ok-cursor.cursor) ≡ rows_of case names =
    (λ i. rows_from case names (c.in_ok-cursor.ensures.begun i) (c.blocks-2.result - c.in_ok-cursor.ensures.begun i)) ∙ ap (rows_from case names 0) count ∙ rows-all case names in
    subst (λ (l : Lists). AddsIn report_lists c.judge_blocks.result c.args.report.now c.judge_blocks.new.report l)
    (rows-are case names tree c.requires.belong.index hold.file _ rows)
    (c.judge_blocks.ensures.lists names told)

pub returns-clause-visits : goal.returns-clause-visits
returns-clause-visits g c = λ names told.
    let case = c.args.at.case.now in
    let hold = c.requires.hold names told in
    let blocks = count-is case names c.args.at.heap.now c.requires.belong.heap hold.heap in
    let all : c.blocks-2.result ≡ heap_blocks case names = c.blocks-2.ensures ∙ ap count_of c.heap.ensures ∙ blocks in
    let count : c.blocks-2.result - 0 ≡ heap_blocks case names = omega (arith, all) in
    let rows : rows_from case names (next_in c.in_ok-cursor.cursor) (c.blocks-2.result - next_in c.in_ok-cursor.cursor) ≡ rows_of case names =
    (λ i. rows_from case names (c.in_ok-cursor.ensures.begun i) (c.blocks-2.result - c.in_ok-cursor.ensures.begun i)) ∙ ap (rows_from case names 0) count ∙ rows-all case names in
    subst (λ (rs : List LiveRow). OnOk c.judge_blocks.result (c.judge_blocks.new.look_ups.visits.count ≤ c.args.look_ups.now.visits.count + length rs * look_length names c.args.at.tree.now)) rows (c.judge_blocks.ensures.visits names told)

pub returns-clause-of : goal.returns-clause-of
returns-clause-of g c = λ names told. (c.judge_blocks.ensures.ready names told).pages

-- so many columns are asked for
asked-count : (columns : List ℕ) (asked : AskedColumns) (n : ℕ) → AreAsked columns asked → count_asked n asked ≡ length columns
asked-count columns AllColumns n are = absurd are
asked-count columns (Only numbers) n are = ap length are

pub returns-clause-reads : goal.returns-clause-reads
unfolding probe_reads
returns-clause-reads g c = λ names told.
    let case = c.args.at.case.now in
    let heap = c.args.at.heap.now in
    let tree = c.args.at.tree.now in
    let cursor = c.in_ok-cursor.cursor in
    let L = look_length names tree in
    let hold = c.requires.hold names told in
    let blocks = count-is case names heap c.requires.belong.heap hold.heap in
    let own : c.blocks-2.result ≡ count_of (heap_in heap) = c.blocks-2.ensures ∙ ap count_of c.heap.ensures in
    let count : c.blocks-2.result - 0 ≡ heap_blocks case names = omega (arith, own, blocks) in
    let rows : rows_from case names (next_in cursor) (c.blocks-2.result - next_in cursor) ≡ rows_of case names =
    (λ i. rows_from case names (c.in_ok-cursor.ensures.begun i) (c.blocks-2.result - c.in_ok-cursor.ensures.begun i)) ∙ ap (rows_from case names 0) count ∙ rows-all case names in
    let columns : c.deref.result.now ≡ columns_in (index_columns tree) = c.deref.ensures.value ∙ c.in_ok-columns.ensures ∙ ap columns_in c.columns.ensures.lists in
    let many : columns_at cursor ≡ length (columns_in (index_columns tree)) =
    asked-count c.deref.result.now cursor.asked (length (case_at cursor).columns) c.in_ok-cursor.ensures.asked ∙ ap length columns in
    let turns : c.blocks-2.result - next_in cursor ≡ count_of (heap_in heap) = omega (arith, own, c.in_ok-cursor.ensures.begun) in
    let all : page_reads (heap_at cursor) (columns_at cursor) * (c.blocks-2.result - next_in cursor) ≡ page_reads heap (length (columns_in (index_columns tree))) * count_of (heap_in heap) =
    (λ i. page_reads (c.in_ok-cursor.ensures.heap i) (many i) * turns i) in
    let spent = subst (λ (rs : List LiveRow). (g.F.Files.seen c.judge_blocks.new.files).reads ≤ (g.F.Files.seen c.args.files.now).reads + (page_reads (heap_at cursor) (columns_at cursor) * (c.blocks-2.result - next_in cursor) + length rs * L)) rows (c.judge_blocks.ensures.reads names told) in
    subst (λ (m : ℕ). (g.F.Files.seen c.judge_blocks.new.files).reads ≤ (g.F.Files.seen c.args.files.now).reads + (m + length (rows_of case names) * L)) all spent
