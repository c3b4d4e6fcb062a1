use Rattle.std.proofs.Common.{◌≡◌, ◌∙◌, ◌<◌, ℕ, List, length, ap, sym, subst, arith}
use Rattle.std.specs.Prelude.{All}
use Rattle.rel_files.specs.Relation.{count_of}
use Rattle.case_file.specs.Record.{CaseRecord}
use Rattle.case_file.specs.declared.case.Column.{Column}
use Rattle.heap_rows.specs.RowCursor.{AreAsked, asked_at, rows_ahead}
use Rattle.heap_rows.specs.Rows.{rows_of}
use Rattle.copy_out.specs.Live.{cells_in, copied_text, numbers_from, unread_values}
use Rattle.copy_out.specs.Lines.{text_of}
use Rattle.copy_out.proofs.Asking.{numbers_inside}
use Rattle.copy_out.proofs.Copying.{begun_all, left_none}
use Rattle.copy_out.proofs.RowCounts.{blocks_are, rows_few}
use Rattle.copy_out.proofs.live.copy_rows.Goals as goal

pub numbers_below-requires : goal.numbers_below-requires
numbers_below-requires g c = omega (arith, c.sound.ensures.column_count.1)

pub new-requires-clause-asked : goal.new-requires-clause-asked
new-requires-clause-asked g c =
    let columns = c.args.case.now.columns in
    let numbers = c.deref.ensures.value ∙ c.in_ok-numbers.ensures ∙ ap (λ (cs : List Column). numbers_from 0 (length cs)) c.columns-columns.ensures in
    subst (λ (ks : List ℕ). All (λ k. k < length columns) ks) (sym numbers) (numbers_inside (length columns))

pub add_rows-requires-clause-over : goal.add_rows-requires-clause-over
add_rows-requires-clause-over g c =
    let cursor = c.in_ok-cursor.cursor in
    record {
      table = ap (λ (k : CaseRecord). k.columns) c.in_ok-cursor.ensures.case ∙ sym c.columns-columns.ensures;
      asked = subst (λ (ks : List ℕ). AreAsked ks (asked_at cursor)) (c.deref.ensures.value ∙ c.in_ok-numbers.ensures) c.in_ok-cursor.ensures.asked;
    }

pub add_rows-requires-clause-told : goal.add_rows-requires-clause-told
add_rows-requires-clause-told g c = λ names told. c.in_ok-cursor.ensures.told names (c.requires.sound names told) (c.requires.quiet names told)

pub add_rows-requires-clause-most : goal.add_rows-requires-clause-most
add_rows-requires-clause-most g c = λ names told.
    let case = c.args.case.now in
    let all : rows_ahead names c.in_ok-cursor.cursor ≡ rows_of case names = c.in_ok-cursor.ensures.all names in
    let few = rows_few case names in
    let blocks = blocks_are case names c.args.heap.now (c.requires.sound names told) in
    omega (arith, ap length all, few, blocks, c.blocks-2.ensures, ap count_of c.heap.ensures)

pub returns-clause-text : goal.returns-clause-text
unfolding copied_text
returns-clause-text g c = λ names told.
    let all = rows_of c.args.case.now names in
    let columns = c.columns-columns.result.now in
    let begun = begun_all names columns all c.in_ok-cursor.cursor c.new-copy.result (c.in_ok-cursor.ensures.all names) c.new-copy.ensures.text c.new-copy.ensures.unread in
    c.in_ok-finish.ensures ∙ (left_none columns all c.add_rows.new.self (c.in_ok-add_rows.ensures.left names told all begun)).0
    ∙ ap (λ (cs : List Column). text_of cs (cells_in all)) c.columns-columns.ensures

pub returns-clause-unread : goal.returns-clause-unread
unfolding unread_values
returns-clause-unread g c = λ names told.
    let all = rows_of c.args.case.now names in
    let columns = c.columns-columns.result.now in
    let begun = begun_all names columns all c.in_ok-cursor.cursor c.new-copy.result (c.in_ok-cursor.ensures.all names) c.new-copy.ensures.text c.new-copy.ensures.unread in
    (left_none columns all c.add_rows.new.self (c.in_ok-add_rows.ensures.left names told all begun)).1
