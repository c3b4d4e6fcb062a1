use Rattle.std.proofs.Common.{◌≡◌, ◌∙◌, ◌<◌, ℕ, List, [], length, ap, sym, subst, arith}
use Rattle.std.specs.Prelude.{All}
use Rattle.rel_files.specs.Relation.{count_of}
use Rattle.case_file.specs.Record.{CaseRecord}
use Rattle.key_attrs.specs.Columns.{TreeColumns, tree_columns}
use Rattle.bt_levels.specs.Index.{case_columns}
use Rattle.heap_rows.specs.declared.rows.LiveRow.{LiveRow}
use Rattle.heap_rows.specs.RowCursor.{rows_ahead}
use Rattle.heap_rows.specs.Rows.{rows_of}
use Rattle.join_row_keys.specs.Rows.{columns_in}
use Rattle.join_row_keys.proofs.Pages.{count-is, rows-few}
use Rattle.join_row_entries.specs.Gathering.{AreLeft, IsListOf}
use Rattle.join_row_entries.proofs.ColumnLaws.{columns-there}
use Rattle.join_row_entries.proofs.GatherLaws.{left-all}
use Rattle.join_row_entries.proofs.HeapRoots.{all-free}
use Rattle.join_row_entries.proofs.gather.row_entries.Goals as goal

pub new-requires-clause-asked : goal.new-requires-clause-asked
new-requires-clause-asked g c =
    let case : CaseRecord = c.args.case.now in
    let n = c.args.index in
    let columns : tree_columns c.new-reader.result.rows.columns ≡ case_columns case n =
    c.new-reader.ensures.reader.columns ∙ (λ i. case_columns (c.new-reader.ensures.case i) (c.new-reader.ensures.index i)) in
    let numbers = c.deref.ensures.value ∙ c.in_ok-numbers.ensures ∙ ap (λ (t : TreeColumns). columns_in t) columns in
    subst (λ (ks : List ℕ). All (λ k. k < length case.columns) ks) (sym numbers) (columns-there case n c.sound.ensures c.requires.first c.requires.last)

pub add_rows-requires-clause-told : goal.add_rows-requires-clause-told
add_rows-requires-clause-told g c = λ names told. c.in_ok-cursor.ensures.told names (c.requires.sound names told) (c.requires.quiet names told)

pub add_rows-requires-clause-most : goal.add_rows-requires-clause-most
add_rows-requires-clause-most g c = λ names told.
    let case = c.args.case.now in
    let all : rows_ahead names c.in_ok-cursor.cursor ≡ rows_of case names = c.in_ok-cursor.ensures.all names in
    let few = rows-few case names in
    let blocks = count-is case names c.args.heap.now c.requires.belong (c.requires.sound names told) in
    omega (arith, ap length all, few, blocks, c.blocks-2.ensures, ap count_of c.heap.ensures)

pub returns-clause-entries : goal.returns-clause-entries
returns-clause-entries g c = λ names told.
    let case : CaseRecord = c.args.case.now in
    let n = c.args.index in
    let all : List LiveRow = rows_of case names in
    let reader = c.new-reader.result in
    let gathered = c.in_ok-gathered.gathered in
    let done = c.add_rows.new.self in
    let free = all-free case names (c.requires.quiet names told) (c.rows_are_live_tuples.ensures.exact case names c.sound.ensures (c.requires.quiet names told)) gathered.roots c.in_ok-gathered.ensures.none in
    let begun : AreLeft reader.case.now reader.index all (rows_ahead names c.in_ok-cursor.cursor) gathered =
    subst (λ (rows : List LiveRow). AreLeft reader.case.now reader.index all rows gathered) (sym (c.in_ok-cursor.ensures.all names))
    (left-all reader.case.now reader.index all gathered c.in_ok-gathered.ensures.empty free) in
    let left = c.in_ok-add_rows.ensures.left names told all begun in
    c.finish.ensures case names n
    (subst (λ (k : CaseRecord). IsListOf k n done) c.new-reader.ensures.case (subst (λ (m : ℕ). IsListOf reader.case.now m done) c.new-reader.ensures.index c.in_ok-add_rows.ensures.list))
    (subst (λ (k : CaseRecord). AreLeft k n all [] done) c.new-reader.ensures.case (subst (λ (m : ℕ). AreLeft reader.case.now m all [] done) c.new-reader.ensures.index left))
