use Rattle.std.proofs.Common.{◌∙◌, ◌<◌, ◌≡◌, ℕ, List, ap, arith, length, sym, subst}
use Rattle.std.specs.Prelude.{All}
use Rattle.bt_levels.specs.Files.{number_of}
use Rattle.bt_levels.specs.Sound.{block_count, file_of, index_columns}
use Rattle.join_row_keys.specs.Rows.{AreAskedFrom, columns_in}
use Rattle.join_row_keys.proofs.KeyLaws.{asked-all, columns-there}
use Rattle.join_row_keys.proofs.Places.{same-index}
use Rattle.key_orders.specs.Scans.{Bounds}
use Rattle.heap_rows.proofs.ReadLaws.{page-same}
use Rattle.join_unique.specs.Reads.{key_page_reads, unkilled, yielded}
use Rattle.join_unique.proofs.Done.{done}
use Rattle.join_unique.proofs.Reading.{group-sum, key-page, pages-for}
use Rattle.join_unique.proofs.check.group_rows.Goals as goal

pub new-requires-clause-asked : goal.new-requires-clause-asked
new-requires-clause-asked g c =
    let case = c.args.at.case.now in
    let tree = c.args.at.tree.now in
    let all : All (λ k. k < length case.columns) c.deref.result.now =
    subst (λ (ks : List ℕ). All (λ k. k < length case.columns) ks) (sym (c.deref.ensures.value ∙ c.in_ok-columns.ensures ∙ ap columns_in c.columns.ensures.lists))
    (columns-there case (number_of (file_of tree)) tree c.sound.ensures c.requires.belong.index) in
    all

pub walk-requires-clause-index : goal.walk-requires-clause-index
walk-requires-clause-index g c =
    let tree = c.args.at.tree.now in
    let columns : c.deref.result.now ≡ columns_in (index_columns tree) = c.deref.ensures.value ∙ c.in_ok-columns.ensures ∙ ap columns_in c.columns.ensures.lists in
    record {
      belong = c.requires.belong;
      case = c.in_ok-cursor.ensures.case;
      heap = c.in_ok-cursor.ensures.heap;
      asked = subst (λ (ks : List ℕ). AreAskedFrom 0 ks c.in_ok-cursor.cursor.asked) columns (asked-all c.deref.result.now c.in_ok-cursor.cursor.asked c.in_ok-cursor.ensures.asked);
    }

pub walk-requires-clause-told : goal.walk-requires-clause-told
walk-requires-clause-told g c = λ names told.
    let hold = c.requires.hold names told in
    c.in_ok-cursor.ensures.told names hold.heap hold.quiet

pub walk-requires-clause-holds : goal.walk-requires-clause-holds
walk-requires-clause-holds g c = λ names told. (c.requires.hold names told).tree

pub close-requires-clause-index : goal.close-requires-clause-index
close-requires-clause-index g c =
    let tree = c.args.at.tree.now in
    let columns : c.deref.result.now ≡ columns_in (index_columns tree) = c.deref.ensures.value ∙ c.in_ok-columns.ensures ∙ ap columns_in c.columns.ensures.lists in
    same-index (record { at = c.args.at; first = 0 }) c.in_ok-cursor.cursor c.walk.new.cursor c.walk.ensures.same
    (record {
      belong = c.requires.belong;
      case = c.in_ok-cursor.ensures.case;
      heap = c.in_ok-cursor.ensures.heap;
      asked = subst (λ (ks : List ℕ). AreAskedFrom 0 ks c.in_ok-cursor.cursor.asked) columns (asked-all c.deref.result.now c.in_ok-cursor.cursor.asked c.in_ok-cursor.ensures.asked);
    })

pub close-requires-clause-told : goal.close-requires-clause-told
close-requires-clause-told g c = λ names told. c.walk.ensures.told names (sym c.walk.ensures.asked.same ∙ told)

pub returns-clause-done : goal.returns-clause-done
returns-clause-done g c = λ names told.
    done names c.args.at c.args.unique c.args.roots _ (c.in-Ok.ensures.ok) c.new-group.result c.walk.new.group c.close.new.group c.new-group.ensures
    (c.in_ok-walk.ensures.met names told) (c.in_ok-close.ensures.met names (c.walk.ensures.asked.same ∙ told))

-- How often files are read

pub returns-clause-reads : goal.returns-clause-reads
returns-clause-reads g c = λ names told.
    let at = c.args.at in
    let tree = at.tree.now in
    let cursor = c.in_ok-cursor.cursor in
    let columns : c.deref.result.now ≡ columns_in (index_columns tree) = c.deref.ensures.value ∙ c.in_ok-columns.ensures ∙ ap columns_in c.columns.ensures.lists in
    let page = key-page at cursor c.deref.result.now c.in_ok-cursor.ensures.heap c.in_ok-cursor.ensures.asked columns in
    let free = ap (λ (b : Bounds). yielded names tree b) c.in-Ok.ensures.ok in
    let walked = pages-for page free in
    let sum = group-sum (block_count tree) (key_page_reads at.heap.now tree) (unkilled names tree) in
    let last = page-same cursor c.walk.new.cursor c.walk.ensures.same ∙ page in
    omega (arith, sum, walked, last, c.walk.ensures.reads names told, c.close.ensures.asked.most)

pub returns-in_err-close-clause-reads : goal.returns-in_err-close-clause-reads
returns-in_err-close-clause-reads g c = λ names told.
    let at = c.args.at in
    let tree = at.tree.now in
    let cursor = c.in_ok-cursor.cursor in
    let columns : c.deref.result.now ≡ columns_in (index_columns tree) = c.deref.ensures.value ∙ c.in_ok-columns.ensures ∙ ap columns_in c.columns.ensures.lists in
    let page = key-page at cursor c.deref.result.now c.in_ok-cursor.ensures.heap c.in_ok-cursor.ensures.asked columns in
    let free = ap (λ (b : Bounds). yielded names tree b) c.in-Ok.ensures.ok in
    let walked = pages-for page free in
    let sum = group-sum (block_count tree) (key_page_reads at.heap.now tree) (unkilled names tree) in
    let last = page-same cursor c.walk.new.cursor c.walk.ensures.same ∙ page in
    omega (arith, sum, walked, last, c.walk.ensures.reads names told, c.close.ensures.asked.most)

pub returns-in_err-walk-clause-reads : goal.returns-in_err-walk-clause-reads
returns-in_err-walk-clause-reads g c = λ names told.
    let at = c.args.at in
    let tree = at.tree.now in
    let cursor = c.in_ok-cursor.cursor in
    let columns : c.deref.result.now ≡ columns_in (index_columns tree) = c.deref.ensures.value ∙ c.in_ok-columns.ensures ∙ ap columns_in c.columns.ensures.lists in
    let page = key-page at cursor c.deref.result.now c.in_ok-cursor.ensures.heap c.in_ok-cursor.ensures.asked columns in
    let free = ap (λ (b : Bounds). yielded names tree b) c.in-Ok.ensures.ok in
    let walked = pages-for page free in
    let sum = group-sum (block_count tree) (key_page_reads at.heap.now tree) (unkilled names tree) in
    omega (arith, sum, walked, c.walk.ensures.reads names told)
