use Rattle.std.proofs.Common.{◌∙◌, ◌++◌, List, get_or, arith}
use Rattle.std.proofs.lemmas.List.{length-set}
use Rattle.bt_levels.specs.declared.sound.SoundTree.{SoundTree}
use Rattle.heap_rows.specs.RowCursor.{rows_here}
use Rattle.heap_rows.specs.declared.rows.LiveRow.{LiveRow}
use Rattle.join_row_keys.specs.declared.keys.KeyedHeap.{KeyedHeap}
use Rattle.join_row_keys.specs.Rows.{IsIndexAt}
use Rattle.heap_indexed.specs.declared.work.IndexWork.{IndexWork}
use Rattle.heap_indexed.specs.Works.{IsInWork, IsKeptIn, tree_of}
use Rattle.heap_indexed.proofs.Each.{above-set, all-done, by-tree, done-set, indexes-set, same-each, still-before}
use Rattle.heap_indexed.proofs.ranges.keep_pages.Goals as goal

pub keep_page-requires : goal.keep_page-requires
keep_page-requires c = record {
  index = same-each (λ (i : KeyedHeap). IsIndexAt i c.args.cursor.now) c.args.works.now c.loop-j.works c.loop-j.invariant.indexes c.requires.at c.loop-j.j c.index-works-j.result (omega (arith, c.loop-j.invariant.many));
}

pub loop-j-preserved : goal.loop-j-preserved
loop-j-preserved c =
    let inv = c.loop-j.invariant in
    let works = c.loop-j.works in
    let j = c.loop-j.j in
    let old : IndexWork = get_or works j c.index-works-j.result in
    let new = c.keep_page.new.self in
    record {
      many = length-set works j new ∙ inv.many;
      indexes = indexes-set works j new c.index-works-j.result c.keep_page.ensures.index ∙ inv.indexes;
      left = above-set c.args.works.now works j new inv.left;
      done = λ names done strays range are was.
          let all : List LiveRow = range ++ rows_here names c.args.cursor.now in
          done-set (λ (w : IndexWork). IsKeptIn names (done (tree_of w)) (strays (tree_of w)) all range w) works j new (omega (arith, inv.many)) (inv.done names done strays range are was)
          (by-tree (λ (t : SoundTree). IsKeptIn names (done t) (strays t) all range new) old new c.keep_page.ensures.index
          (c.in_ok-keep_page.ensures.work names (done (tree_of old)) (strays (tree_of old)) range are
          (still-before (λ (w : IndexWork). IsInWork names (done (tree_of w)) (strays (tree_of w)) range w) c.args.works.now works j c.index-works-j.result inv.left (omega arith) was)));
    }

pub returns-clause-work : goal.returns-clause-work
returns-clause-work c = λ names done strays range are was.
    all-done (λ (w : IndexWork). IsKeptIn names (done (tree_of w)) (strays (tree_of w)) (range ++ rows_here names c.args.cursor.now) range w) c.loop-j.works c.loop-j.j (omega (arith, c.loop-j.invariant.many))
    (c.loop-j.invariant.done names done strays range are was)
