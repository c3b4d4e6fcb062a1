use Rattle.std.proofs.Common.{◌∙◌, ◌∷◌, ◌++◌, [], get_or, arith}
use Rattle.std.proofs.lemmas.List.{length-set}
use Rattle.bt_levels.specs.declared.sound.SoundTree.{SoundTree}
use Rattle.join_row_keys.specs.declared.keys.KeyedHeap.{KeyedHeap}
use Rattle.join_row_keys.specs.Rows.{IsIndexAt}
use Rattle.heap_indexed.specs.declared.work.IndexWork.{IndexWork}
use Rattle.heap_indexed.specs.Works.{IsKeptIn, tree_of}
use Rattle.heap_indexed.proofs.Each.{above-set, all-done, by-tree, done-set, indexes-set, same-each, still-before}
use Rattle.heap_indexed.proofs.ranges.keep_row.Goals as goal

pub keep_row-requires-clause-index : goal.keep_row-requires-clause-index
keep_row-requires-clause-index c =
    same-each (λ (i : KeyedHeap). IsIndexAt i c.args.cursor.now) c.args.works.now c.loop-j.works c.loop-j.invariant.indexes c.requires.indexes c.loop-j.j c.index-works-j.result (omega (arith, c.loop-j.invariant.many))

pub loop-j-preserved : goal.loop-j-preserved
loop-j-preserved c =
    let inv = c.loop-j.invariant in
    let works = c.loop-j.works in
    let j = c.loop-j.j in
    let old : IndexWork = get_or works j c.index-works-j.result in
    let new = c.keep_row.new.self in
    record {
      many = length-set works j new ∙ inv.many;
      indexes = indexes-set works j new c.index-works-j.result c.keep_row.ensures.index ∙ inv.indexes;
      left = above-set c.args.works.now works j new inv.left;
      done = λ names done strays all passed row found was.
          done-set (λ (w : IndexWork). IsKeptIn names (done (tree_of w)) (strays (tree_of w)) all (passed ++ row ∷ []) w) works j new (omega (arith, inv.many)) (inv.done names done strays all passed row found was)
          (by-tree (λ (t : SoundTree). IsKeptIn names (done t) (strays t) all (passed ++ row ∷ []) new) old new c.keep_row.ensures.index
          (c.in_ok-keep_row.ensures.work names (done (tree_of old)) (strays (tree_of old)) all passed row found
          (still-before (λ (w : IndexWork). IsKeptIn names (done (tree_of w)) (strays (tree_of w)) all passed w) c.args.works.now works j c.index-works-j.result inv.left (omega arith) was)));
    }

pub returns-clause-work : goal.returns-clause-work
returns-clause-work c = λ names done strays all passed row found was.
    all-done (λ (w : IndexWork). IsKeptIn names (done (tree_of w)) (strays (tree_of w)) all (passed ++ row ∷ []) w) c.loop-j.works c.loop-j.j (omega (arith, c.loop-j.invariant.many))
    (c.loop-j.invariant.done names done strays all passed row found was)
