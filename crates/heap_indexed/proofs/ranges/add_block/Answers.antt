use Rattle.std.proofs.Common.{◌∙◌, get_or, arith}
use Rattle.std.proofs.lemmas.List.{length-set}
use Rattle.bt_levels.specs.declared.sound.SoundTree.{SoundTree}
use Rattle.heap_indexed.specs.declared.work.IndexWork.{IndexWork}
use Rattle.heap_indexed.specs.Works.{IsInWork, tree_of}
use Rattle.heap_indexed.proofs.Each.{above-set, all-done, by-tree, done-set, indexes-set, still-before}
use Rattle.heap_indexed.proofs.ranges.add_block.Goals as goal

pub loop-j-preserved : goal.loop-j-preserved
loop-j-preserved c =
    let inv = c.loop-j.invariant in
    let works = c.loop-j.works in
    let j = c.loop-j.j in
    let old : IndexWork = get_or works j c.index-works-j.result in
    let new = c.add_block.new.self in
    record {
      many = length-set works j new ∙ inv.many;
      indexes = indexes-set works j new c.index-works-j.result c.add_block.ensures.index ∙ inv.indexes;
      left = above-set c.args.works.now works j new inv.left;
      done = λ names done strays range was.
          let P : IndexWork → Type 0 = λ (w : IndexWork). IsInWork names (done (tree_of w)) (strays (tree_of w)) range w in
          done-set P works j new (omega (arith, inv.many)) (inv.done names done strays range was)
          (by-tree (λ (t : SoundTree). IsInWork names (done t) (strays t) range new) old new c.add_block.ensures.index
          (c.in_ok-add_block.ensures.work names (done (tree_of old)) (strays (tree_of old)) range
          (still-before P c.args.works.now works j c.index-works-j.result inv.left (omega arith) was)));
    }

pub returns-clause-work : goal.returns-clause-work
returns-clause-work c = λ names done strays range was.
    all-done (λ (w : IndexWork). IsInWork names (done (tree_of w)) (strays (tree_of w)) range w) c.loop-j.works c.loop-j.j (omega (arith, c.loop-j.invariant.many)) (c.loop-j.invariant.done names done strays range was)
