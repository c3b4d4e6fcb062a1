use Rattle.join_unique.proofs.NoneTwice.{nothing-twice}
use Rattle.join_unique.proofs.check.no_row_is_second.Goals as goal

pub returns : goal.returns
returns c = λ names hold joined apart.
    let at = c.args.at in
    nothing-twice names at.case.now at.heap.now at.tree.now c.requires.belong hold joined (c.rows_are_live_tuples.ensures.exact at.case.now names c.sound.ensures hold.quiet)
    (c.apart_leaves_have_no_equal_keys.ensures names at.tree.now hold.tree apart)
