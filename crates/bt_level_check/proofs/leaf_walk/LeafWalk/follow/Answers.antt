use Rattle.bt_pages.specs.Trees.{tree_seen}
use Rattle.std.proofs.Common.{subst}
use Rattle.laws_search.specs.Levels.{downlinks}
use Rattle.bt_level_check.specs.Trees.{image_of}
use Rattle.bt_level_check.specs.UnderWay.{IsAtStage, index_of}
use Rattle.bt_level_check.proofs.UnderWay.{still_on}
use Rattle.bt_level_check.proofs.leaf_walk.LeafWalk.follow.Goals as goal

pub returns-in_ok-course-in-Leaves-clause-told : goal.returns-in_ok-course-in-Leaves-clause-told
returns-in_ok-course-in-Leaves-clause-told g c names told holds way =
    let walk = c.args.self.now in
    let tree = tree_seen names (index_of walk) in
    let s = subst (IsAtStage tree walk.levels) c.in-Leaves.is way.stage in
    let ds = downlinks (image_of tree) s.depth in
    let w = c.in_ok-course-in-Leaves.ensures in
    record {
      meta = way.meta;
      stage = record {
        old = s.old;
        depth = s.depth;
        rooted = s.rooted;
        roots = s.roots;
        at = s.at;
        on = still_on tree 0 ds s.old walk.levels c.walk.new.self c.in-Leaves.course c.in_ok-course-in-Leaves.course s.on w.course w.steps (w.told names told holds 0 ds s.old s.on.way).0;
      };
    }

pub returns-in_ok-course-in-Leaves-clause-past : goal.returns-in_ok-course-in-Leaves-clause-past
returns-in_ok-course-in-Leaves-clause-past g c names told holds way =
    let walk = c.args.self.now in
    let tree = tree_seen names (index_of walk) in
    let s = subst (IsAtStage tree walk.levels) c.in-Leaves.is way.stage in
    (c.in_ok-course-in-Leaves.ensures.told names told holds 0 (downlinks (image_of tree) s.depth) s.old s.on.way).1
