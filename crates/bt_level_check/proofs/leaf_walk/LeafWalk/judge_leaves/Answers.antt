use Rattle.std.proofs.Common.{◌≡◌, ap, subst}
use Rattle.std.specs.Prelude.{◌==◌}
use Rattle.laws_search.specs.Levels.{downlinks}
use Rattle.bt_pages.specs.Trees.{tree_seen}
use Rattle.bt_level_check.specs.Trees.{image_of}
use Rattle.bt_level_check.specs.UnderWay.{IsAtStage, index_of}
use Rattle.bt_level_check.proofs.Descending.{entry_here, leaves_on, levels_tree}
use Rattle.bt_level_check.proofs.UnderWay.{passed_all, walked_all}
use Rattle.bt_level_check.proofs.leaf_walk.LeafWalk.judge_leaves.Goals as goal

pub returns-in_ok-course-in-Leaves-clause-told : goal.returns-in_ok-course-in-Leaves-clause-told
returns-in_ok-course-in-Leaves-clause-told g c names told holds way =
    let walk = c.args.self.now in
    let tree = tree_seen names (index_of walk) in
    let local = c.kept_rules_make_a_sound_image.ensures tree.specs tree.more tree.blocks tree.block holds.pages in
    let s = subst (IsAtStage tree walk.levels) c.in-Leaves.is way.stage in
    let ds = downlinks (image_of tree) s.depth in
    let w = c.in_ok-course-in-Leaves.ensures in
    let gone = w.told names told holds 0 ds s.old s.on.way in
    let fast : (0 == walk.meta.fastlevel) ≡ (0 == (image_of tree).fastlevel) = ap (λ m. 0 == m.fastlevel) way.meta in
    let judged = c.verdict-judged.ensures tree 0 ds s.old holds.pages (entry_here tree local s.rooted s.roots s.old 0 s.depth s.at) s.at.enough fast
    (passed_all tree 0 ds s.old walk.levels c.walk.new.self c.in-Leaves.course c.in_ok-course-in-Leaves.course s.on w.course w.steps
    (walked_all tree 0 ds s.old c.walk.new.self c.in_ok-course-in-Leaves.course gone.1 gone.0)) in
    levels_tree tree local s.rooted s.roots c.walk.new.self c.verdict-judged.result.finding (leaves_on tree local s.rooted s.roots s.old c.walk.new.self s.depth c.verdict-judged.result s.at judged)
