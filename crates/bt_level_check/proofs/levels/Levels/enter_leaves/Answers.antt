use Rattle.std.proofs.Common.{subst}
use Rattle.laws_search.specs.Levels.{downlinks}
use Rattle.bt_pages.specs.Trees.{tree_seen}
use Rattle.bt_level_check.specs.Trees.{image_of}
use Rattle.bt_level_check.specs.UnderWay.{IsEntered}
use Rattle.bt_level_check.specs.Walked.{tree_of}
use Rattle.bt_level_check.proofs.Descending.{entry_here, leaves_on, levels_tree}
use Rattle.bt_level_check.proofs.levels.Levels.enter_leaves.Goals as goal

pub returns-in-Ended-clause-told : goal.returns-in-Ended-clause-told
returns-in-Ended-clause-told g c names told holds depth ne roots at =
    let levels = c.args.self.now in
    let tree = tree_seen names (tree_of levels) in
    let local = c.kept_rules_make_a_sound_image.ensures tree.specs tree.more tree.blocks tree.block holds.pages in
    let ds = downlinks (image_of tree) depth in
    let judged = c.in-Ended.judged in
    let is = subst (IsEntered tree 0 ds levels c.enter.new.self) c.in-Ended.is (c.in_ok-judged.ensures.told names told holds 0 ds at.stands (entry_here tree local ne roots levels 0 depth at) at.enough) in
    levels_tree tree local ne roots c.enter.new.self judged.finding (leaves_on tree local ne roots levels c.enter.new.self depth judged at is)

pub returns-in-Before-clause-told : goal.returns-in-Before-clause-told
returns-in-Before-clause-told g c names told holds depth ne roots at =
    let levels = c.args.self.now in
    let tree = tree_seen names (tree_of levels) in
    let local = c.kept_rules_make_a_sound_image.ensures tree.specs tree.more tree.blocks tree.block holds.pages in
    let ds = downlinks (image_of tree) depth in
    record {
      old = levels;
      depth = depth;
      rooted = ne;
      roots = roots;
      at = at;
      on = subst (IsEntered tree 0 ds levels c.enter.new.self) c.in-Before.is (c.in_ok-judged.ensures.told names told holds 0 ds at.stands (entry_here tree local ne roots levels 0 depth at) at.enough);
    }
