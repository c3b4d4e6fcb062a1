use Rattle.std.proofs.Common.{suc, sym, subst, ◌∙◌}
use Rattle.bt_pages.specs.Trees.{tree_seen}
use Rattle.bt_level_check.specs.Downlinks.{Reads}
use Rattle.bt_level_check.specs.Sets.{is_in}
use Rattle.bt_level_check.specs.Walked.{tree_of}
use Rattle.bt_level_check.proofs.Walking.{met}
use Rattle.bt_level_check.proofs.levels.Levels.follow.Goals as goal

pub returns-in_ok-pass-clause-told : goal.returns-in_ok-pass-clause-told
returns-in_ok-pass-clause-told g c names told holds level left linked before =
    let levels = c.args.self.now in
    let tree = tree_seen names (tree_of levels) in
    let m = met left c.args.seen.now.block (linked ∙ c.if-seen.true) in
    let passed = c.in_ok-pass.ensures.reads names told holds level m.first m.rest before.settled (subst (Reads tree (is_in levels.dead) (suc level) levels.upper.turns_left levels.upper) m.is before.reads) in
    record {
      fastroot = before.fastroot;
      reads = subst (Reads tree (is_in levels.dead) (suc level) c.pass.new.self.turns_left c.pass.new.self) (sym m.left) passed.0;
      settled = passed.1;
    }
