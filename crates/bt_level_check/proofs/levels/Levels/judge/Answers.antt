use Rattle.std.proofs.Common.{sym, subst, ◌∙◌}
use Rattle.bt_pages.specs.Trees.{tree_seen}
use Rattle.bt_level_check.specs.Trees.{HoldsPages}
use Rattle.bt_level_check.specs.UnderWay.{IsEntered, IsUnderWay}
use Rattle.bt_level_check.specs.Walked.{tree_of}
use Rattle.bt_level_check.proofs.UnderWay.{passed_all, walked_all}
use Rattle.bt_level_check.proofs.levels.Levels.judge.Goals as goal

pub returns-in-Ended-clause-told : goal.returns-in-Ended-clause-told
returns-in-Ended-clause-told g c names told holds level ds before here enough fast =
    let levels = c.args.self.now in
    subst (IsEntered (tree_seen names (tree_of levels)) level ds levels c.enter.new.self) c.in-Ended.is
    (c.in_ok-judged.ensures.told names told holds level ds before here enough)

pub returns-in_ok-course-in-Before-clause-told : goal.returns-in_ok-course-in-Before-clause-told
returns-in_ok-course-in-Before-clause-told g c names told holds level ds before here enough fast =
    let levels = c.args.self.now in
    let tree = tree_seen names (tree_of levels) in
    let e = c.in_ok-judged.ensures in
    let on = subst (IsEntered tree level ds levels c.enter.new.self) c.in-Before.is (e.told names told holds level ds before here enough) in
    let w = c.in_ok-course-in-Before.ensures in
    let way = w.told names (e.asked.same ∙ told) (subst (λ t. HoldsPages names t) (sym e.same.tree) holds) level ds levels
    (subst (λ t. IsUnderWay (tree_seen names t) level ds levels c.enter.new.self c.in-Before.course) (sym e.same.tree) on.way) in
    c.verdict.ensures tree level ds levels holds.pages here enough fast
    (passed_all tree level ds levels c.enter.new.self c.walk.new.self c.in-Before.course c.in_ok-course-in-Before.course on w.course w.steps
    (walked_all tree level ds levels c.walk.new.self c.in_ok-course-in-Before.course way.1
    (subst (λ t. IsUnderWay (tree_seen names t) level ds levels c.walk.new.self c.in_ok-course-in-Before.course) e.same.tree way.0)))
