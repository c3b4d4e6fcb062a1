use Rattle.std.proofs.Common.{refl}
use Rattle.bt_level_check.proofs.Judging.{judged_chain}
use Rattle.bt_level_check.proofs.levels.Levels.verdict.Goals as goal

pub returns : goal.returns
returns c tree level ds old keeps here enough fast p =
    let self = c.args.self.now in
    let course = c.args.course.now in
    let local = c.kept_rules_make_a_sound_image.ensures tree.specs tree.more tree.blocks tree.block keeps in
    judged_chain tree level ds local here old self course.carried course.entered course.first c.args.is_fast c.is_empty.result c.verdict.result self.fastroot
    p.entered p.first fast c.is_empty.ensures refl c.verdict.ensures p.walked old.steps_left enough.steps p.steps
