use Rattle.std.proofs.Common.{subst}
use Rattle.bt_level_step.specs.Shows.{ShowsMarks}
use Rattle.bt_image.specs.Image.{page_image}
use Rattle.bt_pages.specs.Trees.{tree_seen}
use Rattle.bt_level_check.specs.Walked.{tree_of}
use Rattle.bt_level_check.proofs.Seeing.{sees}
use Rattle.bt_level_check.proofs.levels.Levels.see.Goals as goal

pub returns-clause-seen : goal.returns-clause-seen
returns-clause-seen c names level w holds of_level at k =
    let levels = c.args.self.now in
    let tree = tree_seen names (tree_of levels) in
    let marks = subst (λ p. ShowsMarks (page_image tree.specs tree.more p) c.marks_of-marks.result) c.new.ensures (c.marks_of-marks.ensures tree.specs tree.more) in
    sees tree level levels c.args.walk.now w c.args.b holds.pages of_level at k c.marks_of-marks.result c.leads_to-linked.result c.role-role.result marks
    (c.leads_to-linked.ensures tree.specs tree.more k.before.reads.hand) c.role-role.ensures c.has_wrong_separator.result c.has_low_key.result c.has_wrong_separator.ensures c.has_low_key.ensures
