use Rattle.std.proofs.Common.{◌≢◌, ap, sym, ◌∙◌}
use Rattle.bt_pages.specs.Trees.{tree_seen}
use Rattle.bt_level_check.specs.Trees.{image_of}
use Rattle.bt_level_check.specs.Walked.{tree_of}
use Rattle.bt_level_check.proofs.Descending.{empty_tree, misplaced_tree}
use Rattle.bt_level_check.proofs.levels.Levels.begin.Goals as goal

pub returns-then-meta-eq0-clause-told : goal.returns-then-meta-eq0-clause-told
returns-then-meta-eq0-clause-told g c names told holds =
    let tree = tree_seen names (tree_of c.args.self.now) in
    let local = c.kept_rules_make_a_sound_image.ensures tree.specs tree.more tree.blocks tree.block holds.pages in
    empty_tree tree local (sym (ap (λ m. m.root) (c.requires.meta names told)) ∙ c.if-meta-eq0.true) c.args.self.now c.requires.unwalked

pub returns-then-branch-clause-told : goal.returns-then-branch-clause-told
returns-then-branch-clause-told g c names told holds =
    let tree = tree_seen names (tree_of c.args.self.now) in
    let local = c.kept_rules_make_a_sound_image.ensures tree.specs tree.more tree.blocks tree.block holds.pages in
    misplaced_tree tree local (λ z. c.if-meta-eq0.false (ap (λ m. m.root) (c.requires.meta names told) ∙ z)) (sym (c.in_ok-are_roots_misplaced.ensures.told names told holds) ∙ c.if-branch.true) c.args.self.now

pub walk_down-requires-clause-attached : goal.walk_down-requires-clause-attached
walk_down-requires-clause-attached g c names told = c.requires.attached names (sym c.in_ok-are_roots_misplaced.ensures.asked.same ∙ told)

pub returns-clause-told : goal.returns-clause-told
returns-clause-told g c names told holds =
    let tree = tree_seen names (tree_of c.args.self.now) in
    let ne : (image_of tree).root ≢ 0 = λ z. c.if-meta-eq0.false (ap (λ m. m.root) (c.requires.meta names told) ∙ z) in
    let roots = sym (c.in_ok-are_roots_misplaced.ensures.told names told holds) ∙ c.if-branch.false in
    c.in_ok-stage.ensures.told names (c.in_ok-are_roots_misplaced.ensures.asked.same ∙ told) holds ne roots (c.requires.top names told) (c.requires.enough names told)
