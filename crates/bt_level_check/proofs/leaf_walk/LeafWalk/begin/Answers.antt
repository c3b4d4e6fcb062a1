use Rattle.std.proofs.Common.{suc, sym, subst, ◌∙◌}
use Rattle.laws_search.specs.Levels.{downlinks}
use Rattle.rel_files.specs.Relation.{IsAttached}
use Rattle.bt_pages.specs.Trees.{tree_seen}
use Rattle.bt_level_check.specs.Trees.{image_of}
use Rattle.bt_level_check.specs.Walked.{HasEnough, StandsBefore}
use Rattle.bt_level_check.proofs.leaf_walk.LeafWalk.begin.Goals as goal

pub begin-requires-clause-attached : goal.begin-requires-clause-attached
begin-requires-clause-attached g c names told =
    subst (λ t. IsAttached names t.relation.now) (sym c.in_ok-levels.ensures.tree) (c.requires.attached names (sym c.in_ok-meta.ensures.asked.same ∙ told))

pub begin-requires-clause-top : goal.begin-requires-clause-top
begin-requires-clause-top g c names told =
    subst (λ t. StandsBefore (tree_seen names t) (image_of (tree_seen names t)).level c.in_ok-levels.levels (downlinks (image_of (tree_seen names t)) 0)) (sym c.in_ok-levels.ensures.tree)
    (c.in_ok-levels.ensures.top names (c.in_ok-meta.ensures.told names (sym c.in_ok-meta.ensures.asked.same ∙ told)))

pub begin-requires-clause-enough : goal.begin-requires-clause-enough
begin-requires-clause-enough g c names told =
    subst (λ t. HasEnough (tree_seen names t) (suc (image_of (tree_seen names t)).level) c.in_ok-levels.levels) (sym c.in_ok-levels.ensures.tree)
    (c.in_ok-levels.ensures.enough names _)
