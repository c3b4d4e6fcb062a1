use Rattle.std.proofs.Common.{refl, sym, subst, ◌∙◌}
use Rattle.std.specs.Prelude.{None, Some}
use Rattle.laws_search.specs.Searchable.{IsInUse}
use Rattle.bt_pages.specs.Trees.{tree_seen}
use Rattle.bt_level_check.specs.declared.course.Course.{Course}
use Rattle.bt_level_check.specs.declared.levels.Levels.{Levels}
use Rattle.bt_level_check.specs.Trees.{image_of}
use Rattle.bt_level_check.specs.Walked.{IsFirstPage, tree_of}
use Rattle.bt_level_check.proofs.Judging.{chain_begins, chain_walks, entry_is, judged_circle, no_entry, target_in_front, within}
use Rattle.bt_level_check.proofs.UnderWay.{under_way, whatever_steps}
use Rattle.bt_level_check.proofs.Walking.{going_start}
use Rattle.bt_level_check.proofs.levels.Levels.enter.Goals as goal

pub returns-in_default-clause-told : goal.returns-in_default-clause-told
returns-in_default-clause-told g c names told holds level ds before here enough =
    let levels = c.args.self.now in
    let tree = tree_seen names (tree_of levels) in
    let front = target_in_front tree level ds levels None before (sym c.in_default.is ∙ c.target.ensures tree.specs tree.more before.reads.hand) in
    absurd (here.0.not_meta (no_entry ds front))

pub returns-in_default-2-clause-told : goal.returns-in_default-2-clause-told
returns-in_default-2-clause-told g c names told holds level ds before here enough =
    let levels = c.args.self.now in
    let tree = tree_seen names (tree_of levels) in
    let entry = c.in-Some.entered in
    let local = c.kept_rules_make_a_sound_image.ensures tree.specs tree.more tree.blocks tree.block holds.pages in
    let is = entry_is ds entry (target_in_front tree level ds levels (Some entry) before (sym c.in-Some.is ∙ c.target.ensures tree.specs tree.more before.reads.hand)) in
    let first = c.in_ok-first.ensures.told names told holds (subst (IsInUse (image_of tree)) (sym is) here.0) (within tree level ds local here entry levels.steps_left is enough.steps) in
    judged_circle tree level ds levels _ entry is (subst (IsFirstPage (image_of tree) entry) c.in_default-2.is first)

pub returns-clause-told : goal.returns-clause-told
returns-clause-told g c names told holds level ds before here enough =
    let levels = c.args.self.now in
    let tree = tree_seen names (tree_of levels) in
    let entry = c.in-Some.entered in
    let first = c.in-Some-2.first in
    let local = c.kept_rules_make_a_sound_image.ensures tree.specs tree.more tree.blocks tree.block holds.pages in
    let is = entry_is ds entry (target_in_front tree level ds levels (Some entry) before (sym c.in-Some.is ∙ c.target.ensures tree.specs tree.more before.reads.hand)) in
    let used = subst (IsInUse (image_of tree)) (sym is) here.0 in
    let at = subst (IsFirstPage (image_of tree) entry) c.in-Some-2.is (c.in_ok-first.ensures.told names told holds used (within tree level ds local here entry levels.steps_left is enough.steps)) in
    let left = c.first_page.new.steps in
    let start : Levels = record levels { steps_left = left } in
    let course : Course = record { entered = entry; first = first; next = first; carried = c.new.result } in
    record {
      entered = is;
      first = at;
      steps = c.in_ok-first.ensures.steps names told holds used first c.in-Some-2.is;
      way = whatever_steps tree level ds levels (record start { lower = None }) course left
          (under_way tree level ds start (record start { lower = None }) course 0
          (going_start tree level ds first start (record start { lower = None }) c.new.result refl c.new.ensures (record { fastroot = before.fastroot; reads = before.reads; settled = before.settled })
          (chain_begins tree level ds local here entry first is at) (chain_walks tree level ds local here entry first levels.walks_left is at enough.walks)));
    }
