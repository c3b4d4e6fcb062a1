use Rattle.std.proofs.Common.{◌≡◌, false, ap, sym, subst, ◌∙◌}
use Rattle.laws_search.specs.Levels.{is_live, lower_after}
use Rattle.laws_levels.specs.Meeting.{is_next, unmet_after}
use Rattle.bt_level_step.specs.Roles.{role_named}
use Rattle.bt_level_step.proofs.Carried.{role_is}
use Rattle.rel_files.specs.Relation.{IsAttached}
use Rattle.bt_meta.specs.Flags.{is_half_dead}
use Rattle.bt_meta.specs.Pages.{opaque_of}
use Rattle.bt_image.specs.Image.{page_image}
use Rattle.bt_pages.specs.Trees.{tree_seen}
use Rattle.bt_level_step.specs.Pages.{HasPlainItems}
use Rattle.bt_level_check.specs.Trees.{HoldsPages, image_of}
use Rattle.bt_level_check.specs.Walked.{HasMarked, HasRoom, StandsBefore, role_at, tree_of}
use Rattle.bt_level_check.proofs.Seeing.{seen_plain, seen_whole}
use Rattle.bt_level_check.proofs.Walking.{page_passed}
use Rattle.bt_level_check.proofs.levels.Levels.pass.Goals as goal

pub follow-requires-clause-attached : goal.follow-requires-clause-attached
follow-requires-clause-attached g c names told =
    subst (λ t. IsAttached names t.relation.now) (sym (ap tree_of c.in_ok-keep_bound.ensures.bound)) (c.requires.attached names told)

pub mark-requires-clause-room : goal.mark-requires-clause-room
mark-requires-clause-room g c =
    subst HasRoom (sym c.in_ok-follow.ensures.downlinks)
    (let bound = subst HasRoom (sym c.in_ok-keep_bound.ensures.bound) (record { right_halves = c.requires.room.right_halves; half_dead = c.requires.room.half_dead }) in record { right_halves = bound.right_halves; half_dead = bound.half_dead })

pub returns-clause-told : goal.returns-clause-told
returns-clause-told g c names told holds level w of_level at k =
    let s0 = c.args.self.now in
    let s1 = c.keep_bound.new.self in
    let s2 = c.follow.new.self in
    let s3 = c.mark.new.self in
    let tree = tree_seen names (tree_of s0) in
    let b = c.args.b in
    let seen = c.see-seen.result in
    let sees = c.see-seen.ensures.seen names level w holds of_level at k in
    let same = ap tree_of c.in_ok-keep_bound.ensures.bound in
    let role = c.role-role.result in
    let named : role_at tree w b ≡ role_named role =
    ap (role_at tree w) (sym c.see-seen.ensures.block)
    ∙ role_is ((image_of tree).page seen.block) seen.marks (is_next w.ahead seen.block) seen.linked w.split c.args.walk.now.split sees.marks sees.linked k.carries.split
    ∙ sym c.role-role.ensures in
    let plain = subst (HasPlainItems tree.specs tree.more) (sym at) (seen_plain tree level s0 c.args.walk.now w b holds.pages of_level at k) in
    let bound =
    c.in_ok-keep_bound.ensures.kept plain (λ live. subst (λ p. is_half_dead (opaque_of p) ≡ false) (sym at) (seen_whole tree level s0 c.args.walk.now w b holds.pages of_level at k (ap is_live named ∙ live)))
    ∙ (λ i. lower_after (page_image tree.specs tree.more (at i)) (sym named i) s0.lower) in
    let follows : StandsBefore tree level s1 w.ahead → StandsBefore tree level s2 (unmet_after w.ahead b) = λ before.
    subst (λ q. StandsBefore tree level s2 (unmet_after w.ahead q)) c.see-seen.ensures.block
    (subst (λ t. StandsBefore (tree_seen names t) level s2 (unmet_after w.ahead seen.block)) same
    (c.in_ok-follow.ensures.told names told (subst (λ t. HoldsPages names t) (sym same) holds) level w.ahead sees.linked (subst (λ t. StandsBefore (tree_seen names t) level s1 w.ahead) (sym same) before))) in
    let shown = sees.marks.half_dead in
    let half_dead : seen.marks.half_dead ≡ ((image_of tree).page b).half_dead = sym shown ∙ ap (λ q. ((image_of tree).page q).half_dead) c.see-seen.ensures.block in
    page_passed tree level s0 s1 s2 s3 c.args.walk.now c.pass.result w b seen of_level k c.see-seen.ensures.block sees c.in_ok-keep_bound.ensures.bound bound
    c.in_ok-follow.ensures.downlinks follows c.mark.ensures.sets (subst (HasMarked s2 s3 b (role_at tree w b)) half_dead (subst (λ r. HasMarked s2 s3 b r seen.marks.half_dead) (sym named) c.mark.ensures.marked)) c.pass.ensures
