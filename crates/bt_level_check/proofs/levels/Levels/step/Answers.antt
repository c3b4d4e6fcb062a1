use Rattle.std.proofs.Common.{◌≡◌, ◌+◌, ap, sym, subst, ◌∙◌, arith}
use Rattle.std.proofs.lemmas.Bool.{both_ways}
use Rattle.rel_files.specs.Relation.{IsAttached}
use Rattle.bt_meta.specs.Pages.{opaque_of}
use Rattle.bt_pages.specs.Trees.{tree_seen}
use Rattle.bt_level_check.specs.Reading.{IsOfLevel}
use Rattle.bt_level_check.specs.Trees.{HoldsPages, image_of}
use Rattle.bt_level_check.specs.Walked.{HasPassed, IsWalking, tree_of, walks_of}
use Rattle.bt_level_check.proofs.UnderWay.{going, under_way}
use Rattle.bt_level_check.proofs.Walking.{Going, going_here, going_step, passed_page, ready_read, room_read, walking_page}
use Rattle.bt_level_check.proofs.levels.Levels.step.Goals as goal

pub pass-requires-clause-ready : goal.pass-requires-clause-ready
pass-requires-clause-ready g c = ready_read c.args.self.now c.take.new.self c.in_ok-take.ensures.page c.in_ok-take.ensures.walks c.requires.ready

pub pass-requires-clause-room : goal.pass-requires-clause-room
pass-requires-clause-room g c = room_read c.args.self.now c.take.new.self c.in_ok-take.ensures.page c.in_ok-take.ensures.walks c.requires.ready

pub pass-requires-clause-attached : goal.pass-requires-clause-attached
pass-requires-clause-attached g c names told =
    let r = c.in_ok-take.ensures in
    subst (λ t. IsAttached names t.relation.now) (sym (ap tree_of r.page)) (c.requires.attached names (sym r.asked.same ∙ told))

-- a page of the chain can be read
pub returns-then-not-branch-clause-told : goal.returns-then-not-branch-clause-told
returns-then-not-branch-clause-told g c names told holds level ds old ne way =
    let tree = tree_seen names (tree_of c.args.self.now) in
    let course = c.args.course.now in
    let here = going_here tree level ds course.first old c.args.self.now course.carried way.made course.next ne (going tree level ds old c.args.self.now course way) in
    absurd (both_ways _ c.if-not-branch.true (c.in_ok-take.ensures.told names told holds level here.1).0)

pub returns-clause-told : goal.returns-clause-told
returns-clause-told g c names told holds level ds old ne way =
    let levels = c.args.self.now in
    let tree = tree_seen names (tree_of levels) in
    let course = c.args.course.now in
    let b = course.next in
    let r = c.in_ok-take.ensures in
    let p = c.in_ok-carried.ensures in
    let same = ap tree_of r.page in
    let one = r.walks in
    let walks = p.kept.walks in
    let taken : walks_of c.pass.new.self + 1 ≡ walks_of levels = omega (arith, one, walks) in
    let now = going tree level ds old levels course way in
    let here = going_here tree level ds course.first old levels course.carried way.made b ne now in
    let page = (r.told names told holds level here.1).1 in
    let walking = walking_page tree level levels c.take.new.self course.carried way.walk r.page way.walking in
    let passed = p.told names (r.asked.same ∙ told) (subst (λ t. HoldsPages names t) (sym same) holds) level way.walk
    (subst (λ t. IsOfLevel (image_of (tree_seen names t)) level b) (sym same) here.1)
    (page ∙ ap (λ t. (tree_seen names t).block b) (sym same))
    (subst (λ t. IsWalking (tree_seen names t) level c.take.new.self course.carried way.walk) (sym same) walking) in
    let next = ap (λ o. o.next) (c.opaque.ensures ∙ ap opaque_of (c.new.ensures ∙ p.page ∙ page)) in
    under_way tree level ds old c.pass.new.self (record { entered = course.entered; first = course.first; next = c.opaque.result.next; carried = c.in_ok-carried.carried }) (way.made + 1)
    (subst (λ n. Going tree level ds course.first old c.pass.new.self c.in_ok-carried.carried (way.made + 1) n) (sym next)
    (going_step tree level ds course.first old levels c.pass.new.self course.carried c.in_ok-carried.carried way.made b ne now
    (passed_page tree level levels c.take.new.self c.pass.new.self c.in_ok-carried.carried way.walk b r.page
    (subst (λ t. HasPassed (tree_seen names t) level way.walk b c.take.new.self c.pass.new.self c.in_ok-carried.carried) same passed)) taken))
