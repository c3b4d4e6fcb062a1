use Rattle.std.proofs.Common.{◌≡◌, ◌≢◌, sym, subst, ◌∙◌, arith}
use Rattle.std.specs.Option.{IsSomeAnd}
use Rattle.std.proofs.lemmas.Bool.{both_ways}
use Rattle.bt_pages.specs.Trees.{tree_seen}
use Rattle.bt_level_check.specs.Trees.{HoldsPages}
use Rattle.bt_level_check.specs.UnderWay.{IsUnderWay}
use Rattle.bt_level_check.specs.Walked.{tree_of, walks_of}
use Rattle.bt_level_check.proofs.UnderWay.{ended, past_all}
use Rattle.bt_level_check.proofs.levels.Levels.walk.Goals as goal

pub returns-then-is_past-clause-told : goal.returns-then-is_past-clause-told
returns-then-is_past-clause-told g c names told holds level ds old way =
    (c.loop-self.invariant.way names told holds level ds old way, c.is_past.ensures.0 c.if-is_past.true)

-- there is a page to be walked over
pub returns-in-None-clause-told : goal.returns-in-None-clause-told
returns-in-None-clause-told g c names told holds level ds old way =
    let i = c.loop-self.invariant in
    let course = c.loop-self.course in
    let some : course.next ≢ 0 = λ z. both_ways _ c.if-is_past.false (c.is_past.ensures.1 (past_all c.args.hand course.next z)) in
    let step = c.in_ok-next.ensures.told names (i.asked.same ∙ told) (subst (λ t. HoldsPages names t) (sym i.same.tree) holds) level ds old some
    (subst (λ t. IsUnderWay (tree_seen names t) level ds old c.loop-self.self course) (sym i.same.tree) (i.way names told holds level ds old way)) in
    absurd (subst (λ s. IsSomeAnd s (IsUnderWay (tree_seen names (tree_of c.loop-self.self)) level ds old c.step.new.self)) c.in-None.is step)

-- no page may be walked over any more
pub returns-clause-told : goal.returns-clause-told
returns-clause-told g c names told holds level ds old way =
    let tree = tree_seen names (tree_of c.args.self.now) in
    let course = c.loop-self.course in
    let none : walks_of c.loop-self.self ≡ 0 = let f = c.loop-self-test.false in omega (arith, f) in
    let now = c.loop-self.invariant.way names told holds level ds old way in
    (now, past_all c.args.hand course.next (ended tree level ds old c.loop-self.self course none now))
