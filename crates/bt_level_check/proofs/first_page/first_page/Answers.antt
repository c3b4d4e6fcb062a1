use Rattle.std.proofs.Common.{◌≡◌, ◌+◌, ◌-◌, ◌<◌, suc, inl, inr, ap, sym, subst, ◌∙◌, length, arith}
use Rattle.std.proofs.lemmas.Bool.{cases_Bool}
use Rattle.outside.proofs.Asking.{Passed-next, Passed-none}
use Rattle.laws_search.specs.Tree.{linked_from}
use Rattle.laws_levels.specs.Links.{to_left, walks_to}
use Rattle.laws_levels.proofs.Loops.{LeftWalk, left_circle, left_end, left_start, left_step, linked_step, linked_zero}
use Rattle.bt_pages.specs.Trees.{tree_seen}
use Rattle.bt_level_check.specs.Trees.{image_of}
use Rattle.bt_level_check.specs.Walked.{lefts_of}
use Rattle.bt_level_check.proofs.FirstPage.{left_used}
use Rattle.bt_level_check.proofs.first_page.first_page.Goals as goal

pub loop-steps-init : goal.loop-steps-init
loop-steps-init g c =
    let most = c.in_ok-next.ensures.asked.most in
    let none : 0 ≡ c.args.steps.now - c.args.steps.now = omega arith in
    record {
      fewer = omega arith;
      left = λ names told holds used.
          let tree = tree_seen names c.args.tree.now in
          let prev = c.in_ok-next.ensures.told names told used.inside in
          subst (λ i. LeftWalk (to_left (image_of tree)) c.args.entry tree.blocks i c.args.entry c.in_ok-next.next) none
          (subst (λ n. LeftWalk (to_left (image_of tree)) c.args.entry tree.blocks 0 c.args.entry n) (sym prev) (left_start (to_left (image_of tree)) c.args.entry tree.blocks));
      count = λ names told holds used.
          let tree = tree_seen names c.args.tree.now in
          let prev = c.in_ok-next.ensures.told names told used.inside in
          let all : tree.blocks - 0 ≡ tree.blocks = omega arith in
          subst (λ i. i + length (linked_from (to_left (image_of tree)) (tree.blocks - i) c.in_ok-next.next) ≡ length (lefts_of (image_of tree) c.args.entry)) none
          (let whole : length (linked_from (to_left (image_of tree)) (tree.blocks - 0) c.in_ok-next.next) ≡ length (lefts_of (image_of tree) c.args.entry) = λ k. length (linked_from (to_left (image_of tree)) (all k) (prev k)) in omega (arith, whole));
      used = λ names told holds used some.
          let tree = tree_seen names c.args.tree.now in
          let prev = c.in_ok-next.ensures.told names told used.inside in
          left_used tree holds.pages c.args.entry _ used prev some;
      taken = omega (arith, most);
      asked = Passed-next Passed-none c.in_ok-next.ensures.asked;
    }

pub left_of-requires-in-loop-steps : goal.left_of-requires-in-loop-steps
left_of-requires-in-loop-steps g c = record { attached = λ names told. c.requires.attached names (sym c.loop-steps.invariant.asked.same ∙ told) }

pub loop-steps-preserved : goal.loop-steps-preserved
loop-steps-preserved g c =
    let i = c.loop-steps.invariant in
    let most = c.in_ok-next-2.ensures.asked.most in
    let taken = i.taken in
    let fewer = i.fewer in
    let some = c.loop-steps-test.true in
    let few = c.requires.few in
    let made = c.args.steps.now - c.loop-steps.steps in
    let one : made + 1 ≡ c.args.steps.now - (c.loop-steps.steps - 1) = omega (arith, fewer, some) in
    record {
      fewer = omega (arith, fewer);
      left = λ names told holds used.
          let tree = tree_seen names c.args.tree.now in
          let here = i.used names told holds used c.if-next-eq0.false in
          let prev = c.in_ok-next-2.ensures.told names (i.asked.same ∙ told) here.inside in
          let lt : made < tree.blocks = omega (arith, fewer, some, few) in
          subst (λ k. LeftWalk (to_left (image_of tree)) c.args.entry tree.blocks k c.loop-steps.next c.in_ok-next-2.next) one
          (subst (λ n. LeftWalk (to_left (image_of tree)) c.args.entry tree.blocks (made + 1) c.loop-steps.next n) (sym prev)
          (left_step (to_left (image_of tree)) c.args.entry tree.blocks made c.loop-steps.block c.loop-steps.next lt c.if-next-eq0.false c.if-next-entry.false (i.left names told holds used)));
      count = λ names told holds used.
          let tree = tree_seen names c.args.tree.now in
          let here = i.used names told holds used c.if-next-eq0.false in
          let prev = c.in_ok-next-2.ensures.told names (i.asked.same ∙ told) here.inside in
          let n : tree.blocks - made ≡ suc (tree.blocks - (made + 1)) = omega (arith, fewer, some, few) in
          let next : linked_from (to_left (image_of tree)) (tree.blocks - made) c.loop-steps.next ≡ _ = ap (λ k. linked_from (to_left (image_of tree)) k c.loop-steps.next) n ∙ linked_step (to_left (image_of tree)) (tree.blocks - (made + 1)) c.loop-steps.next c.if-next-eq0.false in
          let long : length (linked_from (to_left (image_of tree)) (tree.blocks - made) c.loop-steps.next) ≡ suc (length (linked_from (to_left (image_of tree)) (tree.blocks - (made + 1)) c.in_ok-next-2.next)) = ap length next ∙ ap (λ q. suc (length (linked_from (to_left (image_of tree)) (tree.blocks - (made + 1)) q))) (sym prev) in
          let whole = i.count names told holds used in
          subst (λ k. k + length (linked_from (to_left (image_of tree)) (tree.blocks - k) c.in_ok-next-2.next) ≡ length (lefts_of (image_of tree) c.args.entry)) one (omega (arith, long, whole));
      used = λ names told holds used some.
          let tree = tree_seen names c.args.tree.now in
          let here = i.used names told holds used c.if-next-eq0.false in
          let prev = c.in_ok-next-2.ensures.told names (i.asked.same ∙ told) here.inside in
          left_used tree holds.pages c.loop-steps.next _ here prev some;
      taken = omega (arith, taken, most, some);
      asked = Passed-next i.asked c.in_ok-next-2.ensures.asked;
    }

pub returns-then-next-eq0-clause-told : goal.returns-then-next-eq0-clause-told
returns-then-next-eq0-clause-told g c names told holds used within =
    let tree = tree_seen names c.args.tree.now in
    left_end (to_left (image_of tree)) c.args.entry tree.blocks (c.args.steps.now - c.loop-steps.steps) c.loop-steps.block c.loop-steps.next c.if-next-eq0.true (c.loop-steps.invariant.left names told holds used)

-- the way has ended
pub returns-then-next-eq0-clause-steps : goal.returns-then-next-eq0-clause-steps
returns-then-next-eq0-clause-steps g c names told holds used b is =
    let tree = tree_seen names c.args.tree.now in
    let i = c.loop-steps.invariant in
    let made = c.args.steps.now - c.loop-steps.steps in
    let none = ap length (ap (linked_from (to_left (image_of tree)) (tree.blocks - made)) c.if-next-eq0.true ∙ linked_zero (to_left (image_of tree)) (tree.blocks - made)) in
    let whole = i.count names told holds used in
    let fewer = i.fewer in
    omega (arith, none, whole, fewer)

pub returns-then-next-entry-clause-told : goal.returns-then-next-entry-clause-told
returns-then-next-entry-clause-told g c names told holds used within =
    let tree = tree_seen names c.args.tree.now in
    let i = c.loop-steps.invariant in
    let fewer = i.fewer in
    let some = c.loop-steps-test.true in
    let few = c.requires.few in
    let made = c.args.steps.now - c.loop-steps.steps in
    let lt : made < tree.blocks = omega (arith, fewer, some, few) in
    left_circle (to_left (image_of tree)) c.args.entry tree.blocks made c.loop-steps.block c.loop-steps.next lt c.if-next-eq0.false c.if-next-entry.true (i.left names told holds used)

-- a way that doesn't end in so many steps is a circle
pub returns-clause-told : goal.returns-clause-told
returns-clause-told g c names told holds used within =
    let tree = tree_seen names c.args.tree.now in
    let i = c.loop-steps.invariant in
    let over = c.loop-steps-test.false in
    let whole = i.count names told holds used in
    elim (cases_Bool (walks_to (to_left (image_of tree)) c.args.entry tree.blocks (to_left (image_of tree) c.args.entry))) [
      | inl circle ↦ circle
      | inr ends ↦ let most = within ends in absurd (omega (arith, whole, over, most))
    ]
