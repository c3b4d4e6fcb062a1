use Rattle.std.proofs.Common.{◌∙◌, [], ℕ, ap, arith, refl, reverse, subst, sym}
use Rattle.std.specs.Prelude.{Option}
use Rattle.outside.proofs.Asking.{Passed-next, Passed-none}
use Rattle.key_orders.specs.Scans.{order_of}
use Rattle.bt_levels.specs.Sound.{image_of, specs_of}
use Rattle.bt_steps.specs.Pages.{is_killed}
use Rattle.laws_search.specs.Back.{Reads}
use Rattle.laws_search.specs.Search.{search_start}
use Rattle.bt_search.specs.Spots as forward
use Rattle.back_scan.specs.Spots.{rest_at, rest_from}
use Rattle.back_scan.proofs.Arriving.{nowhere-rest}
use Rattle.bt_scan_lines.specs.Leaves.{AddsLeafBack}
use Rattle.bt_scan_lines.specs.Wanted.{wanted_on}
use Rattle.bt_scan_lines.proofs.Going.{leaves-all, leaves-as, leaves-none, leaves-then}
use Rattle.bt_scan_lines.proofs.Sorting.{wanted_is}
use Rattle.bt_scan_lines.proofs.backward.add_backward.Goals as goal

pub loop-spot-init : goal.loop-spot-init
loop-spot-init g c =
    let tree = c.args.tree.now in
    let bounds = c.args.scan.now in
    let limit = c.blocks-2.ensures in
    record {
      limit = omega (arith, limit, c.from-limit.ensures, c.descend_last.ensures.limit);
      stands = c.in_ok-spot.ensures.stands;
      few = λ names told.
          let made = c.in_ok-spot.ensures.visits names told in
          let most = c.descend_last.ensures.most names told in
          omega (arith, made, most, limit, c.from-limit.ensures);
      lines = λ names told.
          let steps = c.searches_go_in_steps.ensures names tree bounds (c.requires.holds names told) in
          let all = forward.rest_from names tree bounds (search_start (image_of names tree)) in
          let wanted = steps.wanted in
          leaves-all (reverse (wanted_on names tree bounds)) (rest_at names tree bounds c.in_ok-spot.spot) c.args.lines.now
          (c.in_ok-spot.ensures.wanted names told all wanted
          ∙ sym (ap reverse (wanted_is (order_of (specs_of tree)) (c.keys_are_searchable.ensures.order (specs_of tree)) is_killed (image_of names tree) (forward.scan_on tree bounds) all wanted)));
      asked = Passed-next Passed-none c.in_ok-spot.ensures.asked;
    }

pub go_left-requires-clause-holds : goal.go_left-requires-clause-holds
go_left-requires-clause-holds g c = λ names told. c.requires.holds names (sym c.loop-spot.invariant.asked.same ∙ told)

pub go_left-requires-clause-comes : goal.go_left-requires-clause-comes
go_left-requires-clause-comes g c = λ names there.
    let inv = c.loop-spot.invariant in
    let told = sym inv.asked.same ∙ there in
    let tree = c.args.tree.now in
    let bounds = c.args.scan.now in
    (subst (λ (o : Option ℕ). AddsLeafBack names tree bounds c.loop-spot.spot o c.loop-spot.lines c.add_leaf.new.lines) c.in-Some.is
    (c.in_ok-add_leaf.ensures names (c.requires.holds names told) c.loop-spot-test.true (inv.stands names told))).comes

pub go_left-requires-clause-enough : goal.go_left-requires-clause-enough
go_left-requires-clause-enough g c = λ names there.
    let inv = c.loop-spot.invariant in
    let told = sym inv.asked.same ∙ there in
    let tree = c.args.tree.now in
    let bounds = c.args.scan.now in
    let added = subst (λ (o : Option ℕ). AddsLeafBack names tree bounds c.loop-spot.spot o c.loop-spot.lines c.add_leaf.new.lines) c.in-Some.is
    (c.in_ok-add_leaf.ensures names (c.requires.holds names told) c.loop-spot-test.true (inv.stands names told)) in
    let few = inv.few names told in
    let on = added.left in
    omega (arith, few, on)

pub loop-spot-preserved : goal.loop-spot-preserved
loop-spot-preserved g c =
    let tree = c.args.tree.now in
    let bounds = c.args.scan.now in
    let inv = c.loop-spot.invariant in
    let came = c.in_ok-spot-in-Some.ensures in
    let next = c.in-Some.prev in
    record {
      limit = c.go_left.ensures.limit;
      stands = λ names told. came.stands names (inv.asked.same ∙ told);
      few = λ names told.
          let added = subst (λ (o : Option ℕ). AddsLeafBack names tree bounds c.loop-spot.spot o c.loop-spot.lines c.add_leaf.new.lines) c.in-Some.is
          (c.in_ok-add_leaf.ensures names (c.requires.holds names told) c.loop-spot-test.true (inv.stands names told)) in
          let few = inv.few names told in
          let on = added.left in
          let went = (came.goes names (inv.asked.same ∙ told)).left in
          omega (arith, few, on, went);
      lines = λ names told.
          let added = subst (λ (o : Option ℕ). AddsLeafBack names tree bounds c.loop-spot.spot o c.loop-spot.lines c.add_leaf.new.lines) c.in-Some.is
          (c.in_ok-add_leaf.ensures names (c.requires.holds names told) c.loop-spot-test.true (inv.stands names told)) in
          leaves-as (reverse (wanted_on names tree bounds)) (rest_from names tree bounds (Reads next [])) _ c.args.lines.now c.add_leaf.new.lines (came.goes names (inv.asked.same ∙ told)).rest
          (leaves-then (reverse (wanted_on names tree bounds)) (rest_at names tree bounds c.loop-spot.spot) (rest_from names tree bounds (Reads next [])) c.args.lines.now c.loop-spot.lines c.add_leaf.new.lines (inv.lines names told) added.lines);
      asked = Passed-next inv.asked came.asked;
    }

pub returns-in-None-clause-lines : goal.returns-in-None-clause-lines
returns-in-None-clause-lines g c = λ names told.
    let tree = c.args.tree.now in
    let bounds = c.args.scan.now in
    let inv = c.loop-spot.invariant in
    let added = subst (λ (o : Option ℕ). AddsLeafBack names tree bounds c.loop-spot.spot o c.loop-spot.lines c.add_leaf.new.lines) c.in-None.is
    (c.in_ok-add_leaf.ensures names (c.requires.holds names told) c.loop-spot-test.true (inv.stands names told)) in
    leaves-none (reverse (wanted_on names tree bounds)) [] c.args.lines.now c.add_leaf.new.lines
    (leaves-then (reverse (wanted_on names tree bounds)) (rest_at names tree bounds c.loop-spot.spot) [] c.args.lines.now c.loop-spot.lines c.add_leaf.new.lines (inv.lines names told) added)
    refl

pub returns-clause-lines : goal.returns-clause-lines
returns-clause-lines g c = λ names told.
    let tree = c.args.tree.now in
    let bounds = c.args.scan.now in
    let holds = c.requires.holds names told in
    let none = nowhere-rest names tree bounds holds (c.back_searches_go_in_steps.ensures names tree bounds holds) c.loop-spot.spot c.loop-spot-test.false in
    leaves-none (reverse (wanted_on names tree bounds)) (rest_at names tree bounds c.loop-spot.spot) c.args.lines.now c.loop-spot.lines (c.loop-spot.invariant.lines names told) none
