use Rattle.std.proofs.Common.{◌∙◌, [], ℕ, arith, refl, subst, sym}
use Rattle.std.specs.Prelude.{Option}
use Rattle.outside.proofs.Asking.{Passed-next, Passed-none}
use Rattle.key_orders.specs.Scans.{order_of}
use Rattle.bt_levels.specs.Sound.{image_of, specs_of}
use Rattle.bt_steps.specs.Pages.{is_killed}
use Rattle.laws_search.specs.Search.{At}
use Rattle.bt_search.specs.Spots.{rest_at, rest_from, scan_on}
use Rattle.bt_search.proofs.Arriving.{nowhere-rest}
use Rattle.bt_scan_lines.specs.Leaves.{AddsLeaf}
use Rattle.bt_scan_lines.specs.Wanted.{wanted_on}
use Rattle.bt_scan_lines.proofs.Going.{leaves-all, leaves-as, leaves-none, leaves-then}
use Rattle.bt_scan_lines.proofs.Sorting.{wanted_is}
use Rattle.bt_scan_lines.proofs.forward.add_forward.Goals as goal

pub loop-spot-init : goal.loop-spot-init
loop-spot-init g c =
    let tree = c.args.tree.now in
    let bounds = c.args.scan.now in
    let limit = c.blocks-2.ensures in
    record {
      limit = omega (arith, limit, c.from-limit.ensures, c.descend.ensures.limit);
      stands = c.in_ok-spot.ensures.stands;
      few = λ names told.
          let made = c.in_ok-spot.ensures.visits names told in
          let most = c.descend.ensures.most names told in
          omega (arith, made, most, limit, c.from-limit.ensures);
      lines = λ names told.
          leaves-all (wanted_on names tree bounds) (rest_at names tree bounds c.in_ok-spot.spot) c.args.lines.now
          (sym (wanted_is (order_of (specs_of tree)) (c.keys_are_searchable.ensures.order (specs_of tree)) is_killed (image_of names tree) (scan_on tree bounds) (rest_at names tree bounds c.in_ok-spot.spot) (c.in_ok-spot.ensures.wanted names told)));
      asked = Passed-next Passed-none c.in_ok-spot.ensures.asked;
    }

pub arrive-requires-clause-holds : goal.arrive-requires-clause-holds
arrive-requires-clause-holds g c = λ names told. c.requires.holds names (sym c.loop-spot.invariant.asked.same ∙ told)

pub arrive-requires-clause-comes : goal.arrive-requires-clause-comes
arrive-requires-clause-comes g c = λ names there.
    let inv = c.loop-spot.invariant in
    let told = sym inv.asked.same ∙ there in
    let tree = c.args.tree.now in
    let bounds = c.args.scan.now in
    (subst (λ (o : Option ℕ). AddsLeaf names tree bounds c.loop-spot.spot o c.loop-spot.lines c.add_leaf.new.lines) c.in-Some.is
    (c.in_ok-add_leaf.ensures names (c.requires.holds names told) c.loop-spot-test.true (inv.stands names told))).comes

pub arrive-requires-clause-enough : goal.arrive-requires-clause-enough
arrive-requires-clause-enough g c = λ names there.
    let inv = c.loop-spot.invariant in
    let told = sym inv.asked.same ∙ there in
    let tree = c.args.tree.now in
    let bounds = c.args.scan.now in
    let added = subst (λ (o : Option ℕ). AddsLeaf names tree bounds c.loop-spot.spot o c.loop-spot.lines c.add_leaf.new.lines) c.in-Some.is
    (c.in_ok-add_leaf.ensures names (c.requires.holds names told) c.loop-spot-test.true (inv.stands names told)) in
    let few = inv.few names told in
    let on = added.left in
    omega (arith, few, on)

pub loop-spot-preserved : goal.loop-spot-preserved
loop-spot-preserved g c =
    let tree = c.args.tree.now in
    let bounds = c.args.scan.now in
    let inv = c.loop-spot.invariant in
    let came = c.in_ok-spot-in-Some.ensures in
    let next = c.in-Some.next in
    record {
      limit = c.arrive.ensures.limit;
      stands = λ names told. came.stands names (inv.asked.same ∙ told);
      few = λ names told.
          let added = subst (λ (o : Option ℕ). AddsLeaf names tree bounds c.loop-spot.spot o c.loop-spot.lines c.add_leaf.new.lines) c.in-Some.is
          (c.in_ok-add_leaf.ensures names (c.requires.holds names told) c.loop-spot-test.true (inv.stands names told)) in
          let few = inv.few names told in
          let on = added.left in
          let went = (came.goes names (inv.asked.same ∙ told)).left in
          omega (arith, few, on, went);
      lines = λ names told.
          let added = subst (λ (o : Option ℕ). AddsLeaf names tree bounds c.loop-spot.spot o c.loop-spot.lines c.add_leaf.new.lines) c.in-Some.is
          (c.in_ok-add_leaf.ensures names (c.requires.holds names told) c.loop-spot-test.true (inv.stands names told)) in
          leaves-as (wanted_on names tree bounds) (rest_from names tree bounds (At next [])) _ c.args.lines.now c.add_leaf.new.lines (came.goes names (inv.asked.same ∙ told)).rest
          (leaves-then (wanted_on names tree bounds) (rest_at names tree bounds c.loop-spot.spot) (rest_from names tree bounds (At next [])) c.args.lines.now c.loop-spot.lines c.add_leaf.new.lines (inv.lines names told) added.lines);
      asked = Passed-next inv.asked came.asked;
    }

pub returns-in-None-clause-lines : goal.returns-in-None-clause-lines
returns-in-None-clause-lines g c = λ names told.
    let tree = c.args.tree.now in
    let bounds = c.args.scan.now in
    let inv = c.loop-spot.invariant in
    let added = subst (λ (o : Option ℕ). AddsLeaf names tree bounds c.loop-spot.spot o c.loop-spot.lines c.add_leaf.new.lines) c.in-None.is
    (c.in_ok-add_leaf.ensures names (c.requires.holds names told) c.loop-spot-test.true (inv.stands names told)) in
    leaves-none (wanted_on names tree bounds) [] c.args.lines.now c.add_leaf.new.lines
    (leaves-then (wanted_on names tree bounds) (rest_at names tree bounds c.loop-spot.spot) [] c.args.lines.now c.loop-spot.lines c.add_leaf.new.lines (inv.lines names told) added)
    refl

pub returns-clause-lines : goal.returns-clause-lines
returns-clause-lines g c = λ names told.
    let tree = c.args.tree.now in
    let bounds = c.args.scan.now in
    let none = nowhere-rest names tree bounds c.loop-spot.spot c.loop-spot-test.false in
    leaves-none (wanted_on names tree bounds) (rest_at names tree bounds c.loop-spot.spot) c.args.lines.now c.loop-spot.lines (c.loop-spot.invariant.lines names told) none
