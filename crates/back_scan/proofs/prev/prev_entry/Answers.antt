use Rattle.std.proofs.Common.{◌≡◌, ◌∙◌, List, ℕ, ap, arith, refl, subst, sym}
use Rattle.std.specs.Prelude.{Some}
use Rattle.bt_levels.specs.Sound.{held_block, index_columns}
use Rattle.bt_search.specs.Entries.{IsEntryAt, entry_on}
use Rattle.back_scan.specs.Spots.{StandsAt, rest_at}
use Rattle.back_scan.proofs.Arriving.{left_at-most, nowhere-rest}
use Rattle.back_scan.proofs.prev.prev_entry.Goals as goal

pub returns-clause-next : goal.returns-clause-next
returns-clause-next g c = λ names told.
    let tree = c.args.tree.now in
    let bounds = c.args.scan.now in
    let holds = c.requires.holds names told in
    let none = nowhere-rest names tree bounds holds (c.back_searches_go_in_steps.ensures names tree bounds holds) c.loop-spot.spot c.loop-spot-test.false in
    (◌∙◌ {a = rest_at names tree bounds c.args.spot.now} (c.loop-spot.invariant.rest names told) none, none)

pub go_left-requires-clause-holds : goal.go_left-requires-clause-holds
go_left-requires-clause-holds g c = λ names told. c.requires.holds names (sym c.loop-spot.invariant.asked.same ∙ told)

pub go_left-requires-clause-enough : goal.go_left-requires-clause-enough
go_left-requires-clause-enough g c = λ names there.
    let tree = c.args.tree.now in
    let bounds = c.args.scan.now in
    let inv = c.loop-spot.invariant in
    let told = sym inv.asked.same ∙ there in
    let stands = subst (λ (p : List ℕ). StandsAt names tree bounds c.loop-spot.spot p) (sym c.new.ensures) (inv.stands names told) in
    let left = c.in-Left.ensures.told names (c.requires.holds names told) c.loop-spot-test.true stands in
    let holds = c.requires.holds names told in
    let most = left_at-most names tree bounds holds (c.back_searches_go_in_steps.ensures names tree bounds holds) c.args.spot.now in
    let so_far = inv.left names told in
    let on = left.left in
    omega (arith, most, so_far, on, c.blocks-2.ensures, c.from.ensures)

pub returns-in-Entry-clause-stands : goal.returns-in-Entry-clause-stands
returns-in-Entry-clause-stands g c = λ names told.
    let tree = c.args.tree.now in
    let bounds = c.args.scan.now in
    let stands = subst (λ (p : List ℕ). StandsAt names tree bounds c.loop-spot.spot p) (sym c.new.ensures) (c.loop-spot.invariant.stands names told) in
    let yields = c.in-Entry.ensures.told names (c.requires.holds names told) c.loop-spot-test.true stands in
    subst (λ (p : List ℕ). StandsAt names tree bounds c.read_leaf.new.spot p) c.new.ensures yields.stands

pub returns-in-Entry-clause-entry : goal.returns-in-Entry-clause-entry
returns-in-Entry-clause-entry g c =
    subst (λ (p : List ℕ). IsEntryAt (index_columns c.args.tree.now) p c.in-Entry.at) c.new.ensures (c.in-Entry.ensures.entry c.in-Entry.at refl).1

pub returns-in-Entry-clause-next : goal.returns-in-Entry-clause-next
returns-in-Entry-clause-next g c = λ names told.
    let tree = c.args.tree.now in
    let bounds = c.args.scan.now in
    let inv = c.loop-spot.invariant in
    let at = c.in-Entry.at in
    let standing = inv.stands names told in
    let stands = subst (λ (p : List ℕ). StandsAt names tree bounds c.loop-spot.spot p) (sym c.new.ensures) standing in
    let yields = c.in-Entry.ensures.told names (c.requires.holds names told) c.loop-spot-test.true stands in
    let there = c.in-Entry.ensures.entry at refl in
    record {
      entry = yields.entry;
      read = subst (λ (p : List ℕ). IsEntryAt (index_columns tree) p at) c.new.ensures there.1;
      is = subst (λ (p : List ℕ). entry_on (index_columns tree) p at ≡ Some yields.entry) c.new.ensures yields.is;
      in_hand = standing.in_hand c.loop-spot-test.true ∙ ap (held_block names tree) (sym there.0);
      first = inv.rest names told ∙ yields.rest;
    }
