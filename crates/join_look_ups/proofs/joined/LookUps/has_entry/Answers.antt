use Rattle.std.proofs.Common.{◌≡◌, ◌∙◌, [], length, map, sym, ap, subst, arith}
use Rattle.std.proofs.lemmas.Bool.{eqb-true}
use Rattle.std.proofs.lemmas.List.{nil_from_length}
use Rattle.key_orders.specs.Values.{value_shown}
use Rattle.bt_levels.specs.Sound.{more_of, specs_of}
use Rattle.bt_search.specs.Lookups.{IsLookedUp}
use Rattle.join_look_ups.proofs.Spots.{told-bare, told-none, told-there}
use Rattle.join_look_ups.proofs.joined.LookUps.has_entry.Goals as goal

pub has_included-requires-clause-holds : goal.has_included-requires-clause-holds
has_included-requires-clause-holds g c = λ names told. c.requires.holds names (sym c.find.ensures.asked.same ∙ told)

pub returns-in_default-clause-found : goal.returns-in_default-clause-found
returns-in_default-clause-found g c = λ names told.
    let tree = c.args.tree.now in
    let key = c.args.row.key.now in
    let tid = c.args.row.place.root in
    let holds = c.requires.holds names told in
    sym (told-none names tree (c.keys_are_searchable.ensures.order (specs_of tree)) (c.sound_trees_are_searchable.ensures names tree holds) key (map value_shown c.args.row.more.now) tid
    (subst (IsLookedUp names tree key tid) c.in_default.is (c.in_ok-at.ensures.found names told)))

pub returns-then-is_empty-clause-found : goal.returns-then-is_empty-clause-found
returns-then-is_empty-clause-found g c = λ names told.
    let tree = c.args.tree.now in
    let key = c.args.row.key.now in
    let tid = c.args.row.place.root in
    let holds = c.requires.holds names told in
    let found = subst (IsLookedUp names tree key tid) c.in-Some.is (c.in_ok-at.ensures.found names told) in
    let none : more_of tree ≡ [] = sym c.more.ensures ∙ nil_from_length c.more.result.now (eqb-true _ _ (sym c.is_empty.ensures ∙ c.if-is_empty.true)) in
    let empty : c.args.row.more.now ≡ [] = nil_from_length c.args.row.more.now (omega (arith, c.requires.more, ap length none)) in
    sym (told-bare names tree (c.keys_are_searchable.ensures.order (specs_of tree)) (c.sound_trees_are_searchable.ensures names tree holds) key (map value_shown c.args.row.more.now) tid holds c.in-Some.at found none (ap (map value_shown) empty))

pub returns-clause-found : goal.returns-clause-found
returns-clause-found g c = λ names told.
    let tree = c.args.tree.now in
    let key = c.args.row.key.now in
    let tid = c.args.row.place.root in
    let holds = c.requires.holds names told in
    let found = subst (IsLookedUp names tree key tid) c.in-Some.is (c.in_ok-at.ensures.found names told) in
    c.in_ok-there.ensures.found names (c.find.ensures.asked.same ∙ told) key tid found
    ∙ sym (told-there names tree (c.keys_are_searchable.ensures.order (specs_of tree)) (c.sound_trees_are_searchable.ensures names tree holds) key (map value_shown c.args.row.more.now) tid c.in-Some.at found)
