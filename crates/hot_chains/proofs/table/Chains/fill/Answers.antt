use Rattle.std.proofs.Common.{◌≡◌, ℕ, ◌+◌, List, length, subst, sym, ◌∙◌, arith}
use Rattle.std.proofs.lemmas.List.{with_items_is}
use Rattle.hot_chains.specs.declared.place.Place.{Place}
use Rattle.hot_chains.specs.Marks.{IsGraph}
use Rattle.hot_chains.specs.Table.{AreMarked, begins_in, next_in}
use Rattle.hot_chains.proofs.Places.{chains_are_right, places_are_graph}
use Rattle.hot_chains.proofs.table.Chains.fill.Goals as goal

pub find_roots-requires-clause-graph : goal.find_roots-requires-clause-graph
find_roots-requires-clause-graph c =
    let long : length c.find_places.new.places ≡ c.make_room.new.self.places.len = omega (arith, c.find_places.auto.places, c.deref_mut-2.ensures.len) in
    let P : List Place → Type 0 = λ places. IsGraph (next_in places) (begins_in places) (length places) in
    subst P (sym (c.deref.ensures.value ∙ with_items_is c.make_room.new.self.places c.find_places.new.places long)) (places_are_graph c.args.block c.args.items.now c.find_places.new.places c.find_places.ensures)

pub returns-clause-ok : goal.returns-clause-ok
returns-clause-ok c =
    let long : length c.find_places.new.places ≡ c.make_room.new.self.places.len = omega (arith, c.find_places.auto.places, c.deref_mut-2.ensures.len) in
    let places = with_items_is c.make_room.new.self.places c.find_places.new.places long in
    let marks = with_items_is c.make_room.new.self.roots c.find_roots.new.roots (omega (arith, c.find_roots.auto.roots, c.deref_mut-3.ensures.len)) in
    let P : List Place → Type 0 = λ l. AreMarked l c.find_roots.new.roots (length l + 1) in
    let full = subst P (c.deref.ensures.value ∙ places) c.find_roots.ensures in
    let Q : List ℕ → Type 0 = λ m. AreMarked c.find_places.new.places m (length c.find_places.new.places + 1) in
    chains_are_right c.args.block c.args.items.now c.find_places.new.places c.find_places.ensures _ places (subst Q (sym marks) full)
