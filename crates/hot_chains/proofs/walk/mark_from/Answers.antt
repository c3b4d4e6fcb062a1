use Rattle.std.proofs.Common.{◌≡◌, ◌≢◌, ℕ, inl, inr, ◌==◌, ◌-◌, List, length, subst}
use Rattle.std.proofs.lemmas.Bool.{cond-false, ne_eqb}
use Rattle.hot_chains.specs.declared.place.Place.{Place}
use Rattle.hot_chains.specs.Marks.{Walking}
use Rattle.hot_chains.specs.Table.{begins_in, next_in, place_or}
use Rattle.hot_chains.proofs.Marking.{walk_begins, walk_ends, walk_goes_on}
use Rattle.hot_chains.proofs.walk.mark_from.Goals as goal

pub loop-here-init : goal.loop-here-init
loop-here-init c = walk_begins _ _ _ _ _ c.requires.graph c.requires.marked c.requires.root

next_at : (places : List Place) (here : ℕ) → here ≢ 0 → next_in places here ≡ (place_or places (here - 1)).next
next_at places here some = cond-false (here == 0) 0 (place_or places (here - 1)).next (ne_eqb here 0 some)

pub loop-here-preserved : goal.loop-here-preserved
loop-here-preserved c =
    let P : ℕ → Type 0 = Walking (next_in c.args.places.now) (begins_in c.args.places.now) (length c.args.places.now) _ c.args.r in
    subst P (next_at c.args.places.now c.loop-here.here c.loop-here-test.true) (walk_goes_on _ _ _ _ _ _ c.requires.graph c.requires.root c.loop-here.invariant c.loop-here-test.true c.if-roots-here-eq0.true)

pub returns-else-roots-here-eq0 : goal.returns-else-roots-here-eq0
returns-else-roots-here-eq0 c = walk_ends _ _ _ _ _ _ c.requires.graph c.requires.root c.loop-here.invariant (inr c.if-roots-here-eq0.false)

pub returns-after-loop-here : goal.returns-after-loop-here
returns-after-loop-here c = walk_ends _ _ _ _ _ _ c.requires.graph c.requires.root c.loop-here.invariant (inl c.loop-here-test.false)
