use Rattle.hot_chains.proofs.Taken.{taken_none}
use Rattle.hot_chains.proofs.Places.{places_none, places_next}
use Rattle.hot_chains.proofs.judge.find_places.Goals as goal

pub loop-k-init : goal.loop-k-init
loop-k-init c = record {
  taken = taken_none _ _ _ c.requires.blank;
  places = places_none _ _ _ c.requires.room;
}

pub loop-k-preserved : goal.loop-k-preserved
loop-k-preserved c = record {
  taken = c.find_place.ensures.taken;
  places = places_next _ _ _ _ _ c.loop-k-test.true c.loop-k.invariant.places c.find_place.ensures.place;
}
