use Rattle.hot_chains.specs.Table.{ArePlaces, AreTaken}
use Rattle.hot_chains.proofs.judge.find_places.Given as goal

abbrev pub invariant-loop-k : goal.invariant-loop-k
invariant-loop-k l = record {
  taken : AreTaken l.block l.items l.taken l.k;
  places : ArePlaces l.block l.items l.places l.k;
}
