use Rattle.std.proofs.Common.{ℕ, List}
use Rattle.std.specs.Prelude.{All}
use Rattle.bt_pages.specs.Seen.{PlaceIsOf}
use Rattle.bt_pages.proofs.glances.Glances.new.Given as goal

-- no place so far has a block
abbrev pub invariant-loop : goal.invariant-loop
invariant-loop l = record {
  none : (block : ℕ → List ℕ) → All (PlaceIsOf block) l.places.items;
}
