use Rattle.std.proofs.Common.{refl}
use Rattle.laws_levels.proofs.Descent.{block_passed, block_found}
use Rattle.laws_levels.proofs.blocks_are_asked.Goals as goal

pub returns : goal.returns
returns g c = record {
  begin = λ x stands. refl;
  passed = λ x stands b le none inside. block_passed x stands b le none inside;
  found = λ x stands b n le lt none outside. block_found x stands b n le lt none outside;
}
