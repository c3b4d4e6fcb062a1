use Rattle.laws_search.proofs.Whole.{finds}
use Rattle.laws_search.proofs.Unique.{finds_only}
use Rattle.laws_search.proofs.Backward.{finds_back}
use Rattle.laws_search.proofs.Probe.{finds_leaf}
use Rattle.laws_search.proofs.Spots.{reads_in_steps}
use Rattle.laws_search.proofs.Tiles.{level_tiles}
use Rattle.laws_search.proofs.search_finds.Goals as goal

pub returns : goal.returns
returns g c = record {
  all = λ o x laws quiet. finds o x laws quiet;
  only = λ o x laws quiet. finds_only o laws x quiet;
  back = λ o x laws quiet. finds_back o x laws quiet;
  leaf = λ o x laws quiet root. finds_leaf o x laws quiet root;
  steps = λ x. reads_in_steps x;
  tiles = λ o x quiet root n le. level_tiles o x quiet root n le;
}
