use Rattle.std.proofs.Common.{◌∙◌}
use Rattle.laws_levels.proofs.Walks.{first_walk}
use Rattle.laws_levels.proofs.Cursors.{first_read}
use Rattle.laws_levels.proofs.walks_find_the_first.Goals as goal

pub returns : goal.returns
returns g c = record {
  walk = λ same o x local. first_walk same o x local;
  read = λ same o x local. first_walk same o x local ∙ first_read same o x local;
}
