use Rattle.rel_build.proofs.Entries.{all_rise, each_once}
use Rattle.rel_build.proofs.laws.entries_are_in_order.Goals as goal

pub returns : goal.returns
returns c = record {
  each = λ key seed count. each_once key seed count;
  rise = λ key seed count. all_rise key seed count;
}
