use Rattle.std.proofs.Common.{◌-◌}
use Rattle.std.specs.Prelude.{slice_get}
use Rattle.join_rules.specs.Unique.{unique_of}
use Rattle.join_unique.proofs.NotUnique.{unique-there}
use Rattle.join_unique.proofs.check.unique_of.Goals as goal

pub returns : goal.returns
unfolding unique_of
returns c = unique-there (slice_get c.args.case.now.indexes (c.args.n - 1)) c.index_unique.result c.index_unique.ensures
