use Rattle.std.specs.Option.{option_copied}
use Rattle.key_attrs.proofs.Keying.{told_none}
use Rattle.key_attrs.proofs.keyed.IndexTuple.new.Goals as goal

pub returns-clause-told : goal.returns-clause-told
returns-clause-told c types count = told_none types c.args.natts c.args.body.now (option_copied c.args.nulls) count
