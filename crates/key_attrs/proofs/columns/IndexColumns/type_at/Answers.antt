use Rattle.std.proofs.Common.{arith}
use Rattle.key_attrs.proofs.Keying.{count_of_types, key_aligned, more_aligned}
use Rattle.key_attrs.proofs.columns.IndexColumns.type_at.Goals as goal

pub returns-then-k-self-clause-known : goal.returns-then-k-self-clause-known
returns-then-k-self-clause-known c = key_aligned c.args.self.now.specs.now c.args.k _ c.if-k-self.true c.args.self.now.aligned

pub returns-else-k-self-clause-known : goal.returns-else-k-self-clause-known
returns-else-k-self-clause-known c = more_aligned c.args.self.now.more.now _ _ (omega (arith, c.requires, c.if-k-self.false, count_of_types c.args.self.now.specs.now c.args.self.now.more.now)) c.args.self.now.aligned_more
