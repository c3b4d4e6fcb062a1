use Rattle.std.proofs.Common.{arith}
use Rattle.join_row_entries.proofs.RootLaws.{fresh}
use Rattle.join_row_entries.proofs.roots.TakenRoots.new.Goals as goal

pub returns : goal.returns
returns c = λ t. fresh 0 2048 t (omega arith)
