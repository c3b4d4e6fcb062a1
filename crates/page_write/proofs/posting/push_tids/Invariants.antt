use Rattle.std.proofs.Common.{◌≡◌, ◌++◌, take}
use Rattle.page_write.specs.Posting.{list_bytes}
use Rattle.page_write.proofs.posting.push_tids.Given as goal

abbrev pub invariant-loop-tid : goal.invariant-loop-tid
invariant-loop-tid l = l.out.items ≡ l.initial.out.items ++ list_bytes (take l.tid-index l.tids)
