use Rattle.std.proofs.Common.{arith}
use Rattle.page_layout.specs.View.{page_bytes}
use Rattle.bt_pages.proofs.Passing.{plain-each}
use Rattle.bt_pages.proofs.disorder.is_past.Goals as goal

pub is_past_high_key-requires-clause-plain : goal.is_past_high_key-requires-clause-plain
is_past_high_key-requires-clause-plain c =
    plain-each c.args.columns.now.specs.now c.args.columns.now.more.now (page_bytes c.args.page) 1 _ (omega arith) (omega (arith, c.requires.first, c.requires.last)) c.requires.plain
