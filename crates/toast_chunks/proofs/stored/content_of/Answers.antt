use Rattle.std.proofs.Common.{Bor, List, ℕ, None, subst}
use Rattle.std.specs.Prelude.{Option}
use Rattle.std.specs.Option.{option_copied}
use Rattle.heap_tuples.specs.Tuples.{IsRead, attributes_in}
use Rattle.toast_chunks.specs.Rows.{toast_columns}
use Rattle.toast_chunks.proofs.Placed.{nothing_read}
use Rattle.toast_chunks.proofs.stored.content_of.Goals as goal

pub returns-in-None : goal.returns-in-None
returns-in-None c = λ placed.
    nothing_read (attributes_in toast_columns c.args.tuple.now)
    (subst (λ (o : Option (Bor (List ℕ))). IsRead toast_columns c.args.tuple.now (option_copied o)) c.in-None.is (c.in_ok-body.ensures.read placed))
