use Rattle.toast_chunks.proofs.Placed.{content_here}
use Rattle.toast_chunks.proofs.stored.content_at.Goals as goal

pub returns-in-Some : goal.returns-in-Some
returns-in-Some c =
    content_here c.content_of.result c.args.page.now c.args.item c.in-Some.tuple.now c.in-Some.ensures.tuple c.in-Some.ensures.len c.content_of.ensures
