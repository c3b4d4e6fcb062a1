use Rattle.page_layout.specs.View.{page_bytes}
use Rattle.join_meet.proofs.meet.meet_item.Goals as goal

pub returns-in-Some : goal.returns-in-Some
returns-in-Some c = λ read. c.meet_entry.ensures.met (page_bytes c.args.page) c.args.i c.in-Some.ensures.0 c.in-Some.ensures.1 read
