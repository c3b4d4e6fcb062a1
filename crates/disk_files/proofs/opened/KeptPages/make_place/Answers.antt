-- A page without bytes at the table's end changes no page.
use Rattle.std.proofs.Common.{◌∙◌}
use Rattle.disk_files.proofs.Kept.{found-push}
use Rattle.disk_files.proofs.opened.KeptPages.make_place.Goals as goal

pub loop-self-preserved : goal.loop-self-preserved
loop-self-preserved c = λ other. rw c.in_ok-push.ensures.items (found-push _ _ _ other c.new.ensures.items ∙ c.loop-self.invariant other)
