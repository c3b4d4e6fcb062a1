use Rattle.std.proofs.Common.{refl}
use Rattle.page_write.specs.Pages.{zeros}
use Rattle.page_write.proofs.page.blank_page.Goals as goal

pub returns : goal.returns
unfolding zeros
returns c = refl
