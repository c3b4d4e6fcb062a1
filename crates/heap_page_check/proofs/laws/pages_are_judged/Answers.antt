use Rattle.heap_page_check.proofs.Judged.{is_judged, is_silent}
use Rattle.heap_page_check.proofs.laws.pages_are_judged.Goals as goal

pub returns : goal.returns
returns c = record { judged = is_judged; silent = is_silent }
