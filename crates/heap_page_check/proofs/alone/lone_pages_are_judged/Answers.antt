use Rattle.heap_page_check.proofs.AloneLaws.{lone_page_certain, lone_page_listed, lone_page_sound}
use Rattle.heap_page_check.proofs.alone.lone_pages_are_judged.Goals as goal

pub returns : goal.returns
returns c = record { sound = lone_page_sound; certain = lone_page_certain; listed = lone_page_listed }
