use Rattle.heap_table_check.proofs.TrueLaws.{case_is_judged, case_is_true}
use Rattle.heap_table_check.proofs.laws.heaps_are_judged.Goals as goal

pub returns-clause-judged : goal.returns-clause-judged
returns-clause-judged g case names = case_is_judged case names

pub returns-clause-quiet : goal.returns-clause-quiet
returns-clause-quiet g case names quiet = case_is_true case names quiet
