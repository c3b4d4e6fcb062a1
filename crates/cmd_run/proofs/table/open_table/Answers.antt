use Rattle.std.proofs.Common.{◌∙◌, sym}
use Rattle.cmd_run.proofs.table.open_table.Goals as goal

pub judge_table-requires-clause-told : goal.judge_table-requires-clause-told
judge_table-requires-clause-told g c names told = c.in-Ok.ensures.told names (sym c.in-Ok.ensures.asked.same ∙ told)
