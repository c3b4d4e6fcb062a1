use Rattle.heap_table_check.proofs.check.judge_files.Goals as goal

-- what is told through the reference is told of the caller's files
pub judge_in_turn-requires-clause-told : goal.judge_in_turn-requires-clause-told
judge_in_turn-requires-clause-told g c names told = c.requires.told names (rw c.new-files.ensures.files at told)
