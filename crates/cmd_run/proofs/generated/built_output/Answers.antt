use Rattle.cmd_run.proofs.GeneratedLaws.{are_held, told_of_built}
use Rattle.cmd_run.proofs.generated.built_output.Goals as goal

pub returns-clause-output : goal.returns-clause-output
returns-clause-output c =
    let law = c.built_files_are_held.ensures in
    told_of_built c.whole_output.result c.args.files.now c.args.case.now
    (λ seed rows few. are_held seed rows (law.table seed rows) (law.by_id seed rows) (law.by_group seed rows) (law.table_blocks seed rows few) (law.index_blocks _ seed rows few) (law.index_blocks _ seed rows few))
    c.whole_output.ensures.output
