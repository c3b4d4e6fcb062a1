use Rattle.copy_out.proofs.Refusals.{answers_rows}
use Rattle.copy_out.proofs.read_texts.read_copy.Goals as goal

pub returns-clause-answers : goal.returns-clause-answers
returns-clause-answers c = answers_rows c.args.columns.now c.args.text.now c.read_rows.result c.read_rows.ensures.rows c.read_rows.ensures.fault
