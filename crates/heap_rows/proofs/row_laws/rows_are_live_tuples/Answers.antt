use Rattle.heap_rows.proofs.RowLaws.{rows_exact, rows_live, rows_rise}
use Rattle.heap_rows.proofs.row_laws.rows_are_live_tuples.Goals as goal

pub returns : goal.returns
returns c = record {
  live = rows_live;
  rise = rows_rise;
  exact = λ case names sound quiet. rows_exact case names quiet sound;
}
