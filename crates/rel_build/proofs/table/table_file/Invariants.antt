use Rattle.std.proofs.Common.{◌≡◌}
use Rattle.outside.specs.Adds.{each_below, one_list}
use Rattle.rel_build.specs.Rows.{table_page}
use Rattle.rel_build.proofs.table.table_file.Given as goal

abbrev pub invariant-loop-k : goal.invariant-loop-k
invariant-loop-k l = l.file.items ≡ each_below one_list (table_page l.rows) l.k
