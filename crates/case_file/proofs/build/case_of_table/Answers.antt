use Rattle.std.proofs.Common.{refl}
use Rattle.toml.specs.View.{table_view}
use Rattle.case_file.specs.Case.{record_of}
use Rattle.case_file.proofs.Soundness.{sound_record}
use Rattle.case_file.proofs.build.case_of_table.Goals as goal

pub returns : goal.returns
unfolding record_of
returns c = rw (
  c.segment_blocks_of.ensures,
  c.cluster_of.ensures,
  c.in_ok-string_in.ensures,
  c.in_ok-string_in-2.ensures,
  c.in_ok-string_in-3.ensures,
  c.in_ok-string_in-4.ensures,
  c.in_ok-toast_of.ensures,
  c.in_ok-columns.ensures,
  c.in_ok-indexes_of.ensures,
  c.table_at-cluster.ensures,
  c.table_at-heap.ensures,
  c.tables_at-column_tables.ensures,
  c.tables_at.ensures,
) refl

pub invariant_of-result : goal.invariant_of-result
unfolding record_of
invariant_of-result c = (
  rw (
    c.segment_blocks_of.ensures,
    c.cluster_of.ensures,
    c.in_ok-string_in.ensures,
    c.in_ok-string_in-2.ensures,
    c.in_ok-string_in-3.ensures,
    c.in_ok-string_in-4.ensures,
    c.in_ok-toast_of.ensures,
    c.in_ok-columns.ensures,
    c.in_ok-indexes_of.ensures,
    c.table_at-cluster.ensures,
    c.table_at-heap.ensures,
    c.tables_at-column_tables.ensures,
    c.tables_at.ensures,
  ) (sound_record (table_view c.args.top.now) c.requires),
  rw c.deref.ensures.value at c.in_ok-types_of.ensures,
)
