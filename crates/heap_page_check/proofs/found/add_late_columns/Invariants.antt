use Rattle.std.proofs.Common.{◌≡◌}
use Rattle.outside.specs.Adds.{each_below}
use Rattle.reports.specs.Added.{joined, report_lists}
use Rattle.varlena_attrs.specs.Shown.{shown_in}
use Rattle.heap_page_check.specs.Found.{late_at}
use Rattle.heap_page_check.specs.Table.{chunks_seen, toast_oid_seen}
use Rattle.heap_page_check.proofs.found.add_late_columns.Given as goal

-- what the columns so far give is added
abbrev pub invariant-loop-k : goal.invariant-loop-k
invariant-loop-k l = l.late ≡ joined l.initial.late (each_below report_lists (late_at (toast_oid_seen l.table.toast) (chunks_seen l.table.toast) l.tid.block l.tid.item (shown_in l.body l.places)) l.k)
