use Rattle.std.proofs.Common.{◌≡◌}
use Rattle.page_layout.specs.View.{page_bytes}
use Rattle.reports.specs.Added.{each_upto, joined, report_lists}
use Rattle.heap_page_check.specs.Alone.{lone_item_found}
use Rattle.heap_page_check.proofs.alone.judge_lone_items.Given as goal

-- the findings of the items so far are added
abbrev pub invariant-loop-k : goal.invariant-loop-k
invariant-loop-k l = l.report ≡ joined l.initial.report (each_upto report_lists (lone_item_found l.block (page_bytes l.page)) l.k)
