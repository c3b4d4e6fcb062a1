use Rattle.std.proofs.Common.{◌≡◌}
use Rattle.reports.specs.Added.{each_upto, report_lists}
use Rattle.heap_page_check.specs.Found.{both_found, only_listed}
use Rattle.heap_page_check.specs.Pages.{chain_found}
use Rattle.heap_page_check.proofs.joint.add_chain_rules.Given as goal

-- what the items so far break is added
abbrev pub invariant-loop-k : goal.invariant-loop-k
invariant-loop-k l = l.found ≡ both_found l.initial.found (only_listed (each_upto report_lists (chain_found l.rel l.block l.items) l.k))
