use Rattle.std.proofs.Common.{◌≡◌, ◌++◌, ◌≤◌, length}
use Rattle.outside.specs.Adds.{one_list}
use Rattle.outside.specs.Outside.{IfTold, Passed}
use Rattle.page_layout.specs.View.{page_bytes}
use Rattle.reports.specs.Added.{each_upto}
use Rattle.heap_page_check.specs.Found.{both_found, found_parts, item_found, item_state}
use Rattle.heap_page_check.specs.Storage.{AreCells}
use Rattle.heap_page_check.specs.Table.{chunks_seen, table_seen}
use Rattle.heap_page_check.proofs.items.judge_items.Given as goal

-- what is found of the items so far is added
abbrev pub invariant-loop-k : goal.invariant-loop-k
invariant-loop-k g l = record {
  found : IfTold g.F.Files.seen l.initial.files (λ names. l.work.found ≡ both_found l.initial.work.found (each_upto found_parts (item_found (table_seen names l.table) (chunks_seen l.table.toast) l.at.block (page_bytes l.at.view)) l.k));
  states : IfTold g.F.Files.seen l.initial.files (λ names. l.work.states.items ≡ l.initial.work.states.items ++ each_upto one_list (item_state (table_seen names l.table) (page_bytes l.at.view)) l.k);
  few : length l.work.states.items ≤ l.k;
  cells : AreCells (page_bytes l.at.view) l.k l.work.cells;
  asked : Passed g.F.Files.seen l.initial.files l.files;
}
