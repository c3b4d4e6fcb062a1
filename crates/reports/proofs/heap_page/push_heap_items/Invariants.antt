use Rattle.std.proofs.Common.{◌≡◌, ◌++◌}
use Rattle.page_layout.specs.View.{page_bytes}
use Rattle.reports.specs.Show.{heap_items_text}
use Rattle.reports.proofs.heap_page.push_heap_items.Given as goal

-- the lines of the items so far stand after what was there
abbrev pub invariant-loop-k : goal.invariant-loop-k
invariant-loop-k l = l.text ≡ l.initial.text ++ heap_items_text (page_bytes l.page) l.k
