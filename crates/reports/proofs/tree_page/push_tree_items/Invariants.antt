use Rattle.std.proofs.Common.{◌≡◌, ◌++◌}
use Rattle.page_layout.specs.View.{page_bytes}
use Rattle.reports.specs.Show.{tree_items_text}
use Rattle.reports.proofs.tree_page.push_tree_items.Given as goal

-- the lines of the items so far stand after what was there
abbrev pub invariant-loop-k : goal.invariant-loop-k
invariant-loop-k l = l.text ≡ l.initial.text ++ tree_items_text (page_bytes l.page) l.k
