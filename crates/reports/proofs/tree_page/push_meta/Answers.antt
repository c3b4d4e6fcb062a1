use Rattle.std.proofs.Common.{rules, append_assoc}
use Rattle.reports.specs.Show.{meta_line}
use Rattle.reports.proofs.tree_page.push_meta.Goals as goal

-- the pieces one after the other
pub returns : goal.returns
unfolding meta_line
returns c = search (rules, append_assoc)
