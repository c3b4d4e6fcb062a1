use Rattle.outside.proofs.Adding.{Adds-exit, Begins-none}
use Rattle.reports.specs.Added.{report_lists}
use Rattle.bt_pages.specs.Found.{block_lists}
use Rattle.bt_pages.specs.Trees.{tree_seen}
use Rattle.bt_levels.proofs.window.judge_block.Goals as goal

pub returns-in_err-read_block-clause-lists : goal.returns-in_err-read_block-clause-lists
returns-in_err-read_block-clause-lists g c names told =
    Adds-exit report_lists c.from_residual.result _ c.args.report.now c.args.report.now (block_lists (tree_seen names c.args.tree.now.rules) c.args.b) c.from_residual.ensures.1
    (Begins-none report_lists c.args.report.now (block_lists (tree_seen names c.args.tree.now.rules) c.args.b))
