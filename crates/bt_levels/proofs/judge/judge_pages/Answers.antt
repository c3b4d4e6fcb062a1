use Rattle.outside.proofs.Adding.{Adds-exit, Adds-then, Begins-cut}
use Rattle.rel_files.specs.Relation.{long_of}
use Rattle.reports.specs.Added.{report_lists}
use Rattle.bt_pages.specs.Trees.{tree_seen}
use Rattle.bt_levels.specs.Lists.{blocks_lists, pages_lists, segment_lists}
use Rattle.bt_levels.proofs.judge.judge_pages.Goals as goal

pub returns-in_err-add_segment-clause-lists : goal.returns-in_err-add_segment-clause-lists
unfolding pages_lists
returns-in_err-add_segment-clause-lists g c names told =
    Adds-exit report_lists c.from_residual.result _ c.args.report.now c.add_segment.new.report (pages_lists (tree_seen names c.args.tree.now) (long_of c.args.tree.now.relation.now)) c.from_residual.ensures.1
    (Begins-cut report_lists (blocks_lists (tree_seen names c.args.tree.now)) (rw c.long_segment.ensures at c.in_err-add_segment.ensures))

pub returns-clause-lists : goal.returns-clause-lists
unfolding pages_lists
returns-clause-lists g c names told =
    Adds-then report_lists c.judge_blocks.result c.args.report.now c.add_segment.new.report c.judge_blocks.new.report (segment_lists c.args.tree.now.number (long_of c.args.tree.now.relation.now)) (blocks_lists (tree_seen names c.args.tree.now))
    (rw c.long_segment.ensures at c.in_ok-add_segment.ensures) (c.judge_blocks.ensures.lists names told)
