use Rattle.std.proofs.Common.{◌≡◌, ◌∙◌, ap, subst}
use Rattle.outside.specs.Adds.{Begins}
use Rattle.outside.proofs.Adding.{Adds-exit, Begins-none}
use Rattle.reports.specs.Added.{joined, report_lists}
use Rattle.bt_pages.specs.Trees.{tree_seen}
use Rattle.bt_level_check.specs.Trees.{first_broken_in}
use Rattle.bt_levels.specs.Lists.{level_finding_lists, level_lists}
use Rattle.bt_levels.proofs.OnWay.{told_of}
use Rattle.bt_levels.proofs.judge.judge_levels.Goals as goal

pub returns-in_err-found-clause-lists : goal.returns-in_err-found-clause-lists
returns-in_err-found-clause-lists g c names told =
    Adds-exit report_lists c.from_residual.result _ c.args.report.now c.args.report.now (level_lists (tree_seen names c.args.tree.now)) c.from_residual.ensures.1
    (Begins-none report_lists c.args.report.now (level_lists (tree_seen names c.args.tree.now)))

pub returns-in_err-add_level_finding-clause-lists : goal.returns-in_err-add_level_finding-clause-lists
unfolding level_lists
returns-in_err-add_level_finding-clause-lists g c names told =
    Adds-exit report_lists c.from_residual-in_err-add_level_finding.result _ c.args.report.now c.add_level_finding.new.report (level_lists (tree_seen names c.args.tree.now)) c.from_residual-in_err-add_level_finding.ensures.1
    (subst (λ o. Begins report_lists c.args.report.now c.add_level_finding.new.report (level_finding_lists c.args.tree.now.number o)) (told_of (λ t. c.in_ok-found.found.finding ≡ first_broken_in t) names c.args.tree.now c.args.walk.now c.requires.walk.index (c.requires.pages names told) (c.requires.way names told) (c.in_ok-found.ensures.told names told)) c.in_err-add_level_finding.ensures)

pub returns-in-None-clause-lists : goal.returns-in-None-clause-lists
unfolding level_lists
returns-in-None-clause-lists g c names told =
    c.in_ok-add_level_finding.ensures ∙ ap (λ o. joined c.args.report.now (level_finding_lists c.args.tree.now.number o)) (told_of (λ t. c.in_ok-found.found.finding ≡ first_broken_in t) names c.args.tree.now c.args.walk.now c.requires.walk.index (c.requires.pages names told) (c.requires.way names told) (c.in_ok-found.ensures.told names told))

pub returns-in-Some-clause-lists : goal.returns-in-Some-clause-lists
unfolding level_lists
returns-in-Some-clause-lists g c names told =
    c.in_ok-add_level_finding.ensures ∙ ap (λ o. joined c.args.report.now (level_finding_lists c.args.tree.now.number o)) (told_of (λ t. c.in_ok-found.found.finding ≡ first_broken_in t) names c.args.tree.now c.args.walk.now c.requires.walk.index (c.requires.pages names told) (c.requires.way names told) (c.in_ok-found.ensures.told names told))
