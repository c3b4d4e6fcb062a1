use Rattle.std.proofs.Common.{◌≡◌, ◌∙◌, ap, sym, subst}
use Rattle.std.specs.Prelude.{IfSome, Option}
use Rattle.reports.specs.Added.{joined}
use Rattle.reports.specs.Lists.{Lists}
use Rattle.bt_levels.specs.Files.{number_of}
use Rattle.bt_levels.specs.Index.{tree_lists}
use Rattle.bt_levels.specs.Sound.{IsSoundIndexOf}
use Rattle.bt_levels.specs.declared.sound.SoundTree.{SoundTree}
use Rattle.cmd_run.specs.Tables.{IsTreeOf}
use Rattle.cmd_run.proofs.ScanLaws.{reported_where_found, shown_where_quiet, told_onward}
use Rattle.cmd_run.proofs.TogetherLaws.{tree-judged}
use Rattle.cmd_run.proofs.scan.entries_or_report.Goals as goal

pub returns-in-None-clause-output : goal.returns-in-None-clause-output
returns-in-None-clause-output g c = λ names told.
    let case = c.args.case.now in
    let n = number_of c.args.at in
    let judged : IsTreeOf case names n c.in_ok-tree.tree = tree-judged g.F.Files.seen c.args.files.now case names told n c.in_ok-tree.tree (c.in_ok-tree.ensures.quiet names told) c.in_ok-tree.ensures.told c.in_ok-tree.ensures.holds in
    let tree = subst (IsTreeOf case names n) c.in-None.is judged in
    let found = c.in_ok-tree.ensures.lists names told ∙ ap (λ (l : Lists). joined l (tree_lists case names n)) c.new-report.ensures in
    c.in_ok-report_output-in-None.ensures ∙ reported_where_found case names c.args.at c.args.asked.0.now c.args.asked.1 tree _ found

pub tree_entries_output-requires-clause-holds : goal.tree_entries_output-requires-clause-holds
tree_entries_output-requires-clause-holds g c names told =
    let case = c.args.case.now in
    let n = number_of c.args.at in
    let before = sym c.in_ok-tree.ensures.asked.same ∙ told in
    let judged : IsTreeOf case names n c.in_ok-tree.tree = tree-judged g.F.Files.seen c.args.files.now case names before n c.in_ok-tree.tree (c.in_ok-tree.ensures.quiet names before) c.in_ok-tree.ensures.told c.in_ok-tree.ensures.holds in
    let tree = subst (IsTreeOf case names n) c.in-Some.is judged in
    tree.held

pub returns-clause-output : goal.returns-clause-output
returns-clause-output g c =
    let case = c.args.case.now in
    let n = number_of c.args.at in
    let belong = subst (λ (tree : Option SoundTree). IfSome tree (IsSoundIndexOf case n)) c.in-Some.is c.in_ok-tree.ensures.sound in
    told_onward _ _ c.tree_entries_output.result
    (λ o holds names told.
    let judged : IsTreeOf case names n c.in_ok-tree.tree = tree-judged g.F.Files.seen c.args.files.now case names told n c.in_ok-tree.tree (c.in_ok-tree.ensures.quiet names told) c.in_ok-tree.ensures.told c.in_ok-tree.ensures.holds in
    let tree = subst (IsTreeOf case names n) c.in-Some.is judged in
    holds names (c.in_ok-tree.ensures.asked.same ∙ told) ∙ shown_where_quiet case names c.args.at c.args.asked.0.now c.args.asked.1 c.in-Some.tree tree belong)
    c.tree_entries_output.ensures.output
