use Rattle.std.proofs.Common.{◌∙◌, ap, subst, sym}
use Rattle.outside.specs.Adds.{Begins}
use Rattle.outside.proofs.Adding.{Adds-exit}
use Rattle.rel_files.specs.Relation.{IsRelationOf}
use Rattle.rel_files.specs.declared.relation.Relation.{Relation}
use Rattle.rel_files.specs.Refusals.{IsNamed, index_limit}
use Rattle.reports.specs.Added.{joined, report_lists}
use Rattle.reports.specs.Lists.{Lists}
use Rattle.bt_pages.specs.Broken.{AreEmpty}
use Rattle.bt_levels.specs.Files.{number_of}
use Rattle.bt_levels.specs.Index.{index_of, tree_lists}
use Rattle.bt_levels.proofs.Seen.{lists-seen}
use Rattle.bt_levels.proofs.check.judge_file.Goals as goal

pub returns-clause-quiet : goal.returns-clause-quiet
returns-clause-quiet g c names told =
    let case = c.args.case.now in
    let n = number_of c.args.at.now in
    let r = c.rules_of-tree.ensures in
    let relation = sym r.relation in
    let named = subst (λ (r : Relation). IsNamed (index_of case n).file case.segment_blocks r) relation c.requires.belong.named in
    let held = subst (λ (r : Relation). IsRelationOf names (index_of case n).file case.segment_blocks index_limit r) relation (c.requires.told names told) in
    let is = lists-seen case names n c.rules_of-tree.result r.number r.specs r.more named held in
    let quiet = c.in_ok-shape.ensures.quiet names told in
    (λ some. subst AreEmpty is (quiet.0 some), λ none. quiet.1 (subst AreEmpty (sym is) none))

pub returns-clause-lists : goal.returns-clause-lists
returns-clause-lists g c names told =
    let case = c.args.case.now in
    let n = number_of c.args.at.now in
    let r = c.rules_of-tree.ensures in
    let relation = sym r.relation in
    let named = subst (λ (r : Relation). IsNamed (index_of case n).file case.segment_blocks r) relation c.requires.belong.named in
    let held = subst (λ (r : Relation). IsRelationOf names (index_of case n).file case.segment_blocks index_limit r) relation (c.requires.told names told) in
    let is = lists-seen case names n c.rules_of-tree.result r.number r.specs r.more named held in
    c.in_ok-shape.ensures.lists names told ∙ ap (joined c.args.report.now) is

pub returns-in_err-shape-clause-lists : goal.returns-in_err-shape-clause-lists
returns-in_err-shape-clause-lists g c names told =
    let case = c.args.case.now in
    let n = number_of c.args.at.now in
    let r = c.rules_of-tree.ensures in
    let relation = sym r.relation in
    let named = subst (λ (r : Relation). IsNamed (index_of case n).file case.segment_blocks r) relation c.requires.belong.named in
    let held = subst (λ (r : Relation). IsRelationOf names (index_of case n).file case.segment_blocks index_limit r) relation (c.requires.told names told) in
    let is = lists-seen case names n c.rules_of-tree.result r.number r.specs r.more named held in
    Adds-exit report_lists c.from_residual.result _ c.args.report.now c.judge_index.new.report (tree_lists case names n) c.from_residual.ensures.1
    (subst (λ (l : Lists). Begins report_lists c.args.report.now c.judge_index.new.report l) is (c.in_err-shape.ensures.lists names told))
