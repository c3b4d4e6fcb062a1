use Rattle.std.proofs.Common.{◌∙◌, ap, sym, subst}
use Rattle.std.specs.Prelude.{IfSome}
use Rattle.std.proofs.lemmas.Bool.{both_ways}
use Rattle.outside.specs.Adds.{Begins}
use Rattle.outside.proofs.Adding.{Adds-exit, Begins-cut, Begins-then}
use Rattle.rel_files.specs.Relation.{long_of}
use Rattle.reports.specs.Added.{joined, report_lists}
use Rattle.reports.specs.Lists.{Lists}
use Rattle.bt_pages.specs.Broken.{AreEmpty}
use Rattle.bt_pages.specs.Trees.{tree_seen}
use Rattle.bt_levels.specs.OnWay.{IsOnWay}
use Rattle.bt_levels.specs.Lists.{index_lists, is_quiet, level_lists, lists_where, pages_lists}
use Rattle.bt_levels.proofs.LevelLaws.{index_empty, level_nothing, levels_empty, loud, no_level, nothing_added, pages_empty, quiet_index, same_counts}
use Rattle.bt_levels.proofs.ListedLaws.{pages-kept, quiet}
use Rattle.bt_levels.proofs.judge.judge_index.Goals as goal

pub returns-in_err-walk-clause-lists : goal.returns-in_err-walk-clause-lists
unfolding index_lists
returns-in_err-walk-clause-lists g c names told =
    let tree = tree_seen names c.args.tree.now in
    let long = long_of c.args.tree.now.relation.now in
    Adds-exit report_lists c.from_residual.result _ c.args.report.now c.judge_pages.new.report (index_lists tree long) c.from_residual.ensures.1
    (Begins-cut report_lists (lists_where (is_quiet (pages_lists tree long)) (level_lists tree)) (c.in_err-walk.ensures.lists names told))

pub returns-in_default-clause-lists : goal.returns-in_default-clause-lists
returns-in_default-clause-lists g c names told =
    let tree = tree_seen names c.args.tree.now in
    let long = long_of c.args.tree.now.relation.now in
    c.in_ok-walk.ensures.lists names told
    ∙ ap (joined c.args.report.now) (sym (loud tree long (λ e. both_ways _ (c.in_ok-walk.ensures.none names told c.in_default.is) (quiet tree long e))))

pub returns-in_default-clause-quiet : goal.returns-in_default-clause-quiet
returns-in_default-clause-quiet g c names told =
    let tree = tree_seen names c.args.tree.now in
    let long = long_of c.args.tree.now.relation.now in
    (λ e. absurd cc, λ e. absurd (both_ways _ (c.in_ok-walk.ensures.none names told c.in_default.is) (quiet tree long (pages_empty tree long e))))

pub returns-then-not-is_as_before-clause-lists : goal.returns-then-not-is_as_before-clause-lists
returns-then-not-is_as_before-clause-lists g c names told =
    let tree = tree_seen names c.args.tree.now in
    let long = long_of c.args.tree.now.relation.now in
    let added = c.in_ok-walk.ensures.lists names told in
    let before = c.counts-before.ensures in
    let some : AreEmpty (pages_lists tree long) → ⊥ = λ e.
    let same = same_counts c.args.report.now (pages_lists tree long) c.judge_pages.new.report added e in
    both_ways _ c.if-not-is_as_before.true (c.is_as_before.ensures.1 (same.0 ∙ sym (ap (λ q. q.0) before), same.1 ∙ sym (ap (λ q. q.1) before))) in
    added ∙ ap (joined c.args.report.now) (sym (loud tree long some))

pub returns-then-not-is_as_before-clause-quiet : goal.returns-then-not-is_as_before-clause-quiet
returns-then-not-is_as_before-clause-quiet g c names told =
    let tree = tree_seen names c.args.tree.now in
    let long = long_of c.args.tree.now.relation.now in
    let added = c.in_ok-walk.ensures.lists names told in
    let before = c.counts-before.ensures in
    let some : AreEmpty (pages_lists tree long) → ⊥ = λ e.
    let same = same_counts c.args.report.now (pages_lists tree long) c.judge_pages.new.report added e in
    both_ways _ c.if-not-is_as_before.true (c.is_as_before.ensures.1 (same.0 ∙ sym (ap (λ q. q.0) before), same.1 ∙ sym (ap (λ q. q.1) before))) in
    (λ e. absurd cc, λ e. absurd (some (pages_empty tree long e)))

pub judge_levels-requires-clause-pages : goal.judge_levels-requires-clause-pages
judge_levels-requires-clause-pages g c names told =
    let tree = tree_seen names c.args.tree.now in
    let long = long_of c.args.tree.now.relation.now in
    let held = sym c.in_ok-walk.ensures.asked.same ∙ told in
    let before = c.counts-before.ensures in
    let same = c.is_as_before.ensures.0 c.if-not-is_as_before.false in
    record {
      attached = c.requires.attached names held;
      pages = pages-kept tree long (nothing_added c.args.report.now (pages_lists tree long) c.judge_pages.new.report (c.in_ok-walk.ensures.lists names held) (same.0 ∙ ap (λ q. q.0) before) (same.1 ∙ ap (λ q. q.1) before));
    }

pub judge_levels-requires-clause-way : goal.judge_levels-requires-clause-way
judge_levels-requires-clause-way g c names told =
    subst (λ o. IfSome o (IsOnWay names c.args.tree.now)) c.in-Some.is (c.in_ok-walk.ensures.way names (sym c.in_ok-walk.ensures.asked.same ∙ told))

pub returns-in_err-shape-clause-lists : goal.returns-in_err-shape-clause-lists
returns-in_err-shape-clause-lists g c names told =
    let tree = tree_seen names c.args.tree.now in
    let long = long_of c.args.tree.now.relation.now in
    let before = c.counts-before.ensures in
    let same = c.is_as_before.ensures.0 c.if-not-is_as_before.false in
    let added = c.in_ok-walk.ensures.lists names told in
    let e = nothing_added c.args.report.now (pages_lists tree long) c.judge_pages.new.report added (same.0 ∙ ap (λ q. q.0) before) (same.1 ∙ ap (λ q. q.1) before) in
    Adds-exit report_lists c.from_residual-in_err-shape.result _ c.args.report.now c.judge_levels.new.report (index_lists tree long) c.from_residual-in_err-shape.ensures.1
    (subst (λ (l : Lists). Begins report_lists c.args.report.now c.judge_levels.new.report l) (sym (quiet_index tree long e))
    (Begins-then report_lists c.args.report.now c.judge_pages.new.report c.judge_levels.new.report (pages_lists tree long) (level_lists tree) added
    (c.in_err-shape.ensures.lists names (c.in_ok-walk.ensures.asked.same ∙ told))))

pub returns-clause-lists : goal.returns-clause-lists
returns-clause-lists g c names told =
    let tree = tree_seen names c.args.tree.now in
    let long = long_of c.args.tree.now.relation.now in
    let before = c.counts-before.ensures in
    let same = c.is_as_before.ensures.0 c.if-not-is_as_before.false in
    let added = c.in_ok-walk.ensures.lists names told in
    let e = nothing_added c.args.report.now (pages_lists tree long) c.judge_pages.new.report added (same.0 ∙ ap (λ q. q.0) before) (same.1 ∙ ap (λ q. q.1) before) in
    c.in_ok-shape.ensures.lists names (c.in_ok-walk.ensures.asked.same ∙ told)
    ∙ ap (λ (l : Lists). joined l (level_lists tree)) added
    ∙ report_lists.in_turn c.args.report.now (pages_lists tree long) (level_lists tree)
    ∙ ap (joined c.args.report.now) (sym (quiet_index tree long e))

pub returns-clause-quiet : goal.returns-clause-quiet
returns-clause-quiet g c names told =
    let tree = tree_seen names c.args.tree.now in
    let long = long_of c.args.tree.now.relation.now in
    let before = c.counts-before.ensures in
    let same = c.is_as_before.ensures.0 c.if-not-is_as_before.false in
    let added = c.in_ok-walk.ensures.lists names told in
    let e = nothing_added c.args.report.now (pages_lists tree long) c.judge_pages.new.report added (same.0 ∙ ap (λ q. q.0) before) (same.1 ∙ ap (λ q. q.1) before) in
    let levels = c.in_ok-shape.ensures.quiet names (c.in_ok-walk.ensures.asked.same ∙ told) in
    (λ some. index_empty tree long e (level_nothing tree long (levels.0 some)), λ none. levels.1 (no_level tree long (levels_empty tree long none)))
