use Rattle.std.proofs.Common.{◌∙◌, ◌*◌, ◌≤◌, ap, sym, arith}
use Rattle.outside.proofs.Asking.{AskedAtMost-more}
use Rattle.page_layout.specs.Page.{count_of}
use Rattle.page_layout.specs.View.{page_bytes}
use Rattle.reports.specs.Added.{joined, report_lists}
use Rattle.bt_meta.specs.Flags.{is_leaf}
use Rattle.bt_pages.specs.Trees.{tree_seen}
use Rattle.bt_pages.proofs.Counts.{few_items}
use Rattle.bt_pages.proofs.Lists.{items-ordered}
use Rattle.bt_pages.proofs.page.judge_items.Goals as goal

pub returns-in-Ordered-clause-lists : goal.returns-in-Ordered-clause-lists
returns-in-Ordered-clause-lists g c names told =
    let none = items-ordered (tree_seen names c.args.tree.now.rules) c.args.b (page_bytes c.args.page) (sym c.in-Ordered.is ∙ c.pass_of_items-pass.ensures) (sym (c.is_leaf.ensures ∙ ap is_leaf c.opaque.ensures) ∙ c.if-is_leaf.true) in
    sym (report_lists.with_none c.args.report.now) ∙ ap (joined c.args.report.now) (sym none)

pub returns-in_default-clause-asked : goal.returns-in_default-clause-asked
returns-in_default-clause-asked g c =
    let few : 2 * count_of (page_bytes c.args.page) ≤ 4076 = omega (arith, few_items (page_bytes c.args.page) c.requires.page) in
    AskedAtMost-more few c.judge_each.ensures.asked
