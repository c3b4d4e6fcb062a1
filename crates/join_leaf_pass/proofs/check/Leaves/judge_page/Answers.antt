use Rattle.std.proofs.Common.{subst}
use Rattle.std.specs.Prelude.{OnOk}
use Rattle.page_layout.specs.Page.{count_of}
use Rattle.key_attrs.specs.Columns.{TreeColumns, tree_columns}
use Rattle.join_distinct.specs.Items.{RisesTo}
use Rattle.join_leaf_pass.proofs.check.Leaves.judge_page.Goals as goal

pub returns-clause-rise : goal.returns-clause-rise
returns-clause-rise c live laid_out =
    let page = c.args.page.now in
    subst (λ (t : TreeColumns). OnOk c.judge_page.result (RisesTo t page (count_of page) c.judge_page.new.seen.rise)) c.columns-2.ensures.lists
    (c.judge_page.ensures.rise (c.begin.ensures.rise (tree_columns c.columns-2.result) page) live laid_out)
