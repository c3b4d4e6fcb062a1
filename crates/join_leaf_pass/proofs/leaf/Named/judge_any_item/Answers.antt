use Rattle.std.proofs.Common.{◌∙◌, [], ◌∷◌, ap, subst, sym}
use Rattle.outside.specs.Adds.{AddsIn}
use Rattle.page_layout.specs.View.{page_bytes}
use Rattle.key_attrs.specs.Columns.{tree_columns}
use Rattle.bt_image.proofs.Rises.{IsGood}
use Rattle.bt_tuples.specs.declared.items.TreeItem.{TreeItem}
use Rattle.bt_tuples.specs.Shown.{item_shown}
use Rattle.bt_steps.proofs.Items.{item-good, item-unread, keys-are}
use Rattle.reports.specs.Added.{report_lists}
use Rattle.reports.specs.Lists.{Lists}
use Rattle.heap_targets.specs.Targets.{is_in}
use Rattle.join_meet.proofs.PlainKeys.{read-item-met}
use Rattle.join_leaf_pass.proofs.Lists.{data-item, list-tids, one-tid, tids-of, tids_in}
use Rattle.join_leaf_pass.proofs.leaf.Named.judge_any_item.Goals as goal

-- one entry
pub returns-in-Plain-clause-met : goal.returns-in-Plain-clause-met
returns-in-Plain-clause-met c read =
    read-item-met (tree_columns c.args.self.columns) (page_bytes c.args.page) c.args.at.item (item_shown c.in-Ok.item) c.args.slots.now c.meet_read_item.new.slots c.in-Ok.ensures.outcome c.meet_read_item.ensures

pub returns-in-Plain-clause-lists : goal.returns-in-Plain-clause-lists
returns-in-Plain-clause-lists c read =
    let self = c.args.self in
    let page = page_bytes c.args.page in
    let item = item_shown c.in-Ok.item in
    let tid = c.in-Plain.tid in
    let tids = tids-of (tree_columns self.columns) page c.args.at.item item (keys-are (tree_columns self.columns) page c.args.at.item item c.in-Ok.ensures.outcome) ∙ ap (λ (it : TreeItem). tids_in (item_shown it)) c.in-Plain.is in
    let is = data-item self.number (tree_columns self.columns) (is_in self.targets.now) c.args.at.block page c.args.at.item c.requires.from (tid ∷ []) tids in
    subst (λ (l : Lists). AddsIn report_lists c.judge_tid.result c.args.report.now c.judge_tid.new.report l)
    (sym (is ∙ one-tid self.number (is_in self.targets.now) c.args.at.block c.args.at.item tid)) c.judge_tid.ensures

-- a list
pub returns-in-Posting-clause-met : goal.returns-in-Posting-clause-met
returns-in-Posting-clause-met c read =
    read-item-met (tree_columns c.args.self.columns) (page_bytes c.args.page) c.args.at.item (item_shown c.in-Ok.item) c.args.slots.now c.meet_read_item.new.slots c.in-Ok.ensures.outcome c.meet_read_item.ensures

pub returns-in-Posting-clause-lists : goal.returns-in-Posting-clause-lists
returns-in-Posting-clause-lists c read =
    let self = c.args.self in
    let page = page_bytes c.args.page in
    let item = item_shown c.in-Ok.item in
    let list = c.in-Posting in
    let tids = tids-of (tree_columns self.columns) page c.args.at.item item (keys-are (tree_columns self.columns) page c.args.at.item item c.in-Ok.ensures.outcome) ∙ ap (λ (it : TreeItem). tids_in (item_shown it)) list.is ∙ list-tids list.key list.tids list.killed in
    let is = data-item self.number (tree_columns self.columns) (is_in self.targets.now) c.args.at.block page c.args.at.item c.requires.from list.tids tids in
    subst (λ (l : Lists). AddsIn report_lists c.judge_list.result c.args.report.now c.judge_list.new.report l) (sym is) c.judge_list.ensures

-- a leaf has no separators among its data items
pub returns-in-Pivot-clause-met : goal.returns-in-Pivot-clause-met
returns-in-Pivot-clause-met c read =
    read-item-met (tree_columns c.args.self.columns) (page_bytes c.args.page) c.args.at.item (item_shown c.in-Ok.item) c.args.slots.now c.meet_read_item.new.slots c.in-Ok.ensures.outcome c.meet_read_item.ensures

pub returns-in-Pivot-clause-lists : goal.returns-in-Pivot-clause-lists
returns-in-Pivot-clause-lists c read =
    absurd (subst (λ (it : TreeItem). IsGood (item_shown it)) c.in-Pivot.is
    (item-good (tree_columns c.args.self.columns) (page_bytes c.args.page) c.args.at.item (item_shown c.in-Ok.item) c.in-Ok.ensures.outcome))

-- each is read
pub returns-in_default-clause-met : goal.returns-in_default-clause-met
returns-in_default-clause-met c read =
    absurd (item-unread (tree_columns c.args.self.columns) (page_bytes c.args.page) c.args.at.item c.in_default.field-0 c.in_default.ensures.outcome read)

pub returns-in_default-clause-lists : goal.returns-in_default-clause-lists
returns-in_default-clause-lists c read =
    absurd (item-unread (tree_columns c.args.self.columns) (page_bytes c.args.page) c.args.at.item c.in_default.field-0 c.in_default.ensures.outcome read)
