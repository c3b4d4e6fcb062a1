use Rattle.std.proofs.Common.{◌∙◌, ◌≤◌, ap, arith, subst, sym}
use Rattle.std.proofs.lemmas.Bool.{OnTrue_at}
use Rattle.outside.specs.Adds.{AddsIn}
use Rattle.page_layout.specs.View.{page_bytes}
use Rattle.bt_image.specs.Image.{first_data}
use Rattle.reports.specs.Added.{joined, report_lists}
use Rattle.reports.specs.Lists.{Lists}
use Rattle.heap_targets.specs.Targets.{is_in}
use Rattle.key_attrs.specs.Columns.{tree_columns}
use Rattle.join_distinct.proofs.Steps.{rises-past}
use Rattle.join_leaf_pass.proofs.Lists.{high-key, known-tid, plain-gives}
use Rattle.join_leaf_pass.proofs.leaf.Named.judge_item.Goals as goal

pub returns-then-at-first_data-clause-met : goal.returns-then-at-first_data-clause-met
returns-then-at-first_data-clause-met c from = absurd (omega (arith, from, c.if-at-first_data.true, c.first_data.ensures))

pub returns-then-at-first_data-clause-lists : goal.returns-then-at-first_data-clause-lists
returns-then-at-first_data-clause-lists c targets read =
    let self = c.args.self in
    sym (report_lists.with_none c.args.report.now)
    ∙ ap (joined c.args.report.now) (sym (high-key self.number (tree_columns self.columns) (is_in self.targets.now) c.args.at.block (page_bytes c.args.page) c.args.at.item (omega (arith, c.if-at-first_data.true, c.first_data.ensures))))

pub returns-then-at-first_data-clause-rise : goal.returns-then-at-first_data-clause-rise
returns-then-at-first_data-clause-rise c =
    rises-past (tree_columns c.args.self.columns) (page_bytes c.args.page) c.args.at.item c.args.seen.now.rise (omega (arith, c.if-at-first_data.true, c.first_data.ensures))

-- it met its row by its number
pub returns-then-meet_entry-clause-met : goal.returns-then-meet_entry-clause-met
returns-then-meet_entry-clause-met c from read =
    c.meet_entry.ensures.met (page_bytes c.args.page) c.args.at.item c.in-Some.ensures.0 c.in-Some.ensures.1 read

pub returns-then-meet_entry-clause-lists : goal.returns-then-meet_entry-clause-lists
returns-then-meet_entry-clause-lists c targets read =
    let self = c.args.self in
    let page = page_bytes c.args.page in
    let from : first_data page ≤ c.args.at.item = omega (arith, c.if-at-first_data.false, c.first_data.ensures) in
    let entry = c.in-Some.entry in
    let is = plain-gives self.number (tree_columns self.columns) (is_in self.targets.now) c.args.at.block page c.args.at.item entry.tid entry.body.now from (read from) c.in-Some.ensures.0 in
    let known = targets entry.tid (OnTrue_at c.if-meet_entry.true c.meet_entry.ensures.kept) in
    sym (report_lists.with_none c.args.report.now)
    ∙ ap (joined c.args.report.now) (sym (is ∙ known-tid self.number (is_in self.targets.now) c.args.at.block c.args.at.item entry.tid known))

pub returns-then-meet_entry-clause-rise : goal.returns-then-meet_entry-clause-rise
returns-then-meet_entry-clause-rise c = c.add.ensures (page_bytes c.args.page) c.args.at.item c.in-Some.entry.tid c.in-Some.ensures.0 (omega (arith, c.if-at-first_data.false, c.first_data.ensures))

-- it is one entry, and didn't
pub returns-in-Some-clause-met : goal.returns-in-Some-clause-met
returns-in-Some-clause-met c from read =
    c.meet_entry.ensures.met (page_bytes c.args.page) c.args.at.item c.in-Some.ensures.0 c.in-Some.ensures.1 read

pub returns-in-Some-clause-lists : goal.returns-in-Some-clause-lists
returns-in-Some-clause-lists c targets read =
    let self = c.args.self in
    let page = page_bytes c.args.page in
    let from : first_data page ≤ c.args.at.item = omega (arith, c.if-at-first_data.false, c.first_data.ensures) in
    let entry = c.in-Some.entry in
    let is = plain-gives self.number (tree_columns self.columns) (is_in self.targets.now) c.args.at.block page c.args.at.item entry.tid entry.body.now from (read from) c.in-Some.ensures.0 in
    subst (λ (l : Lists). AddsIn report_lists c.judge_tid.result c.args.report.now c.judge_tid.new.report l) (sym is) c.judge_tid.ensures

pub returns-in-Some-clause-rise : goal.returns-in-Some-clause-rise
returns-in-Some-clause-rise c = c.add.ensures (page_bytes c.args.page) c.args.at.item c.in-Some.entry.tid c.in-Some.ensures.0 (omega (arith, c.if-at-first_data.false, c.first_data.ensures))

-- it is of another form
pub returns-clause-met : goal.returns-clause-met
returns-clause-met c from read = c.judge_any_item.ensures.met read

pub returns-clause-lists : goal.returns-clause-lists
returns-clause-lists c targets read = c.judge_any_item.ensures.lists (read (omega (arith, c.if-at-first_data.false, c.first_data.ensures)))
