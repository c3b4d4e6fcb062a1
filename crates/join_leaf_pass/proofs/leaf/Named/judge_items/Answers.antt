use Rattle.std.proofs.Common.{◌≡◌, ◌∙◌, ◌+◌, ◌-◌, ◌≤◌, ℕ, List, Some, true, refl, subst, arith}
use Rattle.std.specs.List.{flat_map}
use Rattle.outside.proofs.Adding.{Adds-exit}
use Rattle.page_layout.specs.Page.{count_of}
use Rattle.page_layout.specs.View.{page_bytes}
use Rattle.key_attrs.specs.Columns.{TreeColumns, tree_columns}
use Rattle.bt_image.specs.Image.{entries_in, first_data, item_at, numbers_from}
use Rattle.bt_steps.specs.Entries.{IsRead}
use Rattle.bt_steps.specs.Pages.{IsReadable, is_live_leaf}
use Rattle.bt_steps.proofs.OnLeaf.{item-read, live-parts}
use Rattle.reports.specs.Added.{each_upto, joined, report_lists}
use Rattle.reports.proofs.Upto.{upto-cut, upto-next, upto-none}
use Rattle.heap_targets.specs.Targets.{is_in}
use Rattle.join_distinct.specs.Items.{RisesTo}
use Rattle.join_meet.specs.Meeting.{HaveMet}
use Rattle.join_rules.specs.Lists.{item_lists, items_lists}
use Rattle.join_leaf_pass.proofs.Passing.{items-next, items-none, targets-kept}
use Rattle.join_leaf_pass.proofs.leaf.Named.judge_items.Goals as goal

-- the items of a leaf that is judged can be read
read-at : (columns : TreeColumns) (page : List ℕ) (i : ℕ) → IsReadable columns page → is_live_leaf page ≡ true → i ≤ count_of page → first_data page ≤ i → IsRead columns page i
read-at columns page i readable leaf to from =
    let parts = live-parts page leaf in
    item-read columns page readable parts.0 parts.2 i from to

pub loop-i-init : goal.loop-i-init
loop-i-init c = record {
  met = λ readable leaf. items-none (tree_columns c.args.self.columns) (page_bytes c.args.page) c.args.slots.now;
  lists = λ targets readable leaf. upto-none report_lists (item_lists c.args.self.number (tree_columns c.args.self.columns) (is_in c.args.self.targets.now) c.args.block (page_bytes c.args.page)) c.args.report.now;
  rise = λ so. so;
  apart = refl;
}

pub loop-i-preserved : goal.loop-i-preserved
loop-i-preserved c =
    let page = page_bytes c.args.page in
    let columns = tree_columns c.args.self.columns in
    record {
      met = λ readable leaf.
          items-next columns page c.loop-i.i c.args.slots.now c.loop-i.slots c.judge_item.new.slots (c.loop-i.invariant.met readable leaf) c.in_ok-judge_item.ensures.before
          (λ from. c.in_ok-judge_item.ensures.met from (read-at columns page (c.loop-i.i + 1) readable leaf (omega arith) from));
      lists = λ targets readable leaf.
          let still = targets-kept (Some c.args.self.targets.now) _ c.args.slots.now c.loop-i.slots (c.loop-i.invariant.met readable leaf) targets in
          upto-next report_lists (item_lists c.args.self.number columns (is_in c.args.self.targets.now) c.args.block page) c.loop-i.i c.args.report.now c.loop-i.report c.judge_item.new.report (c.loop-i.invariant.lists targets readable leaf)
          (c.in_ok-judge_item.ensures.lists still (λ from. read-at columns page (c.loop-i.i + 1) readable leaf (omega arith) from));
      rise = λ so.
          let back : c.loop-i.i ≡ c.loop-i.i + 1 - 1 = omega arith in
          c.in_ok-judge_item.ensures.rise (subst (λ (k : ℕ). RisesTo columns page k c.loop-i.seen.rise) back (c.loop-i.invariant.rise so));
      apart = c.in_ok-judge_item.ensures.apart ∙ c.loop-i.invariant.apart;
    }

pub returns-in_err-judge_item-clause-lists : goal.returns-in_err-judge_item-clause-lists
unfolding items_lists
returns-in_err-judge_item-clause-lists c targets readable leaf =
    let page = page_bytes c.args.page in
    let still = targets-kept (Some c.args.self.targets.now) _ c.args.slots.now c.loop-i.slots (c.loop-i.invariant.met readable leaf) targets in
    let of = item_lists c.args.self.number (tree_columns c.args.self.columns) (is_in c.args.self.targets.now) c.args.block page in
    Adds-exit report_lists c.from_residual.result _ c.args.report.now c.judge_item.new.report (each_upto report_lists of (count_of page)) c.from_residual.ensures.1
    (upto-cut report_lists of c.loop-i.i (count_of page) c.args.report.now c.loop-i.report c.judge_item.new.report (omega arith) (c.loop-i.invariant.lists targets readable leaf)
    (c.in_err-judge_item.ensures.lists still (λ from. read-at (tree_columns c.args.self.columns) page (c.loop-i.i + 1) readable leaf (omega arith) from)))

pub returns-clause-met : goal.returns-clause-met
returns-clause-met c readable leaf =
    let page = page_bytes c.args.page in
    let columns = tree_columns c.args.self.columns in
    let whole : c.loop-i.i ≡ count_of page = omega arith in
    subst (λ (n : ℕ). HaveMet (flat_map (λ i. entries_in (item_at columns.specs columns.more page i)) (numbers_from (first_data page) (n + 1 - first_data page))) c.args.slots.now c.loop-i.slots) whole
    (c.loop-i.invariant.met readable leaf)

pub returns-clause-lists : goal.returns-clause-lists
unfolding items_lists
returns-clause-lists c targets readable leaf =
    let page = page_bytes c.args.page in
    let whole : c.loop-i.i ≡ count_of page = omega arith in
    subst (λ (n : ℕ). c.loop-i.report ≡ joined c.args.report.now (each_upto report_lists (item_lists c.args.self.number (tree_columns c.args.self.columns) (is_in c.args.self.targets.now) c.args.block page) n)) whole (c.loop-i.invariant.lists targets readable leaf)

pub returns-clause-rise : goal.returns-clause-rise
returns-clause-rise c so =
    let whole : c.loop-i.i ≡ count_of (page_bytes c.args.page) = omega arith in
    subst (λ (n : ℕ). RisesTo (tree_columns c.args.self.columns) (page_bytes c.args.page) n c.loop-i.seen.rise) whole (c.loop-i.invariant.rise so)
