use Rattle.std.proofs.Common.{◌≡◌, ◌+◌, ◌-◌, Some, true}
use Rattle.std.specs.List.{flat_map}
use Rattle.page_layout.specs.View.{page_bytes}
use Rattle.key_attrs.specs.Columns.{tree_columns}
use Rattle.reports.specs.Added.{each_upto, joined, report_lists}
use Rattle.bt_steps.specs.Pages.{IsReadable, is_live_leaf}
use Rattle.heap_targets.specs.Targets.{is_in}
use Rattle.join_distinct.specs.Items.{RisesTo}
use Rattle.bt_image.specs.Image.{entries_in, first_data, item_at, numbers_from}
use Rattle.join_meet.specs.Meeting.{HaveMet}
use Rattle.join_rules.specs.Lists.{item_lists}
use Rattle.join_leaf_pass.specs.Passes.{AreTargets}
use Rattle.join_leaf_pass.proofs.leaf.Named.judge_items.Given as goal

-- the entries of the items so far have met their rows, what is found of them is added, and their keys stand so
abbrev pub invariant-loop-i : goal.invariant-loop-i
invariant-loop-i l = record {
  met : IsReadable (tree_columns l.self.columns) (page_bytes l.page) → is_live_leaf (page_bytes l.page) ≡ true
      → HaveMet (flat_map (λ i. entries_in (item_at l.self.columns.specs.now l.self.columns.more.now (page_bytes l.page) i)) (numbers_from (first_data (page_bytes l.page)) (l.i + 1 - first_data (page_bytes l.page)))) l.initial.slots l.slots;
  lists : AreTargets (Some l.self.targets.now) l.initial.slots → IsReadable (tree_columns l.self.columns) (page_bytes l.page) → is_live_leaf (page_bytes l.page) ≡ true → l.report ≡ joined l.initial.report (each_upto report_lists (item_lists l.self.number (tree_columns l.self.columns) (is_in l.self.targets.now) l.block (page_bytes l.page)) l.i);
  rise : RisesTo (tree_columns l.self.columns) (page_bytes l.page) 0 l.initial.seen.rise → RisesTo (tree_columns l.self.columns) (page_bytes l.page) l.i l.seen.rise;
  apart : l.seen.apart ≡ l.initial.seen.apart;
}
