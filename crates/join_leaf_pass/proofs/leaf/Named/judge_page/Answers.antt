use Rattle.std.proofs.Common.{◌≡◌, ◌∙◌, ℕ, List, [], Some, true, false, ap, subst, sym}
use Rattle.std.specs.Prelude.{OnOk, is_some}
use Rattle.std.proofs.lemmas.Result.{on_ok_weaker}
use Rattle.outside.specs.Adds.{AddsIn}
use Rattle.page_layout.specs.Page.{count_of, page_rule_of}
use Rattle.page_layout.specs.declared.page.PageKind.TheVariants.{Tree}
use Rattle.page_layout.specs.View.{page_bytes}
use Rattle.key_attrs.specs.Columns.{tree_columns}
use Rattle.bt_image.specs.Image.{page_entries}
use Rattle.bt_steps.specs.Pages.{IsReadable, is_live_leaf}
use Rattle.reports.specs.Added.{joined, report_lists}
use Rattle.reports.specs.Lists.{Lists}
use Rattle.heap_targets.specs.Targets.{is_in}
use Rattle.join_distinct.specs.Items.{RisesTo}
use Rattle.join_distinct.specs.declared.rising.Rise.{Rise}
use Rattle.join_slots.specs.Slots.{Tables}
use Rattle.join_meet.specs.Meeting.{HaveMet, leaf_entries}
use Rattle.join_meet.proofs.Meets.{a-leaf as of-leaf, no-leaf as no-entries, none, same}
use Rattle.join_rules.specs.Lists.{items_lists}
use Rattle.join_leaf_pass.specs.Passes.{AreTargets}
use Rattle.join_leaf_pass.proofs.Lists.{a-leaf, no-leaf}
use Rattle.join_leaf_pass.proofs.leaf.Named.judge_page.Goals as goal
use Rattle.join_leaf_pass.proofs.leaf.Named.judge_page.Goals.{then-not-is_live_leaf-via-then-not-is_live_leaf, then-not-is_live_leaf-via-else-not-is_live_leaf+then-is_some}

pub returns-then-not-is_live_leaf-clause-met : goal.returns-then-not-is_live_leaf-clause-met
returns-then-not-is_live_leaf-clause-met c readable =
    let columns = tree_columns c.args.self.columns in
    let page = c.args.page.now in
    let told = sym (c.is_live_leaf.ensures ∙ ap is_live_leaf c.new-page.ensures) in
    elim c.then-not-is_live_leaf.branch [
      | then-not-is_live_leaf-via-then-not-is_live_leaf w ↦
          same [] (leaf_entries columns page) c.args.slots.now c.args.slots.now (sym (no-entries columns page (told ∙ w.if-not-is_live_leaf.true))) (none c.args.slots.now)
      | then-not-is_live_leaf-via-else-not-is_live_leaf+then-is_some w ↦
          let laid_out = (readable (told ∙ w.if-not-is_live_leaf.false)).laid_out in
          let rule = w.page_rule.ensures.value ∙ ap (page_rule_of Tree) c.new-page.ensures ∙ laid_out in
          absurd (let clash : true ≡ false = sym w.if-is_some.true ∙ w.is_some.ensures ∙ ap is_some rule in cc)
    ]

pub returns-then-not-is_live_leaf-clause-lists : goal.returns-then-not-is_live_leaf-clause-lists
returns-then-not-is_live_leaf-clause-lists c targets readable =
    let self = c.args.self in
    let page = c.args.page.now in
    let told = sym (c.is_live_leaf.ensures ∙ ap is_live_leaf c.new-page.ensures) in
    elim c.then-not-is_live_leaf.branch [
      | then-not-is_live_leaf-via-then-not-is_live_leaf w ↦
          sym (report_lists.with_none c.args.report.now)
          ∙ ap (joined c.args.report.now) (sym (no-leaf self.number (tree_columns self.columns) (is_in self.targets.now) c.args.block page (told ∙ w.if-not-is_live_leaf.true)))
      | then-not-is_live_leaf-via-else-not-is_live_leaf+then-is_some w ↦
          let laid_out = (readable (told ∙ w.if-not-is_live_leaf.false)).laid_out in
          let rule = w.page_rule.ensures.value ∙ ap (page_rule_of Tree) c.new-page.ensures ∙ laid_out in
          absurd (let clash : true ≡ false = sym w.if-is_some.true ∙ w.is_some.ensures ∙ ap is_some rule in cc)
    ]

pub returns-then-not-is_live_leaf-clause-rise : goal.returns-then-not-is_live_leaf-clause-rise
returns-then-not-is_live_leaf-clause-rise c so live laid_out =
    let told = sym (c.is_live_leaf.ensures ∙ ap is_live_leaf c.new-page.ensures) in
    elim c.then-not-is_live_leaf.branch [
      | then-not-is_live_leaf-via-then-not-is_live_leaf w ↦ absurd (let clash : true ≡ false = sym live ∙ told ∙ w.if-not-is_live_leaf.true in cc)
      | then-not-is_live_leaf-via-else-not-is_live_leaf+then-is_some w ↦
          let rule = w.page_rule.ensures.value ∙ ap (page_rule_of Tree) c.new-page.ensures ∙ laid_out in
          absurd (let clash : true ≡ false = sym w.if-is_some.true ∙ w.is_some.ensures ∙ ap is_some rule in cc)
    ]

pub returns-clause-met : goal.returns-clause-met
returns-clause-met c =
    let columns = tree_columns c.args.self.columns in
    let page = c.args.page.now in
    let new = c.judge_items.new.slots in
    let live = sym (c.is_live_leaf.ensures ∙ ap is_live_leaf c.new-page.ensures) ∙ c.if-not-is_live_leaf.false in
    on_ok_weaker c.judge_items.result
    (λ met readable.
    same (page_entries columns.specs columns.more page) (leaf_entries columns page) c.args.slots.now new (sym (of-leaf columns page live))
    (subst (λ (p : List ℕ). IsReadable columns p → is_live_leaf p ≡ true → HaveMet (page_entries columns.specs columns.more p) c.args.slots.now new) c.new-page.ensures
    (subst (λ (t : Tables). IsReadable columns (page_bytes c.new-page.result) → is_live_leaf (page_bytes c.new-page.result) ≡ true → HaveMet (page_entries columns.specs columns.more (page_bytes c.new-page.result)) t new) c.look_ahead.ensures.slots met) (readable live) live))
    c.judge_items.ensures.met

pub returns-clause-lists : goal.returns-clause-lists
returns-clause-lists c targets readable =
    let self = c.args.self in
    let page = c.args.page.now in
    let may = is_in self.targets.now in
    let live = sym (c.is_live_leaf.ensures ∙ ap is_live_leaf c.new-page.ensures) ∙ c.if-not-is_live_leaf.false in
    let still : AreTargets (Some self.targets.now) c.look_ahead.new.slots = subst (λ (t : Tables). AreTargets (Some self.targets.now) t) (sym c.look_ahead.ensures.slots) targets in
    subst (λ (l : Lists). AddsIn report_lists c.judge_items.result c.args.report.now c.judge_items.new.report l)
    (sym (a-leaf self.number (tree_columns self.columns) may c.args.block page live))
    (subst (λ (p : List ℕ). IsReadable (tree_columns self.columns) p → is_live_leaf p ≡ true → AddsIn report_lists c.judge_items.result c.args.report.now c.judge_items.new.report (items_lists self.number (tree_columns self.columns) may c.args.block p)) c.new-page.ensures
    (c.judge_items.ensures.lists still) (readable live) live)

pub returns-clause-rise : goal.returns-clause-rise
returns-clause-rise c so live laid_out =
    let columns = tree_columns c.args.self.columns in
    let page = c.args.page.now in
    let before : RisesTo columns page 0 c.look_ahead.new.seen.rise = subst (λ (rise : Rise). RisesTo columns page 0 rise) (sym c.look_ahead.ensures.rise) so in
    subst (λ (p : List ℕ). RisesTo columns p 0 c.look_ahead.new.seen.rise → OnOk c.judge_items.result (RisesTo columns p (count_of p) c.judge_items.new.seen.rise)) c.new-page.ensures c.judge_items.ensures.rise before
