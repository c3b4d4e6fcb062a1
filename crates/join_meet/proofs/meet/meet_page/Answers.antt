use Rattle.std.proofs.Common.{◌≡◌, ◌∙◌, ℕ, List, [], true, false, ap, subst, sym}
use Rattle.std.specs.Prelude.{is_some}
use Rattle.page_layout.specs.Page.{page_rule_of}
use Rattle.page_layout.specs.declared.page.PageKind.TheVariants.{Tree}
use Rattle.bt_image.specs.Image.{page_entries}
use Rattle.bt_steps.specs.Pages.{IsReadable, is_live_leaf}
use Rattle.page_layout.specs.View.{page_bytes}
use Rattle.key_attrs.specs.Columns.{tree_columns}
use Rattle.join_slots.specs.Slots.{Tables}
use Rattle.join_meet.specs.Meeting.{HaveMet, leaf_entries}
use Rattle.join_meet.proofs.Meets.{a-leaf, no-leaf, none, same}
use Rattle.join_meet.proofs.meet.meet_page.Goals as goal
use Rattle.join_meet.proofs.meet.meet_page.Goals.{then-not-is_live_leaf-via-then-not-is_live_leaf, then-not-is_live_leaf-via-else-not-is_live_leaf+then-is_some}

pub returns-then-not-is_live_leaf : goal.returns-then-not-is_live_leaf
returns-then-not-is_live_leaf c readable =
    let page = c.args.page.now in
    let told = sym (c.is_live_leaf.ensures ∙ ap is_live_leaf c.new-page.ensures) in
    elim c.then-not-is_live_leaf.branch [
      | then-not-is_live_leaf-via-then-not-is_live_leaf w ↦
          same [] (leaf_entries (tree_columns c.args.columns.now) page) c.args.slots.now c.args.slots.now (sym (no-leaf (tree_columns c.args.columns.now) page (told ∙ w.if-not-is_live_leaf.true))) (none c.args.slots.now)
      | then-not-is_live_leaf-via-else-not-is_live_leaf+then-is_some w ↦
          let laid_out = (readable (told ∙ w.if-not-is_live_leaf.false)).laid_out in
          let rule = w.page_rule.ensures.value ∙ ap (page_rule_of Tree) c.new-page.ensures ∙ laid_out in
          absurd (let clash : true ≡ false = sym w.if-is_some.true ∙ w.is_some.ensures ∙ ap is_some rule in cc)
    ]

pub returns : goal.returns
returns c readable =
    let page = c.args.page.now in
    let columns = tree_columns c.args.columns.now in
    let live = sym (c.is_live_leaf.ensures ∙ ap is_live_leaf c.new-page.ensures) ∙ c.if-not-is_live_leaf.false in
    same (page_entries columns.specs columns.more page) (leaf_entries columns page) c.args.slots.now c.meet_items.new.slots (sym (a-leaf columns page live))
    (subst (λ (p : List ℕ). IsReadable columns p → is_live_leaf p ≡ true → HaveMet (page_entries columns.specs columns.more p) c.args.slots.now c.meet_items.new.slots) c.new-page.ensures
    (subst (λ (t : Tables). IsReadable columns (page_bytes c.new-page.result) → is_live_leaf (page_bytes c.new-page.result) ≡ true → HaveMet (page_entries columns.specs columns.more (page_bytes c.new-page.result)) t c.meet_items.new.slots) c.touch.ensures c.meet_items.ensures) (readable live) live)
