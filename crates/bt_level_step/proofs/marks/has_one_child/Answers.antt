use Rattle.std.proofs.Common.{ap, sym, ◌∙◌}
use Rattle.std.specs.Prelude.{◌==◌}
use Rattle.page_layout.specs.View.{page_bytes}
use Rattle.bt_meta.specs.Flags.{is_leaf}
use Rattle.bt_level_step.proofs.Pages.{one_child}
use Rattle.bt_level_step.proofs.marks.has_one_child.Goals as goal

pub returns-then-not-is_leaf : goal.returns-then-not-is_leaf
returns-then-not-is_leaf c specs more =
    one_child specs more (page_bytes c.args.page) (sym (c.is_leaf.ensures ∙ ap is_leaf c.opaque.ensures) ∙ c.if-not-is_leaf.true)
    ∙ (λ i. sym c.item_count.ensures.value i == sym c.first_data.ensures i)
