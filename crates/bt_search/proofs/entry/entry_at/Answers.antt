use Rattle.std.proofs.Common.{◌≡◌, ◌<◌, ◌∙◌, List, ap, arith, length, subst, sym}
use Rattle.std.specs.Prelude.{IfSome, IsSomeAnd, None, Option, slice_get}
use Rattle.std.proofs.lemmas.Grind.{common_steps}
use Rattle.page_layout.specs.Page.{page_rule_of}
use Rattle.page_layout.specs.View.{page_bytes}
use Rattle.page_layout.specs.declared.page.PageKind.TheVariants.{Tree}
use Rattle.laws_search.specs.Keys.{Entry}
use Rattle.key_orders.specs.declared.columns.Value.{Value}
use Rattle.key_orders.specs.declared.Tid.{Tid}
use Rattle.key_attrs.specs.Columns.{tree_columns}
use Rattle.bt_tuples.specs.Shown.{item_shown}
use Rattle.bt_levels.specs.Sound.{index_columns}
use Rattle.bt_steps.specs.Entries.{keys_at}
use Rattle.bt_search.specs.Entries.{Shows}
use Rattle.bt_steps.proofs.Items.{item-reads, item-unread, keys-are}
use Rattle.bt_search.proofs.There.{has-there}
use Rattle.bt_search.proofs.entry.entry_at.Goals as goal

pub returns-in-Err-clause-some : goal.returns-in-Err-clause-some
returns-in-Err-clause-some c =
    let page = page_bytes c.new-page.result in (
      λ e. absurd cc,
      λ has. absurd (item-unread (tree_columns c.columns-columns.result) page c.args.at.item c.in-Err.field-0 c.in-Err.ensures.outcome
          (has-there (index_columns c.args.tree.now) (tree_columns c.columns-columns.result) c.args.page.now page c.args.at (sym c.columns-columns.ensures.lists) (sym c.new-page.ensures) has).read),
    )

pub returns-in-Ok-clause-some : goal.returns-in-Ok-clause-some
returns-in-Ok-clause-some c =
    let page = page_bytes c.new-page.result in
    let columns = tree_columns c.columns-columns.result in
    let laid : page_rule_of Tree page ≡ None = grind (arith, common_steps) in
    let keys = keys-are columns page c.args.at.item (item_shown c.in-Ok.item) c.in-Ok.ensures.outcome in (
      λ some. has-there columns (index_columns c.args.tree.now) page c.args.page.now c.args.at c.columns-columns.ensures.lists c.new-page.ensures
          (record {
            laid_out = laid;
            first = omega arith;
            last = omega arith;
            read = item-reads columns page c.args.at.item (item_shown c.in-Ok.item) c.in-Ok.ensures.outcome;
            inside = subst (λ (es : List (Entry Value Tid)). c.args.at.nth < length es) (sym keys) (c.entry_in.ensures.some.0 some);
          }),
      λ has. c.entry_in.ensures.some.1 (subst (λ (es : List (Entry Value Tid)). c.args.at.nth < length es) keys
          (has-there (index_columns c.args.tree.now) columns c.args.page.now page c.args.at (sym c.columns-columns.ensures.lists) (sym c.new-page.ensures) has).inside),
    )

pub returns-in-Ok-clause-entry : goal.returns-in-Ok-clause-entry
returns-in-Ok-clause-entry c =
    let page = page_bytes c.new-page.result in
    let columns = tree_columns c.columns-columns.result in
    let keys = keys-are columns page c.args.at.item (item_shown c.in-Ok.item) c.in-Ok.ensures.outcome in
    subst (λ (o : Option (Entry Value Tid)). IfSome c.entry_in.result (λ e. IsSomeAnd o (Shows e)))
    (ap (λ (es : List (Entry Value Tid)). slice_get es c.args.at.nth) (sym keys) ∙ (λ i. slice_get (keys_at (c.columns-columns.ensures.lists i) (c.new-page.ensures i) c.args.at.item) c.args.at.nth))
    c.entry_in.ensures.entry
