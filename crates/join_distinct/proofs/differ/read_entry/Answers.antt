use Rattle.std.proofs.Common.{◌≡◌, ◌∙◌, ap, sym, subst}
use Rattle.std.proofs.lemmas.Bool.{OnTrue_at, OnTrue_from}
use Rattle.page_layout.specs.View.{page_bytes}
use Rattle.laws_search.specs.Keys.{Separator}
use Rattle.key_orders.specs.declared.columns.Value.{Value}
use Rattle.key_orders.specs.declared.Tid.{Tid}
use Rattle.key_orders.specs.Keys.{IsKey}
use Rattle.key_attrs.specs.Columns.{TreeColumns, tree_columns}
use Rattle.bt_tuples.specs.Items.{Item}
use Rattle.bt_tuples.specs.Keys.{first_key, last_key}
use Rattle.bt_steps.proofs.Items.{item-good, item-is}
use Rattle.join_distinct.specs.Items.{HasEntry, HasOne, item_on, values_in}
use Rattle.join_distinct.proofs.Entries.{one-entry, values-fit}
use Rattle.join_distinct.proofs.differ.read_entry.Goals as goal

pub returns-in-Ok : goal.returns-in-Ok
returns-in-Ok c =
    let columns : TreeColumns = tree_columns c.args.columns.now in
    let page = page_bytes c.args.page in
    let keys = c.in-Ok.ensures.keys in
    let item : Item = keys.item in
    let good = item-good columns page c.args.i item (sym keys.is) in
    let means : item ≡ item_on columns page c.args.i = item-is columns page c.args.i item (sym keys.is) in
    let values = ap (λ (s : Separator Value Tid). s.kept) keys.first in
    OnTrue_from c.is_same.result (HasEntry columns page c.args.i c.read.new.self) (λ e.
    let same = OnTrue_at e c.is_same.ensures in
    let tids : (first_key item).tid ≡ (last_key item).tid = sym (ap (λ (s : Separator Value Tid). s.tid) keys.first) ∙ same ∙ ap (λ (s : Separator Value Tid). s.tid) keys.last in
    record {
      one = subst HasOne means (one-entry item good tids);
      values = values ∙ ap values_in means;
      fits = subst (IsKey columns.specs) (sym values) (values-fit columns.specs item good keys.fits);
    })
