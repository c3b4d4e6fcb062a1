use Rattle.std.proofs.Common.{◌≡◌, ◌∙◌, ap, refl, sym, true}
use Rattle.std.specs.Prelude.{Bool, None, Option, Some, is_none, not}
use Rattle.std.proofs.lemmas.Bool.{OnTrue_from}
use Rattle.page_layout.specs.View.{page_bytes}
use Rattle.laws_search.specs.Keys.{Separator}
use Rattle.key_orders.specs.declared.columns.Value.{Value}
use Rattle.key_orders.specs.declared.Tid.{Tid}
use Rattle.key_attrs.specs.Columns.{TreeColumns, tree_columns}
use Rattle.bt_tuples.specs.declared.items.Spot3.TheVariants.{HighKey}
use Rattle.bt_tuples.specs.Items.{Item}
use Rattle.bt_tuples.specs.Keys.{first_key}
use Rattle.bt_image.specs.Image.{separator_in}
use Rattle.bt_steps.proofs.Items.{at-spot}
use Rattle.join_distinct.proofs.Entries.{no-tid}
use Rattle.join_distinct.proofs.differ.keeps_no_tid.Goals as goal

none-is : (o : Option Tid) → is_none o ≡ true → o ≡ None
none-is None e = refl
none-is (Some t) e = absurd cc

pub returns-in-Ok : goal.returns-in-Ok
returns-in-Ok c =
    let columns : TreeColumns = tree_columns c.args.columns.now in
    let keys = c.in-Ok.ensures.keys in
    let item : Item = keys.item in
    let means = at-spot columns (page_bytes c.args.page) 1 HighKey item keys.is in
    OnTrue_from _ _ (λ e.
    let none = none-is c.read.new.self.first.tid (ap not c.is_none.ensures ∙ ap (λ (r : Bool). not (not r)) e) in
    let alone : (first_key item).tid ≡ None = sym (ap (λ (s : Separator Value Tid). s.tid) keys.first) ∙ none in
    ap (λ (it : Item). (separator_in it).tid) (sym means) ∙ no-tid item alone)
