use Rattle.std.proofs.Common.{◌∙◌, sym}
use Rattle.std.proofs.lemmas.Bool.{OnTrue_at, OnTrue_from}
use Rattle.page_layout.specs.View.{page_bytes}
use Rattle.key_attrs.specs.Columns.{tree_columns}
use Rattle.bt_steps.proofs.OnItem.{ne-true}
use Rattle.join_distinct.specs.Items.{HasOther}
use Rattle.join_distinct.proofs.differ.read_other.Goals as goal

pub cmp_values-requires-clause-left : goal.cmp_values-requires-clause-left
cmp_values-requires-clause-left c = c.requires.before.fits

pub cmp_values-requires-clause-right : goal.cmp_values-requires-clause-right
cmp_values-requires-clause-right c = (OnTrue_at c.if-not-read_entry.false c.read_entry.ensures).fits

pub returns : goal.returns
returns c = OnTrue_from c.is_ne.result (HasOther (tree_columns c.args.columns.now) (page_bytes c.args.page) c.args.i c.args.before.now c.read_entry.new.keys) (λ e. record {
  entry = OnTrue_at c.if-not-read_entry.false c.read_entry.ensures;
  other = λ same. ne-true c.cmp_values.result (sym c.is_ne.ensures ∙ e) (c.cmp_values.ensures.same.1 same);
})
