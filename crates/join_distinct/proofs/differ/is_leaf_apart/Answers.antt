use Rattle.std.proofs.lemmas.Bool.{OnTrue_at, OnTrue_from}
use Rattle.page_layout.specs.View.{page_bytes}
use Rattle.key_attrs.specs.Columns.{tree_columns}
use Rattle.join_distinct.specs.Apart.{IsApart}
use Rattle.join_distinct.proofs.Entries.{entries-differ}
use Rattle.join_distinct.proofs.differ.is_leaf_apart.Goals as goal

pub returns : goal.returns
returns c = OnTrue_from c.do_keys_differ.result (IsApart (tree_columns c.args.columns.now) (page_bytes c.args.page)) (λ e. record {
  entries = entries-differ (tree_columns c.args.columns.now) (page_bytes c.args.page) (OnTrue_at e c.do_keys_differ.ensures);
  high_key = OnTrue_at c.if-not-has_no_tid_above.false c.has_no_tid_above.ensures;
})
