use Rattle.page_layout.specs.View.{page_bytes}
use Rattle.key_attrs.specs.Columns.{tree_columns}
use Rattle.join_distinct.specs.Items.{DifferTo, HasEntry, held}
use Rattle.join_distinct.proofs.differ.do_items_differ.Given as goal

-- the items so far differ, and the key of the last is in hand
abbrev pub invariant-loop-i : goal.invariant-loop-i
invariant-loop-i l = record {
  differ : DifferTo (tree_columns l.columns) (page_bytes l.page) l.i;
  entry : HasEntry (tree_columns l.columns) (page_bytes l.page) l.i (held l.pair);
}
