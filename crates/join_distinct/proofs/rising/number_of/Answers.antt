use Rattle.std.proofs.Common.{◌∙◌, [], ◌∷◌}
use Rattle.page_layout.specs.Page.{item_of}
use Rattle.key_orders.specs.Keys.{columns_of}
use Rattle.key_orders.specs.Values.{value_shown}
use Rattle.key_attrs.specs.Columns.{TreeColumns, tree_columns}
use Rattle.bt_tuples.specs.Items.{is_dead}
use Rattle.join_distinct.proofs.Steps.{at-place, first-less}
use Rattle.join_distinct.proofs.rising.number_of.Goals as goal

pub returns : goal.returns
returns c = λ page i tid lies.
    let columns : TreeColumns = tree_columns c.args.columns.now in
    let begins = c.in_ok-first.ensures in
    let first = value_shown c.in_ok-first.first in
    record {
      first = first;
      rest = begins.rest;
      included = begins.included;
      tid = tid;
      is = at-place columns page i lies.placed ∙ lies.tuple.told columns.specs columns.more (first ∷ begins.rest) begins.included (is_dead (item_of page i).flag) begins.told begins.key_count;
      fits = begins.fits;
      prefix = c.key_prefix.ensures.prefix;
      below = λ other greater is lt fits. first-less (columns_of columns.specs 0 first other) (c.key_prefix.ensures.below (other ∷ []) greater is lt begins.fits fits);
    }
