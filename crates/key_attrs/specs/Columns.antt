-- The columns of an index as two lists, and those of a struct that lends them.
use Rattle.std.specs.Prelude.{List, ◌++◌}
use Rattle.key_orders.specs.declared.columns.ColType.{ColType}
use Rattle.key_orders.specs.declared.columns.KeySpec.{KeySpec}
use Rattle.key_orders.specs.declared.more.MoreSpec.{MoreSpec}
use Rattle.key_attrs.specs.declared.columns.IndexColumns.{IndexColumns}
use Rattle.key_attrs.specs.Keyed.{key_types, more_types}

-- those of the key, and those that are included beside it
pub record TreeColumns : Type 0 where
  pub specs : List KeySpec
  pub more : List MoreSpec

abbrev pub tree_columns : IndexColumns → TreeColumns
tree_columns columns = record { specs = columns.specs.now; more = columns.more.now }

-- the types of all columns, in the order of their values in a leaf's tuple
abbrev pub all_types : IndexColumns → List ColType
all_types columns = key_types columns.specs.now ++ more_types columns.more.now
