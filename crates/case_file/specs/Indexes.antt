-- The indexes of a document that breaks no rule.
use Rattle.std.specs.Prelude.{ℕ, List, [], map, false, if◌then◌else◌, Option, Some, None, option_and_then, unwrap_or}
use Rattle.std.specs.Prelude.{position, codes}
use Rattle.std.specs.List.{slice_get}
use Rattle.key_orders.specs.declared.columns.KeySpec.{KeySpec}
use Rattle.key_orders.specs.declared.more.MoreSpec.{MoreSpec}
use Rattle.toml.specs.Data.{Data, Members, as_str, as_table}
use Rattle.case_file.specs.declared.case.Unique.{Unique}
use Rattle.case_file.specs.declared.case.Unique.TheVariants.{No, NullsDistinct, NullsEqual}
use Rattle.case_file.specs.Columns.{below_or_zero, told_type}
use Rattle.case_file.specs.Record.{IndexRecord}
use Rattle.case_rules.specs.Rules.{has_name, is_key_column}
use Rattle.case_rules.specs.Tables.{flag_in, tables_at, text_in, values_at}

-- the number, from 0, of the first column of a name that may be a key
unfoldable pub column_named : List Data → List ℕ → ℕ
column_named columns name = unwrap_or (position (is_key_column (Some name)) columns) 0

-- the same of a column of any type
unfoldable pub any_column_named : List Data → Option (List ℕ) → ℕ
any_column_named columns name = unwrap_or (position (has_name name) columns) 0

abbrev pub table_of : List Data → ℕ → Option Members
table_of columns k = option_and_then as_table (slice_get columns k)

-- a column of a key; nulls stand first where values fall, if the text doesn't say
unfoldable pub key_of : List Data → Data → KeySpec
key_of columns d =
    let column = column_named columns (text_in (as_table d) (codes "column")) in
    let desc = flag_in (as_table d) (codes "desc") false in
    record {
      column = below_or_zero 65536 column;
      ctype = told_type (table_of columns column);
      desc = desc;
      nulls_first = flag_in (as_table d) (codes "nulls_first") desc;
    }

abbrev pub keys_in : Option Members → List Data
keys_in (Some t) = tables_at (codes "key") t
keys_in None = []

-- a column that is included beside the key
unfoldable pub more_of : List Data → Data → MoreSpec
more_of columns d =
    let column = any_column_named columns (as_str d) in
    record { column = below_or_zero 65536 column; ctype = told_type (table_of columns column) }

abbrev pub more_in : Option Members → List Data
more_in (Some t) = values_at (codes "include") t
more_in None = []

-- whether an index is unique, and how it takes nulls if it is
unfoldable pub unique_in : Option Members → Unique
unique_in t =
    let nulls_not_distinct = flag_in t (codes "nulls_not_distinct") false in
    if flag_in t (codes "unique") false then (if nulls_not_distinct then NullsEqual else NullsDistinct) else No

unfoldable pub index_of : List Data → Data → IndexRecord
index_of columns d = record {
  name = text_in (as_table d) (codes "name");
  file = text_in (as_table d) (codes "file");
  keys = map (key_of columns) (keys_in (as_table d));
  more = map (more_of columns) (more_in (as_table d));
  unique = unique_in (as_table d);
}
