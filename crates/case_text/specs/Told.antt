-- What the parts of a case tell.
use Rattle.std.specs.Prelude.{◌==◌, ◌&&◌, ℕ, List, [], map, Bool, false, Option, Some, None, option_map, position, Vec}
use Rattle.std.specs.Prelude.{string_bytes}
use Rattle.std.specs.declared.alloc.Global.{Global}
use Rattle.std.specs.List.{list_all, slice_get}
use Rattle.std.specs.Option.{option_map_or}
use Rattle.std.specs.Str.{bytes_eq}
use Rattle.key_orders.specs.declared.columns.ColType.{ColType}
use Rattle.key_orders.specs.declared.columns.ColType.TheVariants.{Text}
use Rattle.key_orders.specs.declared.columns.KeySpec.{KeySpec}
use Rattle.key_orders.specs.declared.columns.Value.{Value}
use Rattle.key_orders.specs.declared.columns.Value.TheVariants.{Null}
use Rattle.key_orders.specs.declared.more.MoreSpec.{MoreSpec}
use Rattle.key_orders.specs.Types.{may_be_key}
use Rattle.key_orders.specs.Values.{value_in}
use Rattle.rel_files.specs.declared.cluster.Cluster.{Cluster}
use Rattle.case_rules.specs.Rules.{at_least_one}
use Rattle.case_file.specs.declared.case.Column.{Column}
use Rattle.case_file.specs.Record.{CaseRecord, IndexRecord}
use Rattle.case_text.specs.declared.parts.ClusterPart.{ClusterPart}
use Rattle.case_text.specs.declared.parts.ColumnPart.{ColumnPart}
use Rattle.case_text.specs.declared.parts.IndexPart.{IndexPart}
use Rattle.case_text.specs.declared.parts.KeyPart.{KeyPart}
use Rattle.case_text.specs.declared.parts.TablePart.{TablePart}
use Rattle.case_text.specs.declared.parts.ToastPart.{ToastPart}

-- the value that stands for a column in tuples that were written before it was added, from its bytes as they are stored
abbrev pub missing_told : ColType → Option (Vec ℕ Global) → Value
missing_told ctype (Some bytes) = value_in ctype bytes.items
missing_told ctype None = Null

unfoldable pub column_told : ColumnPart → Column
column_told c = record { ctype = c.ctype; missing = missing_told c.ctype c.missing }

-- the type and the name of the column at a number, counted from 0
abbrev pub type_at : List ColumnPart → ℕ → ColType
type_at columns k = option_map_or (λ c. c.ctype) (slice_get columns k) Text

unfoldable pub name_at : List ColumnPart → ℕ → List ℕ
name_at columns k = option_map_or (λ c. string_bytes c.name) (slice_get columns k) []

unfoldable pub key_told : List ColumnPart → KeyPart → KeySpec
key_told columns key = record {
  column = key.column;
  ctype = type_at columns key.column;
  desc = key.desc;
  nulls_first = key.nulls_first;
}

unfoldable pub more_told : List ColumnPart → ℕ → MoreSpec
more_told columns k = record { column = k; ctype = type_at columns k }

unfoldable pub index_told : List ColumnPart → IndexPart → IndexRecord
index_told columns i = record {
  name = string_bytes i.name;
  file = string_bytes i.file;
  keys = map (key_told columns) i.keys.items;
  more = map (more_told columns) i.more.items;
  unique = i.unique;
}

-- a server takes the next multixact 0 as 1
abbrev pub counters_told : Cluster → Cluster
counters_told c = record {
  next_xid = c.next_xid;
  oldest_xid = c.oldest_xid;
  next_multi = at_least_one c.next_multi;
  oldest_multi = c.oldest_multi;
  next_member = c.next_member;
}

abbrev pub toast_told : Option ToastPart → Option (List ℕ × ℕ)
toast_told toast = option_map (λ t. (string_bytes t.file, t.oid)) toast

-- the case that the parts tell
unfoldable pub case_told : ClusterPart → TablePart → CaseRecord
case_told c t = record {
  segment_blocks = c.segment_blocks;
  cluster = counters_told c.counters;
  xact = string_bytes c.xact;
  offsets = string_bytes c.offsets;
  members = string_bytes c.members;
  heap_file = string_bytes t.file;
  toast = toast_told t.toast;
  columns = map column_told t.columns.items;
  indexes = map (index_told t.columns.items) t.indexes.items;
}

-- a text names columns by their names: a key is found by its name where its column is the first of that name that may
-- be a key, and an included column where it is the first of its name
abbrev pub is_named : List ℕ → ColumnPart → Bool
is_named name c = bytes_eq (string_bytes c.name) name

abbrev pub is_key_named : List ℕ → ColumnPart → Bool
is_key_named name c = is_named name c && may_be_key c.ctype

abbrev pub is_at : Option ℕ → ℕ → Bool
is_at (Some n) k = n == k
is_at None k = false

unfoldable pub key_is_found : List ColumnPart → KeyPart → Bool
key_is_found columns key = is_at (position (is_key_named (name_at columns key.column)) columns) key.column

unfoldable pub more_is_found : List ColumnPart → ℕ → Bool
more_is_found columns k = is_at (position (is_named (name_at columns k)) columns) k

unfoldable pub index_is_found : List ColumnPart → IndexPart → Bool
index_is_found columns i = list_all (key_is_found columns) i.keys.items && list_all (more_is_found columns) i.more.items

unfoldable pub are_found : TablePart → Bool
are_found t = list_all (index_is_found t.columns.items) t.indexes.items
