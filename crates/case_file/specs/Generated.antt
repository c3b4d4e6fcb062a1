-- The case of the generated table.
use Rattle.std.specs.Prelude.{ℕ, false, List, [], ◌∷◌, None, codes}
use Rattle.key_orders.specs.declared.columns.ColType.{ColType}
use Rattle.key_orders.specs.declared.columns.ColType.TheVariants.{Int4, Int8}
use Rattle.key_orders.specs.declared.columns.KeySpec.{KeySpec}
use Rattle.key_orders.specs.declared.columns.Value.TheVariants.{Null}
use Rattle.rel_files.specs.declared.cluster.Cluster.{Cluster}
use Rattle.case_file.specs.declared.case.Column.{Column}
use Rattle.case_file.specs.declared.case.Unique.TheVariants.{No}
use Rattle.case_file.specs.Record.{CaseRecord, IndexRecord}

-- a cluster in which one transaction, 3, wrote something
abbrev pub generated_cluster : Cluster
generated_cluster = record { next_xid = 4; oldest_xid = 3; next_multi = 1; oldest_multi = 1; next_member = 0 }

-- a column without a missing value
abbrev pub whole_column : ColType → Column
whole_column ctype = record { ctype = ctype; missing = Null }

-- a key column from its lowest value to its highest, nulls last
abbrev pub rising_key : ℕ → ColType → KeySpec
rising_key column ctype = record { column = column; ctype = ctype; desc = false; nulls_first = false }

abbrev pub index_on : List ℕ → List ℕ → ℕ → ColType → IndexRecord
index_on name file column ctype =
    record { name = name; file = file; keys = rising_key column ctype ∷ []; more = []; unique = No }

-- the columns `id` and `grp`, with an index on each that includes no other and isn't unique
abbrev pub generated_case : CaseRecord
generated_case = record {
  segment_blocks = 131072;
  cluster = generated_cluster;
  xact = codes "xact";
  offsets = codes "offsets";
  members = codes "members";
  heap_file = codes "t";
  toast = None;
  columns = whole_column Int8 ∷ whole_column Int4 ∷ [];
  indexes = index_on (codes "t_id") (codes "i1") 0 Int8 ∷ index_on (codes "t_grp") (codes "i2") 1 Int4 ∷ [];
}
