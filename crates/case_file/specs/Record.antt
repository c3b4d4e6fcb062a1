-- What a case tells.
use Rattle.std.specs.Prelude.{ℕ, ◌+◌, List, Option, option_map, position}
use Rattle.std.specs.Str.{bytes_eq}
use Rattle.key_orders.specs.declared.columns.KeySpec.{KeySpec}
use Rattle.key_orders.specs.declared.more.MoreSpec.{MoreSpec}
use Rattle.rel_files.specs.declared.cluster.Cluster.{Cluster}
use Rattle.case_file.specs.declared.case.Column.{Column}
use Rattle.case_file.specs.declared.case.Unique.{Unique}

-- an index: its name, the base name of its file, its key columns in order, the columns that it includes beside them,
-- and whether it is unique
pub record IndexRecord : Type 0 where
  pub name : List ℕ
  pub file : List ℕ
  pub keys : List KeySpec
  pub more : List MoreSpec
  pub unique : Unique

-- the number of the first index of a name; they are numbered from 1
abbrev pub index_named : List IndexRecord → List ℕ → Option ℕ
index_named indexes name = option_map (λ k. k + 1) (position (λ i. bytes_eq i.name name) indexes)

-- a case; `toast` is the base name and the oid of the TOAST table
pub record CaseRecord : Type 0 where
  pub segment_blocks : ℕ
  pub cluster : Cluster
  pub xact : List ℕ
  pub offsets : List ℕ
  pub members : List ℕ
  pub heap_file : List ℕ
  pub toast : Option (List ℕ × ℕ)
  pub columns : List Column
  pub indexes : List IndexRecord
