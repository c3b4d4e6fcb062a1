-- What every case has: each number and length is in its range, each missing value may stand in its column, each key
-- column is a column that may be one, and each included column is a column.
use Rattle.std.specs.Prelude.{◌≡◌, ◌≤◌, ◌<◌, ◌==◌, ◌&&◌, ◌||◌, ℕ, Bool, true, List, length, Option, Some, None}
use Rattle.std.specs.Prelude.{option_map}
use Rattle.std.specs.Int.{is_in_range, IsInRange}
use Rattle.std.specs.List.{AllByRecursion, slice_get}
use Rattle.std.specs.Option.{ForSome}
use Rattle.key_orders.specs.declared.columns.ColType.{ColType}
use Rattle.key_orders.specs.declared.columns.KeySpec.{KeySpec}
use Rattle.key_orders.specs.declared.columns.Value.{Value}
use Rattle.key_orders.specs.declared.more.MoreSpec.{MoreSpec}
use Rattle.key_orders.specs.declared.columns.Value.TheVariants.{Null, Bool as BoolValue, Int, Bytes}
use Rattle.key_orders.specs.Orders.{fits_type}
use Rattle.key_orders.specs.Types.{alignment_of, fixed_length, is_alignment, may_be_key}
use Rattle.rel_files.specs.Ranges.{distance}
use Rattle.rel_files.specs.declared.cluster.Cluster.{Cluster}
use Rattle.case_file.specs.declared.case.Column.{Column}
use Rattle.case_file.specs.Record.{CaseRecord, IndexRecord}

-- transaction numbers are below 2 ^ 32, and the oldest is less than half of the way round behind the next
pub record IsSoundCluster (c : Cluster) : Type 0 where
  pub next_xid : IsInRange 3 4294967295 c.next_xid
  pub oldest_xid : IsInRange 3 4294967295 c.oldest_xid
  pub next_multi : IsInRange 1 4294967295 c.next_multi
  pub oldest_multi : IsInRange 1 4294967295 c.oldest_multi
  pub next_member : c.next_member ≤ 4294967295
  pub xids : distance c.oldest_xid c.next_xid < 2147483648
  pub multis : distance c.oldest_multi c.next_multi < 2147483648

abbrev pub IsPath : List ℕ → Type 0
IsPath path = IsInRange 1 200 (length path)

-- a length is in range, and so is an alignment: that of a varlena is 4 or 8
abbrev pub is_sound_storage : Option ℕ → ℕ → Bool
is_sound_storage (Some len) align = is_in_range 1 8000 len && is_alignment align
is_sound_storage None align = align == 4 || align == 8

abbrev pub is_sound_type : ColType → Bool
is_sound_type ctype = is_sound_storage (fixed_length ctype) (alignment_of ctype)

-- the bytes of a value that has its own
abbrev pub octet_count : Value → ℕ
octet_count Null = 0
octet_count (BoolValue b) = 0
octet_count (Int z) = 0
octet_count (Bytes bytes) = length bytes

-- a missing value is one that the column may have, and has at most 8000 bytes
pub record IsSoundColumn (column : Column) : Type 0 where
  pub ctype : is_sound_type column.ctype ≡ true
  pub missing : fits_type column.ctype column.missing ≡ true
  pub few : octet_count column.missing ≤ 8000

-- a key column is a column of the case, of a type that may be a key's
pub record IsSoundKey (columns : List Column) (key : KeySpec) : Type 0 where
  pub is_there : option_map (λ c. c.ctype) (slice_get columns key.column) ≡ Some key.ctype
  pub may_be_key : may_be_key key.ctype ≡ true

-- an included column is a column of the case, of any type
pub record IsSoundMore (columns : List Column) (more : MoreSpec) : Type 0 where
  pub is_there : option_map (λ c. c.ctype) (slice_get columns more.column) ≡ Some more.ctype

pub record IsSoundIndex (columns : List Column) (index : IndexRecord) : Type 0 where
  pub name : IsInRange 1 63 (length index.name)
  pub file : IsPath index.file
  pub count : IsInRange 1 8 (length index.keys)
  pub keys : AllByRecursion (IsSoundKey columns) index.keys
  pub few_more : length index.more ≤ 24
  pub more : AllByRecursion (IsSoundMore columns) index.more

pub record IsSound (case : CaseRecord) : Type 0 where
  pub segment_blocks : IsInRange 1 131072 case.segment_blocks
  pub cluster : IsSoundCluster case.cluster
  pub xact : IsPath case.xact
  pub offsets : IsPath case.offsets
  pub members : IsPath case.members
  pub heap_file : IsPath case.heap_file
  pub toast : ForSome case.toast (λ toast. IsPath toast.0 × IsInRange 1 4294967295 toast.1)
  pub column_count : IsInRange 1 64 (length case.columns)
  pub columns : AllByRecursion IsSoundColumn case.columns
  pub index_count : length case.indexes ≤ 32
  pub indexes : AllByRecursion (IsSoundIndex case.columns) case.indexes
