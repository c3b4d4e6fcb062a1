-- The key table: the tables of a case file, the keys that each may have, and what is asked of the value at each key.
use Rattle.std.specs.Prelude.{ℕ, List, [], ◌∷◌, ◌++◌, codes, decimal}
use Rattle.case_rules.specs.declared.keys.Place.{Place}
use Rattle.case_rules.specs.declared.keys.Place.TheVariants.{Top, Cluster, Heap, Column, Index, IndexKey}
use Rattle.case_rules.specs.declared.keys.Key.{Key}
use Rattle.case_rules.specs.declared.keys.Key.TheVariants.{SegmentBlocks, ClusterTable, NextXid, OldestXid, NextMulti}
use Rattle.case_rules.specs.declared.keys.Key.TheVariants.{OldestMulti, NextMember, XactDir, OffsetsDir, MembersDir}
use Rattle.case_rules.specs.declared.keys.Key.TheVariants.{HeapTable, HeapFile, ToastFile, ToastOid}
use Rattle.case_rules.specs.declared.keys.Key.TheVariants.{Columns, ColumnName}
use Rattle.case_rules.specs.declared.keys.Key.TheVariants.{ColumnType, ColumnLen, ColumnAlign, ColumnMissing, Indexes}
use Rattle.case_rules.specs.declared.keys.Key.TheVariants.{IndexName, IndexFile, IndexKeys, IndexInclude, IndexUnique}
use Rattle.case_rules.specs.declared.keys.Key.TheVariants.{IndexNullsNotDistinct, KeyColumn, KeyDesc, KeyNullsFirst}
use Rattle.case_rules.specs.declared.keys.Kind.{Kind}
use Rattle.case_rules.specs.declared.keys.Kind.TheVariants.{Text, Integer, Boolean, Array, Table, Tables}
use Rattle.case_rules.specs.declared.keys.Need.{Need}
use Rattle.case_rules.specs.declared.keys.Need.TheVariants.{Always, Optional, WithToastFile, WithToastOid, OfFixed}
use Rattle.case_rules.specs.declared.keys.Need.TheVariants.{OfStored}
use Rattle.case_rules.specs.declared.keys.Range.{Range}
use Rattle.case_rules.specs.declared.keys.Range.TheVariants.{Any, Between, Alignment, StoredBytes}

-- a row of the key table: the key as it stands in the text, the kind of its value, when it has to be there, and which
-- values of that kind it may have
pub record Row : Type 0 where
  pub word : List ℕ
  pub kind : Kind
  pub need : Need
  pub range : Range

abbrev pub row : List ℕ → Kind → Need → Range → Row
row word kind need range = record { word = word; kind = kind; need = need; range = range }

unfoldable pub row_of : Key → Row
row_of SegmentBlocks = row (codes "segment_blocks") Integer Optional (Between 1 131072)
row_of ClusterTable = row (codes "cluster") Table Always Any
row_of NextXid = row (codes "next_xid") Integer Always (Between 3 4294967295)
row_of OldestXid = row (codes "oldest_xid") Integer Always (Between 3 4294967295)
row_of NextMulti = row (codes "next_multi") Integer Always (Between 0 4294967295)
row_of OldestMulti = row (codes "oldest_multi") Integer Always (Between 1 4294967295)
row_of NextMember = row (codes "next_member") Integer Always (Between 0 4294967295)
row_of XactDir = row (codes "xact") Text Always (Between 1 200)
row_of OffsetsDir = row (codes "offsets") Text Always (Between 1 200)
row_of MembersDir = row (codes "members") Text Always (Between 1 200)
row_of HeapTable = row (codes "heap") Table Always Any
row_of HeapFile = row (codes "file") Text Always (Between 1 200)
row_of ToastFile = row (codes "toast_file") Text WithToastOid (Between 1 200)
row_of ToastOid = row (codes "toast_oid") Integer WithToastFile (Between 1 4294967295)
row_of Columns = row (codes "column") Tables Always (Between 1 64)
row_of ColumnName = row (codes "name") Text Always (Between 1 63)
row_of ColumnType = row (codes "type") Text Always Any
row_of ColumnLen = row (codes "len") Integer OfFixed (Between 1 8000)
row_of ColumnAlign = row (codes "align") Integer OfStored Alignment
row_of ColumnMissing = row (codes "missing") Text Optional StoredBytes
row_of Indexes = row (codes "index") Tables Optional (Between 0 32)
row_of IndexName = row (codes "name") Text Always (Between 1 63)
row_of IndexFile = row (codes "file") Text Always (Between 1 200)
row_of IndexKeys = row (codes "key") Tables Always (Between 1 8)
row_of IndexInclude = row (codes "include") Array Optional (Between 0 24)
row_of IndexUnique = row (codes "unique") Boolean Optional Any
row_of IndexNullsNotDistinct = row (codes "nulls_not_distinct") Boolean Optional Any
row_of KeyColumn = row (codes "column") Text Always Any
row_of KeyDesc = row (codes "desc") Boolean Optional Any
row_of KeyNullsFirst = row (codes "nulls_first") Boolean Optional Any

-- the keys that a table may have; of an index those that are asked before its key columns
unfoldable pub keys_of : Place → List Key
keys_of Top = SegmentBlocks ∷ ClusterTable ∷ HeapTable ∷ Columns ∷ Indexes ∷ []
keys_of Cluster = NextXid ∷ OldestXid ∷ NextMulti ∷ OldestMulti ∷ NextMember ∷ XactDir ∷ OffsetsDir ∷ MembersDir ∷ []
keys_of Heap = HeapFile ∷ ToastFile ∷ ToastOid ∷ []
keys_of (Column k) = ColumnName ∷ ColumnType ∷ ColumnLen ∷ ColumnAlign ∷ ColumnMissing ∷ []
keys_of (Index k) = IndexName ∷ IndexFile ∷ IndexKeys ∷ []
keys_of (IndexKey k j) = KeyColumn ∷ KeyDesc ∷ KeyNullsFirst ∷ []

-- and those that are asked behind them
unfoldable pub late_keys_of : Place → List Key
late_keys_of (Index k) = IndexInclude ∷ IndexUnique ∷ IndexNullsNotDistinct ∷ []
late_keys_of _ = []

abbrev pub bracketed : ℕ → List ℕ
bracketed k = codes "[" ++ decimal k ++ codes "]"

abbrev pub numbered_text : List ℕ → ℕ → List ℕ
numbered_text word k = word ++ bracketed k

-- how a refusal names a table
unfoldable pub place_text : Place → List ℕ
place_text Top = codes "top"
place_text Cluster = codes "cluster"
place_text Heap = codes "heap"
place_text (Column k) = numbered_text (codes "column") k
place_text (Index k) = numbered_text (codes "index") k
place_text (IndexKey k j) = numbered_text (codes "index") k ++ codes "." ++ numbered_text (codes "key") j

-- how a refusal names a key of a table, and an element of the array at a key
unfoldable pub key_text : Place → Key → List ℕ
key_text Top key = (row_of key).word
key_text place key = place_text place ++ codes "." ++ (row_of key).word

abbrev pub element_text : Place → Key → ℕ → List ℕ
element_text place key j = numbered_text (key_text place key) j
