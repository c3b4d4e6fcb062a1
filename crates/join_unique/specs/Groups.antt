-- The unkilled entries of an index, by rising key and TID, and the rows of the heap that have the same key: what is
-- kept of the entries with one key while one after another comes, and of which rows an earlier one was met.
use Rattle.std.specs.Prelude.{ℕ, ◌+◌, ◌*◌, Bool, true, false, not, cond, ◌==◌, ◌&&◌, nat_lt, List, [], ◌∷◌, ◌++◌}
use Rattle.std.specs.Prelude.{Option, Some, None}
use Rattle.outside.specs.Counting.{one_more}
use Rattle.laws_search.specs.Keys.{Entry}
use Rattle.key_orders.specs.declared.columns.Value.{Value}
use Rattle.key_orders.specs.declared.Tid.{Tid}
use Rattle.key_storage.specs.Same.{same_key}
use Rattle.heap_rows.specs.declared.rows.LiveRow.{LiveRow}
use Rattle.case_file.specs.declared.case.Unique.{Unique}
use Rattle.case_file.specs.declared.case.Unique.TheVariants.{No, NullsDistinct, NullsEqual}
use Rattle.join_rules.specs.Unique.{counts}

-- whether an index of this kind is asked for equal keys
abbrev pub is_asked : Unique → Bool
is_asked No = false
is_asked NullsDistinct = true
is_asked NullsEqual = true

-- a TID as one number, which rises as TIDs do
abbrev pub tid_number : Tid → ℕ
tid_number tid = tid.block * 65536 + tid.item

-- whether a row with the key of the group came, and the numbers of all rows, of this group and of others, before which
-- one of their key came
pub record Met : Type 0 where
  pub some : Bool
  pub later : List ℕ

-- The entries of one key so far: the key, whether the index may have it once alone, how many of them may name the root
-- of a row (0, 1, or 2 for more), and the block that the last of these names. The rows of the blocks before that were
-- met. The looks are how many times the rows of a block were gone over, for this group and for those before.
pub record Group : Type 0 where
  pub key : List Value
  pub counted : Bool
  pub count : ℕ
  pub block : ℕ
  pub met : Met
  pub looks : ℕ

-- what the index and its heap are: the keys of rows, the rows of each block, and what may be the root of one
pub record Table : Type 0 where
  pub unique : Unique
  pub key_in : LiveRow → Option (List Value)
  pub rows_in : ℕ → List LiveRow
  pub may_root : Tid → Bool

-- Rows

abbrev pub has_key : List Value → Option (List Value) → Bool
has_key key (Some held) = same_key key held
has_key key None = false

-- a row with the key of the group
abbrev pub with_row : Tid → Met → Met
with_row tid m = record { some = true; later = cond m.some (m.later ++ tid_number tid ∷ []) m.later }

-- a row that may have it
unfoldable pub row_met : Table → List Value → LiveRow → Met → Met
row_met t key row m = cond (has_key key (t.key_in row)) (with_row row.tid m) m

-- rows one after another
abbrev pub rows_met : Table → List Value → List LiveRow → Met → Met
rows_met t key [] m = m
rows_met t key (row ∷ rows) m = rows_met t key rows (row_met t key row m)

-- the rows of the block that the group has come to
abbrev pub block_met : Table → Group → Met
block_met t g = rows_met t g.key (t.rows_in g.block) g.met

-- how many looks there are, where there may be one more
abbrev pub looks_after : Bool → ℕ → ℕ
looks_after more looks = cond more (one_more looks) looks

-- Entries

-- the end of a group: where more than one entry may name a root, the rows of the last block are met too
unfoldable pub closed : Table → Group → Group
closed t g = record g {
  met = cond (nat_lt 1 g.count) (block_met t g) g.met;
  looks = looks_after (nat_lt 1 g.count) g.looks;
}

-- the beginning of one
abbrev pub begun : Table → List Value → Group → Group
begun t key g = record {
  key = key;
  counted = counts t.unique key;
  count = 0;
  block = g.block;
  met = record { some = false; later = g.met.later };
  looks = g.looks;
}

-- the group of an entry
unfoldable pub opened : Table → List Value → Group → Group
opened t key g = cond (same_key g.key key) g (begun t key (closed t g))

abbrev pub next_count : ℕ → ℕ
next_count n = cond (n == 0) 1 2

-- the group has come to another block
abbrev pub leaves_block : ℕ → Group → Bool
leaves_block block g = nat_lt 0 g.count && not (g.block == block)

-- an entry that may name a root: where it names another block, the rows of the one before are met
unfoldable pub named : Table → Tid → Group → Group
named t tid g = record {
  key = g.key;
  counted = g.counted;
  count = next_count g.count;
  block = tid.block;
  met = cond (leaves_block tid.block g) (block_met t g) g.met;
  looks = looks_after (leaves_block tid.block g) g.looks;
}

unfoldable pub tid_met : Table → Tid → Group → Group
tid_met t tid g = cond (g.counted && t.may_root tid) (named t tid g) g

unfoldable pub entry_met : Table → Entry Value Tid → Group → Group
entry_met t e g = tid_met t e.tid (opened t e.values g)

-- entries one after another
abbrev pub entries_met : Table → List (Entry Value Tid) → Group → Group
entries_met t [] g = g
entries_met t (e ∷ es) g = entries_met t es (entry_met t e g)

-- before the first
abbrev pub first_group : Unique → Group
first_group unique = record {
  key = [];
  counted = counts unique [];
  count = 0;
  block = 0;
  met = record { some = false; later = [] };
  looks = 0;
}

-- the numbers of the rows before which one of their key came
unfoldable pub later_rows : Table → List (Entry Value Tid) → List ℕ
later_rows t es = (closed t (entries_met t es (first_group t.unique))).met.later
