-- Equal keys: which live tuples of a heap a unique index may not have together.
use Rattle.std.specs.Prelude.{◌≡◌, ℕ, Bool, true, false, not, ◌==◌, ◌&&◌, ◌||◌, nat_lt, List, Contains, Option}
use Rattle.std.specs.Prelude.{Some, None}
use Rattle.std.specs.List.{list_any}
use Rattle.outside.specs.Outside.{Names}
use Rattle.key_orders.specs.declared.columns.Value.{Value}
use Rattle.key_orders.specs.declared.columns.Value.TheVariants.{Null, Bool as BoolValue, Int, Bytes}
use Rattle.key_orders.specs.declared.Tid.{Tid}
use Rattle.key_storage.specs.Same.{same_key}
use Rattle.case_file.specs.Record.{CaseRecord}
use Rattle.bt_levels.specs.Index.{index_of}
use Rattle.case_file.specs.declared.case.Unique.{Unique}
use Rattle.case_file.specs.declared.case.Unique.TheVariants.{No, NullsDistinct, NullsEqual}
use Rattle.heap_rows.specs.RowLaws.{IsBefore}
use Rattle.heap_rows.specs.Rows.{rows_of}
use Rattle.heap_rows.specs.declared.rows.LiveRow.{LiveRow}
use Rattle.join_rules.specs.Rows.{key_of}

-- whether index n of a case is unique, and how it takes nulls if it is
unfoldable pub unique_of : CaseRecord → ℕ → Unique
unique_of case n = (index_of case n).unique

-- Keys

abbrev pub is_null : Value → Bool
is_null Null = true
is_null (BoolValue b) = false
is_null (Int z) = false
is_null (Bytes bytes) = false

-- an index of this kind may have this key once alone: a key with a null is equal to none, unless nulls are equal
abbrev pub counts : Unique → List Value → Bool
counts No key = false
counts NullsDistinct key = not (list_any is_null key)
counts NullsEqual key = true

-- Rows

-- Both are rows of the heap, the first has the lower TID, and both have one key in index n, which counts. Included
-- columns play no part.
pub record AreDuplicates (case : CaseRecord) (names : Names) (n : ℕ) (earlier row : LiveRow) : Type 0 where
  pub first : Contains (rows_of case names) earlier
  pub second : Contains (rows_of case names) row
  pub lower : IsBefore earlier.tid row.tid
  pub key : List Value
  pub of_first : key_of case n earlier ≡ Some key
  pub of_second : key_of case n row ≡ Some key
  pub counted : counts (unique_of case n) key ≡ true

-- there are no such two
abbrev pub AreUnique : CaseRecord → Names → ℕ → Type 0
AreUnique case names n = (earlier row : LiveRow) → ¬ AreDuplicates case names n earlier row

-- The same as a test

abbrev pub is_before : Tid → Tid → Bool
is_before t u = nat_lt t.block u.block || ((t.block == u.block) && nat_lt t.item u.item)

-- there are two keys, they are one, and it counts
abbrev pub is_one_key : Unique → (earlier key : Option (List Value)) → Bool
is_one_key unique (Some earlier) (Some key) = same_key earlier key && counts unique key
is_one_key unique (Some earlier) None = false
is_one_key unique None key = false

-- the second of these rows has a lower TID than the first, and the same key
abbrev pub is_after : CaseRecord → ℕ → (row earlier : LiveRow) → Bool
is_after case n row earlier =
    is_before earlier.tid row.tid && is_one_key (unique_of case n) (key_of case n earlier) (key_of case n row)

-- some row has a lower TID than this one, and the same key
unfoldable pub is_duplicate : CaseRecord → Names → ℕ → LiveRow → Bool
is_duplicate case names n row = list_any (is_after case n row) (rows_of case names)
