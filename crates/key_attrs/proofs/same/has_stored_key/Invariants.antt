use Rattle.std.proofs.Common.{◌≡◌, ◌-◌, ◌≤◌, length, drop, take}
use Rattle.std.specs.Prelude.{None}
use Rattle.key_storage.specs.Stored.{values_read}
use Rattle.key_attrs.specs.Columns.{all_types}
use Rattle.key_attrs.specs.Keyed.{key_values, read_inline}
use Rattle.key_attrs.specs.KeyedShown.{told_after}
use Rattle.key_attrs.proofs.same.has_stored_key.Given as goal

-- the values so far and the columns that are left tell what all columns do, and those that are left are still stored
abbrev pub invariant-loop-k : goal.invariant-loop-k
invariant-loop-k l = record {
  told : key_values (all_types l.columns) l.body None ≡ told_after (take l.k (values_read (length (all_types l.columns)) l.stored)) None l.k (drop l.k (all_types l.columns)) (read_inline (drop l.k (all_types l.columns)) None (length (all_types l.columns)) l.body l.k l.place);
  within : l.place ≤ length l.body;
  left : values_read (length (all_types l.columns) - l.k) l.left ≡ drop l.k (values_read (length (all_types l.columns)) l.stored);
}
