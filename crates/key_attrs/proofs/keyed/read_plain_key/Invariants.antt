use Rattle.std.proofs.Common.{◌≡◌, ◌≤◌, length, drop}
use Rattle.std.specs.Prelude.{None, true}
use Rattle.key_orders.specs.Keys.{fits_columns}
use Rattle.key_attrs.specs.Keyed.{key_types, key_values, read_inline}
use Rattle.key_attrs.specs.KeyedShown.{told_after}
use Rattle.key_attrs.proofs.keyed.read_plain_key.Given as goal

-- the values so far and the columns that are left tell what all columns do
abbrev pub invariant-loop-spec : goal.invariant-loop-spec
invariant-loop-spec l = record {
  told : key_values (key_types l.specs) l.body None ≡ told_after l.key None l.spec-index (key_types (drop l.spec-index l.specs)) (read_inline (key_types (drop l.spec-index l.specs)) None (length l.specs) l.body l.spec-index l.place);
  count : length l.key ≡ l.spec-index;
  fits : fits_columns l.specs l.key ≡ true;
  within : l.place ≤ length l.body;
}
